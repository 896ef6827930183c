-- Laws of the lines: which of two forms a location has, and how long lines are.
use mathlib.Core.Path.{◌≡◌}
use mathlib.Core.Bool.{Bool, true, false, cond}
use mathlib.Core.List.{List, ◌++◌}
use Prim.Native.Nat.{ℕ, ◌+◌, ◌*◌, ◌≤◌}
use native.Mathlib.Omega.{arith}
use lib.Dec.{eqb}
use lib.ListN.{length, length-append}
use borrow.Author.Tests.{eq-eqb, ne_eqb}
use Rattle.index_layout.specs.declared.Layout.{Layout}
use Rattle.index_layout.specs.Entries.{archive_of, offset_of}
use Rattle.text.specs.Text.{ascii, numbered}
use Rattle.text.proofs.TextLaws.{decimal-most, hex-length}
use Rattle.listing_lines.specs.Lines.{header, location_text, entry_line}

pub header-is : (l : Layout) (k w n p : ℕ) → k ≡ l.key_length → w ≡ l.offset_width → n ≡ l.entries → p ≡ l.pages
    → numbered "index key=" k ++ numbered " offset=" w ++ numbered " entries=" n ++ numbered " pages=" p ++ ascii "\n" ≡ header l
unfolding header
header-is l k w n p e f g h = rw (e, f, g, h)

pub location-six : (width location archive offset : ℕ) → width ≡ 6 → archive ≡ archive_of location → offset ≡ offset_of location
    → numbered " " archive ++ numbered " " offset ≡ location_text width location
unfolding location_text
location-six width location archive offset h a o = rw (eq-eqb width 6 h, ← a, ← o)

pub location-dash : (width location : ℕ) → (width ≡ 6 → ⊥) → numbered " - " location ≡ location_text width location
unfolding location_text
location-dash width location h = rw (ne_eqb width 6 h)

-- ---- lengths

either-most : (b : Bool) (x y : List ℕ) (n : ℕ) → length x ≤ n → length y ≤ n → length (cond b x y) ≤ n
either-most true x y n h k = h
either-most false x y n h k = k

location-most : (w x : ℕ) → length (location_text w x) ≤ 42
unfolding location_text ascii
location-most w x =
    either-most (eqb w 6) (numbered " " (archive_of x) ++ numbered " " (offset_of x)) (numbered " - " x) 42
    (simp length-append (omega (arith, decimal-most (archive_of x), decimal-most (offset_of x)))) (omega (arith, decimal-most x))

pub header-most : (l : Layout) → length (header l) ≤ 115
unfolding header ascii
header-most l =
    simp length-append (omega (arith, decimal-most l.key_length, decimal-most l.offset_width, decimal-most l.entries, decimal-most l.pages))

pub entry-most : (key : List ℕ) (size w location : ℕ) → length (entry_line key size w location) ≤ 64 + 2 * length key
unfolding entry_line ascii
entry-most key size w location =
    simp length-append (omega (arith, hex-length key, decimal-most size, location-most w location))
