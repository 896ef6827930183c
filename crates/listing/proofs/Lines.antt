-- The line of an entry, as its values are read.
use mathlib.Core.Path.{◌≡◌, ap, ◌∙◌}
use mathlib.Core.List.{List}
use Prim.Native.Nat.{ℕ, ◌≤◌}
use Rattle.parts.specs.Part.{part_at}
use Rattle.index_layout.specs.declared.Layout.{Layout}
use Rattle.index_layout.specs.Layout.{entry_at, key_at}
use Rattle.index_layout.specs.Entries.{size_at, location_read}
use Rattle.index_layout.proofs.Laws.{location-is}
use Rattle.listing_lines.specs.Lines.{entry_line}
use Rattle.listing.specs.Listing.{line}

module _ (s : List ℕ) (l : Layout) (p i at : ℕ) (e : at ≡ entry_at l p i) (w : l.offset_width ≤ 8) (key : List ℕ) (size location : ℕ)
    (k : key ≡ part_at s at l.key_length) (z : size ≡ size_at s l p i) (x : location ≡ location_read s l p i) where
  key-is : key ≡ key_at s l p i
  key-is = k ∙ ap (λ n. part_at s n l.key_length) e

  pub line-is : entry_line key size l.offset_width location ≡ line s l p i
  unfolding line
  line-is = rw (key-is, z, location-is s l p i location w x)
