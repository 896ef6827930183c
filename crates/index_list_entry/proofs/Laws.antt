-- Laws of one entry of a list.
use mathlib.Core.Path.{◌≡◌, refl, sym, ap, ap₂, ◌∙◌}
use mathlib.Core.Bool.{true, false, not, cond}
use mathlib.Core.List.{List, ◌∷◌, ◌++◌}
use Rattle.std.specs.Int.{bytes_high_first}
use Prim.Native.Nat.{ℕ, zero, suc, ◌+◌, ◌-◌, ◌/◌, ◌%◌, ◌^◌, ◌≤◌, ◌<◌}
use native.Mathlib.Nat.{zero-add, suc-add, le_of_eq, div-one}
use native.Mathlib.Omega.{arith}
use lib.Dec.{leb, ltb, eqb}
use lib.ListN.{length, take, drop, length-append}
use lib.Seq.{take_all}
use borrow.Author.Tests.{ltb-true, ltb-false, leb-true, eqb-true, eqb-false, not-false}
use Rattle.parts.specs.Part.{part_at, overlay}
use Rattle.parts.proofs.Laws.{by-test, both, overlay-after, overlay-inside}
use Rattle.refusal.specs.Check.{silent, refused}
use Rattle.refusal.specs.Number.{settings, index_key_length, output_short}
use Rattle.refusal.specs.Output.{filled, room_check}
use Rattle.refusal.proofs.Laws.{silent-test, first-left, first-right, said, quiet, first_said, skip}
use Rattle.index_layout.specs.Layout.{entry_size, least_offset_width, most_offset_width, most_key_length, size_width}
use Rattle.index_entry.specs.Entry.{archive_width}
use Rattle.index_writer.specs.declared.Settings.{Settings}
use Rattle.index_writer.specs.Write.{settings_right, list_entry_size, settings_check}
use Rattle.index_writer.proofs.Passed.{right}
use Rattle.index_list_entry.specs.Put.{big_bytes, most_archive, offset_bytes, location_right, location_check, key_check, put_check, entry_bytes}

-- ---- the bytes of a number

-- the library's bytes of a number
pub big-bytes : (w n : ℕ) → bytes_high_first w n ≡ big_bytes w n
unfolding big_bytes
big-bytes zero n = refl
big-bytes (suc zero) n = rw (div-one n)
big-bytes (suc (suc w)) n = ap (λ r. n / 256 ^ suc w % 256 ∷ r) (big-bytes (suc w) n)

pub big-length : (w n : ℕ) → length (big_bytes w n) ≡ w
unfolding big_bytes
big-length zero n = refl
big-length (suc w) n = ap suc (big-length w n)

-- the lowest w bytes are the last w
big-drop : (m w n : ℕ) → drop m (big_bytes (m + w) n) ≡ big_bytes w n
unfolding big_bytes
big-drop zero w n = rw (zero-add w)
big-drop (suc m) w n = rw (suc-add m w) (big-drop m w n)

pub big-part : (w n : ℕ) → w ≤ 8 → part_at (big_bytes 8 n) (8 - w) w ≡ big_bytes w n
big-part w n h =
    let e : 8 - w + w ≡ 8 = omega arith in
    ap (λ k. part_at (big_bytes k n) (8 - w) w) (sym e) ∙ ap (take w) (big-drop (8 - w) w n) ∙ take_all w (big_bytes w n) (le_of_eq (big-length w n))

-- ---- the bytes of an entry, laid over the output one after the other

pub entry-laid : (key out o1 o2 o3 a b : List ℕ) (w size location : ℕ) → w ≤ 8 → length key + 4 + w ≤ length out → o1 ≡ overlay out 0 key
    → a ≡ big_bytes 4 size → o2 ≡ overlay o1 (length key) a → b ≡ part_at (big_bytes 8 location) (8 - w) w → o3 ≡ overlay o2 (length key + 4) b
    → o3 ≡ filled silent (entry_bytes w key size location) out
unfolding filled entry_bytes
entry-laid key out o1 o2 o3 a b w size location narrow room e1 ea e2 eb e3 =
    let sizes : List ℕ = big_bytes 4 size in
    let locations : List ℕ = big_bytes w location in
    let two : o2 ≡ overlay out 0 (key ++ sizes) =
    e2 ∙ ap₂ (λ o n. overlay o n a) e1 (sym (zero-add (length key))) ∙ overlay-after out 0 key a ∙ ap (λ r. overlay out 0 (key ++ r)) ea in
    let at : length key + 4 ≡ 0 + length (key ++ sizes) = omega (arith, length-append key sizes, big-length 4 size) in
    let three : o3 ≡ overlay out 0 (key ++ sizes ++ locations) =
    e3 ∙ ap₂ (λ o n. overlay o n b) two at ∙ overlay-after out 0 (key ++ sizes) b
    ∙ ap (λ r. overlay out 0 (key ++ sizes ++ r)) (eb ∙ big-part w location narrow) in
    let all : length (key ++ sizes ++ locations) ≡ length key + 4 + w =
    length-append (key ++ sizes) locations ∙ omega (arith, length-append key sizes, big-length 4 size, big-length w location) in
    three ∙ overlay-inside out 0 (key ++ sizes ++ locations) (omega (arith, all))
    ∙ ap (λ n. (key ++ sizes ++ locations) ++ drop n out) (zero-add (length (key ++ sizes ++ locations)))

-- ---- what W bytes hold

archive-most : (w : ℕ) → most_archive w ≤ 65535
unfolding most_archive
archive-most w = by-test (eqb w archive_width) (λ t. rw t (omega arith)) (λ t. rw t (omega arith))

pub limit-five : (w : ℕ) → w ≡ 5 → 1099511627776 ≡ 256 ^ offset_bytes w
unfolding offset_bytes
limit-five w e = sym (ap (λ n. 256 ^ offset_bytes n) e)

pub limit-four : (w : ℕ) → least_offset_width ≤ w → w ≤ most_offset_width → (w ≡ 5 → ⊥) → 4294967296 ≡ 256 ^ offset_bytes w
unfolding offset_bytes
limit-four w low high other =
    by-test (eqb w archive_width) (λ t. sym (ap (λ b. 256 ^ cond b 4 w) t))
    (λ t.
    let four : w ≡ 4 = omega (arith, other, eqb-false w archive_width t) in
    ap (λ n. 256 ^ n) (sym four) ∙ sym (ap (λ b. 256 ^ cond b 4 w) t))

limit-most : (w : ℕ) → least_offset_width ≤ w → w ≤ most_offset_width → 256 ^ offset_bytes w ≤ 1099511627776
limit-most w low high =
    by-test (eqb w 5) (λ t. omega (arith, limit-five w (eqb-true w 5 t))) (λ t. omega (arith, limit-four w low high (eqb-false w 5 t)))

-- ---- a refusal

-- 11: the location is none that the settings hold
pub put-location : (s : Settings) (key : List ℕ) (archive offset room : ℕ) → settings_right s ≡ true
    → location_right s.offset_width archive offset ≡ false → put_check s key archive offset room ≡ refused settings 0
unfolding put_check
put-location s key archive offset room right e = skip (quiet settings 0 refl (ap not right)) (first_said _ (said refl (ap not e)))

-- ---- what is known where none is given

pub record Fits (s : Settings) (key : List ℕ) (archive offset room : ℕ) : Type 0 where
  pub width : s.offset_width ≤ most_offset_width
  pub short : length key ≤ most_key_length
  pub bytes : length key + size_width + s.offset_width ≡ list_entry_size s
  pub holds : list_entry_size s ≤ room
  pub archive-low : archive ≤ 65535
  pub offset-low : offset < 1099511627776

pub fits : (s : Settings) (key : List ℕ) (archive offset room : ℕ) → put_check s key archive offset room ≡ silent → Fits s key archive offset room
unfolding put_check location_right list_entry_size entry_size
fits s key archive offset room e =
    let e1 = first-right (settings_check s) _ e in
    let e2 = first-right (location_check s.offset_width archive offset) _ e1 in
    let known = right s (not-false _ (silent-test _ settings 0 (first-left (settings_check s) _ e))) in
    let placed = both (leb archive (most_archive s.offset_width)) (ltb offset (256 ^ offset_bytes s.offset_width))
    (not-false _ (silent-test _ settings 0 (first-left (location_check s.offset_width archive offset) _ e1))) in
    let size : length key ≡ s.key_length = eqb-true _ _ (not-false _ (silent-test _ index_key_length 0 (first-left (key_check s key) _ e2))) in
    record {
      width = known.1.0.1;
      short = omega (arith, size, known.1.1.1);
      bytes = ap (λ n. n + size_width + s.offset_width) size;
      holds = ltb-false room (list_entry_size s) (silent-test _ output_short 0 (first-right (key_check s key) (room_check (list_entry_size s) room) e2));
      archive-low = omega (arith, leb-true archive (most_archive s.offset_width) placed.0, archive-most s.offset_width);
      offset-low = omega (
        arith,
        ltb-true offset (256 ^ offset_bytes s.offset_width) placed.1,
        limit-most s.offset_width known.1.0.0 known.1.0.1,
      );
    }
