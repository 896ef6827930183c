-- Demand 2 for indexes, first over the definitions, then over what the functions answer.
use mathlib.Core.Path.{◌≡◌, refl, sym, ap, ap₂, ◌∙◌}
use mathlib.Core.List.{List, [], ◌∷◌, ◌++◌}
use Prim.Native.Nat.{ℕ, ◌-◌, ◌≤◌, ◌<◌}
use native.Mathlib.Omega.{arith}
use lib.ListN.{length, take, drop}
use lib.Seq.{take_at}
use borrow.Author.Tests.{le-ltb}
use Rattle.parts.specs.Part.{byte_at}
use Rattle.parts.proofs.Laws.{overlay-length}
use Rattle.refusal.specs.Check.{silent}
use Rattle.refusal.specs.Number.{output_short}
use Rattle.std.specs.Prelude.{Result, Ok, Err}
use Rattle.refusal.specs.declared.Refusal.{Refusal}
use Rattle.refusal.specs.Outcome.{answered, written_outcome}
use Rattle.refusal.specs.Output.{filled}
use Rattle.refusal.proofs.Laws.{quiet, skip, first-left, after-quiet, answered-after}
use Rattle.index_layout.specs.Layout.{footer_size, index_length_of, layout_of}
use Rattle.index_layout.specs.Entries.{list_of}
use Rattle.index_open.specs.Open.{opening, layout_values}
use Rattle.index_open.proofs.Laws.{passed-index}
use Rattle.index_open.proofs.Opened.{opened}
use Rattle.index.specs.Check.{pages_check, full_check}
use Rattle.index_list.specs.List.{list_check}
use Rattle.index_file.specs.File.{file_of}
use Rattle.index_file.proofs.Parts.{file-length}
use Rattle.index_writer.specs.declared.Settings.{Settings}
use Rattle.index_writer.specs.Write.{layout_for, write_check}
use Rattle.index_writer.proofs.Passed.{passed, held}
use Rattle.index_round_trip.specs.Same.{contents_hash_of, with_contents_hash, settings_of}
use Rattle.index_round_trip.specs.RoundTrip.{Lists, bytes_listed, Again, SameFile, Back, ReadsBack, RoundTrip}
use Rattle.index_round_trip.proofs.Back.{layout-back, full-quiet, list_back}
use Rattle.index_round_trip.proofs.Again.{file-again, layout-again, write-silent}

-- ---- over the definitions

pub written-again : (s : List ℕ) → ((i : ℕ) → byte_at s i < 256) → full_check s ≡ silent → (room : ℕ) → length s ≤ room
    → (write_check (settings_of (layout_of s)) (list_of s) room ≡ silent)
    × (file_of (list_of s) (layout_for (settings_of (layout_of s)) (list_of s)) ≡ with_contents_hash s (contents_hash_of s))
written-again s bytes e room h =
    (write-silent s bytes e room h, ap (file_of (list_of s)) (layout-again s bytes e) ∙ file-again s bytes e)

-- ---- over the answers

-- what an answer is where its outcome is known
written_is : (answer : Result ℕ Refusal) (n : ℕ) → written_outcome answer ≡ answered (n ∷ []) → answer ≡ Ok n
written_is (Ok m) n e = ap Ok (cc e)
written_is (Err r) n e =
    let none : ◌≡◌ {A = ℕ} 0 1 = cc e in
    absurd (omega (arith, none))

-- what a filled output begins with
begins : (answer output : List ℕ) (n : ℕ) → n ≡ length answer → take n (answer ++ drop (length answer) output) ≡ answer
begins answer output n e = take_at answer (drop (length answer) output) n (sym e)

-- a checked index is listed where there is room
module _ (s lent : List ℕ) (answer : Result ℕ Refusal) (left : List ℕ) (c : Lists s lent answer left) (e : full_check s ≡ silent)
    (room : length (list_of s) ≤ length lent) where
  list-quiet : list_check s (length lent) ≡ silent
  unfolding list_check
  list-quiet = skip e (quiet output_short 0 refl (le-ltb (length lent) (length (list_of s)) room))

  list-answer : answer ≡ Ok (length (list_of s))
  list-answer = written_is answer (length (list_of s)) (c.answers ∙ after-quiet _ list-quiet)

  list_left : left ≡ list_of s ++ drop (length (list_of s)) lent
  unfolding filled
  list_left = c.leaves ∙ ap (λ k. filled k (list_of s) lent) list-quiet

-- a checked index, listed and written again
module _ (s : List ℕ) (c : Again s) where
  told : (full_check s ≡ silent) × (c.layout ≡ layout_of s)
  told = passed-index (full_check s) c.layout (layout_of s) c.checked c.check c.passed

  opening-told : opening s ≡ silent
  unfolding full_check
  opening-told = first-left (opening s) (pages_check s (layout_of s)) told.0

  listed-told : c.listed ≡ Ok (length (list_of s))
  listed-told = list-answer s c.list_lent c.listed c.listing c.list told.0 c.list_room

  list_read : take (bytes_listed c.listed) c.listing ≡ list_of s
  unfolding bytes_listed
  list_read =
      ap (take (bytes_listed c.listed)) (list_left s c.list_lent c.listed c.listing c.list told.0 c.list_room)
      ∙ begins (list_of s) c.list_lent (bytes_listed c.listed) (ap bytes_listed listed-told)

  pub same-file : SameFile s c
  unfolding filled
  same-file =
      let given : List ℕ = take (bytes_listed c.listed) c.listing in
      let again = written-again s c.bytes told.0 (length c.file_lent) c.file_room in
      let quiet_write : write_check (settings_of c.layout) given (length c.file_lent) ≡ silent =
      ap₂ (λ m r. write_check (settings_of m) r (length c.file_lent)) told.1 list_read ∙ again.0 in
      let whole : file_of given (layout_for (settings_of c.layout) given) ≡ with_contents_hash s (contents_hash_of s) =
      ap₂ (λ m r. file_of r (layout_for (settings_of m) r)) told.1 list_read ∙ again.1 in
      let size : index_length_of (layout_for (settings_of c.layout) given) ≡ length s =
      ap₂ (λ m r. index_length_of (layout_for (settings_of m) r)) told.1 list_read ∙ ap index_length_of (layout-again s c.bytes told.0)
      ∙ sym (opened s opening-told).whole in
      record {
        listed = listed-told;
        written = written_is c.written (length s) (c.write.answers ∙ after-quiet _ quiet_write ∙ ap (λ m. answered (m ∷ [])) size);
        file = c.write.leaves ∙ ap₂ (λ k r. filled k r c.file_lent) quiet_write whole
            ∙ ap (λ m. with_contents_hash s (contents_hash_of s) ++ drop m c.file_lent) (overlay-length s (length s - footer_size) (contents_hash_of s));
      }

-- a written index, read back
module _ (t : Settings) (list : List ℕ) (c : Back t list) where
  abbrev file : List ℕ
  file = file_of list (layout_for t list)

  write-told : (write_check t list (length c.file_lent) ≡ silent) × (c.size ≡ index_length_of (layout_for t list))
  write-told =
      let a = answered-after (write_check t list (length c.file_lent)) (c.size ∷ []) (index_length_of (layout_for t list) ∷ [])
      (sym (ap written_outcome c.passed) ∙ c.write.answers) in
      (a.0, (cc a.1))

  file-told : c.size ≡ length file
  file-told =
      write-told.1 ∙ sym (file-length list (layout_for t list) (held t list (length c.file_lent) (passed t list (length c.file_lent) write-told.0)))

  file-read : take c.size c.output ≡ file
  unfolding filled
  file-read =
      ap (take c.size) (c.write.leaves ∙ ap (λ k. filled k file c.file_lent) write-told.0) ∙ begins file c.file_lent c.size file-told

  full-told : full_check (take c.size c.output) ≡ silent
  full-told = ap full_check file-read ∙ full-quiet t list (length c.file_lent) write-told.0

  list-told : list_of (take c.size c.output) ≡ list
  list-told = ap list_of file-read ∙ list_back t list (length c.file_lent) write-told.0

  list-fits : length (list_of (take c.size c.output)) ≤ length c.list_lent
  list-fits = rw list-told c.list_room

  pub reads-back : ReadsBack t list c
  unfolding layout_for layout_values
  reads-back = record {
    checked = c.check ∙ after-quiet _ full-told ∙ ap (λ s. answered (layout_values (layout_of s))) file-read
        ∙ ap (λ l. answered (layout_values l)) (layout-back t list (length c.file_lent) write-told.0);
    listed = list-answer (take c.size c.output) c.list_lent c.listed c.listing c.relist full-told list-fits
        ∙ ap (λ r. Ok (length r)) list-told;
    entries = list_left (take c.size c.output) c.list_lent c.listed c.listing c.relist full-told list-fits
        ∙ ap (λ r. r ++ drop (length r) c.list_lent) list-told;
  }

pub round_trip : RoundTrip
round_trip = record { again = same-file; back = reads-back }
