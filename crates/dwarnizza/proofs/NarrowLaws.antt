-- Numbers that end at 255 are judged as the numbers given: both are refused 11, or nothing was narrowed.
use mathlib.Core.Path.{◌≡◌, sym, ap, ◌∙◌}
use mathlib.Core.Bool.{true, false}
use mathlib.Core.Logic.{inr}
use mathlib.Core.List.{List}
use Prim.Native.Nat.{ℕ, ◌<◌, min}
use native.Mathlib.Omega.{arith}
use lib.Dec.{ltb}
use borrow.Author.Tests.{ltb-true, ltb-false}
use Rattle.parts.proofs.Laws.{by-test}
use Rattle.numbers.specs.Number.{within}
use Rattle.numbers.proofs.Laws.{within-outside, within-range}
use Rattle.refusal.specs.Check.{refused_if, first}
use Rattle.refusal.specs.Outcome.{refusal, after}
use Rattle.refusal.specs.Output.{filled}
use Rattle.refusal.specs.Number.{settings}
use Rattle.index_layout.specs.Layout.{least_version, most_version, least_offset_width, most_offset_width, least_key_length, most_key_length}
use Rattle.index_file.specs.File.{file_of}
use Rattle.index_writer.specs.declared.Settings.{Settings}
use Rattle.index_writer.specs.Write.{layout_for, settings_right, input_check, write_check, write_outcome, length_outcome}
use Rattle.index_writer.proofs.Passed.{right}
use Rattle.index_list_entry.specs.Put.{put_check, put_outcome, entry_bytes}
use Rattle.key_text.specs.Text.{text_check, text_bytes}
use Rattle.dwarnizza.specs.Indexes.{settings_from}
use Rattle.dwarnizza.specs.Keys.{text_outcome}

within-narrowed : (low high x : ℕ) → high < 255 → within (min x 255) low high ≡ within x low high
within-narrowed low high x h =
    by-test (ltb x 255)
    (λ e. let b = ltb-true x 255 e in let m : min x 255 ≡ x = omega arith in ap (λ n. within n low high) m)
    (λ e. let b = ltb-false x 255 e in within-outside low high (min x 255) (inr (omega arith)) ∙ sym (within-outside low high x (inr (omega arith))))

-- ---- settings

module _ (v w k : ℕ) where
  abbrev given : Settings
  given = settings_from v w k

  abbrev narrowed : Settings
  narrowed = settings_from (min v 255) (min w 255) (min k 255)

  right-narrowed : settings_right narrowed ≡ settings_right given
  unfolding settings_right
  right-narrowed =
      rw (
        within-narrowed least_version most_version v (omega arith),
        within-narrowed least_offset_width most_offset_width w (omega arith),
        within-narrowed least_key_length most_key_length k (omega arith),
      )

  same-settings : settings_right given ≡ true → narrowed ≡ given
  same-settings e =
      let r = right given e in
      let a : min v 255 ≡ v = omega arith in
      let b : min w 255 ≡ w = omega arith in
      let c : min k 255 ≡ k = omega arith in
      λ i. settings_from (a i) (b i) (c i)

  -- what is the same for all wrong settings is the same for those narrowed and those given
  narrowed-as : {A : Type 0} (F : Settings → A) (wrong : A) → ((s : Settings) → settings_right s ≡ false → F s ≡ wrong)
      → {s : Settings} → s ≡ narrowed → F s ≡ F given
  narrowed-as F wrong h e =
      ap F e ∙ by-test (settings_right given)
      (λ r. ap F (same-settings r))
      (λ r. h narrowed (right-narrowed ∙ r) ∙ sym (h given r))

  module _ {s : Settings} (e : s ≡ narrowed) where
    pub write-narrowed : (list : List ℕ) (room : ℕ) → write_outcome s list room ≡ write_outcome (settings_from v w k) list room
    unfolding write_check input_check first refused_if after
    write-narrowed list room = narrowed-as (λ t. write_outcome t list room) (refusal settings 0) (λ t r. rw r) e

    pub file-narrowed : (list output : List ℕ) (room : ℕ)
        → filled (write_check s list room) (file_of list (layout_for s list)) output
        ≡ filled (write_check (settings_from v w k) list room) (file_of list (layout_for (settings_from v w k) list)) output
    unfolding write_check input_check first refused_if filled
    file-narrowed list output room =
        narrowed-as (λ t. filled (write_check t list room) (file_of list (layout_for t list)) output) output (λ t r. rw r) e

    pub length-narrowed : (list : List ℕ) → length_outcome s list ≡ length_outcome (settings_from v w k) list
    unfolding input_check first refused_if after
    length-narrowed list = narrowed-as (λ t. length_outcome t list) (refusal settings 0) (λ t r. rw r) e

    pub put-narrowed : (key : List ℕ) (archive offset room : ℕ)
        → put_outcome s key archive offset room ≡ put_outcome (settings_from v w k) key archive offset room
    unfolding put_check first refused_if after
    put-narrowed key archive offset room = narrowed-as (λ t. put_outcome t key archive offset room) (refusal settings 0) (λ t r. rw r) e

    pub entry-narrowed : (key output : List ℕ) (size archive offset location room : ℕ)
        → filled (put_check s key archive offset room) (entry_bytes s.offset_width key size location) output
        ≡ filled (put_check (settings_from v w k) key archive offset room) (entry_bytes w key size location) output
    unfolding put_check first refused_if filled
    entry-narrowed key output size archive offset location room =
        narrowed-as (λ t. filled (put_check t key archive offset room) (entry_bytes t.offset_width key size location) output)
        output (λ t r. rw r) e

-- ---- K of a key's text

length-as : {A : Type 0} (F : ℕ → A) (wrong : A) → ((n : ℕ) → within n least_key_length most_key_length ≡ false → F n ≡ wrong)
    → {n : ℕ} (k : ℕ) → n ≡ min k 255 → F n ≡ F k
length-as F wrong h k e =
    ap F e ∙ by-test (within k least_key_length most_key_length)
    (λ r. let b = within-range least_key_length most_key_length k r in let m : min k 255 ≡ k = omega arith in ap F m)
    (λ r. h (min k 255) (within-narrowed least_key_length most_key_length k (omega arith) ∙ r) ∙ sym (h k r))

module _ {n : ℕ} (k : ℕ) (e : n ≡ min k 255) (text : List ℕ) where
  pub text-narrowed : text_outcome text n ≡ text_outcome text k
  unfolding first refused_if after
  text-narrowed = length-as (text_outcome text) (refusal settings 0) (λ m r. rw r) k e

  pub key-narrowed : (key : List ℕ) → filled (text_check text n) (text_bytes text) key ≡ filled (text_check text k) (text_bytes text) key
  unfolding first refused_if filled
  key-narrowed key = length-as (λ m. filled (text_check text m) (text_bytes text) key) key (λ m r. rw r) k e
