-- The cursor goes from entry to entry: from the first place on stand all entries, and a step passes over one.
use mathlib.Core.Path.{◌≡◌, sym, ap, ◌∙◌}
use mathlib.Core.Bool.{true, false}
use mathlib.Core.List.{List, [], ◌∷◌, ◌++◌}
use Prim.Native.Nat.{ℕ, suc, ◌+◌, ◌-◌, ◌≤◌, ◌<◌}
use native.Mathlib.Decide.{dec_lt}
use native.Mathlib.Numerals.{add-one}
use native.Mathlib.Omega.{arith}
use Rattle.parts.proofs.Laws.{by-test}
use Rattle.index_layout.specs.declared.Layout.{Layout}
use Rattle.index_layout.specs.Layout.{on_page}
use Rattle.index_entry.specs.Entry.{stored_entry}
use Rattle.entry_list.specs.declared.Cursor.{Cursor}
use Rattle.entry_list.specs.Entries.{Entry, entries_from, pages_from}
use Rattle.entry_list.specs.Cursor.{cursor_at, stands, entry_here, next_place, entries_at, head, tail, Walks, CursorWalks}
use Rattle.entry_list.proofs.Laws.{stands_here, stands-past, standing, next-none, next-slot, next-page, entry-none, entry-stored}

module _ (s : List ℕ) (l : Layout) where
  -- the entries from a slot of page p on
  abbrev onward : (p i : ℕ) → List Entry
  onward p i = entries_from (stored_entry s l p) i (on_page l p - i) ++ pages_from s l (suc p) (l.pages - suc p)

  onward-next : (p i : ℕ) → i < on_page l p → onward p i ≡ stored_entry s l p i ∷ onward p (suc i)
  unfolding entries_from
  onward-next p i h =
      let more : on_page l p - i ≡ suc (on_page l p - suc i) = omega arith in
      rw more

  onward-end : (p i : ℕ) → on_page l p ≤ i → onward p i ≡ pages_from s l (suc p) (l.pages - suc p)
  unfolding entries_from
  onward-end p i h =
      let none : on_page l p - i ≡ 0 = omega arith in
      rw none

  at_here : (p i : ℕ) → p < l.pages → i < on_page l p → entries_at s l (cursor_at p i) ≡ onward p i
  unfolding entries_at
  at_here p i h k = rw (stands_here l (cursor_at p i) h k)

  at-past : (c : Cursor) → stands l c ≡ false → entries_at s l c ≡ []
  unfolding entries_at
  at-past c t = rw t

  module _ (some : (p : ℕ) → p < l.pages → 1 ≤ on_page l p) where
    -- those from the start of a page on
    from-page : (p : ℕ) → entries_at s l (cursor_at p 0) ≡ pages_from s l p (l.pages - p)
    unfolding pages_from
    from-page p = go (dec_lt p l.pages)
      where
        go : Dec (p < l.pages) → entries_at s l (cursor_at p 0) ≡ pages_from s l p (l.pages - p)
        go (yes h) =
            let more : l.pages - p ≡ suc (l.pages - suc p) = omega arith in
            let whole : on_page l p - 0 ≡ on_page l p = omega arith in
            at_here p 0 h (some p h) ∙ rw (more, whole)
        go (no h) =
            let none : l.pages - p ≡ 0 = omega arith in
            at-past (cursor_at p 0) (stands-past l (cursor_at p 0) (omega arith)) ∙ rw none

    next_here : (p i : ℕ) → p < l.pages → i < on_page l p → entries_at s l (next_place l (cursor_at p i)) ≡ onward p (suc i)
    next_here p i h k = go (dec_lt (i + 1) (on_page l p))
      where
        there : stands l (cursor_at p i) ≡ true
        there = stands_here l (cursor_at p i) h k

        go : Dec (i + 1 < on_page l p) → entries_at s l (next_place l (cursor_at p i)) ≡ onward p (suc i)
        go (yes m) = ap (entries_at s l) (next-slot l (cursor_at p i) there m) ∙ at_here p (i + 1) h m ∙ ap (onward p) (add-one i)
        go (no m) =
            ap (entries_at s l) (next-page l (cursor_at p i) there (omega arith))
            ∙ from-page (p + 1) ∙ ap (λ q. pages_from s l q (l.pages - q)) (add-one p) ∙ sym (onward-end p (suc i) (omega arith))

    this-here : (p i : ℕ) → p < l.pages → i < on_page l p → entry_here s l (cursor_at p i) ≡ head (entries_at s l (cursor_at p i))
    unfolding head
    this-here p i h k =
        (entry-stored l (cursor_at p i) s (stands_here l (cursor_at p i) h k)).0 ∙ sym (ap head (at_here p i h k ∙ onward-next p i k))

    this-past : (c : Cursor) → stands l c ≡ false → entry_here s l c ≡ head (entries_at s l c)
    unfolding head
    this-past c t = (entry-none l c s t).0 ∙ sym (ap head (at-past c t))

    rest-here : (p i : ℕ) → p < l.pages → i < on_page l p → entries_at s l (next_place l (cursor_at p i)) ≡ tail (entries_at s l (cursor_at p i))
    unfolding tail
    rest-here p i h k = next_here p i h k ∙ sym (ap tail (at_here p i h k ∙ onward-next p i k))

    rest-past : (c : Cursor) → stands l c ≡ false → entries_at s l (next_place l c) ≡ tail (entries_at s l c)
    unfolding tail
    rest-past c t = ap (entries_at s l) (next-none l c t) ∙ at-past c t ∙ sym (ap tail (at-past c t))

    walks : Walks s l
    walks = record {
      all = from-page 0 ∙ ap (pages_from s l 0) (omega arith);
      this = λ c. by-test (stands l c) (λ t. this-here c.page.0 c.slot.0 (standing l c t).0 (standing l c t).1) (this-past c);
      rest = λ c. by-test (stands l c) (λ t. rest-here c.page.0 c.slot.0 (standing l c t).0 (standing l c t).1) (rest-past c);
    }

pub cursor-walks : CursorWalks
cursor-walks s l some = walks s l some
