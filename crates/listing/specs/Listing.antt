-- The listing of an index: rules T5 and T9.
use Rattle.std.specs.Prelude.{cond, List, [], ◌∷◌, ◌++◌, ℕ, ltb, leb, length}
use Rattle.parts.specs.Part.{parts_from}
use Rattle.refusal.specs.Check.{Check, silent, refused, refused_if, first}
use Rattle.refusal.specs.Number.{listing_input}
use Rattle.refusal.specs.Outcome.{Outcome, answered, after}
use Rattle.refusal.specs.Output.{filled}
use Rattle.index_layout.specs.declared.Layout.{Layout}
use Rattle.index_layout.specs.Layout.{on_page, layout_of, key_at}
use Rattle.index.specs.Check.{full_check}
use Rattle.index_layout.specs.Entries.{size_at, location_at}
use Rattle.listing_lines.specs.Lines.{header, entry_line}

-- The line of slot i of page p.
unfoldable pub line : List ℕ → Layout → ℕ → ℕ → List ℕ
line s l p i = entry_line (key_at s l p i) (size_at s l p i) l.offset_width (location_at s l p i)

-- The lines of a page's entries, and those of all pages.
unfoldable pub page_text : List ℕ → Layout → ℕ → List ℕ
page_text s l p = parts_from (line s l p) 0 (on_page l p)

unfoldable pub pages_text : List ℕ → Layout → List ℕ
pages_text s l = parts_from (page_text s l) 0 l.pages

-- The text of an index with a layout, and the text of an index (rule T5).
unfoldable pub text_by : List ℕ → Layout → List ℕ
text_by s l = header l ++ pages_text s l

abbrev pub text_of : List ℕ → List ℕ
text_of s = text_by s (layout_of s)

-- 70: above 65,536 bytes (rule T9).
abbrev pub input_check : List ℕ → Check
input_check s = refused_if (ltb 65536 (length s)) listing_input 0

-- 70 first, then the full check (rule T9).
abbrev pub listing_check : List ℕ → Check
listing_check s = first (input_check s) (full_check s)

abbrev pub listing_outcome : List ℕ → Outcome
listing_outcome s = after (listing_check s) (answered (length (text_of s) ∷ []))

-- The text at the start of output that has room for all of it, and bytes past it stay; without room, or after a refusal, every
-- byte stays (rule T9).
unfoldable pub fitted : Check → List ℕ → List ℕ → List ℕ
fitted silent text output = cond (leb (length text) (length output)) (filled silent text output) output
fitted (refused number place) text output = output
