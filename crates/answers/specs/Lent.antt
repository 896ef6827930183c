-- What the library's answers tell C: rules H14, I29 and S5.
use Rattle.std.specs.Prelude.{List, [], ◌∷◌, ◌++◌, ℕ, Result}
use Rattle.refusal.specs.declared.Refusal.{Refusal}
use Rattle.refusal.specs.Outcome.{Outcome, outcome_by}
use Rattle.md5_block.specs.declared.Words.{Words}
use Rattle.index_layout.specs.declared.Layout.{Layout}
use Rattle.index_layout.specs.Layout.{footer_size, index_length_of}
use Rattle.index_open.specs.Open.{layout_values}
use Rattle.worklist.specs.declared.RowFound.{RowFound}
use Rattle.worklist.specs.Rows.{fields_told}

-- The words of an MD5 state, as C holds them.
abbrev pub words_to : Words → List ℕ
words_to w = w.a ∷ w.b ∷ w.c ∷ w.d ∷ []

-- What a footer tells: version, W, K, n, P, the length of the whole file and that of the footer (rules I29, S5).
abbrev pub footer_values : Layout → List ℕ
footer_values l = layout_values l ++ (index_length_of l ∷ footer_size ∷ [])

abbrev pub footer_told : Result Layout Refusal → Outcome
footer_told = outcome_by footer_values

-- What a row tells: where it ends, where the next begins, and its fields or the place where it is malformed (rule S5).
abbrev pub row_values : RowFound → List ℕ
row_values r = r.end ∷ r.next ∷ fields_told r.fields
