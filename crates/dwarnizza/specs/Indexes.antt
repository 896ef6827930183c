-- What C gives and is told for indexes, where the library has another form for it: rules I15, I29, S1 and S5.
use Rattle.std.specs.Prelude.{List, [], ◌∷◌, ◌++◌, ℕ}
use Rattle.refusal.specs.Outcome.{Outcome, answered, after}
use Rattle.index_layout.specs.Layout.{footer_size, index_length_of, layout_of}
use Rattle.index_open.specs.Open.{footer_reading, layout_values}
use Rattle.index_writer.specs.declared.Settings.{Settings}

-- The settings of an index, of three numbers.
abbrev pub settings_from : (version offset_width_of key_length_of : ℕ) → Settings
settings_from version offset_width_of key_length_of = record { version = version; offset_width = offset_width_of; key_length = key_length_of }

-- What a footer tells: version, W, K, n, P, the length of the whole file and that of the footer (rules I29, S5).
abbrev pub footer_outcome : List ℕ → Outcome
footer_outcome s =
    after (footer_reading s) (answered (layout_values (layout_of s) ++ (index_length_of (layout_of s) ∷ footer_size ∷ [])))
