-- The MD5 state as C holds it, as four words, 64 pending bytes and the count: rule S4.
use Rattle.std.specs.Prelude.{cond, List, ℕ, ◌+◌, length, get_or}
use Rattle.md5_block.specs.declared.Words.{Words}
use Rattle.md5_digest.specs.declared.Md5.{Md5}
use Rattle.md5_digest.specs.Message.{is_too_long, absorbed}
use Rattle.answers.specs.Lent.{words_to}

abbrev pub words_from : List ℕ → Words
words_from l = record { a = get_or l 0 0; b = get_or l 1 0; c = get_or l 2 0; d = get_or l 3 0 }

abbrev pub state_of : List ℕ → List ℕ → ℕ → Md5
state_of words pending count = record { words = words_from words; pending = pending; count = count }

-- The words after one more part; a refused one leaves them (rule H14).
abbrev pub words_after : List ℕ → List ℕ → ℕ → List ℕ → List ℕ
words_after words pending count part = cond (is_too_long (count + length part)) words (words_to (absorbed (state_of words pending count) part).words)
