-- Two messages at once: no rule of its own, each message by itself (rules H1 and H9).
use Rattle.std.specs.Prelude.{◌≡◌, List, ℕ, length, take, Result, IfOk}
use Rattle.md5_block.specs.declared.Words.{Words}
use Rattle.md5_block.specs.Block.{steps, block, whole}
use Rattle.md5_digest.specs.Message.{limited, md5}
use Rattle.refusal.specs.declared.Refusal.{Refusal}
use Rattle.refusal.specs.Check.{check_of}
use Rattle.md5_two.specs.declared.Two.{Two}

-- The answer for one message: its digest, or its own refusal.
abbrev pub DigestOf : List ℕ → Result (List ℕ) Refusal → Type 0
DigestOf m r = (check_of r ≡ limited (length m)) × IfOk r (λ bytes. bytes ≡ md5 m)

-- The same of the first eight bytes of the digest (rule H9).
abbrev pub FirstEightOf : List ℕ → Result (List ℕ) Refusal → Type 0
FirstEightOf m r = (check_of r ≡ limited (length m)) × IfOk r (λ bytes. bytes ≡ take 8 (md5 m))

-- What the private functions ensure.
abbrev pub both : Words → Words → Two
both v w = record { first = v; second = w }

unfoldable pub steps_two : List ℕ → List ℕ → List ℕ → ℕ → ℕ → Two → Two
steps_two t x y i n w = both (steps t x i n w.first) (steps t y i n w.second)

unfoldable pub block_two : List ℕ → List ℕ → List ℕ → Two → Two
block_two t x y w = both (block t x w.first) (block t y w.second)

unfoldable pub whole_two : List ℕ → List ℕ → List ℕ → Two → Two
whole_two t r s w = both (whole t r w.first) (whole t s w.second)
