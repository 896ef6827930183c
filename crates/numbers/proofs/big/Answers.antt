-- `numbers::big` meets its contract: the padded bytes agree with those at the offset.
use Prim.Native.Nat.{min}
use native.Mathlib.Nat.{zero-add}
use native.Mathlib.Omega.{arith}
use Rattle.numbers.proofs.Laws.{big_at-agree}
use Rattle.numbers.proofs.big.Goals as goal

pub returns : goal.returns
returns c =
    let a = c.args in
    let near = c.padded-near in
    cc
    (big_at-agree near.result a.s.now 0 a.at (min a.width 8)
    (λ i l. rw zero-add (near.ensures i (omega arith))))
