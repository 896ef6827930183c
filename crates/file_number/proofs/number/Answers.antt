-- `file_number::number`: the digits passed tell the number so far.
use mathlib.Core.Path.{◌≡◌}
use Prim.Native.Nat.{◌-◌}
use Rattle.parts.specs.Part.{byte_at}
use Rattle.file_number.proofs.Laws.{sum-great, sum-next, sum-all, digit-range}
use Rattle.file_number.proofs.number.Goals as goal

pub overflow_sub-digit : goal.overflow_sub-digit
overflow_sub-digit c = (digit-range _ c.requires c.loop-at.at c.loop-at-test.true).0

pub returns-then-n-gt-MOST_NUMBER : goal.returns-then-n-gt-MOST_NUMBER
returns-then-n-gt-MOST_NUMBER c = rw (c.at.ensures) (sum-great c.loop-at.invariant c.loop-at-test.true (rw c.from.ensures at c.if-n-gt-MOST_NUMBER.true))

pub loop-at-preserved : goal.loop-at-preserved
loop-at-preserved c =
    let e : c.from.result ≡ byte_at c.args.text.now c.loop-at.at - 48 = c.from.ensures in
    rw e (sum-next c.loop-at.invariant c.loop-at-test.true (rw e at c.if-n-gt-MOST_NUMBER.false))

pub returns : goal.returns
returns c = sum-all c.loop-at.invariant c.loop-at-test.false
