-- `text::put_hex`: the digits of the bytes so far.
use mathlib.Core.Path.{ap}
use lib.Seq.{take_all}
use borrow.Author.Rules.{rules}
use Rattle.text.specs.Text.{hex}
use Rattle.text.proofs.PutLaws.{both, told, put-none, put_same}
use Rattle.text.proofs.TextLaws.{hex-turn}
use Rattle.text.proofs.put_hex.Goals as goal

pub loop-b-init : goal.loop-b-init
unfolding hex
loop-b-init c = put-none _ _ (search rules)

pub loop-b-preserved : goal.loop-b-preserved
loop-b-preserved c =
    let l = c.loop-b in
    hex-turn c.args.bytes.now l.b-index _ _ (search rules) (search rules) c.hex_digit.ensures c.hex_digit-in-loop-b.ensures l.invariant
    (told _ _ _ _ _ (c.put-to.ensures.value, c.put-to.ensures.output_after))

pub returns : goal.returns
returns c =
    let l = c.loop-b in
    let whole = both (put_same l.invariant (ap hex (take_all l.b-index c.args.bytes.now (search rules)))) in
    record { value = whole.0; output_after = whole.1 }
