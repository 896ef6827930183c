-- `text::put_hex`: the digits of the bytes so far.
use lib.ListN.{take}
use Rattle.text.specs.Text.{hex}
use Rattle.text.proofs.PutLaws.{Put}
use Rattle.text.proofs.put_hex.Given as goal

abbrev pub invariant-loop-b : goal.invariant-loop-b
invariant-loop-b l = Put l.initial.output l.at (hex (take l.b-index l.bytes)) l.output l.to
