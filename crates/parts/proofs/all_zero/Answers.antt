-- `parts::all_zero`: every byte is compared with 0.
use Rattle.std.proofs.Common.{rules, ◌≡◌, ◌↔◌, IsTrue, EachIndex}
use Rattle.parts.specs.Part.{byte_at}
use Rattle.parts.proofs.Laws.{all_zero-told}
use Rattle.parts.proofs.all_zero.Goals as goal

pub returns : goal.returns
returns c =
    let s = c.args.s.now in
    let told : IsTrue c.all.result ↔ EachIndex s (λ k. byte_at s k ≡ 0) = search rules in
    all_zero-told s c.all.result told
