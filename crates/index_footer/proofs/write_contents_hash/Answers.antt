-- `index_footer::write_contents_hash`: few enough bytes to be hashed.
use mathlib.Core.Path.{ap}
use Prim.Native.Nat.{◌-◌}
use native.Mathlib.Omega.{arith}
use lib.ListN.{length}
use Rattle.parts.proofs.Laws.{part_at-length}
use Rattle.index_open.proofs.Laws.{is-hashed}
use Rattle.index_footer.proofs.Laws.{footer-begins, footer-most}
use Rattle.index_footer.proofs.write_contents_hash.Goals as goal

pub overflow_sub-at : goal.overflow_sub-at
overflow_sub-at c =
    omega (arith, c.page_hash_at-at.ensures, c.last_key_at-from.ensures, footer-begins c.args.l)

pub unwrap-hash-requires : goal.unwrap-hash-requires
unwrap-hash-requires c =
    let a = c.args in
    let from = c.last_key_at-from in
    let at = c.page_hash_at-at in
    is-hashed c.first_eight.result _ (omega (
      arith,
      ap length c.part.ensures.result_value,
      part_at-length a.output.now from.result (at.result - from.result),
      at.ensures,
      footer-most a.l (omega (arith, c.well_formed)) (omega (arith, c.well_formed)),
    )) c.first_eight.ensures.check
