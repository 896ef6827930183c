-- `index_footer::write_fields`: the footer hash in place of the zeros.
use mathlib.Core.Path.{ap₂, ◌∙◌}
use Prim.Native.Nat.{◌+◌}
use native.Mathlib.Omega.{arith}
use lib.Dec.{lit≤}
use Rattle.std.proofs.lemmas.Result.{IfOk-at_ok}
use Rattle.parts.specs.Part.{overlay}
use Rattle.index_layout.specs.Layout.{version_at}
use Rattle.index_open.proofs.Laws.{is-hashed}
use Rattle.md5_digest.specs.Message.{little_bytes}
use Rattle.index_footer.specs.Footer.{fields}
use Rattle.index_footer.proofs.Laws.{footer-most, fields_laid}
use Rattle.index_footer.proofs.write_fields.Goals as goal

pub unwrap-hash-requires : goal.unwrap-hash-requires
unfolding fields little_bytes
unwrap-hash-requires c =
    is-hashed c.first_eight.result _ (rw c.unhashed_fields-fields.ensures (lit≤ tt)) c.first_eight.ensures.check

pub overflow_add-at : goal.overflow_add-at
overflow_add-at c =
    omega (arith, c.page_hash_at-at.ensures, footer-most c.args.l (omega (arith, c.well_formed)) (omega (arith, c.well_formed)))

pub returns : goal.returns
returns c =
    let l = c.args.l in
    let fields = c.unhashed_fields-fields in
    c.copy-2.ensures
    ∙ ap₂ (λ n s. overlay c.args.output.now (n + version_at) s) c.page_hash_at-at.ensures
    (fields_laid l fields.result _ _ fields.ensures (IfOk-at_ok _ c.unwrap-hash.ensures c.first_eight.ensures.bytes) c.copy.ensures)
