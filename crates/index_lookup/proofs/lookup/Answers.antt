-- `index_lookup::lookup` meets its contract: the opening checks, 10, then the halving.
use mathlib.Core.Path.{◌≡◌}
use lib.ListN.{length}
use Rattle.std.proofs.lemmas.Result.{err_from_is_err_and}
use Rattle.refusal.proofs.Laws.{refusal-after, answered-after}
use Rattle.index_layout.specs.Layout.{layout_of}
use Rattle.index_open.specs.Open.{opening}
use Rattle.index_open.proofs.Laws.{values_one}
use Rattle.index_lookup.proofs.Laws.{width_fits, not_opened, other_length, looked-up}
use Rattle.index_lookup.proofs.lookup.Goals as goal

pub returns-in_err-l : goal.returns-in_err-l
returns-in_err-l c =
    let s = c.args.index.now in
    let p = err_from_is_err_and c.from_residual.result c.from_residual.ensures.1 in
    rw (p.1, p.2) (not_opened s _ (refusal-after (opening s) _ _ _ c.in_err-l.ensures))

pub returns-then-key-from : goal.returns-then-key-from
returns-then-key-from c =
    let s = c.args.index.now in
    let opened = answered-after (opening s) _ _ c.in_ok-l.ensures in
    rw c.at.ensures (other_length s _ _ opened.0 (values_one _ _ opened.1) (rw c.from.ensures at c.if-key-from.true))

pub seek-requires : goal.seek-requires
seek-requires c =
    let s = c.args.index.now in
    let l = c.in_ok-l.l in
    let opened = answered-after (opening s) _ _ c.in_ok-l.ensures in
    let same : l ≡ layout_of s = values_one _ _ opened.1 in
    let size : length c.args.key.now ≡ l.key_length = rw c.from.ensures at c.if-key-from.false in
    (size, rw same (width_fits s opened.0))

pub returns : goal.returns
returns c =
    let s = c.args.index.now in
    let opened = answered-after (opening s) _ _ c.in_ok-l.ensures in
    looked-up s _ _ opened.0 (values_one _ _ opened.1) _ (rw c.from.ensures at c.if-key-from.false) c.seek.ensures
