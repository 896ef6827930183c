-- `encoding::check_pages`: no check failed before page i, and the last key is known.
use mathlib.Core.Path.{◌≡◌, refl, sym, ap}
use Prim.Native.Nat.{◌+◌, ◌<◌}
use native.Mathlib.Omega.{arith}
use Rattle.std.proofs.lemmas.Result.{err_from_is_err_and}
use Rattle.encoding_header.specs.declared.Table.{Table}
use Rattle.encoding_header.specs.Header.{table_of}
use Rattle.encoding_header.proofs.Bounds.{TypedHeader}
use Rattle.encoding.proofs.Laws.{page-short, answered-hash, checked-none, checked-said, checked-next, checked-all}
use Rattle.encoding.proofs.check_pages.Goals as goal

pub loop-i-init : goal.loop-i-init
loop-i-init c = checked-none _ _ _ _ refl

pub returns-in_err-hash : goal.returns-in_err-hash
returns-in_err-hash c =
    let typed : TypedHeader c.args.h = omega arith in
    absurd (answered-hash _ c.digests-first.ensures.first.0 (page-short _ _ _ _ typed _ c.page_of.ensures) c.in_err-hash.was)

pub returns-in_err-middle : goal.returns-in_err-middle
returns-in_err-middle c =
    let pages : c.table-pages.result.pages ≡ (table_of c.args.h c.args.kind).pages = ap (λ (t : Table). t.pages) c.table-pages.ensures in
    let there : c.loop-i.i < (table_of c.args.h c.args.kind).pages = omega (arith, c.loop-i-test.true, pages) in
    let p = err_from_is_err_and c.from_residual-in_err-middle.result c.from_residual-in_err-middle.ensures.1 in
    rw (p.1, p.2) (sym (checked-said _ _ _ _ _ c.loop-i.invariant there (sym c.in_err-middle.ensures.check)))

pub returns-then-pages-next : goal.returns-then-pages-next
returns-then-pages-next c =
    let pages : c.table-pages.result.pages ≡ (table_of c.args.h c.args.kind).pages = ap (λ (t : Table). t.pages) c.table-pages.ensures in
    let there : c.loop-i.i < (table_of c.args.h c.args.kind).pages = omega (arith, c.loop-i-test.true, pages) in
    let first = checked-next _ _ _ _ _ c.loop-i.invariant c.in_ok-middle.middle there (sym c.in_ok-middle.ensures.check) c.in_ok-middle.ensures.last in
    sym (checked-all _ _ _ _ _ first (omega (arith, c.if-pages-next.true, pages)))

pub returns-in_err-next_hash : goal.returns-in_err-next_hash
returns-in_err-next_hash c =
    let typed : TypedHeader c.args.h = omega arith in
    absurd (answered-hash _ c.digests-first.ensures.second.0 (page-short _ _ _ _ typed _ c.page_of-in-loop-i.ensures) c.in_err-next_hash.was)

pub returns-in_err-last : goal.returns-in_err-last
returns-in_err-last c =
    let pages : c.table-pages.result.pages ≡ (table_of c.args.h c.args.kind).pages = ap (λ (t : Table). t.pages) c.table-pages.ensures in
    let there : c.loop-i.i < (table_of c.args.h c.args.kind).pages = omega (arith, c.loop-i-test.true, pages) in
    let next : c.loop-i.i + 1 < (table_of c.args.h c.args.kind).pages = omega (arith, c.if-pages-next.false, pages) in
    let first = checked-next _ _ _ _ _ c.loop-i.invariant c.in_ok-middle.middle there (sym c.in_ok-middle.ensures.check) c.in_ok-middle.ensures.last in
    let p = err_from_is_err_and c.from_residual-in_err-last.result c.from_residual-in_err-last.ensures.1 in
    rw (p.1, p.2) (sym (checked-said _ _ _ _ _ first next (sym c.in_err-last.ensures.check)))

pub loop-i-preserved : goal.loop-i-preserved
loop-i-preserved c =
    let pages : c.table-pages.result.pages ≡ (table_of c.args.h c.args.kind).pages = ap (λ (t : Table). t.pages) c.table-pages.ensures in
    let there : c.loop-i.i < (table_of c.args.h c.args.kind).pages = omega (arith, c.loop-i-test.true, pages) in
    let next : c.loop-i.i + 1 < (table_of c.args.h c.args.kind).pages = omega (arith, c.if-pages-next.false, pages) in
    let first = checked-next _ _ _ _ _ c.loop-i.invariant c.in_ok-middle.middle there (sym c.in_ok-middle.ensures.check) c.in_ok-middle.ensures.last in
    let number : c.loop-i.i + 1 + 1 ≡ c.loop-i.i + 2 = omega arith in
    rw number at (checked-next _ _ _ _ _ first c.in_ok-last.last next (sym c.in_ok-last.ensures.check) c.in_ok-last.ensures.last)

pub returns : goal.returns
returns c =
    let pages : c.table-pages.result.pages ≡ (table_of c.args.h c.args.kind).pages = ap (λ (t : Table). t.pages) c.table-pages.ensures in
    sym (checked-all _ _ _ _ _ c.loop-i.invariant (omega (arith, c.loop-i-test.false, pages)))
