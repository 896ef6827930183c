-- `index_file::write_page_hashes`: the hashes of the pages so far lie over the output, behind the pages.
use mathlib.Core.Path.{◌≡◌, sym, ap, ap₂, ◌∙◌}
use Prim.Native.Nat.{◌+◌}
use native.Mathlib.Omega.{arith}
use Rattle.parts.specs.Part.{parts_from}
use Rattle.parts.proofs.Laws.{overlay-none}
use Rattle.index_layout.specs.Layout.{hash_length}
use Rattle.index_layout.proofs.Laws.{bound}
use Rattle.index_file.specs.File.{hashes_of}
use Rattle.index_footer.proofs.Laws.{hashes-begin}
use Rattle.index_file.proofs.Laws.{hashed, hash-laid}
use borrow.Author.Rules.{rules}
use Rattle.index_file.proofs.write_page_hashes.Goals as goal

pub loop-p-init : goal.loop-p-init
unfolding parts_from
loop-p-init c =
    let l = c.args.l in
    let at = c.page_hash_at-to.ensures ∙ hashes-begin l in (
      search rules,
      omega (arith, at),
      omega (arith, at, bound l.pages l.key_length 4294967295 255 (omega arith) (omega arith)),
      omega arith,
      sym (overlay-none _ _),
    )

pub returns-then-pages-next : goal.returns-then-pages-next
unfolding hashes_of
returns-then-pages-next c =
    let out = c.args.output.now in
    let l = c.loop-p in
    let i = l.invariant in
    let first = hash-laid out c.page_hash_at-to.result _ _ _ l.to l.p l.p i.4 c.page_hashes.ensures.first_value (omega arith) i.4 i.3 in
    let all : l.p + 1 ≡ c.args.l.pages = omega arith in
    c.copy.ensures ∙ first ∙ ap₂ (hashed out) c.page_hash_at-to.ensures all

pub loop-p-preserved : goal.loop-p-preserved
loop-p-preserved c =
    let out = c.args.output.now in
    let start = c.page_hash_at-to.result in
    let l = c.loop-p in
    let i = l.invariant in
    let hash = c.page_hashes.ensures in
    let one = c.copy.ensures ∙ hash-laid out start _ _ _ l.to l.p l.p i.4 hash.first_value (omega arith) i.4 i.3 in
    let two : l.p + 1 + 1 ≡ l.p + 2 = omega arith in (
      omega arith,
      omega arith,
      omega arith,
      omega arith,
      c.copy-in-loop-p.ensures
          ∙ hash-laid out start _ _ _ (l.to + hash_length) (l.p + 1) l.p i.4 hash.second_value (omega arith) one (omega arith)
          ∙ ap (hashed out start) two,
    )

pub returns : goal.returns
unfolding hashes_of
returns c =
    let a = c.args in
    let e : c.loop-p.p ≡ a.l.pages = omega arith in
    c.loop-p.invariant.4 ∙ ap₂ (hashed a.output.now) c.page_hash_at-to.ensures e
