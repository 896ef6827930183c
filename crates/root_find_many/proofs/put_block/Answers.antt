-- `root_find_many::put_block`: nothing, or the records of the block.
use mathlib.Core.Path.{◌≡◌, sym, ap, ◌∙◌}
use mathlib.Core.List.{List}
use Prim.Native.Nat.{ℕ, ◌-◌}
use lib.ListN.{length, take, drop}
use Rattle.root_layout.specs.declared.Layout.{Layout}
use Rattle.root_block.specs.declared.Block.{Block}
use Rattle.parts.proofs.Laws.{part_to_end}
use Rattle.root_block.specs.Block.{block_of, deltas_of, counts}
use Rattle.root_find_many.proofs.Laid.{kept_same}
use Rattle.root_find_many.proofs.Seen.{none-counts}
use Rattle.root_find_many.proofs.put_block.Goals as goal

-- the block at hand
header : (s : List ℕ) (l : Layout) (at : ℕ) (k : Block) → k ≡ block_of l (take (length s - at) (drop at s)) → k ≡ block_of l (drop at s)
header s l at k e = e ∙ ap (block_of l) (part_to_end at s)

pub returns-then-not-counts : goal.returns-then-not-counts
returns-then-not-counts c =
    let a = c.args in
    let k = c.read-block in
    let other = ap (counts a.locale a.unwanted) (sym (header a.file.now a.l a.at k.result k.ensures)) ∙ sym c.counts.ensures ∙ c.if-not-counts.true in
    record { kept = kept_same _ _; block_put = none-counts a.file.now a.l a.at a.ids.now a.output.now a.locale a.unwanted other }

pub put_records-requires : goal.put_records-requires
put_records-requires c =
    let a = c.args in
    let s = a.file.now in record {
      block_at = record {
        inside = c.requires.at_in_bounds.0;
        passes = c.requires.at_in_bounds.1;
        header = header s a.l a.at c.read-block.result c.read-block.ensures;
        deltas = c.deltas.ensures ∙ ap (deltas_of a.l) (part_to_end a.at s);
      };
      rising = c.requires.rising;
      room = c.requires.room;
    }

pub shape_of-output : goal.shape_of-output
shape_of-output c = c.put_records.ensures.kept.size

pub returns : goal.returns
returns c =
    let a = c.args in
    let p = c.put_records in
    record { kept = p.ensures.kept; block_put = p.ensures.counted_put.put a.locale a.unwanted (sym c.counts.ensures ∙ c.if-not-counts.false) }
