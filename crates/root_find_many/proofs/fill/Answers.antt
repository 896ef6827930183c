-- `root_find_many::fill`: entries of zeros, then the entries of the blocks.
use mathlib.Core.Path.{◌∙◌}
use Rattle.root_find_many.proofs.Laid.{kept_on, kept-room, cleared-kept, cleared-held}
use Rattle.root_find_many.proofs.fill.Goals as goal

pub put_blocks-requires : goal.put_blocks-requires
put_blocks-requires c =
    let a = c.args in
    let room = c.requires.room in
    let e = c.clear.ensures in record {
      l_value = (c.requires.l_value, cleared-held a.ids.now a.output.now _ room e a.file.now a.locale a.unwanted);
      rising = c.requires.rising;
      room = kept-room room (cleared-kept a.ids.now a.output.now _ room e);
    }

pub shape_of-output : goal.shape_of-output
shape_of-output c =
    let kept = cleared-kept c.args.ids.now c.args.output.now _ c.requires.room c.clear.ensures in
    c.put_blocks.ensures.kept.size ∙ kept.size

pub returns : goal.returns
returns c =
    let p = c.put_blocks in
    record { kept = kept_on (cleared-kept c.args.ids.now c.args.output.now _ c.requires.room c.clear.ensures) p.ensures.kept; held = p.ensures.held }
