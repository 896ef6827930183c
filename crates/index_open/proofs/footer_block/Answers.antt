-- `index_open::footer_block`: three words of the footer, and what is the same in every footer.
use Rattle.index_open.proofs.Laws.{block-laid}
use Rattle.index_open.proofs.footer_block.Goals as goal

pub returns : goal.returns
returns c =
    block-laid c.args.footer.now c.requires c.word-a.ensures c.word-b.ensures c.word-c.ensures
