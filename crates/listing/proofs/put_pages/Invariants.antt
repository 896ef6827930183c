-- `listing::put_pages`: the pages so far.
use Rattle.parts.specs.Part.{parts_from}
use Rattle.listing.specs.Listing.{page_text}
use Rattle.text.proofs.PutLaws.{Put}
use Rattle.listing.proofs.put_pages.Given as goal

abbrev pub invariant-loop-p : goal.invariant-loop-p
invariant-loop-p l = Put l.initial.output l.at (parts_from (page_text l.index l.l) 0 l.p) l.output l.to
