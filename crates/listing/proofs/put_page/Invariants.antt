-- `listing::put_page`: the lines so far.
use Rattle.parts.specs.Part.{parts_from}
use Rattle.listing.specs.Listing.{line}
use Rattle.text.proofs.PutLaws.{Put}
use Rattle.listing.proofs.put_page.Given as goal

abbrev pub invariant-loop-i : goal.invariant-loop-i
invariant-loop-i l = Put l.initial.output l.at (parts_from (line l.index l.l l.page.0) 0 l.i) l.output l.to
