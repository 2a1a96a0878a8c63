-- The loop of `put_leaves` keeps: the lines of the leaves that are left make the text whole.
use Rattle.sheets.specs.Steps.{mark_of}
use Rattle.listing.specs.Leaves.{ListingOn}
use Rattle.listing.proofs.put_leaves.Given as goal

abbrev pub invariant-loop-number : goal.invariant-loop-number
invariant-loop-number l = ListingOn (mark_of l.edition) l.edition.width l.sheet l.records l.from l.initial.out l.at l.number l.rest l.out
