-- `all_hold` meets its contract. The loop keeps: those facets of the leaves before this one pass, and where this one starts.
use Rattle.dimension.specs.Sizes.{axes_of}
use Rattle.sheets.specs.Steps.{mark_of}
use Rattle.compatible.specs.Walking.{Judging}
use Rattle.compatible.proofs.all_hold.Given as goal

abbrev pub invariant-loop-number : goal.invariant-loop-number
invariant-loop-number l = Judging (mark_of l.sheet.edition) l.sheet.edition.width l.sheet.bytes.now (axes_of l.sheet.dim) l.records l.entries l.spread l.stretch l.number l.offset l.start
