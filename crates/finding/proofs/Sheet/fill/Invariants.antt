-- `fill` meets its contract. The loop keeps: the entries so far are those of their records, and the last one is at hand.
use Rattle.dimension.specs.Sizes.{axes_of}
use Rattle.sheets.specs.Steps.{mark_of}
use Rattle.finding.specs.Indexes.{Filling}
use Rattle.finding.proofs.Sheet.fill.Given as goal

abbrev pub invariant-loop-n : goal.invariant-loop-n
invariant-loop-n l = Filling (mark_of l.self.edition) l.self.edition.width l.self.bytes.now (axes_of l.self.dim) l.fn.entries l.run l.n l.entries l.entry
