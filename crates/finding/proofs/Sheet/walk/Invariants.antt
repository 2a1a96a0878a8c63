-- `walk` meets its contract. The loop keeps: the entry is that of the record so many behind the first, in whatever sheet that belongs to.
use Rattle.dimension.specs.Sizes.{axes_of}
use Rattle.sheets.specs.Steps.{mark_of}
use Rattle.finding.specs.Indexes.{Walking}
use Rattle.finding.proofs.Sheet.walk.Given as goal

abbrev pub invariant-loop : goal.invariant-loop
invariant-loop l = Walking (mark_of l.self.edition) l.self.edition.width l.self.bytes.now (axes_of l.self.dim) (record { offset = l.initial.offset; place = l.initial.place }) l.records l.stretch l.counter l.offset l.place
