-- `seek` meets its contract. The loop keeps: how far the place is ahead of the leaves that are passed.
use Prim.Native.Nat.{◌-◌}
use lib.ListN.{length}
use Rattle.dimension.specs.Sizes.{axes_of}
use Rattle.sheets.specs.Steps.{mark_of}
use Rattle.finding.specs.Seeks.{Seeking}
use Rattle.finding.proofs.Sheet.seek.Given as goal

abbrev pub invariant-loop-ahead : goal.invariant-loop-ahead
invariant-loop-ahead l = Seeking (mark_of l.self.edition) l.self.edition.width l.self.bytes.now (axes_of l.self.dim) l.first l.begins l.initial.ahead l.stretch l.number l.offset l.ahead

abbrev pub decreases-loop-ahead : goal.decreases-loop-ahead
decreases-loop-ahead l = length l.self.bytes.now - l.offset
