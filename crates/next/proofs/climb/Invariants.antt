-- `climb` meets its contract. The loop keeps: the 1s left to drop lead to the same cell.
use Rattle.fours.specs.Laws.{four_of}
use Rattle.next.specs.Climbing.{Loop}
use Rattle.next.proofs.climb.Given as goal

abbrev pub invariant-loop-left : goal.invariant-loop-left
invariant-loop-left l = Loop l.axes (four_of l.initial.first l.initial.second l.initial.third l.initial.fourth) l.path l.depth
    (four_of l.first l.second l.third l.fourth) l.left l.t l.k l.boxes

abbrev pub decreases-loop-left : goal.decreases-loop-left
decreases-loop-left l = l.t
