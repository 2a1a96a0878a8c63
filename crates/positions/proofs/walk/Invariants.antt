-- `walk` meets its contract. The loop keeps: the steps taken back are the path's end, start is where it leads, and k and
-- boxes are those of the depth.
use Rattle.entries.specs.Words.{bytes_of}
use Rattle.positions.specs.Walks.{Walked}
use Rattle.positions.proofs.walk.Given as goal

abbrev pub invariant-loop-t : goal.invariant-loop-t
invariant-loop-t l = Walked l.axes l.depth l.code (bytes_of l.initial.root) l._t l.k l.boxes (bytes_of l.root) l.start l.half
