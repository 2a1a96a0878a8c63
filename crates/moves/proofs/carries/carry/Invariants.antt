-- `carry` meets its contract. The loop keeps: the orthants from `start` to t are flipped.
use Prim.Native.Nat.{◌-◌, ◌≤◌, ◌<◌}
use Rattle.moves.specs.Carrying.{Flips}
use Rattle.moves.proofs.carries.carry.Given as goal

abbrev pub invariant-loop-t : goal.invariant-loop-t
invariant-loop-t l = (l.start ≤ l.t) × (l.t < l.n) × Flips l.start l.t l.axis l.initial.buf l.buf

abbrev pub decreases-loop-t : goal.decreases-loop-t
decreases-loop-t l = l.n - l.t
