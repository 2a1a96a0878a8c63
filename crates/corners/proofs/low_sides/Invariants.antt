-- `low_sides` meets its contract. The loop keeps: the first i of the bytes read are digits.
use Prim.Native.Nat.{◌+◌, ◌-◌, ◌*◌, ◌/◌}
use Rattle.dimension.specs.Sizes.{halvings}
use Rattle.corners.specs.Lows.{LowsSoFar}
use Rattle.corners.proofs.low_sides.Given as goal

abbrev pub invariant-loop-i : goal.invariant-loop-i
invariant-loop-i l = LowsSoFar ((halvings + 3) / 4 * 4) l.code l.i l.digits

abbrev pub decreases-loop-i : goal.decreases-loop-i
decreases-loop-i l = (halvings + 3) / 4 * 4 - l.i
