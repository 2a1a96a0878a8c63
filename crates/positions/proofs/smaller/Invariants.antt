-- `smaller` meets its contract. The loop keeps: n counts the smaller entries before the one at hand.
use mathlib.Core.Path.{◌≡◌}
use Prim.Native.Nat.{◌+◌}
use Rattle.positions.specs.RootNumbers.{smaller_in}
use Rattle.positions.proofs.smaller.Given as goal

abbrev pub invariant-loop-x : goal.invariant-loop-x
invariant-loop-x l = l.n ≡ smaller_in l.root l.i (l.i + 1 + l.x-index)
