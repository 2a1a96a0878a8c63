-- `nearest` meets its contract. The loop keeps: the entry at the low end is no later than the place.
use Prim.Native.Nat.{◌-◌}
use Rattle.finding.specs.Finds.{Nearer}
use Rattle.finding.proofs.Index.nearest.Given as goal

abbrev pub invariant-loop-low : goal.invariant-loop-low
invariant-loop-low l = Nearer l.self.entries.now l.initial.low l.initial.high l.place l.low l.high

abbrev pub decreases-loop-low : goal.decreases-loop-low
decreases-loop-low l = l.high - l.low
