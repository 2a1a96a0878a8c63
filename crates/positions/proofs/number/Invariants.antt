-- `number` meets its contract. The loop keeps: n is the number that the entries before place i give.
use mathlib.Core.Path.{◌≡◌}
use Rattle.positions.specs.RootNumbers.{number_in}
use Rattle.positions.proofs.number.Given as goal

abbrev pub invariant-loop-i : goal.invariant-loop-i
invariant-loop-i l = l.n ≡ number_in l.d l.root l.i
