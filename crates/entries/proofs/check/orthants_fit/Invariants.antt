-- `orthants_fit` meets its contract. The loop keeps: what is or-ed so far fits just where the orthants before i do.
use Prim.Native.Nat.{◌+◌}
use lib.ListN.{drop}
use Rattle.entries.specs.Fitting.{FitSoFar}
use Rattle.entries.proofs.check.orthants_fit.Given as goal

abbrev pub invariant-loop-i : goal.invariant-loop-i
invariant-loop-i l = FitSoFar l.d (drop (2 + l.d) l.code) l.i l.any
