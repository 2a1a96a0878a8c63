-- `sheet_check` meets its contract. The loop keeps: what has been read is a front of some good sheet, and the state stands for the
-- cell behind it.
use Prim.Native.Nat.{◌-◌}
use lib.ListN.{length}
use Rattle.sheets.specs.Steps.{mark_of}
use Rattle.sheets.specs.Progress.{Going}
use Rattle.sheets.proofs.sheet_check.Given as goal

abbrev pub invariant-loop-state : goal.invariant-loop-state
invariant-loop-state l = Going (mark_of l.edition) l.edition.width l.sheet l.state

abbrev pub decreases-loop-state : goal.decreases-loop-state
decreases-loop-state l = length l.sheet - l.state.offset
