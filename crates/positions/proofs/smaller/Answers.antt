-- `smaller` meets its contract. The loop keeps: n counts the smaller entries before the one at hand.
use native.Mathlib.Omega.{arith}
use mathlib.Core.Path.{◌≡◌}
use Prim.Native.Nat.{suc, ◌+◌}
use Rattle.std.proofs.Common.{get_or-take, get_or-drop}
use Rattle.positions.specs.RootNumbers.{smaller_none, smaller_more, smaller_same, smaller_few}
use Rattle.positions.proofs.smaller.Goals as goal

pub loop-x-init : goal.loop-x-init
loop-x-init c = grind (arith, smaller_none)

pub overflow_add-n : goal.overflow_add-n
overflow_add-n c = omega (arith, smaller_few)

pub loop-x-preserved : goal.loop-x-preserved
loop-x-preserved c = let here : c.args.i + 1 + (c.loop-x.x-index + 1) ≡ suc (c.args.i + 1 + c.loop-x.x-index) = omega arith in
    rw here (grind (arith, get_or-take, get_or-drop, smaller_more, smaller_same))
