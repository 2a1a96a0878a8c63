-- `part_of` meets its contract: the shifted bit fits a byte.
use mathlib.Core.Path.{refl}
use Prim.Native.Nat.{◌%◌}
use native.Mathlib.Omega.{arith}
use native.Mathlib.Nat.{mod-lt}
use Rattle.bisection.specs.Codes.{axis}
use Rattle.entries.specs.Masks.{shifted_bit}
use Rattle.fours.specs.Fours.{part_of}
use Rattle.fours.proofs.part_of.Goals as goal

pub returns : goal.returns
unfolding part_of
returns c = rw (c.pick.ensures, c.is_minus.ensures, c.axis_of.ensures, shifted_bit 8 (axis c.args.e % 8) (mod-lt (axis c.args.e) (omega arith))) refl
