-- `fraction` meets its contract: both numbers are floats, and so is their quotient.
use Rattle.greys.specs.Exact.{cast_side, divided}
use Rattle.greys.proofs.fraction.Goals as goal

pub int_to_float-s : goal.int_to_float-s
int_to_float-s c = cast_side c.requires.1

pub returns : goal.returns
returns c = divided c.requires.0 c.requires.1
