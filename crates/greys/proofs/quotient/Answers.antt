-- `quotient` meets its contract: the difference and the side are floats, and so is their quotient.
use Rattle.greys.specs.Exact.{cast_side}
use Rattle.greys.specs.Differences.{difference_divided}
use Rattle.greys.proofs.quotient.Goals as goal

pub int_to_float-s : goal.int_to_float-s
int_to_float-s c = cast_side c.requires.2

pub returns : goal.returns
returns c = difference_divided c.requires.0 c.requires.1 c.requires.2
