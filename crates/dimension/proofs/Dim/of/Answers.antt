-- `Dim::of` meets its contract: a number that is none of the three is no dimension.
use Rattle.std.proofs.Common.{arith}
use Rattle.dimension.specs.Laws.{no_dimension}
use Rattle.dimension.proofs.Dim.of.Goals as goal

pub returns-in_default : goal.returns-in_default
returns-in_default c = no_dimension c.args.axes (omega arith) (omega arith) (omega arith)
