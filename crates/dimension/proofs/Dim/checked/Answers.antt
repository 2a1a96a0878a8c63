-- `Dim::checked` meets its contract: a dimension that is neither 2 nor 3 is 4.
use Rattle.std.proofs.Common.{sym, arith}
use Rattle.dimension.specs.Laws.{dimension, four}
use Rattle.dimension.proofs.Dim.checked.Goals as goal

pub returns-in_default : goal.returns-in_default
returns-in_default c = sym (four (dimension c.args.byte c.requires) (omega arith) (omega arith))
