-- `slope` meets its contract: no slope that the entry answers is a NaN.
use Rattle.worked.specs.Slopes.{slope_no_nan}
use Rattle.worked.proofs.ask.slope.Goals as goal

pub slopes-requires : goal.slopes-requires
slopes-requires c = slope_no_nan c.in-Ok.ensures
