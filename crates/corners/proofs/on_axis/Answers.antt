-- `on_axis` meets its contract: x is shifted to the axis.
use Rattle.corners.specs.PointWords.{on_axis_by}
use Rattle.corners.proofs.on_axis.Goals as goal

pub returns : goal.returns
returns c = on_axis_by c.axis_of.ensures c.from.ensures c.requires
