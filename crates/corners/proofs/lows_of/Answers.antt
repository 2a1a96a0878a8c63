-- `lows_of` meets its contract: what the code's orthants give.
use Rattle.corners.specs.Vertices.{frame_orthants, frame_lows}
use Rattle.corners.proofs.lows_of.Goals as goal

pub low_sides-requires : goal.low_sides-requires
low_sides-requires c = rw c.bytes.ensures.is (frame_orthants _ c.bytes.ensures.passes c.axes.ensures c.side_of.ensures)

pub returns : goal.returns
returns c = frame_lows _ c.bytes.ensures.passes c.axes.ensures (rw c.bytes.ensures.is at c.low_sides.ensures)
