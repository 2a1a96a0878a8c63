-- `write_cell` meets its contract. The loop keeps: the first j vertices are written, and nothing else.
use native.Mathlib.Omega.{arith}
use Rattle.corners.specs.Vertices.{frame_split, frame_entries, frame_made}
use Rattle.corners.specs.Drawing.{draw_start, draw_room, draw_next, draw_end}
use Rattle.corners.proofs.write_cell.Goals as goal

pub word_in-entries-requires : goal.word_in-entries-requires
word_in-entries-requires c = rw c.bytes-bytes.ensures.is (frame_entries _ c.bytes-bytes.ensures.passes c.axes-d.ensures)

pub split_of-split-requires : goal.split_of-split-requires
split_of-split-requires c = rw c.bytes-bytes.ensures.is (frame_split _ c.bytes-bytes.ensures.passes c.axes-d.ensures)

pub loop-j-init : goal.loop-j-init
loop-j-init c = draw_start c.requires c.axes-d.ensures
    (frame_made _ c.bytes-bytes.ensures.passes c.axes-d.ensures c.lows_of-lows.ensures c.side_of-side.ensures (rw c.bytes-bytes.ensures.is at c.word_in-entries.ensures) (rw c.bytes-bytes.ensures.is at c.split_of-split.ensures))

pub put_point-at-requires : goal.put_point-at-requires
put_point-at-requires c = draw_room c.loop-j.invariant c.loop-j-test.true

pub loop-j-preserved : goal.loop-j-preserved
loop-j-preserved c = draw_next c.loop-j.invariant c.loop-j-test.true c.vertex_at.ensures c.put_point-at.ensures

pub returns-2 : goal.returns-2
returns-2 c = draw_end (draw_next c.loop-j.invariant c.loop-j-test.true c.vertex_at.ensures c.put_point-at.ensures) (omega arith)
