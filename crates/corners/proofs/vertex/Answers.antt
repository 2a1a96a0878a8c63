-- `vertex` meets its contract: the vertex that the code's numbers give.
use Rattle.corners.specs.Vertices.{frame_split, frame_entries, frame_made}
use Rattle.corners.proofs.vertex.Goals as goal

pub word_in-entries-requires : goal.word_in-entries-requires
word_in-entries-requires c = rw c.bytes-bytes.ensures.is (frame_entries _ c.bytes-bytes.ensures.passes c.axes-d.ensures)

pub split_of-split-requires : goal.split_of-split-requires
split_of-split-requires c = rw c.bytes-bytes.ensures.is (frame_split _ c.bytes-bytes.ensures.passes c.axes-d.ensures)

pub vertex_at-requires : goal.vertex_at-requires
vertex_at-requires c = record {
  code = _;
  frame = frame_made _ c.bytes-bytes.ensures.passes c.axes-d.ensures c.requires.0 c.side_of.ensures
      (rw c.bytes-bytes.ensures.is at c.word_in-entries.ensures) (rw c.bytes-bytes.ensures.is at c.split_of-split.ensures);
  place = c.requires.1;
}

pub returns : goal.returns
returns c = c.vertex_at.ensures.is _
    (frame_made _ c.bytes-bytes.ensures.passes c.axes-d.ensures c.requires.0 c.side_of.ensures
    (rw c.bytes-bytes.ensures.is at c.word_in-entries.ensures) (rw c.bytes-bytes.ensures.is at c.split_of-split.ensures))
    c.requires.1
