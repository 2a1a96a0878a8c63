-- `in_cell` meets its contract. The loop keeps: the slopes along the first i entries are on their axes, the other axes have +0.0.
use native.Mathlib.Omega.{arith}
use lib.Ieee.{of_bits, of_fields, odd}
use Rattle.corners.specs.Vertices.{frame_entries, frame_split}
use Rattle.slopes.specs.Gathering.{gather_start, gather_sample, gather_entry, gather_power, gather_axis, gather_place, gather_next, gather_end}
use borrow.Author.Rules.{rules}
use Rattle.slopes.proofs.in_cell.Goals as goal

pub word_in-entries-requires : goal.word_in-entries-requires
word_in-entries-requires c = rw c.bytes.ensures.is (frame_entries _ c.bytes.ensures.passes c.axes-d.ensures)

pub split_of-split-requires : goal.split_of-split-requires
split_of-split-requires c = rw c.bytes-2.ensures.is (frame_split _ c.bytes-2.ensures.passes c.axes-d.ensures)

pub loop-i-init : goal.loop-i-init
unfolding of_bits of_fields odd
loop-i-init c = gather_start (record { passes = c.bytes.ensures.passes; room = rw c.from-bytes.ensures c.requires.0; narrow = rw c.from-bytes.ensures c.requires.1 }) c.axes-d.ensures c.side_of-side.ensures
    (rw c.bytes.ensures.is at c.word_in-entries.ensures) (rw c.bytes-2.ensures.is at c.split_of-split.ensures) c.sample-first.ensures

pub sample-next-requires : goal.sample-next-requires
sample-next-requires c = gather_sample c.loop-i.invariant c.loop-i-test.true

pub byte_at-e-requires : goal.byte_at-e-requires
byte_at-e-requires c = search (rules, gather_entry)

pub place-requires : goal.place-requires
place-requires c = search (rules, gather_axis)

pub along-requires : goal.along-requires
along-requires c = let g = c.loop-i.invariant in
    (g.first_is.1, g.before_is.1, c.sample-next.ensures.1, gather_power g c.loop-i-test.true)

pub offset_bounds-on-place : goal.offset_bounds-on-place
offset_bounds-on-place c = record { fits = omega (arith, gather_place c.loop-i.invariant c.loop-i-test.true c.byte_at-e.ensures c.place.ensures) }

pub bounds-on-place : goal.bounds-on-place
bounds-on-place c = search (rules, gather_place)

pub loop-i-preserved : goal.loop-i-preserved
loop-i-preserved c = search (rules, gather_next)

pub returns : goal.returns
returns c = record { of = λ root path o. rw c.from-bytes.ensures at (gather_end c.loop-i.invariant (omega arith) root path o) }
