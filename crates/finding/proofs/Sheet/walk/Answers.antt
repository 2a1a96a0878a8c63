-- `walk` meets its contract. The loop keeps: the entry is that of the record so many behind the first, in whatever sheet that belongs to.
use native.Mathlib.Omega.{arith}
use Rattle.finding.specs.Indexes.{walk_at, walk_join, walk_next, walk_end}
use Rattle.finding.specs.Records.{record_two, record_deep, record_fits}
use Rattle.finding.proofs.Sheet.walk.Goals as goal

pub depth_at-depth-requires : goal.depth_at-depth-requires
depth_at-depth-requires c = record_two (walk_at c.loop.invariant c.loop-test.true)

pub part-requires : goal.part-requires
part-requires c = record_deep (walk_at c.loop.invariant c.loop-test.true) c.depth_at-depth.ensures

pub joined-place-requires : goal.joined-place-requires
joined-place-requires c = walk_join c.loop.invariant c.loop-test.true c.depth_at-depth.ensures c.part.ensures

pub record_length-offset-requires : goal.record_length-offset-requires
record_length-offset-requires c = record_deep (walk_at c.loop.invariant c.loop-test.true) c.depth_at-depth.ensures

pub overflow_add-offset : goal.overflow_add-offset
overflow_add-offset c = omega (arith, record_fits (walk_at c.loop.invariant c.loop-test.true) c.depth_at-depth.ensures c.record_length-offset.ensures)

pub loop-preserved : goal.loop-preserved
loop-preserved c = walk_next c.loop.invariant c.loop-test.true c.depth_at-depth.ensures c.part.ensures c.record_length-offset.ensures c.joined-place.ensures

pub returns : goal.returns
returns c = walk_end c.loop.invariant c.loop.auto.counter-end c.loop-test.false
