-- `seek` meets its contract. The loop keeps: how far the place is ahead of the leaves that are passed.
use native.Mathlib.Omega.{arith}
use Rattle.finding.specs.Seeks.{seek_start, seek_at, seek_end, seek_past, seek_next}
use Rattle.finding.specs.Records.{record_two, record_deep, record_fits, record_less}
use borrow.Author.Rules.{rules}
use Rattle.finding.proofs.Sheet.seek.Goals as goal

pub loop-ahead-init : goal.loop-ahead-init
loop-ahead-init c = search (rules, seek_start)

pub depth_at-depth-requires : goal.depth_at-depth-requires
depth_at-depth-requires c = record_two (seek_at c.loop-ahead.invariant)

pub part-requires : goal.part-requires
part-requires c = record_deep (seek_at c.loop-ahead.invariant) c.depth_at-depth.ensures

pub returns-then-gt : goal.returns-then-gt
returns-then-gt c = seek_end c.loop-ahead.invariant c.depth_at-depth.ensures c.part.ensures c.gt.ensures c.if-gt.true

pub beyond-ahead-requires : goal.beyond-ahead-requires
beyond-ahead-requires c = seek_past c.loop-ahead.invariant c.depth_at-depth.ensures c.part.ensures c.gt.ensures c.if-gt.false

pub record_length-offset-requires : goal.record_length-offset-requires
record_length-offset-requires c = record_deep (seek_at c.loop-ahead.invariant) c.depth_at-depth.ensures

pub overflow_add-offset : goal.overflow_add-offset
overflow_add-offset c = omega (arith, record_fits (seek_at c.loop-ahead.invariant) c.depth_at-depth.ensures c.record_length-offset.ensures)

pub loop-ahead-smaller : goal.loop-ahead-smaller
loop-ahead-smaller c = record_less (seek_at c.loop-ahead.invariant) c.depth_at-depth.ensures c.record_length-offset.ensures

pub loop-ahead-preserved : goal.loop-ahead-preserved
loop-ahead-preserved c = seek_next c.loop-ahead.invariant c.depth_at-depth.ensures c.part.ensures c.record_length-offset.ensures c.beyond-ahead.ensures
