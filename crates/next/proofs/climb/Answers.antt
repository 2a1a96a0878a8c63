-- `climb` meets its contract. The loop keeps: the 1s left to drop lead to the same cell.
use native.Mathlib.Omega.{arith}
use Rattle.dimension.specs.Laws.{axes_range, split_sub, split_fits, split_rest}
use Rattle.next.specs.Climbing.{loop_start, loop_end, loop_small, loop_some, loop_boxes, loop_turn, loop_more}
use borrow.Author.Rules.{rules}
use Rattle.next.proofs.climb.Goals as goal

pub overflow_mul-k : goal.overflow_mul-k
overflow_mul-k c = record { fits = split_fits _ c.args.depth _ _ c.axes-axes.ensures c.requires.1 (omega arith) }

pub overflow_sub-k : goal.overflow_sub-k
overflow_sub-k c = split_sub _ c.args.depth _ _ c.axes-axes.ensures c.requires.1

pub overflow_sub-k-2 : goal.overflow_sub-k-2
overflow_sub-k-2 c = split_rest _ c.args.depth _ _ (omega (arith, (axes_range c.args.dim).two)) c.axes-axes.ensures c.requires.1

pub loop-left-init : goal.loop-left-init
loop-left-init c = search (rules, loop_start)

pub boxes_above-boxes-requires : goal.boxes_above-boxes-requires
boxes_above-boxes-requires c = search (rules, loop_boxes)

pub place_above-k-requires : goal.place_above-k-requires
place_above-k-requires c = search (rules, loop_small)

pub turned_back-back-requires : goal.turned_back-back-requires
turned_back-back-requires c = loop_turn c.loop-left.invariant c.loop-left-test.true c.place_above-k.ensures

pub overflow_sub-t : goal.overflow_sub-t
overflow_sub-t c = search (rules, loop_some)

pub loop-left-smaller : goal.loop-left-smaller
loop-left-smaller c = omega (arith, loop_some c.loop-left.invariant c.loop-left-test.true)

pub loop-left-preserved : goal.loop-left-preserved
loop-left-preserved c = search (rules, loop_more)

pub returns : goal.returns
returns c = search (rules, loop_end)
