-- `put_leaves` meets its contract.
use Rattle.std.proofs.Common.{refl}
use native.Mathlib.Omega.{arith}
use Rattle.listing.specs.Leaves.{on_start, on_line, on_end}
use Rattle.listing.proofs.put_leaves.Goals as goal

pub loop-number-init : goal.loop-number-init
loop-number-init c = on_start _ _ refl c.args.sheet.now c.args.records c.args.from c.args.out.now c.requires.0 c.requires.1

pub record_parts-parts-requires : goal.record_parts-parts-requires
record_parts-parts-requires c = (on_line c.loop-number.invariant c.loop-number-test.true).passes

pub overflow_add-parts : goal.overflow_add-parts
overflow_add-parts c = omega (arith, c.loop-number.invariant.inside, c.requires.1.small, (on_line c.loop-number.invariant c.loop-number-test.true).code_fits _ c.record_parts-parts.ensures)

pub slice_bounds-put_leaf-end : goal.slice_bounds-put_leaf-end
slice_bounds-put_leaf-end c = omega (arith, (on_line c.loop-number.invariant c.loop-number-test.true).code_fits _ c.record_parts-parts.ensures)

pub put_leaf-at-requires : goal.put_leaf-at-requires
put_leaf-at-requires c = (on_line c.loop-number.invariant c.loop-number-test.true).fits _ c.record_parts-parts.ensures

pub slice_bounds-rest-count : goal.slice_bounds-rest-count
slice_bounds-rest-count c = (on_line c.loop-number.invariant c.loop-number-test.true).whole_fits _ c.record_parts-parts.ensures

pub slice_bounds-rest-start : goal.slice_bounds-rest-start
slice_bounds-rest-start c = (on_line c.loop-number.invariant c.loop-number-test.true).whole_fits _ c.record_parts-parts.ensures

pub loop-number-preserved : goal.loop-number-preserved
loop-number-preserved c = (on_line c.loop-number.invariant c.loop-number-test.true).next _ c.record_parts-parts.ensures c.put_leaf-at.ensures

pub returns : goal.returns
returns c = on_end c.loop-number.invariant refl c.requires.1.wide c.loop-number-test.false c.requires.1.small
