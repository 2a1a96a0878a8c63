-- `vertex_at` meets its contract. The loop keeps: what the first t entries add to the low sides.
use native.Mathlib.Omega.{arith}
use mathlib.Core.Path.{refl}
use mathlib.Core.Bool.{true, false}
use Rattle.corners.specs.Steps.{reach_most, step_moves, step_lands}
use Rattle.corners.specs.Vertices.{vertex_side, rise_start, rise_ready, rise_fits, rise_next, rise_end}
use borrow.Author.Rules.{rules}
use Rattle.corners.proofs.vertex_at.Goals as goal

pub step_of-requires : goal.step_of-requires
step_of-requires c = omega (arith, vertex_side c.requires, reach_most c.args.side c.args.split c.args.j c.pick-reach.ensures)

pub moved-far-requires : goal.moved-far-requires
moved-far-requires c = let most = reach_most c.args.side c.args.split c.args.j c.pick-reach.ensures in
    (omega arith, step_moves c.args.side c.pick-reach.result false most (vertex_side c.requires) refl c.step_of.ensures)

pub step_of-requires-2 : goal.step_of-requires-2
step_of-requires-2 c = omega (arith, vertex_side c.requires, reach_most c.args.side c.args.split c.args.j c.pick-reach.ensures)

pub moved-back-requires : goal.moved-back-requires
moved-back-requires c = let most = reach_most c.args.side c.args.split c.args.j c.pick-reach.ensures in
    (vertex_side c.requires, step_moves c.args.side c.pick-reach.result true most (vertex_side c.requires) refl c.step_of-2.ensures)

pub loop-t-init : goal.loop-t-init
loop-t-init c = let most = reach_most c.args.side c.args.split c.args.j c.pick-reach.ensures in
    rise_start c.requires c.pick-reach.ensures
    (step_lands c.args.side c.pick-reach.result false most (vertex_side c.requires) refl c.step_of.ensures c.moved-far.ensures)
    (step_lands c.args.side c.pick-reach.result true most (vertex_side c.requires) refl c.step_of-2.ensures c.moved-back.ensures)

pub on_axis-point-requires : goal.on_axis-point-requires
on_axis-point-requires c = rise_ready c.loop-t.invariant c.loop-t-test.true c.byte_at-e.ensures c.rise.ensures

pub overflow_add-point : goal.overflow_add-point
overflow_add-point c = record { fits = rise_fits c.loop-t.invariant c.loop-t-test.true c.byte_at-e.ensures c.rise.ensures c.on_axis-point.ensures }

pub loop-t-preserved : goal.loop-t-preserved
loop-t-preserved c = rise_next c.loop-t.invariant c.loop-t-test.true c.byte_at-e.ensures c.rise.ensures c.on_axis-point.ensures

pub returns : goal.returns
returns c = search (rules, rise_end)
