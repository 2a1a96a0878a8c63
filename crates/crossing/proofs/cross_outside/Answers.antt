-- `cross_outside` meets its contract: refusal 8 where the carry runs out, 11, or the code copied, the box moved by carry and one sign changed.
use mathlib.Core.Path.{◌∙◌}
use lib.ListN.{length-set}
use native.Mathlib.Omega.{arith}
use Rattle.crossing.proofs.LeavingLaws.{leaving_room, leaving_long, leaving_most, leaving_at, leaving_few, leaving_some, leaving_face, leaving_short, leaving_done}
use borrow.Author.Rules.{rules}
use Rattle.crossing.proofs.cross_outside.Goals as goal

pub overflow_add-d : goal.overflow_add-d
overflow_add-d c = omega (arith, leaving_few c.requires)

pub carry_end-end-requires : goal.carry_end-end-requires
carry_end-end-requires c = search (rules, leaving_long, leaving_room)

pub overflow_add-d-2 : goal.overflow_add-d-2
overflow_add-d-2 c = omega (arith, leaving_few c.requires)

pub returns-then-end-d : goal.returns-then-end-d
returns-then-end-d c = search (rules, leaving_face)

pub returns-then-out-length : goal.returns-then-out-length
returns-then-out-length c = search (rules, leaving_short)

pub overflow_add-at : goal.overflow_add-at
overflow_add-at c = omega (arith, leaving_few c.requires, c.requires.place)

pub bounds-code-at : goal.bounds-code-at
bounds-code-at c = search (rules, leaving_at)

pub copy_front-requires : goal.copy_front-requires
copy_front-requires c = search (rules, leaving_long, leaving_most)

pub overflow_sub-end : goal.overflow_sub-end
overflow_sub-end c = omega (arith, leaving_some c.requires c.carry_end-end.ensures c.if-end-d.false)

pub carry-requires : goal.carry-requires
carry-requires c = let axis = c.axis_of.ensures in (
  leaving_long c.requires,
  omega (arith, leaving_long c.requires, c.carry_end-end.ensures.within),
  omega (arith, c.out-1.given, c.if-out-length.false),
  omega (arith, axis, c.requires.low),
  omega (arith, axis, c.requires.high),
)

pub overflow_add-out : goal.overflow_add-out
overflow_add-out c = omega (arith, leaving_few c.requires, c.requires.place)

pub bounds-out-at : goal.bounds-out-at
bounds-out-at c = omega (arith, leaving_at c.requires, c.carry.ensures.size, c.out-1.given, c.if-out-length.false)

pub shape_of-out : goal.shape_of-out
shape_of-out c = simp length-set (c.carry.ensures.size ∙ c.out-1.given)

pub returns : goal.returns
returns c = search (rules, leaving_done)
