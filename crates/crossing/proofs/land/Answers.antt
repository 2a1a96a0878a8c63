-- `land` meets its contract: the row of the facet, which leaves the box or stays in it.
use mathlib.Core.Path.{refl}
use native.Mathlib.Omega.{arith}
use Rattle.crossing.proofs.AnswerLaws.{cross_step}
use Rattle.crossing.proofs.LeavingLaws.{facing_some, facing_whole, facing_few, facing_at, leaving}
use Rattle.crossing.proofs.StayingLaws.{staying}
use borrow.Author.Rules.{rules}
use Rattle.crossing.proofs.land.Goals as goal

pub returns-then-d-i : goal.returns-then-d-i
returns-then-d-i c = search (rules, cross_step)

pub split_of-k-requires : goal.split_of-k-requires
split_of-k-requires c = search (rules, facing_some, facing_whole)

pub overflow_sub-d : goal.overflow_sub-d
overflow_sub-d c = search (rules, facing_some)

pub overflow_add-entry : goal.overflow_add-entry
overflow_add-entry c = omega (arith, facing_few _ refl (rw c.bytes-bytes.ensures.is c.bytes-bytes.ensures.passes) (rw c.bytes-bytes.ensures.is c.axes-d.ensures) c.from-i.ensures c.split_of-k.ensures c.pick.ensures c.if-pick-d.true c.pick-at.ensures)

pub bounds-bytes-at : goal.bounds-bytes-at
bounds-bytes-at c = facing_at _ refl (rw c.bytes-bytes.ensures.is c.bytes-bytes.ensures.passes) (rw c.bytes-bytes.ensures.is c.axes-d.ensures) c.from-i.ensures c.split_of-k.ensures c.pick.ensures c.if-pick-d.true c.pick-at.ensures

pub cross_outside-requires : goal.cross_outside-requires
cross_outside-requires c = leaving _ refl (rw c.bytes-bytes.ensures.is c.bytes-bytes.ensures.passes) (rw c.bytes-bytes.ensures.is c.axes-d.ensures) c.from-i.ensures c.split_of-k.ensures c.pick.ensures c.if-pick-d.true c.pick-at.ensures refl c.negate.ensures c.pick-e.ensures

pub cross_inside-requires : goal.cross_inside-requires
cross_inside-requires c = search (rules, staying)
