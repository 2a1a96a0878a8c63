-- `descend` meets its contract: each step goes on the way.
use native.Mathlib.Numerals.{add-one}
use Rattle.ways.specs.Descents.{descend_start, down_ready, double_fits, position_fits, descend_next}
use borrow.Author.Rules.{rules}
use Rattle.ways.proofs.descend.Goals as goal

pub loop-i-init : goal.loop-i-init
loop-i-init c = search (rules, descend_start)

pub step_down-s-requires : goal.step_down-s-requires
step_down-s-requires c = search (rules, down_ready)

pub overflow_mul-position : goal.overflow_mul-position
overflow_mul-position c = search (rules, double_fits)

pub overflow_add-position : goal.overflow_add-position
overflow_add-position c = search (rules, position_fits)

pub loop-i-preserved : goal.loop-i-preserved
loop-i-preserved c = rw add-one (search (rules, descend_next))
