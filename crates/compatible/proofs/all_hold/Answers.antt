-- `all_hold` meets its contract. The loop keeps: those facets of the leaves before this one pass, and where this one starts.
use Rattle.compatible.specs.Walking.{judging_start, judging_record, judging_fails, judging_ends, judging_fits, judging_next, judging_done}
use borrow.Author.Rules.{rules}
use Rattle.compatible.proofs.all_hold.Goals as goal

pub loop-number-init : goal.loop-number-init
loop-number-init c = search (rules, judging_start)

pub record_holds-requires : goal.record_holds-requires
record_holds-requires c = judging_record c.loop-number.invariant c.loop-number-test.true c.index_about-spread.ensures

pub returns-in_default : goal.returns-in_default
returns-in_default c = judging_fails c.loop-number.invariant c.loop-number-test.true c.in_default.ensures

pub overflow_add-offset : goal.overflow_add-offset
overflow_add-offset c = record { fits = judging_fits c.loop-number.invariant c.loop-number-test.true c.in-Some.ensures }

pub next_start-start-requires : goal.next_start-start-requires
next_start-start-requires c = judging_ends c.loop-number.invariant c.loop-number-test.true c.in-Some.ensures

pub loop-number-preserved : goal.loop-number-preserved
loop-number-preserved c = judging_next c.loop-number.invariant c.loop-number-test.true c.in-Some.ensures c.index_about-spread.ensures c.next_start-start.ensures

pub returns : goal.returns
returns c = judging_done c.loop-number.invariant c.loop-number-test.false
