-- `fill` meets its contract. The loop keeps: the entries so far are those of their records, and the last one is at hand.
use Rattle.finding.specs.Indexes.{fill_start, fill_walk, fill_next, fill_end}
use borrow.Author.Rules.{rules}
use Rattle.finding.proofs.Sheet.fill.Goals as goal

pub loop-n-init : goal.loop-n-init
loop-n-init c = search (rules, fill_start)

pub walk-entry-requires : goal.walk-entry-requires
walk-entry-requires c = fill_walk c.loop-n.invariant c.loop-n-test.true

pub loop-n-preserved : goal.loop-n-preserved
loop-n-preserved c = fill_next c.loop-n.invariant c.loop-n-test.true c.walk-entry.ensures

pub returns : goal.returns
returns c = fill_end c.loop-n.invariant c.loop-n-test.false
