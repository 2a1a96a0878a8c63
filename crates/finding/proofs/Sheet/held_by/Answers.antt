-- `held_by` meets its contract: the nearest entry is that of a record, and the place is sought from there.
use Rattle.finding.specs.Finds.{run_between, run_seek, run_held}
use borrow.Author.Rules.{rules}
use Rattle.finding.proofs.Sheet.held_by.Goals as goal

pub beyond-ahead-requires : goal.beyond-ahead-requires
beyond-ahead-requires c = search (rules, run_between)

pub seek-requires : goal.seek-requires
seek-requires c = search (rules, run_seek)

pub returns : goal.returns
returns c = search (rules, run_held)
