-- `leaves_compatible` meets its contract: the index is that of the sheet.
use Rattle.compatible.specs.Answers.{index_ready, sheet_ready}
use borrow.Author.Rules.{rules}
use Rattle.compatible.proofs.leaves_compatible.Goals as goal

pub index_of-spread-requires : goal.index_of-spread-requires
index_of-spread-requires c = search (rules, index_ready)

pub all_hold-requires : goal.all_hold-requires
all_hold-requires c = search (rules, sheet_ready)
