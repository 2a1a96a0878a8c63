-- `find` meets its contract: the leaf that holds the start of the cell, and the kind by the sizes.
use Rattle.finding.specs.Finds.{find_run, find_deep, find_is}
use borrow.Author.Rules.{rules}
use Rattle.finding.proofs.Sheet.find.Goals as goal

pub held_by-sought-requires : goal.held_by-sought-requires
held_by-sought-requires c = search (rules, find_run)

pub part-requires : goal.part-requires
part-requires c = search (rules, find_deep)

pub returns : goal.returns
returns c = find_is c.held_by-sought.ensures c.part.ensures c.kind_of.ensures
