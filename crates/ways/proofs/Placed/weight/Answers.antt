-- `Placed::weight` meets its contract.
use Rattle.ways.specs.Starts.{weight_sub}
use borrow.Author.Rules.{rules}
use Rattle.ways.proofs.Placed.weight.Goals as goal

pub overflow_sub-result : goal.overflow_sub-result
overflow_sub-result c = search (rules, weight_sub)
