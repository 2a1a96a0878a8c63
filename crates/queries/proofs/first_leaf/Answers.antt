-- `first_leaf` meets its contract: the leaf on the way down, by its place on the line.
use Rattle.queries.specs.Choice.{choice_seek, choice_stands}
use borrow.Author.Rules.{rules}
use Rattle.queries.proofs.first_leaf.Goals as goal

pub seek-sought-requires : goal.seek-sought-requires
seek-sought-requires c = search (rules, choice_seek)

pub returns : goal.returns
returns c = search (rules, choice_stands)
