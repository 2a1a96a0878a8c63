-- `first_root` meets its contract: no root before n contains the point.
use Rattle.dimension.specs.Laws.{axes_dimension}
use Rattle.ways.specs.Starts.{search_start, search_end, search_small}
use borrow.Author.Rules.{rules}
use Rattle.ways.proofs.first_root.Goals as goal

pub loop-n-init : goal.loop-n-init
loop-n-init c = search (rules, axes_dimension, search_start)

pub returns-then-holds : goal.returns-then-holds
returns-then-holds c = search (rules, search_end)

pub unreachable-requires : goal.unreachable-requires
unreachable-requires c = search (rules, search_small)
