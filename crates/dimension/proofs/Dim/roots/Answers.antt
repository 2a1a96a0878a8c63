-- `Dim::roots` meets its contract: each count is the factorial.
use Rattle.dimension.specs.Laws.{root_count_is}
use borrow.Author.Rules.{rules}
use Rattle.dimension.proofs.Dim.roots.Goals as goal

pub returns-in-Two : goal.returns-in-Two
returns-in-Two c = root_count_is c.args.self _ (search rules)

pub returns-in-Three : goal.returns-in-Three
returns-in-Three c = root_count_is c.args.self _ (search rules)

pub returns-in-Four : goal.returns-in-Four
returns-in-Four c = root_count_is c.args.self _ (search rules)
