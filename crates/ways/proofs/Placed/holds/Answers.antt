-- `Placed::holds` meets its contract.
use Rattle.ways.specs.Starts.{holds_last, holds_fails}
use borrow.Author.Rules.{rules}
use Rattle.ways.proofs.Placed.holds.Goals as goal

pub returns-then-third-second : goal.returns-then-third-second
returns-then-third-second c = search (rules, holds_last)

pub returns-else-third-second : goal.returns-else-third-second
returns-else-third-second c = search (rules, holds_fails)
