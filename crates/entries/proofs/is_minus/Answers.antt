-- `is_minus` meets its contract: it is the definition.
use Rattle.bisection.specs.Codes.{minus}
use borrow.Author.Rules.{rules}
use Rattle.entries.proofs.is_minus.Goals as goal

pub returns : goal.returns
unfolding minus
returns c = search rules
