-- `same_sign` meets its contract: a minus agrees with high, a plus with low.
use Rattle.entries.specs.Walks.{sign_bits}
use borrow.Author.Rules.{rules}
use Rattle.entries.proofs.check.same_sign.Goals as goal

pub returns : goal.returns
returns c = sign_bits c.args.e c.args.own (search rules) c.axis_of.ensures
