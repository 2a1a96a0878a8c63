-- `orthants_from` meets its contract: the bytes before the orthants are shifted out.
use Rattle.entries.specs.Fitting.{orthants_read}
use borrow.Author.Rules.{rules}
use Rattle.entries.proofs.check.orthants_from.Goals as goal

pub returns : goal.returns
returns c = search (rules, orthants_read)
