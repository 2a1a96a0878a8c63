-- `turned_back` meets its contract.
use mathlib.Core.Path.{◌∙◌}
use Rattle.fours.specs.Words.{above_under, last_under, rest_fits, turned_fits, turned_is}
use borrow.Author.Rules.{rules}
use Rattle.fours.proofs.words.turned_back.Goals as goal

pub overflow_sub-turned : goal.overflow_sub-turned
overflow_sub-turned c = search (rules, above_under)

pub overflow_sub-result : goal.overflow_sub-result
overflow_sub-result c = search (rules, last_under)

pub overflow_add-result : goal.overflow_add-result
overflow_add-result c = search (rules, rest_fits)

pub overflow_add-result-2 : goal.overflow_add-result-2
overflow_add-result-2 c = record { fits = turned_fits c.args.w (search rules) c.from.result (search rules) c.args.n c.requires }

pub returns : goal.returns
returns c = turned_is c.args.w (search rules) _ (search rules) c.args.n c.requires (c.from.ensures ∙ c.negate-first.ensures)
