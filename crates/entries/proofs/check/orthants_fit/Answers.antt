-- `orthants_fit` meets its contract. The loop keeps: what is or-ed so far fits just where the orthants before i do.
use lib.ListN.{length-drop}
use borrow.Author.Rules.{rules}
use Rattle.dimension.specs.Sizes.{halvings}
use Rattle.entries.specs.Fitting.{fit_next, fit_all, fit_empty}
use Rattle.entries.proofs.check.orthants_fit.Goals as goal

pub returns-then-code-first : goal.returns-then-code-first
returns-then-code-first c = search (rules, fit_empty, length-drop)

pub loop-i-preserved : goal.loop-i-preserved
loop-i-preserved c = search (rules, fit_next)

pub returns : goal.returns
unfolding halvings
returns c = search (rules, fit_all, length-drop)
