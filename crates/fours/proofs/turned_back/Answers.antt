-- `turned_back` meets its contract.
use mathlib.Core.Path.{ap, ◌∙◌}
use Rattle.bisection.specs.Codes.{negated}
use Rattle.fours.specs.Laws.{back_is}
use Rattle.fours.proofs.turned_back.Goals as goal

pub returns : goal.returns
returns c = rw (c.pick.ensures, c.pick-2.ensures, c.pick-3.ensures) (back_is c.args.e c.args.n _ c.requires (c.negate.ensures ∙ ap negated c.entry.ensures))
