-- `step` meets its contract.
use Rattle.fours.specs.Laws.{step_is}
use Rattle.fours.proofs.step.Goals as goal

pub returns : goal.returns
returns c = rw (c.pick.ensures, c.pick-2.ensures, c.pick-3.ensures, c.pick-4.ensures)
    (step_is c.args.e c.turned_on-turned.result c.args.n c.args.which c.turned_on-turned.ensures)
