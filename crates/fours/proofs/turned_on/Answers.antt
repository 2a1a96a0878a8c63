-- `turned_on` meets its contract.
use Rattle.fours.specs.Laws.{on_is}
use Rattle.fours.proofs.turned_on.Goals as goal

pub returns : goal.returns
returns c = rw (c.pick.ensures, c.pick-3.ensures, c.pick-2.ensures, c.pick-5.ensures, c.pick-4.ensures, c.pick-6.ensures)
    (on_is c.args.e c.args.n _ c.requires c.negate-moved.ensures)
