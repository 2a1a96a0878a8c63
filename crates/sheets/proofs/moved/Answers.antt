-- `moved` meets its contract.
use Rattle.sheets.specs.Steps.{on, over}
use Rattle.sheets.proofs.moved.Goals as goal

pub returns-in-Some : goal.returns-in-Some
returns-in-Some c = on c.in-Some.ensures (cc)

pub returns-in-None : goal.returns-in-None
returns-in-None c = over c.in-None.ensures c.first.ensures (cc)
