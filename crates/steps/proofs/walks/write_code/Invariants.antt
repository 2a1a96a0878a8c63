-- `write_code` meets its contract. The loop keeps: the entries are those of the name so many steps down the path, and its orthants
-- are written.
use Rattle.steps.specs.Descents.{Falling}
use Rattle.steps.proofs.walks.write_code.Given as goal

abbrev pub invariant-loop-step : goal.invariant-loop-step
invariant-loop-step l = Falling l.axes l.root l.path l.initial.code l.step-index l.k l.at l.entries l.code
