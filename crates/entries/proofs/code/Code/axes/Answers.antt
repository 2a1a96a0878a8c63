-- `Code::axes` meets its contract: a code that passes has two bytes.
use Rattle.std.proofs.Common.{arith, ◌∙◌, ap}
use Rattle.bisection.specs.Codes.{dimension_of}
use Rattle.entries.specs.Passed.{checked_two}
use Rattle.entries.proofs.code.Code.axes.Goals as goal

pub bounds-self-inside-0 : goal.bounds-self-inside-0
bounds-self-inside-0 c = omega (arith, checked_two _ c.self.invariant)

pub returns : goal.returns
returns c = unfold dimension_of in c.from.ensures ∙ ap dimension_of c.self.view_is
