-- `Code::depth` meets its contract: a code that passes has two bytes.
use Rattle.std.proofs.Common.{arith, ◌∙◌, ap}
use Rattle.bisection.specs.Codes.{depth_of}
use Rattle.entries.specs.Passed.{checked_two}
use Rattle.entries.proofs.code.Code.depth.Goals as goal

pub bounds-self-inside-1 : goal.bounds-self-inside-1
bounds-self-inside-1 c = omega (arith, checked_two _ c.self.invariant)

pub returns : goal.returns
returns c = unfold depth_of in c.from.ensures ∙ ap depth_of c.self.view_is
