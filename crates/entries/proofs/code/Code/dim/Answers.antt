-- `Code::dim` meets its contract: the first byte of a code that passes is a dimension.
use Rattle.std.proofs.Common.{arith, ◌∙◌, ap}
use Rattle.bisection.specs.Codes.{dimension_of}
use Rattle.entries.specs.Passed.{checked, checked_two}
use Rattle.entries.proofs.code.Code.dim.Goals as goal

pub bounds-self-inside-0 : goal.bounds-self-inside-0
bounds-self-inside-0 c = omega (arith, checked_two _ c.self.invariant)

pub checked-requires : goal.checked-requires
checked-requires c = unfold dimension_of in (checked _ c.self.invariant).good.dimension

pub returns : goal.returns
returns c = unfold dimension_of in c.checked.ensures ∙ ap dimension_of c.self.view_is
