-- `step_down` meets its contract.
use mathlib.Core.Path.{refl}
use native.Mathlib.Omega.{arith}
use Rattle.std.proofs.iter.Serving.{serving}
use Rattle.ways.specs.Descents.{half_ready, stepped}
use Rattle.ways.proofs.step_down.Goals as goal

pub from_fn-requires : goal.from_fn-requires
from_fn-requires c = grind (arith, serving, half_ready)

pub returns : goal.returns
returns c = let made = c.from_fn.ensures.items in
    let e = made.each in
    stepped e.1 e.4.1 e.4.4.1 e.4.4.4.1 e.4.4.4.4.1 refl made.long (grind arith) (grind arith) (grind arith) (grind arith) (grind arith)
