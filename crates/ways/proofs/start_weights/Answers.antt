-- `start_weights` meets its contract.
use native.Mathlib.Omega.{arith}
use Rattle.ways.specs.Starts.{started}
use Rattle.ways.proofs.start_weights.Goals as goal

pub returns : goal.returns
returns c = let made = c.from_fn.ensures.items in
    let e = made.each in
    started c.requires.0 c.requires.1 e.1 e.4.1 e.4.4.1 e.4.4.4.1 e.4.4.4.4.1 made.long (grind arith) (grind arith) (grind arith) (grind arith) (grind arith)
