-- `put` meets its contract.
use Rattle.std.proofs.lemmas.Grind.{elements}
use native.Mathlib.Omega.{arith}
use Rattle.entries.proofs.words.put.Goals as goal

pub returns : goal.returns
returns c = grind (arith, elements)
