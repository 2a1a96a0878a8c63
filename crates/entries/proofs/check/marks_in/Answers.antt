-- `marks_in` meets its contract: each byte may be marked.
use Rattle.std.proofs.lemmas.Grind.{common_steps}
use native.Mathlib.Omega.{arith}
use Rattle.entries.proofs.check.marks_in.Goals as goal

pub mark-requires-4 : goal.mark-requires-4
mark-requires-4 g c = grind (arith, common_steps)
