-- `kind_of` meets its contract.
use native.Mathlib.Omega.{arith}
use Rattle.std.proofs.lemmas.Bool.Decides.{nat_tests}
use Rattle.finding.specs.Theorems.OneOfThree.{same, larger, smaller}
use Rattle.finding.proofs.kind_of.Goals as goal

pub returns-in-Equal : goal.returns-in-Equal
returns-in-Equal c = same (grind (arith, nat_tests))

pub returns-in-Less : goal.returns-in-Less
returns-in-Less c = larger (grind (arith, nat_tests))

pub returns-in-Greater : goal.returns-in-Greater
returns-in-Greater c = smaller (grind (arith, nat_tests))
