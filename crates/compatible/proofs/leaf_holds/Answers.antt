-- `leaf_holds` meets its contract. The loop keeps: the facets before this one but facet 0 pass.
use Rattle.compatible.specs.Walking.{facing_next, facing_end}
use native.Mathlib.Omega.{arith}
use Rattle.compatible.proofs.leaf_holds.Goals as goal

pub loop-facet-preserved : goal.loop-facet-preserved
loop-facet-preserved c = facing_next c.loop-facet.invariant c.facet_holds.ensures c.if-not-facet_holds.false

pub returns-else-not-facet_holds : goal.returns-else-not-facet_holds
returns-else-not-facet_holds c = facing_end (facing_next c.loop-facet.invariant c.facet_holds.ensures c.if-not-facet_holds.false) (omega arith)
