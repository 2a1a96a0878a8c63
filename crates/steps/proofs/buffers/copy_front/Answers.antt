-- `copy_front` meets its contract. The loop keeps: the places before i are copied, or all up to the last four.
use native.Mathlib.Omega.{arith}
use Rattle.dimension.specs.Sizes.{most_axes, halvings}
use Rattle.dimension.specs.Laws.{longest_is}
use Rattle.steps.specs.Copying.{fronted_next, fronted_last}
use borrow.Author.Rules.{rules}
use Rattle.steps.proofs.buffers.copy_front.Goals as goal

pub loop-i-preserved : goal.loop-i-preserved
loop-i-preserved c = search (rules, fronted_next)

pub returns : goal.returns
unfolding most_axes halvings
returns c = fronted_last c.loop-i.invariant c.args.n c.copy_four-2.ensures (omega (arith, longest_is)) (omega arith) c.requires.2 c.requires.3
