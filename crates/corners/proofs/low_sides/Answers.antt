-- `low_sides` meets its contract. The loop keeps: the first i of the bytes read are digits.
use mathlib.Core.Path.{refl}
use native.Mathlib.Omega.{arith}
use Rattle.dimension.specs.Sizes.{halvings}
use Rattle.corners.specs.Lows.{lows_none, lows_fit, lows_next, lows_boxes, lows_whole, lows_all}
use Rattle.corners.proofs.low_sides.Goals as goal

pub loop-i-init : goal.loop-i-init
unfolding halvings
loop-i-init c = lows_none _ _ (omega arith) refl

pub four_more-digits-requires : goal.four_more-digits-requires
unfolding halvings
four_more-digits-requires c = lows_fit c.loop-i.invariant c.loop-i-test.true (λ j. omega (arith, (c.type_inv.code j).fits)) c.four_back.ensures

pub loop-i-smaller : goal.loop-i-smaller
unfolding halvings
loop-i-smaller c = omega (arith, c.loop-i-test.true)

pub loop-i-preserved : goal.loop-i-preserved
unfolding halvings
loop-i-preserved c = lows_next c.loop-i.invariant c.loop-i-test.true (λ j. omega (arith, (c.type_inv.code j).fits)) c.four_back.ensures c.four_more-digits.ensures

pub lowest-requires : goal.lowest-requires
lowest-requires c = (lows_boxes c.requires).2

pub overflow_mul-result : goal.overflow_mul-result
unfolding halvings
overflow_mul-result c = record { fits = lows_whole c.requires (omega arith) c.loop-i.invariant c.loop-i-test.false c.lowest.ensures }

pub returns : goal.returns
unfolding halvings
returns c = lows_all c.requires (omega arith) c.loop-i.invariant c.loop-i-test.false c.lowest.ensures
