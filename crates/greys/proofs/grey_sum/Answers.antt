-- `grey_sum` meets its contract. The loop keeps: the first j samples are weighed.
use native.Mathlib.Omega.{arith}
use native.Mathlib.Numerals.{add-one}
use Rattle.dimension.specs.Laws.{axes_range}
use Rattle.greys.specs.Loops.{summing_start, summing_room, summing_fits, summing_next, summing_end}
use Rattle.greys.proofs.grey_sum.Goals as goal

pub loop-j-init : goal.loop-j-init
loop-j-init c = summing_start c.requires c.axes.ensures (omega (arith, (axes_range c.args.dim).few))

pub sample-requires : goal.sample-requires
sample-requires c = summing_room c.loop-j.invariant c.from-bytes.ensures c.loop-j-test.true

pub overflow_mul-sum : goal.overflow_mul-sum
overflow_mul-sum c = record { fits = omega (arith, summing_fits c.loop-j.invariant c.from-bytes.ensures c.loop-j-test.true c.sample.ensures) }

pub overflow_add-sum : goal.overflow_add-sum
overflow_add-sum c = record { fits = summing_fits c.loop-j.invariant c.from-bytes.ensures c.loop-j-test.true c.sample.ensures }

pub loop-j-preserved : goal.loop-j-preserved
loop-j-preserved c = summing_next c.loop-j.invariant c.from-bytes.ensures c.loop-j-test.true c.sample.ensures

pub returns : goal.returns
returns c = rw (c.axes.ensures, add-one) at (summing_end c.loop-j.invariant c.loop-j-test.false)
