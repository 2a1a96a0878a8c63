-- `sample` meets its contract. The loop keeps: the bytes that the iterator has not left are read.
use Rattle.std.specs.Prelude.{◌≡◌, ◌+◌, ◌-◌, ◌*◌}
use native.Mathlib.Omega.{arith}
use Rattle.greys.specs.Samples.{sample_at}
use Rattle.greys.specs.Loops.{reading_start, reading_small, reading_next, reading_end}
use Rattle.greys.proofs.sample.Goals as goal

pub loop-byte-init : goal.loop-byte-init
loop-byte-init c = reading_start c.args.samples.now _ _ c.requires.0 (λ k. omega (arith, (c.type_inv.samples k).fits))
    (rw (c.into_iter-byte-iterator.ensures.into_iter_gives, c.rev-byte-items.ensures.source) (rw width at c.iter.ensures.rest))
  where
    width : c.args.width * c.args.i + c.args.width - c.args.width * c.args.i ≡ c.args.width
    width = omega arith

pub overflow_mul-n : goal.overflow_mul-n
overflow_mul-n c = record { fits = omega (arith, reading_small c.loop-byte.invariant) }

pub overflow_add-n : goal.overflow_add-n
overflow_add-n c = record { fits = omega (arith, c.from.ensures, reading_small (reading_next c.loop-byte.invariant _ c.in-Some.ensures.steps)) }

pub loop-byte-preserved : goal.loop-byte-preserved
loop-byte-preserved c = rw c.from.ensures (reading_next c.loop-byte.invariant _ c.in-Some.ensures.steps)

pub returns : goal.returns
returns c = (unfold sample_at in reading_end c.loop-byte.invariant c.in-None.ensures.steps.0, reading_small c.loop-byte.invariant)
