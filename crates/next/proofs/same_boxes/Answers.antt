-- `same_boxes` meets its contract. The loop keeps: those before place i are the same.
use native.Mathlib.Omega.{arith}
use Rattle.dimension.specs.Sizes.{halvings}
use Rattle.next.specs.Digits.{same_next, same_not, same_all}
use Rattle.next.proofs.same_boxes.Goals as goal

pub returns-then-word_at-four_digits : goal.returns-then-word_at-four_digits
returns-then-word_at-four_digits c = same_not c.args.n c.args.at c.args.bytes.now c.args.boxes c.requires.0 c.loop-i.i c.min-from.result c.if-n-lt4.false c.min-from.ensures
    c.word_at.ensures c.four_digits.ensures c.if-word_at-four_digits.true

pub loop-i-preserved : goal.loop-i-preserved
loop-i-preserved c = same_next c.args.n c.args.at c.args.bytes.now c.args.boxes c.requires.0 c.loop-i.i c.min-from.result c.if-n-lt4.false c.min-from.ensures
    c.word_at.ensures c.four_digits.ensures c.loop-i.invariant c.if-word_at-four_digits.false

pub returns : goal.returns
unfolding halvings
returns c = same_all c.args.n c.args.at c.args.bytes.now c.args.boxes c.requires.0 c.loop-i.invariant (omega (arith, c.loop-i-test.false, c.requires.1))
