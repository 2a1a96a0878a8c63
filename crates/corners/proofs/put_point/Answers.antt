-- `put_point` meets its contract. The loop keeps: the first n coordinates are put, and `left` has the others.
use native.Mathlib.Omega.{arith}
use mathlib.Core.Path.{◌∙◌}
use Rattle.corners.specs.Drawing.{put_start, put_next, put_end}
use borrow.Author.Rules.{rules}
use Rattle.corners.proofs.put_point.Goals as goal

pub loop-n-init : goal.loop-n-init
loop-n-init c = search (rules, put_start)

pub loop-n-preserved : goal.loop-n-preserved
loop-n-preserved c = put_next c.loop-n.invariant c.loop-n-test.true (omega arith) (c.copy_from_slice.ensures.after ∙ c.to_le_bytes.ensures)

pub returns : goal.returns
returns c = search (rules, put_end)
