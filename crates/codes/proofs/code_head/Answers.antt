-- `code_head` meets its contract: each way out is one of the order of refusals.
use Rattle.std.proofs.Common.{◌≡◌, ◌∙◌, ap, subst, false, ℕ, arith}
use Rattle.dimension.specs.Sizes.{is_dimension, axes_of, code_length}
use Rattle.dimension.specs.Laws.{axes_dimension}
use Rattle.bisection.specs.Codes.{dimension_of, depth_of}
use Rattle.codes.specs.Heads.{head_none, head_deep, head_done}
use Rattle.codes.proofs.code_head.Goals as goal

pub returns-in_default : goal.returns-in_default
unfolding dimension_of
returns-in_default c = head_none _ (subst (λ (n : ℕ). is_dimension n ≡ false) c.from.ensures c.in_default.ensures)

pub returns-then-greatest_depth-depth : goal.returns-then-greatest_depth-depth
unfolding dimension_of depth_of
returns-then-greatest_depth-depth c = let axes : axes_of c.in-Some.dim ≡ dimension_of c.args.bytes.now = c.in-Some.ensures ∙ c.from.ensures in
    head_deep _ (rw (← axes) (axes_dimension c.in-Some.dim)) (rw (← axes) (omega (arith, c.greatest_depth.ensures, c.from-depth.ensures)))

pub returns : goal.returns
unfolding dimension_of depth_of
returns c = let axes : axes_of c.in-Some.dim ≡ dimension_of c.args.bytes.now = c.in-Some.ensures ∙ c.from.ensures in
    head_done _ (rw (← axes) (axes_dimension c.in-Some.dim)) (rw (← axes) (omega (arith, c.greatest_depth.ensures, c.from-depth.ensures))) axes
    (rw (← axes) (c.code_length.ensures ∙ ap (code_length (axes_of c.in-Some.dim)) c.from-depth.ensures))
