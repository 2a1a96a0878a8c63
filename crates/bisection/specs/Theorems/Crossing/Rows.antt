-- One axis of a cell, counted in halves of the box's side: an axis at place p, with its near side x box sides and its
-- far side y box sides from the cube's low side, has 2x at the vertices before p, 2y from p to k, and x + y past k.
use Rattle.std.specs.Prelude.{cond, ◌≢◌, ℕ, suc, ◌+◌, ◌*◌, ◌≤◌, ltb, leb}

unfoldable pub row : ℕ → ℕ → ℕ → ℕ → ℕ → ℕ
row k p x y j = cond (ltb j p) (2 * x) (cond (leb j k) (2 * y) (x + y))

-- near and far are one apart
pub record Sides (x y : ℕ) : Type 0 where
  pub down : x ≤ suc y
  pub up : y ≤ suc x
  pub apart : x ≢ y
