-- The weights in a cell and those in its halves. With k the split place, weights u in a half give weights in the cell, of twice the
-- sum: each counts twice, and that of the midpoint once at either end of the edge that it halves. So a point of a half is one of the
-- cell, and weights in the cell that are twice w give back those in the half that the larger of w0 and wk tells.
use Rattle.std.specs.Prelude.{◌≡◌, cond, eqb, ltb}
use Prim.Native.Nat.{ℕ, zero, suc, ◌+◌, ◌-◌, ◌*◌, ◌%◌, ◌≤◌}
use Rattle.bisection.specs.Cells.{Cell}
use Rattle.bisection.specs.Theorems.Axis.{row0, row1}
use Rattle.bisection.specs.Theorems.Drawn.{Sized, along}

-- the weights in the cell
unfoldable pub up : ℕ → ℕ → (ℕ → ℕ) → ℕ → ℕ
up zero k u j = cond (eqb j 0) (2 * u 0 + u k) (cond (eqb j k) (u k) (2 * u j))
up (suc b) k u j = cond (eqb j 0) (u k) (cond (eqb j k) (2 * u (k - 1) + u k) (cond (ltb j k) (2 * u (j - 1)) (2 * u j)))

-- the half's coordinates
unfoldable pub row : ℕ → ℕ → (ℕ → ℕ) → ℕ → ℕ
row zero k r = row0 k r
row (suc b) k r = row1 k r

-- the weights in a half: in child 0 where wk is at most w0, in child 1 where w0 is at most wk
abbrev pub Fits : ℕ → ℕ → (ℕ → ℕ) → Type 0
Fits zero k w = w k ≤ w 0
Fits (suc b) k w = w 0 ≤ w k

unfoldable pub down : ℕ → ℕ → (ℕ → ℕ) → ℕ → ℕ
down zero k w j = cond (eqb j 0) (w 0 - w k) (cond (eqb j k) (2 * w k) (w j))
down (suc b) k w j = cond (ltb j k) (cond (eqb (suc j) k) (w k - w 0) (w (suc j))) (cond (eqb j k) (2 * w 0) (w j))

-- a cell whose split edge, from vertex 0 to vertex k, has a whole midpoint
pub record Splits (d k : ℕ) (vs : Cell) : Type 0 where
  pub sized : Sized d vs
  pub first : 1 ≤ k
  pub last : k ≤ d
  pub whole : (a : ℕ) → 1 ≤ a → a ≤ d → (along vs a 0 + along vs a k) % 2 ≡ 0
