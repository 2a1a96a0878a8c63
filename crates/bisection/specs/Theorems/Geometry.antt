-- The cell of a good root and a good path, for every dimension: its vertices have the closed form; where it is
-- split the midpoint is whole; and a signed entry among the first k is a move by the box's side on its axis.
use Rattle.std.specs.Prelude.{◌≡◌, Bool, true, false, ◌≢◌, ℕ, suc, ◌+◌, ◌≤◌}
use Rattle.dimension.specs.Sizes.{box_side}
use Rattle.bisection.specs.Cells.{Cell}
use Rattle.bisection.specs.Codes.{axis, minus, Name}
use Rattle.bisection.specs.Theorems.Drawn.{along, entry}

-- from x to y by s, up for a plus and down for a minus
abbrev pub Moves : Bool → ℕ → ℕ → ℕ → Type 0
Moves false s x y = y ≡ x + s
Moves true s x y = x ≡ y + s

-- vertex j is vertex j - 1 moved by the box's side on the axis of entry j, by its sign, and on no other axis
pub record Reading (d D : ℕ) (m : Name) (vs : Cell) (i : ℕ) : Type 0 where
  pub on : Moves (minus (entry m i)) (box_side d D) (along vs (axis (entry m i)) i) (along vs (axis (entry m i)) (suc i))
  pub off : (a : ℕ) → 1 ≤ a → a ≤ d → a ≢ axis (entry m i) → along vs a (suc i) ≡ along vs a i
