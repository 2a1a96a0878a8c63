-- The cell of a root and a path is drawn by its name, for every dimension d: on the axis of each entry the
-- vertices have the closed form, in the box whose low corner the orthant bytes give.
use Rattle.std.specs.Prelude.{◌≡◌, cond, length, get_or}
use mathlib.Core.List.{List, [], ◌∷◌}
use Prim.Native.Nat.{ℕ, suc, ◌+◌, ◌≤◌, ◌<◌}
use Rattle.dimension.specs.Sizes.{split_place, box_side, side_after}
use Rattle.bisection.specs.Cells.{Cell, coordinate, vertex}
use Rattle.bisection.specs.Codes.{axis, minus, high, Name}
use Rattle.bisection.specs.Theorems.Axis.{closed}

-- the low side of the box on axis a: the sum over t of (bit a of orthant t) times the side after t halvings,
-- the first orthant of the list halving for the (M + 1)th time
unfoldable pub box_low : ℕ → ℕ → List ℕ → ℕ
box_low a M [] = 0
box_low a M (o ∷ os) = cond (high o a) (side_after (suc M)) 0 + box_low a (suc M) os

-- d + 1 points of d coordinates
pub record Sized (d : ℕ) (vs : Cell) : Type 0 where
  pub size : length vs ≡ suc d
  pub dims : (j : ℕ) → j ≤ d → length (vertex vs j) ≡ d

-- the vertices' coordinates on axis a
abbrev pub along : Cell → ℕ → ℕ → ℕ
along vs a j = coordinate (vertex vs j) a

-- entry i of a name
abbrev pub entry : Name → ℕ → ℕ
entry m i = get_or m.entries i 0

pub record Drawn (d D : ℕ) (m : Name) (vs : Cell) : Type 0 where
  pub sized : Sized d vs
  pub reads : (i : ℕ) → i < d → (j : ℕ) → j ≤ d → along vs (axis (entry m i)) j ≡ closed (box_low (axis (entry m i)) 0 m.orthants) (box_side d D) (minus (entry m i)) i (split_place d D) j

-- the corners of a root: axes 1..n, none repeated
pub record Distinct (n : ℕ) (axes : List ℕ) : Type 0 where
  pub low : (i : ℕ) → i < length axes → 1 ≤ get_or axes i 0
  pub high : (i : ℕ) → i < length axes → get_or axes i 0 ≤ n
  pub apart : (i j : ℕ) → i < length axes → j < length axes → get_or axes i 0 ≡ get_or axes j 0 → i ≡ j
