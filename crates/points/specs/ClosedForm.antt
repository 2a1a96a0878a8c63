-- The weights in closed form: with t i the distance from vertex 0 to the point along entry i, and t d = 0,
-- w0 = s - t 0 - t k; wj = t (j - 1) - t j for j from 1 to k; wj = 2 (t (j - 1) - t j) for j past k.
use Rattle.std.specs.Prelude.{Bool, true, false, cond, List, ℕ, zero, suc, ◌+◌, ◌-◌, ◌*◌, ◌≤◌, ◌<◌, leb, ltb, length, get_or}
use Rattle.dimension.specs.Sizes.{split_place, box_side}
use Rattle.bisection.specs.Cells.{Point, coordinate, vertex, cell_of}
use Rattle.bisection.specs.Codes.{axis, minus, name_of}
use Rattle.bisection.specs.Theorems.Geometry.{Moves}
use Rattle.bisection.specs.Theorems.Weights.Axes.{list_of}

-- how far x lies from the start, up for a plus and down for a minus
abbrev pub gap : Bool → ℕ → ℕ → ℕ
gap false start x = x - start
gap true start x = start - x

-- entry i of a cell, the coordinates of vertex 0 and of the point on its axis, and the distance along it, 0 past the last
abbrev pub entry_of : List ℕ → List ℕ → ℕ → ℕ
entry_of root path i = get_or (name_of root path).entries i 0

abbrev pub start_at : List ℕ → List ℕ → ℕ → ℕ
start_at root path i = coordinate (vertex (cell_of root path) 0) (axis (entry_of root path i))

abbrev pub point_at : List ℕ → List ℕ → Point → ℕ → ℕ
point_at root path p i = coordinate p (axis (entry_of root path i))

unfoldable pub distance : List ℕ → List ℕ → Point → ℕ → ℕ
distance root path p i = cond (ltb i (length root)) (gap (minus (entry_of root path i)) (start_at root path i) (point_at root path p i)) 0

unfoldable pub weight_at : ℕ → ℕ → (ℕ → ℕ) → ℕ → ℕ
weight_at k s t zero = s - (t 0 + t k)
weight_at k s t (suc j) = cond (leb (suc j) k) (t j - t (suc j)) (2 * (t j - t (suc j)))

unfoldable pub closed_weights : List ℕ → List ℕ → Point → List ℕ
closed_weights root path p = list_of (suc (length root)) (weight_at (split_place (length root) (length path)) (box_side (length root) (length path)) (distance root path p))

-- none of the differences in the closed form is negative
pub record Natural (root path : List ℕ) (p : Point) : Type 0 where
  pub ahead : (i : ℕ) → i < length root → Moves (minus (entry_of root path i)) (distance root path p i) (start_at root path i) (point_at root path p i)
  pub first : distance root path p 0 + distance root path p (split_place (length root) (length path)) ≤ box_side (length root) (length path)
  pub falls : (j : ℕ) → j < length root → distance root path p (suc j) ≤ distance root path p j
