-- Document 01, "Sheets" and "Refusal numbers": the points of a query.
use Rattle.std.specs.Prelude.{◌≡◌, Bool, ◌&&◌, List, [], ◌∷◌, ℕ, ◌+◌, ◌*◌, ◌≤◌, eqb, leb, length, get_or}
use Rattle.dimension.specs.Sizes.{cube_side}
use Rattle.bisection.specs.Cells.{Point, coordinate}
use Rattle.bisection.specs.Refusals.{each}

-- a coordinate is two bytes, low byte first
unfoldable pub point_of : List ℕ → Point
point_of [] = []
point_of (x ∷ []) = []
point_of (x ∷ y ∷ bytes) = (x + 256 * y) ∷ point_of bytes

-- d coordinates, each from 0 to the cube's side
unfoldable pub is_point : ℕ → List ℕ → Bool
is_point d bytes = eqb (length bytes) (2 * d) && each d (λ i. leb (get_or (point_of bytes) i 0) cube_side)

-- a point of the cube
pub record InCube (d : ℕ) (p : Point) : Type 0 where
  pub axes : length p ≡ d
  pub in_range : (a : ℕ) → 1 ≤ a → a ≤ d → coordinate p a ≤ cube_side
