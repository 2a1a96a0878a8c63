-- Cells on the line. All cells of a root share a stretch of length 2^M, M the greatest depth: a cell has a part of it,
-- its child 0 the first half of that part and its child 1 the second half. Roots are counted in dictionary order.
use Rattle.std.specs.Prelude.{◌≡◌, List, [], ◌∷◌, ℕ, ◌+◌, ◌-◌, ◌*◌, ◌^◌, ◌<◌, length, get_or}
use Rattle.dimension.specs.Sizes.{greatest_depth}
use Rattle.bisection.specs.Roots.{roots}
use Rattle.bisection.specs.Codes.{IsCodeOf}
use Rattle.positions.specs.declared.Position.{Position}

-- where the cell of a path starts on a stretch of length 2^M: a step 1 passes over the first half
unfoldable pub start_of : ℕ → List ℕ → ℕ
start_of M [] = 0
start_of M (b ∷ path) = b * 2 ^ (M - 1) + start_of (M - 1) path

-- how long the part of a cell is
unfoldable pub size_of : ℕ → List ℕ → ℕ
size_of M path = 2 ^ (M - length path)

-- the number of a code's root, where its cell starts, and how long its part is
pub record PositionIs (code : List ℕ) (r : Position) : Type 0 where
  pub root : List ℕ
  pub path : List ℕ
  pub is_code : IsCodeOf code root path
  pub number : r.root < length (roots (length root))
  pub root_is : get_or (roots (length root)) r.root [] ≡ root
  pub start_is : r.start ≡ start_of (greatest_depth (length root)) path
  pub size_is : r.size ≡ size_of (greatest_depth (length root)) path
