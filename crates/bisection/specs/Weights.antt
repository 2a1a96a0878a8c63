-- Document 01, "Sheets": whole weights of a point in a cell, and the closed cell. The same of any list of points: request No. 5's
-- facets that lie inside facets.
use Rattle.std.specs.Prelude.{◌≡◌, ℕ, zero, suc, ◌+◌, ◌*◌, ◌≤◌, ◌<◌, length, get_or}
use mathlib.Core.List.{List, Memᴰ}
use Rattle.bisection.specs.Cells.{Point, Cell, coordinate, vertex}

-- f 0 + .. + f (n - 1)
unfoldable pub sum_to : ℕ → (ℕ → ℕ) → ℕ
sum_to zero f = 0
sum_to (suc n) f = sum_to n f + f n

-- the sum of the weights
unfoldable pub total : List ℕ → ℕ
total ws = sum_to (length ws) (λ j. get_or ws j 0)

-- the sum of wj times vj, on axis a
unfoldable pub weighted : List ℕ → Cell → ℕ → ℕ
weighted ws vs a = sum_to (length ws) (λ j. get_or ws j 0 * coordinate (vertex vs j) a)

-- whole weights, none negative, one for each vertex in vertex order: their sum is W, and the weighted sum of the vertices is W
-- times the point
pub record Weighs (vs : Cell) (p : Point) (W : ℕ) (ws : List ℕ) : Type 0 where
  pub count : length ws ≡ length vs
  pub sum : total ws ≡ W
  pub mean : (a : ℕ) → 1 ≤ a → a ≤ length p → weighted ws vs a ≡ W * coordinate p a

-- the point lies in the closed cell: some weights of a positive sum give it
pub record Inside (vs : Cell) (p : Point) : Type 0 where
  pub W : ℕ
  pub some : 0 < W
  pub ws : List ℕ
  pub weighs : Weighs vs p W ws

-- points lie inside points: each of the first is such a mean of the second
abbrev pub LiesInside : List Point → List Point → Type 0
LiesInside inner outer = (v : Point) → Memᴰ v inner → Inside outer v
