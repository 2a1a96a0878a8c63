-- The way down to a point, and what the functions answer that go it. A reader need not believe any of it: what a query answers is
-- said over closed cells, weights and tree order alone.
use Rattle.std.specs.Prelude.{◌≡◌, Bool, true, false, List, [], ◌∷◌, ◌++◌, ◌⊎◌, ℕ, suc, ◌≤◌, ◌<◌, length, get_or, take}
use Rattle.std.specs.Int.{from_bool}
use Rattle.dimension.specs.Sizes.{is_dimension, root_count, greatest_depth, cube_side}
use Rattle.bisection.specs.Cells.{Point, cell_of}
use Rattle.bisection.specs.Roots.{GoodRoot, roots}
use Rattle.bisection.specs.Weights.{Weighs, Inside}
use Rattle.bisection.specs.Theorems.Weights.Axes.{list_of}
use Rattle.positions.specs.Positions.{start_of}
use Rattle.points.specs.Points.{point_of, is_point}
use Rattle.points.specs.Roots.{FirstRoot}
use Rattle.points.specs.Theorems.Halving.{down}
use Rattle.ways.specs.declared.Stepped.{Stepped}
use Rattle.ways.specs.declared.Place.{Place}
use Rattle.ways.specs.declared.Located.{Located}

-- the way down a root to a point: each step is to child 0 where that contains the point, and to child 1 where only that does
pub record Way (root path : List ℕ) (p : Point) : Type 0 where
  pub inside : Inside (cell_of root path) p
  pub steps : (front rest : List ℕ) (b : ℕ) → path ≡ front ++ b ∷ rest → (b ≡ 0) ⊎ ((b ≡ 1) × (Inside (cell_of root (front ++ 0 ∷ [])) p → ⊥))

-- a point's bytes and the number of a root
pub record AtRoot (d : ℕ) (point : List ℕ) (n : ℕ) : Type 0 where
  pub dimension : is_dimension d ≡ true
  pub good : is_point d point ≡ true
  pub small : n < root_count d

abbrev pub root_at : ℕ → ℕ → List ℕ
root_at d n = get_or (roots d) n []

-- whether a root contains the point
pub record RootHolds (d : ℕ) (point : List ℕ) (n : ℕ) (r : Bool) : Type 0 where
  pub inside : r ≡ true → Inside (cell_of (root_at d n) []) (point_of point)
  pub outside : r ≡ false → Inside (cell_of (root_at d n) []) (point_of point) → ⊥

-- the child that weights choose at split place k: child 0 where the last is no larger than the first, and child 1 otherwise
pub data Chosen (k : ℕ) (w : ℕ → ℕ) : Bool → Type 0 where
  low : w k ≤ w 0 → Chosen k w false
  high : w 0 < w k → Chosen k w true

-- and the weights in that half
pub record SteppedIs (k : ℕ) (w : List ℕ) (r : Stepped) : Type 0 where
  pub chosen : Chosen k (λ j. get_or w j 0) r.one
  pub weights : r.weights ≡ list_of 5 (down (from_bool r.one) k (λ j. get_or w j 0))

-- numbers that begin with a point's weights in a cell, of the cube's side as their sum
pub record CellWeights (d : ℕ) (root path : List ℕ) (p : Point) (w : List ℕ) : Type 0 where
  pub size : length w ≡ 5
  pub good : GoodRoot root
  pub axes : length root ≡ d
  pub dims : length p ≡ length root
  pub weighs : Weighs (cell_of root path) p cube_side (take (suc (length root)) w)

-- a place n steps down the way: its position on the root's stretch of 2^n, and the weights there
pub record Reached (d : ℕ) (root : List ℕ) (p : Point) (n : ℕ) (r : Place) : Type 0 where
  pub way : List ℕ
  pub size : length way ≡ n
  pub goes : Way root way p
  pub weights : CellWeights d root way p r.weights
  pub position : r.position ≡ start_of n way

-- some root and point have these weights
pub record Begun (d : ℕ) (w : List ℕ) : Type 0 where
  pub root : List ℕ
  pub p : Point
  pub weights : CellWeights d root [] p w

-- n steps down, from the weights in any root to a place on the way
pub record Descended (d n : ℕ) (w : List ℕ) (r : Place) : Type 0 where
  pub reaches : {root : List ℕ} {p : Point} → CellWeights d root [] p w → Reached d root p n r

-- the way to a point: the first root that contains it, the weights there, and where the deepest cell on the way starts
pub record LocatedIs (d : ℕ) (p : Point) (r : Located) : Type 0 where
  pub first : FirstRoot (roots d) p r.root
  pub weights : CellWeights d (root_at d r.root) [] p r.weights
  pub way : List ℕ
  pub size : length way ≡ greatest_depth d
  pub goes : Way (root_at d r.root) way p
  pub position : r.position ≡ start_of (greatest_depth d) way
