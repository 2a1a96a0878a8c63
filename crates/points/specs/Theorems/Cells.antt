-- Points in the cells of the bisection, for every dimension, by steps down from a root: a point of a cell lies in a half of it and in
-- every cell above it; its weights tell in which half; of any sum it has one list of weights at most, and of the box's side as their
-- sum exactly one.
use Rattle.std.specs.Prelude.{List, ℕ, length}
use Rattle.dimension.specs.Sizes.{split_place}
use Rattle.bisection.specs.Cells.{Point, cell_of}
use Rattle.bisection.specs.Theorems.Drawn.{along}
use Rattle.bisection.specs.Weights.{Inside}
use Rattle.bisection.specs.Theorems.Weights.Axes.{Axes}

-- a point in the cell of a path, its weights there as a function, and the split place
abbrev pub In : List ℕ → Point → List ℕ → Type 0
In root p path = Inside (cell_of root path) p

abbrev pub CellAxes : List ℕ → Point → List ℕ → ℕ → (ℕ → ℕ) → Type 0
CellAxes root p path W w = Axes (length root) (along (cell_of root path)) p W w

abbrev pub split_of : List ℕ → List ℕ → ℕ
split_of root path = split_place (length root) (length path)
