-- A code with its cell, at a dimension and depth that are known: the code's name is a cell's and draws the cell, and
-- so does the name's frame.
use Rattle.std.specs.Prelude.{◌≡◌, true, List, ℕ, ◌≤◌}
use Rattle.dimension.specs.Sizes.{is_dimension, greatest_depth}
use Rattle.bisection.specs.Cells.{Cell}
use Rattle.bisection.specs.Codes.{parts_of}
use Rattle.bisection.specs.Facets.{IsCell}
use Rattle.bisection.specs.Theorems.Passing.{Passes}
use Rattle.bisection.specs.Theorems.Drawn.{Drawn}

-- a code of dimension d and depth D, drawn by its name
pub record Coded (d D : ℕ) (code : List ℕ) (vs : Cell) : Type 0 where
  pub cell : IsCell code vs
  pub dimension : is_dimension d ≡ true
  pub deep : D ≤ greatest_depth d
  pub passes : Passes d D (parts_of code)
  pub drawn : Drawn d D (parts_of code) vs
