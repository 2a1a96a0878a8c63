-- The byte check against names: a byte string passes exactly when it is the bytes of a name that is a cell's.
use Rattle.std.specs.Prelude.{◌≡◌, true}
use mathlib.Core.List.{List}
use Prim.Native.Nat.{ℕ, ◌≤◌}
use Rattle.dimension.specs.Sizes.{is_dimension, greatest_depth}
use Rattle.bisection.specs.Codes.{bytes, dimension_of, depth_of, parts_of}
use Rattle.bisection.specs.Theorems.Passing.{Passes}

-- a code that passes
pub record Good (code : List ℕ) : Type 0 where
  pub dimension : is_dimension (dimension_of code) ≡ true
  pub depth : depth_of code ≤ greatest_depth (dimension_of code)
  pub passes : Passes (dimension_of code) (depth_of code) (parts_of code)
  pub is : code ≡ bytes (dimension_of code) (depth_of code) (parts_of code)
