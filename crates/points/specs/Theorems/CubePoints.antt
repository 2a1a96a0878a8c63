-- Points that pass the test of a query are points of the cube, and a coordinate is its two bytes.
use Rattle.std.specs.Prelude.{Bool, List, ℕ, leb, get_or}
use Rattle.dimension.specs.Sizes.{cube_side}
use Rattle.points.specs.Points.{point_of}

-- the test of coordinate i + 1
abbrev pub in_range : List ℕ → ℕ → Bool
in_range bytes i = leb (get_or (point_of bytes) i 0) cube_side
