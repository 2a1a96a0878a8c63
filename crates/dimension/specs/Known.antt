-- Which numbers of axes are a dimension.
use Rattle.std.specs.Prelude.{◌≡◌, false, ℕ, Option, Some, None}
use Rattle.dimension.specs.declared.Dim.{Dim}
use Rattle.dimension.specs.Sizes.{is_dimension, axes_of}

-- the dimension with so many axes, or nothing where there is none
abbrev pub KnownIs : ℕ → Option Dim → Type 0
KnownIs axes (Some d) = axes_of d ≡ axes
KnownIs axes None = is_dimension axes ≡ false
