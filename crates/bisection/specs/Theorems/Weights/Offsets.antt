-- A cell's vertices along one entry, weighed. Along entry i, vertex 0 and the vertices up to i are at the box's near side, those up to
-- k at its far side, those past both at its middle. So with B n the sum of the first n weights and h the larger of i and k, twice the
-- mean of the ways from the near side and 2 s B (i + 1) make s B (d + 1) + s B (h + 1).
use Rattle.std.specs.Prelude.{ℕ, ◌+◌, ◌-◌}

-- the larger of two places
abbrev pub top : ℕ → ℕ → ℕ
top i k = i + (k - i)
