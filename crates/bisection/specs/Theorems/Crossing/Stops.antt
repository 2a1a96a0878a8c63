-- Where a carry stops. It leaves the orthants before a bit that stops it as they are. At the start of a level entry 1
-- carries the box's own sign, so that the carry across facet 0 stops at the last orthant: its bit of that axis flips,
-- and there is no cell across only where there is no orthant.
use Rattle.std.specs.Prelude.{ℕ, ◌-◌, length, get_or, set}
use mathlib.Core.List.{List}
use Rattle.bisection.specs.Theorems.Table.{flipped}

-- the last orthant's bit of axis a flipped
unfoldable pub last_flipped : ℕ → List ℕ → List ℕ
last_flipped a os = set os (length os - 1) (flipped a (get_or os (length os - 1) 0))
