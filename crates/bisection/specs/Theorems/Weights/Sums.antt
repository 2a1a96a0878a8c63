-- Sums: of equal terms, of multiples, of terms at one place, of terms past one place, of all terms but one.
use Rattle.std.specs.Prelude.{cond, ℕ, eqb}

-- c at place i, nothing elsewhere
unfoldable pub only : ℕ → ℕ → ℕ → ℕ
only i c j = cond (eqb j i) c 0
