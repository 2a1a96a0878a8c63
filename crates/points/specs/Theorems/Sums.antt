-- Sums of terms that moved.
use Rattle.std.specs.Prelude.{cond, ℕ, suc, eqb, ltb}

-- the places 0 .. k turned left by one: what stood at 0 stands at k
unfoldable pub turn : ℕ → (ℕ → ℕ) → ℕ → ℕ
turn k f j = cond (ltb j k) (f (suc j)) (cond (eqb j k) (f 0) (f j))
