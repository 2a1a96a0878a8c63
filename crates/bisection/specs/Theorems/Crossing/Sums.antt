-- Sums over the axes below d, and permutations of their places: of the d axes exactly j stand at places up to j, so
-- a count over the axes tells a place.
use Rattle.std.specs.Prelude.{◌≡◌}
use Prim.Native.Nat.{ℕ, zero, suc, ◌+◌, ◌-◌, ◌≤◌, ◌<◌}

unfoldable pub sum : (ℕ → ℕ) → ℕ → ℕ
sum f zero = 0
sum f (suc n) = f n + sum f n

-- p takes the axes 0..d-1 to the places 1..d, and q takes the places back
pub record Perm (d : ℕ) (p q : ℕ → ℕ) : Type 0 where
  pub first : (a : ℕ) → a < d → 1 ≤ p a
  pub last : (a : ℕ) → a < d → p a ≤ d
  pub axis : (t : ℕ) → 1 ≤ t → t ≤ d → q t < d
  pub back : (t : ℕ) → 1 ≤ t → t ≤ d → p (q t) ≡ t
  pub again : (a : ℕ) → a < d → q (p a) ≡ a

-- 1 if p ≤ j, else 0
abbrev pub up_to : ℕ → ℕ → ℕ
up_to j p = 1 - (p - j)
