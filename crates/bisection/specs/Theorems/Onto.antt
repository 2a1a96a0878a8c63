-- A map of the numbers below d into themselves that takes no value twice takes every value: otherwise the
-- values but one, closed up, would fit d numbers into d - 1.
use Rattle.std.specs.Prelude.{◌≡◌, cond, ◌≢◌, ℕ, ◌-◌, ◌<◌, ltb}

-- the numbers but v, closed up
unfoldable pub close : ℕ → ℕ → ℕ
close v x = cond (ltb v x) (x - 1) x

-- where f takes the value v, below n
pub data Sought (f : ℕ → ℕ) (v n : ℕ) : Type 0 where
  found : (i : ℕ) → i < n → f i ≡ v → Sought f v n
  none : ((i : ℕ) → i < n → f i ≢ v) → Sought f v n

pub record Taken (f : ℕ → ℕ) (v d : ℕ) : Type 0 where
  pub place : ℕ
  pub below : place < d
  pub is : f place ≡ v
