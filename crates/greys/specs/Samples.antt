-- Document 01, "Sheets": the grey samples of a record, low byte first, and the sum of wi times sample i. How many bytes a sample
-- has is a parameter: 2 today.
use Rattle.std.specs.Prelude.{List, [], ◌∷◌, ℕ, suc, ◌+◌, ◌*◌, ◌^◌, ◌≤◌, length, get_or, take, drop}
use Rattle.bisection.specs.Weights.{sum_to, total}

-- the number that bytes give, low byte first
unfoldable pub low_first : List ℕ → ℕ
low_first [] = 0
low_first (b ∷ bs) = b + 256 * low_first bs

-- sample i of the bytes that stand behind a record's code
unfoldable pub sample_at : ℕ → List ℕ → ℕ → ℕ
sample_at width samples i = low_first (take width (drop (width * i) samples))

-- the sum of wi times sample i
unfoldable pub grey_sum : ℕ → List ℕ → List ℕ → ℕ
grey_sum width ws samples = sum_to (length ws) (λ i. get_or ws i 0 * sample_at width samples i)

-- what the weighted sum asks: d + 1 samples, of at most three bytes, and so many weights, of sum at most 2^15
pub record Weighable (width d : ℕ) (ws samples : List ℕ) : Type 0 where
  pub room : width * suc d ≤ length samples
  pub narrow : width ≤ 3
  pub light : total (take (suc d) ws) ≤ 2 ^ 15
