-- Weighted sums of samples: weights in a ratio, and weights of the cube's side.
use Rattle.std.specs.Prelude.{◌≡◌, refl, List, ℕ, zero, suc, ◌*◌, ◌≤◌, ◌<◌, length, get_or, take, Float}
use Rattle.std.proofs.Common.{ap, ◌∙◌, arith, pow_mono}
use Rattle.dimension.specs.Sizes.{halvings, cube_side}
use Rattle.dimension.specs.Laws.{halvings_few}
use Rattle.bisection.specs.Weights.{sum_to, total}
use Rattle.greys.specs.Fractions.{Fraction}
use Rattle.greys.specs.Samples.{sample_at, grey_sum, Weighable}
use Rattle.greys.specs.Exact.{fraction_same}

-- a times the one weights are b times the others
pub record InRatio (a b : ℕ) (ws us : List ℕ) : Type 0 where
  pub count : length ws ≡ length us
  pub each : (j : ℕ) → j < length ws → a * get_or ws j 0 ≡ b * get_or us j 0

sums_ratio : (a b n : ℕ) (w u f : ℕ → ℕ) → ((j : ℕ) → j < n → a * w j ≡ b * u j) → a * sum_to n (λ j. w j * f j) ≡ b * sum_to n (λ j. u j * f j)
unfolding sum_to
sums_ratio a b zero w u f e = omega arith
sums_ratio a b (suc n) w u f e = omega (arith, sums_ratio a b n w u f (λ j l. e j (omega arith)), ap (λ (z : ℕ). z * f n) (e n (omega arith)))

-- so are the weighted sums
pub grey_ratio : {a b : ℕ} {ws us : List ℕ} (width : ℕ) (samples : List ℕ) → InRatio a b ws us → a * grey_sum width ws samples ≡ b * grey_sum width us samples
unfolding grey_sum
grey_ratio {a} {b} {ws} {us} width samples r = sums_ratio a b (length ws) (λ j. get_or ws j 0) (λ j. get_or us j 0) (sample_at width samples) r.each ∙ rw r.count refl

-- weights multiplied by c
pub grey_scaled : {c : ℕ} {ws us : List ℕ} (width : ℕ) (samples : List ℕ) → InRatio 1 c ws us → grey_sum width ws samples ≡ c * grey_sum width us samples
grey_scaled width samples r = omega (arith, grey_ratio width samples r)

-- the value by weights of sum W is the value by weights of sum U
pub grey_same : {x : Float} {W U : ℕ} {ws us : List ℕ} (width : ℕ) (samples : List ℕ) → 0 < W → InRatio U W ws us → Fraction x (grey_sum width ws samples) W → Fraction x (grey_sum width us samples) U
grey_same width samples p r f = fraction_same p (omega (arith, grey_ratio width samples r)) f

-- weights whose sum is the cube's side are light enough
pub cube_weighable : {width d : ℕ} {ws samples : List ℕ} → width * suc d ≤ length samples → width ≤ 3 → total (take (suc d) ws) ≡ cube_side → Weighable width d ws samples
unfolding cube_side
cube_weighable room narrow e = record { room = room; narrow = narrow; light = omega (arith, e, pow_mono {i = halvings} {j = 15} halvings_few) }
