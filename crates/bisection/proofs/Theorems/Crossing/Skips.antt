-- The places of a cell but one, in order: the places of a facet.
use Rattle.std.specs.Prelude.{◌≡◌, ◌≢◌, ℕ, suc, ◌-◌, ◌≤◌, ◌<◌}
use Rattle.std.proofs.Common.{◌∙◌, arith}
use Rattle.std.proofs.Math.Decide.{dec_lt}
use borrow.Author.Tests.{lt-ltb, le-ltb}
use Rattle.bisection.specs.Theorems.Crossing.Skips.{Skipped, skip}

module _ (i t : ℕ) where
  pub skip_before : t < i → skip i t ≡ t
  unfolding skip
  skip_before h = simp lt-ltb

  pub skip_past : i ≤ t → skip i t ≡ suc t
  unfolding skip
  skip_past h = simp le-ltb

  pub skip_other : skip i t ≢ i
  skip_other = go (dec_lt t i)
    where
      go : Dec (t < i) → skip i t ≢ i
      go (yes h) = rw (skip_before h) (omega arith)
      go (no h) = let q : i ≤ t = omega arith in rw (skip_past q) (omega arith)

  pub skip_in : {d : ℕ} → t < d → skip i t ≤ d
  skip_in {d} l = go (dec_lt t i)
    where
      go : Dec (t < i) → skip i t ≤ d
      go (yes h) = rw (skip_before h) (omega arith)
      go (no h) = let q : i ≤ t = omega arith in rw (skip_past q) l

-- no place is met twice
pub skip_one : (i t t' : ℕ) → skip i t ≡ skip i t' → t ≡ t'
skip_one i t t' e = go (dec_lt t i) (dec_lt t' i)
  where
    go : Dec (t < i) → Dec (t' < i) → t ≡ t'
    go (yes h) (yes h') = omega (arith, skip_before i t h, skip_before i t' h')
    go (yes h) (no h') = omega (arith, skip_before i t h, skip_past i t' (omega arith))
    go (no h) (yes h') = omega (arith, skip_past i t (omega arith), skip_before i t' h')
    go (no h) (no h') = omega (arith, skip_past i t (omega arith), skip_past i t' (omega arith))

pub skipped : {d : ℕ} (i u : ℕ) → i ≤ d → u ≤ d → u ≢ i → Skipped d i u
skipped {d} i u il l n = go (dec_lt u i)
  where
    go : Dec (u < i) → Skipped d i u
    go (yes h) = record { from = u; below = omega arith; is = skip_before i u h }
    go (no h) = record { from = u - 1; below = omega arith; is = skip_past i (u - 1) (omega arith) ∙ omega arith }
