-- Sums: of equal terms, of multiples, of terms at one place, of terms past one place, of all terms but one.
use Rattle.std.specs.Prelude.{◌≡◌, refl, ℕ, zero, suc, ◌+◌, ◌*◌, ◌≤◌, ◌<◌}
use Rattle.std.proofs.Common.{sym, ap, ◌∙◌, arith}
use Rattle.std.proofs.Math.Decide.{ℕ_discrete}
use borrow.Author.Tests.{eq-eqb, ne_eqb}
use Rattle.bisection.specs.Weights.{sum_to}
use Rattle.bisection.specs.Theorems.Crossing.Skips.{skip}
use Rattle.bisection.proofs.Theorems.Crossing.Skips.{skip_before, skip_past}
use Rattle.bisection.specs.Theorems.Weights.Sums.{only}

pub sum_same : (n : ℕ) (f g : ℕ → ℕ) → ((j : ℕ) → j < n → f j ≡ g j) → sum_to n f ≡ sum_to n g
unfolding sum_to
sum_same zero f g e = refl
sum_same (suc n) f g e = omega (arith, sum_same n f g (λ j l. e j (omega arith)), e n (omega arith))

pub sum_add : (n : ℕ) (f g : ℕ → ℕ) → sum_to n (λ j. f j + g j) ≡ sum_to n f + sum_to n g
unfolding sum_to
sum_add zero f g = refl
sum_add (suc n) f g = omega (arith, sum_add n f g)

pub sum_scale : (c n : ℕ) (f : ℕ → ℕ) → sum_to n (λ j. c * f j) ≡ c * sum_to n f
unfolding sum_to
sum_scale c zero f = omega arith
sum_scale c (suc n) f = omega (arith, sum_scale c n f)

-- the first sums rise
pub sum_rises : (f : ℕ → ℕ) (m n : ℕ) → m ≤ n → sum_to m f ≤ sum_to n f
unfolding sum_to
sum_rises f m zero l = let e : m ≡ 0 = omega arith in rw e (omega arith)
sum_rises f m (suc n) l = go (ℕ_discrete m (suc n)) (sum_rises f m n)
  where
    go : Dec (m ≡ suc n) → (m ≤ n → sum_to m f ≤ sum_to n f) → sum_to m f ≤ sum_to (suc n) f
    go (yes e) t = rw e (omega arith)
    go (no e) t = omega (arith, t (omega arith))

pub term_most : (f : ℕ → ℕ) (n j : ℕ) → j < n → f j ≤ sum_to n f
unfolding sum_to
term_most f n j l = omega (arith, sum_rises f (suc j) n l)

module _ (i c j : ℕ) where
  pub only_at : j ≡ i → only i c j ≡ c
  unfolding only
  only_at e = simp eq-eqb

  pub only_other : (j ≡ i → ⊥) → only i c j ≡ 0
  unfolding only
  only_other e = simp ne_eqb

pub sum_only : (n i c : ℕ) → i < n → sum_to n (only i c) ≡ c
unfolding sum_to
sum_only zero i c l = absurd (omega arith)
sum_only (suc n) i c l = go (ℕ_discrete n i) (sum_only n i c)
  where
    none : (n : ℕ) → n ≤ i → sum_to n (only i c) ≡ 0
    none zero h = refl
    none (suc n) h = omega (arith, none n (omega arith), only_other i c n (omega arith))

    go : Dec (n ≡ i) → (i < n → sum_to n (only i c) ≡ c) → sum_to n (only i c) + only i c n ≡ c
    go (yes e) t = omega (arith, only_at i c n e, none n (omega arith))
    go (no e) t = omega (arith, only_other i c n e, t (omega arith))

pub mean_only : (n i c : ℕ) (x : ℕ → ℕ) → i < n → sum_to n (λ j. only i c j * x j) ≡ c * x i
mean_only n i c x l = sum_same n (λ j. only i c j * x j) (only i (c * x i)) (λ j h. go j (ℕ_discrete j i)) ∙ sum_only n i (c * x i) l
  where
    go : (j : ℕ) → Dec (j ≡ i) → only i c j * x j ≡ only i (c * x i) j
    go j (yes e) = rw (only_at i c j e, only_at i (c * x i) j e, e) refl
    go j (no e) = rw (only_other i c j e, only_other i (c * x i) j e) (omega arith)

-- what weighs the terms past place i
pub mean_past : (S n i : ℕ) (w x : ℕ → ℕ) → i < n → ((j : ℕ) → j ≤ i → x j ≡ 0) → ((j : ℕ) → i < j → j < n → x j ≡ S)
    → sum_to n (λ j. w j * x j) + S * sum_to (suc i) w ≡ S * sum_to n w
unfolding sum_to
mean_past S zero i w x l a b = absurd (omega arith)
mean_past S (suc n) i w x l a b = go (ℕ_discrete n i) (mean_past S n i w x)
  where
    none : (n : ℕ) → n ≤ suc i → sum_to n (λ j. w j * x j) ≡ 0
    none zero h = refl
    none (suc n) h = rw (a n (omega arith)) (omega (arith, none n (omega arith)))

    go : Dec (n ≡ i) → (i < n → ((j : ℕ) → j ≤ i → x j ≡ 0) → ((j : ℕ) → i < j → j < n → x j ≡ S) → sum_to n (λ j. w j * x j) + S * sum_to (suc i) w ≡ S * sum_to n w)
        → sum_to (suc n) (λ j. w j * x j) + S * sum_to (suc i) w ≡ S * sum_to (suc n) w
    go (yes e) t = rw e (omega (arith, none (suc i) (omega arith)))
    go (no e) t = rw (b n (omega arith) (omega arith)) (omega (arith, t (omega arith) a (λ j h m. b j h (omega arith))))

-- all terms but one
pub sum_skip : (n i : ℕ) (f : ℕ → ℕ) → i ≤ n → sum_to (suc n) f ≡ sum_to n (λ t. f (skip i t)) + f i
unfolding sum_to
sum_skip zero i f l = let e : i ≡ 0 = omega arith in rw e refl
sum_skip (suc n) i f l = go (ℕ_discrete i (suc n)) (sum_skip n i f)
  where
    go : Dec (i ≡ suc n) → (i ≤ n → sum_to (suc n) f ≡ sum_to n (λ t. f (skip i t)) + f i) → sum_to (suc n) f + f (suc n) ≡ sum_to n (λ t. f (skip i t)) + f (skip i n) + f i
    go (yes e) t = omega (arith, sum_same (suc n) f (λ t. f (skip i t)) (λ j h. ap f (sym (skip_before i j (omega arith)))), ap f e)
    go (no e) t = omega (arith, t (omega arith), ap f (skip_past i n (omega arith)))
