-- Orthant bytes as masks of axes: the orthant of a permutation is high just where the axis has a minus, has no
-- bit at d or above, and a byte is known by its bits.
use Rattle.std.specs.Prelude.{◌≡◌, refl, Bool, true, false, cond, List, [], ◌∷◌, ◌++◌, ℕ, zero, suc, ◌+◌, ◌-◌, ◌*◌, ◌/◌, ◌%◌, ◌^◌, ◌≤◌, ◌<◌, length}
use Rattle.std.proofs.Common.{sym, ◌∙◌, arith, mod-lt, mul_assoc, length-append, pow_pos, pow-add, shr_lt, eq-eqb, eqb-true}
use Rattle.std.proofs.Math.Path.{ap, subst}
use Rattle.std.proofs.Math.Nat.{mul-add-div_right}
use Rattle.std.proofs.Math.Decide.{ℕ_discrete}
use Rattle.std.proofs.Math.Dec.{eqb}
use Rattle.std.proofs.lemmas.List.{get_or_at}
use Rattle.std.proofs.Math.Pow.{split, high as high_part}
use Rattle.bisection.specs.Codes.{high, minus_on, orthant_to}
use Rattle.bisection.specs.Refusals.{own_minus}

-- a higher digit does not show in a lower bit
pub low_bit : (c n x i : ℕ) → i < n → (c * 2 ^ n + x) / 2 ^ i % 2 ≡ x / 2 ^ i % 2
low_bit c n x i h = ap (λ (u : ℕ). (u + x) / 2 ^ i % 2) parts ∙ ap (λ (u : ℕ). u % 2) (mul-add-div_right (pow_pos i) (c * 2 ^ (n - suc i) * 2) x) ∙ omega arith
  where
    sum : n - suc i + suc i ≡ n
    sum = omega arith

    two : 2 ^ suc i ≡ 2 * 2 ^ i
    two = omega arith

    parts : c * 2 ^ n ≡ c * 2 ^ (n - suc i) * 2 * 2 ^ i
    parts = ap (λ (u : ℕ). c * u) (ap (λ (u : ℕ). 2 ^ u) (sym sum) ∙ pow-add 2 (n - suc i) (suc i) ∙ ap (λ (u : ℕ). 2 ^ (n - suc i) * u) two)
        ∙ sym (mul_assoc c (2 ^ (n - suc i)) (2 * 2 ^ i)) ∙ sym (mul_assoc (c * 2 ^ (n - suc i)) 2 (2 ^ i))

pub orthant_to_fits : (n : ℕ) (es : List ℕ) → orthant_to n es < 2 ^ n
unfolding orthant_to
orthant_to_fits zero es = omega arith
orthant_to_fits (suc n) es = go (minus_on es (suc n)) (orthant_to_fits n es)
  where
    go : (t : Bool) → orthant_to n es < 2 ^ n → cond t (2 ^ n) 0 + orthant_to n es < 2 ^ suc n
    go true h = omega arith
    go false h = omega arith

digit : Bool → ℕ
digit t = cond t 1 0

digit_times : (t : Bool) (n x : ℕ) → cond t (2 ^ n) 0 + x ≡ digit t * 2 ^ n + x
unfolding digit
digit_times true n x = omega arith
digit_times false n x = omega arith

digit_test : (t : Bool) → eqb (digit t % 2) 1 ≡ t
unfolding digit
digit_test true = refl
digit_test false = refl

pub orthant_to_high : (n : ℕ) (es : List ℕ) (a : ℕ) → 1 ≤ a → a ≤ n → high (orthant_to n es) a ≡ minus_on es a
unfolding orthant_to high
orthant_to_high zero es a h l = absurd (omega arith)
orthant_to_high (suc n) es a h l = go (ℕ_discrete a (suc n)) (orthant_to_high n es a h)
  where
    t : Bool
    t = minus_on es (suc n)

    sum : cond t (2 ^ n) 0 + orthant_to n es ≡ digit t * 2 ^ n + orthant_to n es
    sum = digit_times t n (orthant_to n es)

    go : Dec (a ≡ suc n) → (a ≤ n → eqb (orthant_to n es / 2 ^ (a - 1) % 2) 1 ≡ minus_on es a) → eqb ((cond t (2 ^ n) 0 + orthant_to n es) / 2 ^ (a - 1) % 2) 1 ≡ minus_on es a
    go (yes e) ih = ap (λ (u : ℕ). eqb (u / 2 ^ (a - 1) % 2) 1) sum ∙ ap (λ (u : ℕ). eqb ((digit t * 2 ^ n + orthant_to n es) / 2 ^ u % 2) 1) less
        ∙ ap (λ (u : ℕ). eqb (u % 2) 1) (high_part (digit t) n (orthant_to_fits n es)) ∙ digit_test t ∙ ap (minus_on es) (sym e)
      where
        less : a - 1 ≡ n
        less = omega arith
    go (no e) ih = ap (λ (u : ℕ). eqb (u / 2 ^ (a - 1) % 2) 1) sum ∙ ap (λ (u : ℕ). eqb u 1) (low_bit (digit t) n (orthant_to n es) (a - 1) (omega arith)) ∙ ih (omega arith)

-- a byte is known by its bits
bit_same : (x y : ℕ) → x < 2 → y < 2 → eqb x 1 ≡ eqb y 1 → x ≡ y
bit_same x y h l e = go (ℕ_discrete x 1) (ℕ_discrete y 1)
  where
    go : Dec (x ≡ 1) → Dec (y ≡ 1) → x ≡ y
    go (yes p) (yes q) = omega arith
    go (yes p) (no q) = absurd (q (eqb-true y 1 (sym e ∙ eq-eqb x 1 p)))
    go (no p) (yes q) = absurd (p (eqb-true x 1 (e ∙ eq-eqb y 1 q)))
    go (no p) (no q) = omega arith

-- bit n and the bits below it
module _ (n o p : ℕ) (h : o < 2 ^ suc n) (l : p < 2 ^ suc n) (e : (a : ℕ) → 1 ≤ a → a ≤ suc n → high o a ≡ high p a) where
  small : (x : ℕ) → x < 2 ^ suc n → x / 2 ^ n < 2
  small x q = shr_lt 1 n (subst (λ (u : ℕ). x < 2 ^ u) (omega arith) q)

  whole : (x : ℕ) → x < 2 → x % 2 ≡ x
  whole x q = omega arith

  top_same : o / 2 ^ n ≡ p / 2 ^ n
  unfolding high
  top_same = bit_same (o / 2 ^ n) (p / 2 ^ n) (small o h) (small p l)
      (ap (λ (u : ℕ). eqb u 1) (sym (whole (o / 2 ^ n) (small o h))) ∙ subst (λ (u : ℕ). eqb (o / 2 ^ u % 2) 1 ≡ eqb (p / 2 ^ u % 2) 1) (omega arith) (e (suc n) (omega arith) (omega arith)) ∙ ap (λ (u : ℕ). eqb u 1) (whole (p / 2 ^ n) (small p l)))

  below : (x a : ℕ) → 1 ≤ a → a ≤ n → high x a ≡ high (x % 2 ^ n) a
  unfolding high
  below x a q r = ap (λ (u : ℕ). eqb (u / 2 ^ (a - 1) % 2) 1) (sym (split x n)) ∙ ap (λ (u : ℕ). eqb u 1) (low_bit (x / 2 ^ n) n (x % 2 ^ n) (a - 1) (omega arith))

  rest_same : (a : ℕ) → 1 ≤ a → a ≤ n → high (o % 2 ^ n) a ≡ high (p % 2 ^ n) a
  rest_same a q r = sym (below o a q r) ∙ e a q (omega arith) ∙ below p a q r

pub bits_same : (n o p : ℕ) → o < 2 ^ n → p < 2 ^ n → ((a : ℕ) → 1 ≤ a → a ≤ n → high o a ≡ high p a) → o ≡ p
bits_same zero o p h l e = omega arith
bits_same (suc n) o p h l e = sym (split o n) ∙ rw (top_same n o p h l e, bits_same n (o % 2 ^ n) (p % 2 ^ n) (mod-lt o (pow_pos n)) (mod-lt p (pow_pos n)) (rest_same n o p h l e)) (split p n)

-- the last orthant is the box's own
pub own_snoc : (os : List ℕ) (o a : ℕ) → own_minus (os ++ o ∷ []) a ≡ high o a
unfolding own_minus
own_snoc os o a = ap (λ (u : ℕ). high u a) (get_or_at os o [] 0 (length (os ++ o ∷ []) - 1) (sym less))
  where
    less : length (os ++ o ∷ []) - 1 ≡ length os
    less = simp length-append (omega arith)
