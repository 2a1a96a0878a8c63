-- A path with its last step first, a step 1 as true, so that it is read from its end.
use Rattle.std.specs.Prelude.{◌≡◌, refl, Bool, true, false, cond, List, [], ◌∷◌, ◌++◌, ℕ, zero, suc, ◌+◌, ◌-◌, ◌*◌, ◌%◌, ◌/◌, ◌^◌, ◌≤◌, ◌<◌, length}
use Rattle.std.proofs.Common.{sym, ap, ◌∙◌, arith, mul_assoc, add-mul, mul_left_comm, length-append}
use Rattle.bisection.specs.Theorems.Paths.{Steps}
use Rattle.bisection.proofs.Theorems.Paths.{steps_more}
use Rattle.positions.specs.Positions.{start_of}

-- the step as a byte, and the path as bytes with its first step first
abbrev pub bit : Bool → ℕ
bit b = cond b 1 0

unfoldable pub steps : List Bool → List ℕ
steps [] = []
steps (b ∷ p) = steps p ++ bit b ∷ []

-- the path followed by n zeros
unfoldable pub zeros : ℕ → List Bool → List Bool
zeros zero p = p
zeros (suc n) p = zeros n (false ∷ p)

-- the 1s at the end dropped
unfoldable pub stripped : List Bool → List Bool
stripped [] = []
stripped (true ∷ p) = stripped p
stripped (false ∷ p) = false ∷ p

-- a path read as a number, its first step highest
unfoldable pub number : List Bool → ℕ
number [] = 0
number (b ∷ p) = bit b + 2 * number p

pub steps_length : (p : List Bool) → length (steps p) ≡ length p
unfolding steps
steps_length [] = refl
steps_length (b ∷ p) = simp length-append (omega (arith, steps_length p))

pub steps_good : (p : List Bool) → Steps (steps p)
unfolding steps
steps_good [] = record { small = λ i l. absurd (omega arith) }
steps_good (true ∷ p) = steps_more (steps_good p) 1 (omega arith)
steps_good (false ∷ p) = steps_more (steps_good p) 0 (omega arith)

pub zeros_length : (n : ℕ) (p : List Bool) → length (zeros n p) ≡ n + length p
unfolding zeros
zeros_length zero p = omega arith
zeros_length (suc n) p = omega (arith, zeros_length n (false ∷ p))

pub stripped_short : (p : List Bool) → length (stripped p) ≤ length p
unfolding stripped
stripped_short [] = omega arith
stripped_short (true ∷ p) = omega (arith, stripped_short p)
stripped_short (false ∷ p) = omega arith

-- what is left is empty, or ends in 0
pub record Zero (p : List Bool) : Type 0 where
  pub rest : List Bool
  pub is : stripped p ≡ false ∷ rest

pub zero_last : (p : List Bool) → 0 < length (stripped p) → Zero p
unfolding stripped
zero_last [] h = absurd (omega arith)
zero_last (true ∷ p) h = let z = zero_last p h in record { rest = z.rest; is = z.is }
zero_last (false ∷ p) h = record { rest = p; is = refl }

-- the last step by the number
pub record One (p : List Bool) : Type 0 where
  pub rest : List Bool
  pub is : p ≡ true ∷ rest
  pub half : number p / 2 ≡ number rest

pub one_last : (p : List Bool) → number p % 2 ≡ 1 → One p
unfolding number
one_last [] h = absurd (omega arith)
one_last (true ∷ p) h = record { rest = p; is = refl; half = omega arith }
one_last (false ∷ p) h = absurd (omega arith)

pub none_last : (p : List Bool) → (number p % 2 ≡ 1 → ⊥) → stripped p ≡ p
unfolding number stripped
none_last [] h = refl
none_last (true ∷ p) h = absurd (h (omega arith))
none_last (false ∷ p) h = refl

-- a number has as many bits as the path steps, and zeros double it
twice : (n : ℕ) → 2 ^ suc n ≡ 2 * 2 ^ n
twice n = omega arith

pub number_under : (p : List Bool) → number p + 1 ≤ 2 ^ length p
unfolding number
number_under [] = omega arith
number_under (b ∷ p) = go b (number p) (length p) (number_under p)
  where
    go : (b : Bool) (x n : ℕ) → x + 1 ≤ 2 ^ n → (bit b + 2 * x) + 1 ≤ 2 ^ suc n
    go true x n h = omega arith
    go false x n h = omega arith

pub number_zeros : (n : ℕ) (p : List Bool) → number (zeros n p) ≡ number p * 2 ^ n
unfolding number zeros
number_zeros zero p = omega arith
number_zeros (suc n) p = number_zeros n (false ∷ p) ∙ join (number p) (2 ^ n) ∙ ap (λ (y : ℕ). number p * y) (sym (twice n))
  where
    join : (x z : ℕ) → (0 + 2 * x) * z ≡ x * (2 * z)
    join x z = rw (add-mul 0 (2 * x) z, mul_assoc 2 x z, mul_left_comm x 2 z) (omega arith)

-- one step more on the line
start_more : (M : ℕ) (path : List ℕ) (b : ℕ) → length path < M → start_of M (path ++ b ∷ []) ≡ start_of M path + b * 2 ^ (M - suc (length path))
unfolding start_of
start_more M [] b h = omega arith
start_more zero (x ∷ path) b h = absurd (omega arith)
start_more (suc M) (x ∷ path) b h =
    let e : suc M - 1 ≡ M = omega arith in
    let f : suc M - suc (suc (length path)) ≡ M - suc (length path) = omega arith in
    rw (e, f) (omega (arith, start_more M path b (omega arith)))

-- the part of a cell, halved at a step
pub half_part : (M : ℕ) (p : List Bool) → length p < M → 2 ^ (M - length p) ≡ 2 * 2 ^ (M - suc (length p))
half_part M p h = ap (λ (n : ℕ). 2 ^ n) same ∙ twice (M - suc (length p))
  where
    same : M - length p ≡ suc (M - suc (length p))
    same = omega arith

-- where the cell of a path starts on the line is its number, in parts of its size
pub start_number : (M : ℕ) (p : List Bool) → length p ≤ M → start_of M (steps p) ≡ number p * 2 ^ (M - length p)
unfolding steps number start_of
start_number M [] h = omega arith
start_number M (b ∷ p) h =
    start_more M (steps p) (bit b) (omega (arith, steps_length p))
    ∙ rw (steps_length p, start_number M p (omega arith), half_part M p h) (join (number p) (bit b) (2 ^ (M - suc (length p))))
  where
    join : (x y z : ℕ) → x * (2 * z) + y * z ≡ (y + 2 * x) * z
    join x y z = rw (mul_left_comm x 2 z, add-mul y (2 * x) z, mul_assoc 2 x z) (omega arith)
