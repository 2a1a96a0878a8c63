-- Parts of the line are nested or apart: where the part of a cell holds the start of another, one of the two lies in the other.
use Rattle.std.specs.Prelude.{◌≡◌, List, [], ◌∷◌, ◌++◌}
use Rattle.std.proofs.Math.Path.{refl, ap}
use Prim.Native.Nat.{ℕ, zero, suc, ◌+◌, ◌-◌, ◌*◌, ◌^◌, ◌≤◌, ◌<◌}
use native.Mathlib.Omega.{arith}
use Rattle.std.proofs.Math.Decide.{dec_lt}
use Rattle.std.proofs.Common.{mul-le-mul_right, get_or-append-add, pow_pos}
use Rattle.std.proofs.Math.ListN.{length, length-append}
use Rattle.std.proofs.Math.Pow.{pow-lt}
use Rattle.bisection.specs.Theorems.Paths.{Steps}
use Rattle.bisection.proofs.Theorems.Paths.{steps_rest}
use Rattle.positions.specs.Positions.{start_of, size_of}
use Rattle.finding.specs.Sizes.{start_joined}

-- a part ends within the stretch
pub part_ends : (M : ℕ) (path : List ℕ) → Steps path → length path ≤ M → start_of M path + size_of M path ≤ 2 ^ M
unfolding start_of size_of
part_ends M [] s l = let whole : M - 0 ≡ M = omega arith in rw whole (omega arith)
part_ends zero (b ∷ path) s l = absurd (omega arith)
part_ends (suc M) (b ∷ path) s l = let less : suc M - 1 ≡ M = omega arith in let rest : suc M - suc (length path) ≡ M - length path = omega arith in
    rw (less, rest) (step b (s.small 0 (omega arith)) (part_ends M path (steps_rest s) (omega arith)))
  where
    step : (b : ℕ) → b ≤ 1 → start_of M path + 2 ^ (M - length path) ≤ 2 ^ M → b * 2 ^ M + start_of M path + 2 ^ (M - length path) ≤ 2 ^ suc M
    step zero h e = omega arith
    step (suc zero) h e = omega arith
    step (suc (suc b)) h e = absurd (omega arith)

-- the longer the path, the smaller the part
pub size_longer : (M : ℕ) (p q : List ℕ) → length p < length q → length q ≤ M → size_of M q < size_of M p
unfolding size_of
size_longer M p q h l = pow-lt {i = M - length q} {j = M - length p} (omega arith)

pub size_same : (M : ℕ) (p q : List ℕ) → length p ≡ length q → size_of M p ≡ size_of M q
size_same M p q e = unfold size_of in ap (λ (n : ℕ). 2 ^ (M - n)) e

pub size_some : (M : ℕ) (path : List ℕ) → 0 < size_of M path
unfolding size_of
size_some M path = pow_pos (M - length path)

-- one path goes on from the other; where it is the first that is longer, it starts where the second one does
pub data Nested (M : ℕ) (p q : List ℕ) : Type 0 where
  goes_on : (rest : List ℕ) → q ≡ p ++ rest → Nested M p q
  begins : (rest : List ℕ) → p ≡ q ++ rest → length q < length p → start_of M p ≡ start_of M q → Nested M p q

-- of two places in stretches of one length: where the second is in a part that the first starts, the stretch is the same
pub same_stretch : (S m n p q size : ℕ) → m * S + p ≤ n * S + q → n * S + q < m * S + p + size → p + size ≤ S → q < S → m ≡ n
same_stretch S m n p q size a b c d = go (dec_lt m n) (dec_lt n m)
  where
    go : Dec (m < n) → Dec (n < m) → m ≡ n
    go (yes h) k = absurd (omega (arith, mul-le-mul_right {m = suc m} {n = n} S h))
    go (no h) (yes k) = absurd (omega (arith, mul-le-mul_right {m = suc n} {n = m} S k))
    go (no h) (no k) = omega arith

-- under a first step
nested_under : {M : ℕ} {p q : List ℕ} (x y : ℕ) → x ≡ y → Nested M p q → Nested (suc M) (x ∷ p) (y ∷ q)
unfolding start_of
nested_under x y e (goes_on rest is) = goes_on rest (cc)
nested_under {M} {p} {q} x y e (begins rest is l starts) = let less : suc M - 1 ≡ M = omega arith in begins rest (cc) (omega arith) (rw (less, e, starts) refl)

pub nested : (M : ℕ) (p q : List ℕ) → Steps p → Steps q → length p ≤ M → length q ≤ M → start_of M p ≤ start_of M q → start_of M q < start_of M p + size_of M p → Nested M p q
unfolding start_of
nested M [] q s t l k a b = goes_on q refl
nested M (x ∷ p) [] s t l k a b = begins (x ∷ p) refl (omega arith) (omega arith)
nested zero (x ∷ p) (y ∷ q) s t l k a b = absurd (omega arith)
nested (suc M) (x ∷ p) (y ∷ q) s t l k a b = nested_under x y same (nested M p q (steps_rest s) (steps_rest t) (omega arith) (omega arith) (omega (arith, low, same_part)) (omega (arith, high, same_part)))
  where
    less : suc M - 1 ≡ M
    less = omega arith

    size : size_of (suc M) (x ∷ p) ≡ size_of M p
    size = unfold size_of in let e : suc M - suc (length p) ≡ M - length p = omega arith in rw e refl

    low : x * 2 ^ M + start_of M p ≤ y * 2 ^ M + start_of M q
    low = rw less at a

    high : y * 2 ^ M + start_of M q < x * 2 ^ M + start_of M p + size_of M p
    high = rw (less, size) at b

    same : x ≡ y
    same = same_stretch (2 ^ M) x y (start_of M p) (start_of M q) (size_of M p) low high (part_ends M p (steps_rest s) (omega arith)) (omega (arith, part_ends M q (steps_rest t) (omega arith), size_some M q))

    same_part : x * 2 ^ M ≡ y * 2 ^ M
    same_part = ap (λ (n : ℕ). n * 2 ^ M) same

-- the part of a path that goes on lies in the part of the path
pub part_inside : (M : ℕ) (path rest : List ℕ) → Steps (path ++ rest) → length (path ++ rest) ≤ M
    → (start_of M path ≤ start_of M (path ++ rest)) × (start_of M (path ++ rest) + size_of M (path ++ rest) ≤ start_of M path + size_of M path)
part_inside M path rest s l = (omega (arith, start_joined M path rest), omega (arith, start_joined M path rest, part_ends (M - length path) rest behind (omega (arith, length-append path rest)), sizes))
  where
    behind : Steps rest
    behind = record { small = λ i h. rw (← get_or-append-add path rest i 0) (s.small (length path + i) (omega (arith, length-append path rest))) }

    sizes : (2 ^ (M - length path) ≡ size_of M path) × (size_of (M - length path) rest ≡ size_of M (path ++ rest))
    sizes = unfold size_of in (refl, let e : M - length path - length rest ≡ M - length (path ++ rest) = omega (arith, length-append path rest) in rw e refl)
