-- The leaves of a good sheet by sizes. They fill the line of all roots, so each starts where the sizes of those before it add up to.
use Rattle.std.specs.Prelude.{◌≡◌, List, [], ◌∷◌, ◌++◌, length, get_or, drop}
use Rattle.std.proofs.Math.Path.{refl, ap}
use Rattle.std.proofs.Common.{◌∙◌, length-drop, get_or-drop, drop-drop}
use Prim.Native.Nat.{ℕ, zero, suc, ◌+◌, ◌-◌, ◌*◌, ◌^◌, ◌≤◌, ◌<◌}
use native.Mathlib.Omega.{arith}
use Rattle.std.proofs.Math.Decide.{dec_lt}
use Rattle.bisection.specs.Roots.{roots}
use Rattle.positions.specs.Positions.{start_of, size_of}
use Rattle.positions.specs.RootNumbers.{number_in, roots_number}
use Rattle.sheets.specs.Forests.{TreeCell}
use Rattle.sheets.specs.Sheets.{leaf_in}
use Rattle.sheets.specs.Theorems.Tiles.{Tiles, filled, part, turn}

-- the sizes of the first n leaves
unfoldable pub sizes_to : ℕ → List TreeCell → ℕ → ℕ
sizes_to M cs zero = 0
sizes_to M [] (suc n) = 0
sizes_to M (c ∷ cs) (suc n) = size_of M c.path + sizes_to M cs n

pub sizes_none : (M : ℕ) (cs : List TreeCell) → sizes_to M cs 0 ≡ 0
sizes_none M cs = unfold sizes_to in refl

pub sizes_next : (M : ℕ) (cs : List TreeCell) (n : ℕ) → n < length cs → sizes_to M cs (suc n) ≡ sizes_to M cs n + size_of M (leaf_in cs n).path
unfolding sizes_to
sizes_next M [] n l = absurd (omega arith)
sizes_next M (c ∷ cs) zero l = omega arith
sizes_next M (c ∷ cs) (suc n) l = omega (arith, sizes_next M cs n (omega arith))

pub sizes_past : (M : ℕ) (cs : List TreeCell) (n : ℕ) → length cs ≤ n → sizes_to M cs n ≡ sizes_to M cs (length cs)
unfolding sizes_to
sizes_past M [] zero l = refl
sizes_past M [] (suc n) l = refl
sizes_past M (c ∷ cs) zero l = absurd (omega arith)
sizes_past M (c ∷ cs) (suc n) l = ap (λ (k : ℕ). size_of M c.path + k) (sizes_past M cs n (omega arith))

pub sizes_rise : (M : ℕ) (cs : List TreeCell) (i j : ℕ) → i < j → i < length cs → sizes_to M cs i + size_of M (leaf_in cs i).path ≤ sizes_to M cs j
unfolding sizes_to
sizes_rise M [] i j h l = absurd (omega arith)
sizes_rise M (c ∷ cs) i zero h l = absurd (omega arith)
sizes_rise M (c ∷ cs) zero (suc j) h l = omega arith
sizes_rise M (c ∷ cs) (suc i) (suc j) h l = omega (arith, sizes_rise M cs i j (omega arith) (omega arith))

-- a place is in the part of one leaf only
pub sizes_one : (M : ℕ) (cs : List TreeCell) (place i j : ℕ) → i < length cs → j < length cs → sizes_to M cs i ≤ place → place < sizes_to M cs i + size_of M (leaf_in cs i).path
    → sizes_to M cs j ≤ place → place < sizes_to M cs j + size_of M (leaf_in cs j).path → i ≡ j
sizes_one M cs place i j l m a b a' b' = go (dec_lt i j) (dec_lt j i)
  where
    go : Dec (i < j) → Dec (j < i) → i ≡ j
    go (yes q) r = absurd (omega (arith, sizes_rise M cs i j q l))
    go (no q) (yes r) = absurd (omega (arith, sizes_rise M cs j i r m))
    go (no q) (no r) = omega arith

-- a leaf starts where the sizes of those before it add up to
module _ (d M : ℕ) where
  head_number : (n : ℕ) {r : List ℕ} {rs : List (List ℕ)} → r ∷ rs ≡ drop n (roots d) → number_in d r d ≡ n
  head_number n {r} {rs} e = ap (λ (r : List ℕ). number_in d r d) is ∙ roots_number d n (omega (arith, ap length e, length-drop n (roots d)))
    where
      n_zero : n + 0 ≡ n
      n_zero = omega arith

      is : r ≡ get_or (roots d) n []
      is = ap (λ (l : List (List ℕ)). get_or l 0 []) e ∙ get_or-drop n (roots d) 0 [] ∙ ap (λ (m : ℕ). get_or (roots d) m []) n_zero

  rest_of : (n : ℕ) {r : List ℕ} {rs : List (List ℕ)} → r ∷ rs ≡ drop n (roots d) → rs ≡ drop (suc n) (roots d)
  rest_of n e = ap (drop 1) e ∙ drop-drop 1 n (roots d) ∙ ap (λ (m : ℕ). drop m (roots d)) more
    where
      more : n + 1 ≡ suc n
      more = omega arith

  pub tiles_sum : {at : ℕ} {rs : List (List ℕ)} {cs : List TreeCell} (n : ℕ) → Tiles M rs at cs → rs ≡ drop n (roots d) → (i : ℕ) → i < length cs
      → number_in d (leaf_in cs i).root d * 2 ^ M + start_of M (leaf_in cs i).path ≡ n * 2 ^ M + at + sizes_to M cs i
  unfolding sizes_to
  tiles_sum n filled e i l = absurd (omega arith)
  tiles_sum n (part {r = r} path t) e zero l = ap (λ (m : ℕ). m * 2 ^ M + start_of M path) (head_number n e) ∙ omega arith
  tiles_sum n (part path t) e (suc i) l = tiles_sum n t e i (omega arith) ∙ omega arith
  tiles_sum {cs = cs} n (turn t) e i l = tiles_sum (suc n) t (rest_of n e) i l ∙ omega arith

-- all of them fill all stretches
pub tiles_total : {M at : ℕ} {rs : List (List ℕ)} {cs : List TreeCell} → Tiles M rs at cs → at + sizes_to M cs (length cs) ≡ length rs * 2 ^ M
unfolding sizes_to
tiles_total filled = omega arith
tiles_total {M} (part {rs = rs} path t) = omega (arith, tiles_total t)
tiles_total {M} (turn {rs = rs} t) = omega (arith, tiles_total t)

-- every place before the end is in the part of a leaf
pub record Holds (M : ℕ) (cs : List TreeCell) (place n : ℕ) : Type 0 where
  pub small : n < length cs
  pub low : sizes_to M cs n ≤ place
  pub high : place < sizes_to M cs n + size_of M (leaf_in cs n).path

pub record Some (M : ℕ) (cs : List TreeCell) (place : ℕ) : Type 0 where
  pub number : ℕ
  pub holds : Holds M cs place number

pub sizes_some : (M : ℕ) (cs : List TreeCell) (place : ℕ) → place < sizes_to M cs (length cs) → Some M cs place
unfolding sizes_to
sizes_some M [] place l = absurd (omega arith)
sizes_some M (c ∷ cs) place l = go (dec_lt place (size_of M c.path)) (sizes_some M cs (place - size_of M c.path))
  where
    go : Dec (place < size_of M c.path) → (place - size_of M c.path < sizes_to M cs (length cs) → Some M cs (place - size_of M c.path)) → Some M (c ∷ cs) place
    go (yes h) on = record { number = 0; holds = record { small = omega arith; low = omega arith; high = omega arith } }
    go (no h) on = let o = on (omega arith) in record { number = suc o.number; holds = record { small = omega (arith, o.holds.small); low = omega (arith, o.holds.low); high = omega (arith, o.holds.high) } }

-- a path that goes on starts within the part
pub start_joined : (M : ℕ) (path rest : List ℕ) → start_of M (path ++ rest) ≡ start_of M path + start_of (M - length path) rest
unfolding start_of
start_joined M [] rest = omega (arith, ap (λ (n : ℕ). start_of n rest) (all M))
  where
    all : (M : ℕ) → M - 0 ≡ M
    all M = omega arith
start_joined M (b ∷ path) rest = omega (arith, start_joined (M - 1) path rest, ap (λ (n : ℕ). start_of n rest) (less M (length path)))
  where
    less : (M n : ℕ) → M - 1 - n ≡ M - suc n
    less M n = omega arith
