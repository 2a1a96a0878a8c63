-- Document 01, "The cube and the bisection" and "Sheets": a root is a permutation of the axes 1..d,
-- and the roots have the dictionary order of their permutations. A path's bytes are 0 or 1.
use Rattle.std.specs.Prelude.{◌≡◌, List, [], ◌∷◌, ◌++◌, map, ℕ, zero, suc, ◌≤◌, ◌<◌, length, get_or, true}
use Rattle.dimension.specs.Sizes.{is_dimension, greatest_depth}

-- each of the d entries is an axis 1..d, and none is repeated
pub record Permutation (axes : List ℕ) : Type 0 where
  pub low : (i : ℕ) → i < length axes → 1 ≤ get_or axes i 0
  pub high : (i : ℕ) → i < length axes → get_or axes i 0 ≤ length axes
  pub apart : (i j : ℕ) → i < length axes → j < length axes → get_or axes i 0 ≡ get_or axes j 0 → i ≡ j

-- a good root: a permutation of the axes of a dimension
pub record GoodRoot (root : List ℕ) : Type 0 where
  pub dimension : is_dimension (length root) ≡ true
  pub permutation : Permutation root

-- a good path: bytes 0 and 1, no deeper than the greatest depth
pub record GoodPath (d : ℕ) (path : List ℕ) : Type 0 where
  pub steps : (i : ℕ) → i < length path → get_or path i 0 ≤ 1
  pub depth : length path ≤ greatest_depth d

-- dictionary order of lists of numbers: by the first place where they differ, a list before those that it begins
pub data Earlier : List ℕ → List ℕ → Type 0 where
  inside : {b : ℕ} {q : List ℕ} → Earlier [] (b ∷ q)
  smaller : {a b : ℕ} {p q : List ℕ} → a < b → Earlier (a ∷ p) (b ∷ q)
  same_step : {a : ℕ} {p q : List ℕ} → Earlier p q → Earlier (a ∷ p) (a ∷ q)

-- the axes from a on, n of them
unfoldable pub axes_from : ℕ → ℕ → List ℕ
axes_from a zero = []
axes_from a (suc n) = a ∷ axes_from (suc a) n

pub record Pick : Type 0 where
  pub first : ℕ
  pub rest : List ℕ

abbrev pub keep : ℕ → Pick → Pick
keep x p = record { first = p.first; rest = x ∷ p.rest }

-- each element of a list, with the others in their order
unfoldable pub picks : List ℕ → List Pick
picks [] = []
picks (x ∷ xs) = record { first = x; rest = xs } ∷ map (keep x) (picks xs)

unfoldable pub joined : List (List (List ℕ)) → List (List ℕ)
joined [] = []
joined (l ∷ ls) = l ++ joined ls

abbrev pub starting_with : ℕ → List ℕ → List ℕ
starting_with x l = x ∷ l

-- the arrangements of n elements, in dictionary order where the elements rise
unfoldable pub arrangements : ℕ → List ℕ → List (List ℕ)
arrangements zero xs = [] ∷ []
arrangements (suc n) xs = joined (map (λ (p : Pick). map (starting_with p.first) (arrangements n p.rest)) (picks xs))

-- all roots of dimension d, in dictionary order: proved as `roots_rise` in positions/specs/DictionaryOrder.antt
unfoldable pub roots : ℕ → List (List ℕ)
roots d = arrangements d (axes_from 1 d)
