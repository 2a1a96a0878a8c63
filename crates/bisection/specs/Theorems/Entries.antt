-- Signed permutations: an entry's axis and sign, the turn of child 1, and its way back. A turn takes every
-- entry from one place, so it keeps a signed permutation one.
use Rattle.std.specs.Prelude.{◌≡◌, cond, List, ◌∷◌, ◌++◌, eqb, ltb, take}
use Prim.Native.Nat.{ℕ, zero, suc, ◌≤◌, ◌<◌}
use Rattle.std.proofs.Math.ListN.{length, get_or, drop}
use Rattle.bisection.specs.Codes.{axis, negated}

-- a signed permutation of the axes 1..d
pub record Signed (d : ℕ) (es : List ℕ) : Type 0 where
  pub size : length es ≡ d
  pub low : (i : ℕ) → i < d → 1 ≤ axis (get_or es i 0)
  pub high : (i : ℕ) → i < d → axis (get_or es i 0) ≤ d
  pub apart : (i j : ℕ) → i < d → j < d → axis (get_or es i 0) ≡ axis (get_or es j 0) → i ≡ j

-- every axis has an entry
pub record Stands (es : List ℕ) (a d : ℕ) : Type 0 where
  pub place : ℕ
  pub below : place < d
  pub is : axis (get_or es place 0) ≡ a

-- the way back: entries 0..n-1 move one place on, entry n comes first, negated
unfoldable pub unturned : ℕ → List ℕ → List ℕ
unturned n es = negated (get_or es n 0) ∷ (take n es ++ drop (suc n) es)

-- the places under a turn: the entry at i came from `source n i`, and went to `target n i`
unfoldable pub source : ℕ → ℕ → ℕ
source n i = cond (ltb i n) (suc i) (cond (eqb i n) 0 i)

unfoldable pub target : ℕ → ℕ → ℕ
target n zero = n
target n (suc i) = cond (ltb i n) i (suc i)
