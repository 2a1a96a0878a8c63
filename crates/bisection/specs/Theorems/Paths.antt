-- Roots and paths against names, for every dimension d: the name of a root and a path is a cell's, the way up
-- from it gives the root and the path back, and every name that is a cell's is got so.
use Rattle.std.specs.Prelude.{◌≡◌, length, get_or}
use mathlib.Core.List.{List, [], ◌∷◌, ◌++◌}
use Prim.Native.Nat.{ℕ, zero, suc, ◌≤◌, ◌<◌}
use Rattle.bisection.specs.Roots.{Permutation}
use Rattle.bisection.specs.Codes.{Name, root_name}
use Rattle.bisection.specs.Theorems.Passing.{last_step, parent_name}

-- the way up from a name at depth D: its steps, and the root
unfoldable pub path_to : ℕ → ℕ → Name → List ℕ
path_to d zero m = []
path_to d (suc D) m = path_to d D (parent_name d D m) ++ last_step d D m ∷ []

unfoldable pub root_to : ℕ → ℕ → Name → List ℕ
root_to d zero m = m.entries
root_to d (suc D) m = root_to d D (parent_name d D m)

-- the steps of a path are bytes 0 and 1
pub record Steps (path : List ℕ) : Type 0 where
  pub small : (i : ℕ) → i < length path → get_or path i 0 ≤ 1

-- at depth 0 a name is a root's
pub record RootName (d : ℕ) (m : Name) : Type 0 where
  pub size : length m.entries ≡ d
  pub permutation : Permutation m.entries
  pub none : m ≡ root_name m.entries
