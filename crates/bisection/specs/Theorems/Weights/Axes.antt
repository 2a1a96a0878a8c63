-- Weights as a function of the place, one axis at a time: what proofs use for the list of a reader.
use Rattle.std.specs.Prelude.{◌≡◌, List, [], ◌∷◌, ℕ, zero, suc, ◌*◌, ◌≤◌}
use Rattle.bisection.specs.Cells.{Point, coordinate}
use Rattle.bisection.specs.Weights.{sum_to}

-- the weighted sum of what stands at the places up to d
abbrev pub mean : ℕ → (ℕ → ℕ) → (ℕ → ℕ) → ℕ
mean d w r = sum_to (suc d) (λ j. w j * r j)

-- weights of sum W, whose mean on each axis is W times the point's coordinate; y a j is vertex j on axis a
pub record Axes (d : ℕ) (y : ℕ → ℕ → ℕ) (p : Point) (W : ℕ) (w : ℕ → ℕ) : Type 0 where
  pub sum : sum_to (suc d) w ≡ W
  pub means : (a : ℕ) → 1 ≤ a → a ≤ d → mean d w (y a) ≡ W * coordinate p a

-- a function as the list of its values
unfoldable pub list_of : ℕ → (ℕ → ℕ) → List ℕ
list_of zero f = []
list_of (suc n) f = f 0 ∷ list_of n (λ j. f (suc j))
