-- Request No. 1: the slope of the only linear function through numbers that stand at a cell's vertices.
use Rattle.std.specs.Prelude.{◌≡◌, List, ℕ, zero, suc, ◌-◌, ◌<◌, ℤ, pos, ◌+ℤ◌, ◌*ℤ◌, length, get_or}
use Rattle.std.proofs.Math.IntN.{sub_ℕ}
use Rattle.bisection.specs.Cells.{Cell, coordinate, vertex}

-- f 0 + .. + f (n - 1), of whole numbers with a sign
unfoldable pub sumℤ : ℕ → (ℕ → ℤ) → ℤ
sumℤ zero f = pos 0
sumℤ (suc n) f = sumℤ n f +ℤ f n

-- the number on axis a, a from 1; 0 on an axis past the last
abbrev pub on_axis : List ℤ → ℕ → ℤ
on_axis ns a = get_or ns (a - 1) (pos 0)

-- how far vertex j is from vertex i on axis a
abbrev pub apart : Cell → ℕ → ℕ → ℕ → ℤ
apart vs i j a = sub_ℕ (coordinate (vertex vs j) a) (coordinate (vertex vs i) a)

-- f i stands at vertex i. Whole numbers with a sign, one for each axis: for every two vertices, s times the difference of what stands
-- there is the sum over the axes of the number times the difference of the coordinates
pub record Linear (s : ℕ) (vs : Cell) (f : ℕ → ℕ) (ns : List ℤ) : Type 0 where
  pub count : suc (length ns) ≡ length vs
  pub between : (i j : ℕ) → i < length vs → j < length vs → pos s *ℤ sub_ℕ (f j) (f i) ≡ sumℤ (length ns) (λ t. on_axis ns (suc t) *ℤ apart vs i j (suc t))
