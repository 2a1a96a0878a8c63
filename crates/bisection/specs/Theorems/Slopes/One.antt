-- Every cell of the bisection has exactly one slope, whatever stands at its vertices, for every dimension; and its closed form: on the
-- axis of entry i, by the entry's sign, what rises along it less what falls.
use Rattle.std.specs.Prelude.{◌≡◌, Bool, cond, List, ℕ, ◌<◌, ℤ, length}
use Rattle.std.proofs.Math.IntN.{sub_ℕ}
use Rattle.dimension.specs.Sizes.{split_place, box_side}
use Rattle.bisection.specs.Cells.{cell_of}
use Rattle.bisection.specs.Codes.{axis, minus, Name, name_of}
use Rattle.bisection.specs.Slopes.{on_axis, Linear}
use Rattle.bisection.specs.Theorems.Drawn.{entry}
use Rattle.bisection.specs.Theorems.Slopes.Rising.{rising, falling}

-- p less q by a sign
abbrev pub by_sign : Bool → ℕ → ℕ → ℤ
by_sign m p q = cond m (sub_ℕ q p) (sub_ℕ p q)

-- the closed form along entry i of a name: for k the split place
unfoldable pub along_entry : ℕ → Name → (ℕ → ℕ) → ℕ → ℤ
along_entry k m f i = by_sign (minus (entry m i)) (rising f k i) (falling f k i)

-- the numbers of a cell's slope: no other list is one, and on the axis of entry i the number has the closed form
pub record OneSlope (root path : List ℕ) (f : ℕ → ℕ) : Type 0 where
  pub numbers : List ℤ
  pub slope : Linear (box_side (length root) (length path)) (cell_of root path) f numbers
  pub others : {ns : List ℤ} → Linear (box_side (length root) (length path)) (cell_of root path) f ns → ns ≡ numbers
  pub closed : (i : ℕ) → i < length root → on_axis numbers (axis (entry (name_of root path) i)) ≡ along_entry (split_place (length root) (length path)) (name_of root path) f i
