-- One axis of a cell at a time. The closed form of the vertices' coordinates on the axis of entry i (i from 0):
-- the box's near side up to vertex i, then its far side up to vertex k, then its middle. A step of the
-- bisection keeps that form, with the entry where the step rule puts it.
use Rattle.std.specs.Prelude.{◌≡◌, Bool, cond, not, ℕ, suc, ◌+◌, ◌/◌, ◌<◌, ltb, leb, eqb}

-- the box's low side is lo and its side s: near is the low side for a plus and the high side for a minus
abbrev pub near : ℕ → ℕ → Bool → ℕ
near lo s minus = cond minus (lo + s) lo

abbrev pub far : ℕ → ℕ → Bool → ℕ
far lo s minus = near lo s (not minus)

unfoldable pub closed : ℕ → ℕ → Bool → ℕ → ℕ → ℕ → ℕ
closed lo s minus i k j = cond (leb j i) (near lo s minus) (cond (leb j k) (far lo s minus) (lo + s / 2))

-- the child's coordinates, vertex by vertex
abbrev pub mid : ℕ → ℕ → ℕ
mid x y = (x + y) / 2

unfoldable pub row0 : ℕ → (ℕ → ℕ) → ℕ → ℕ
row0 k r j = cond (eqb j k) (mid (r 0) (r k)) (r j)

unfoldable pub row1 : ℕ → (ℕ → ℕ) → ℕ → ℕ
row1 k r j = cond (ltb j k) (r (suc j)) (cond (eqb j k) (mid (r 0) (r k)) (r j))

-- three ways of two numbers
pub data Order (a b : ℕ) : Type 0 where
  under : a < b → Order a b
  same : a ≡ b → Order a b
  over : b < a → Order a b

-- the level's end: k = 0 is k = d in the half box that vertex 0 is in
abbrev pub half_low : ℕ → ℕ → Bool → ℕ
half_low lo s minus = cond minus (lo + s / 2) lo
