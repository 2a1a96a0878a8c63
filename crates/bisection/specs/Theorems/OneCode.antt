-- Two cells, as ordered lists of points, are equal only if their codes are. Up to the place of its entry an axis
-- keeps its first coordinate, so the cell tells the places; the first step tells the side, and so the depth; near
-- and far tell the sign and the box, and the box its orthants.
use Rattle.std.specs.Prelude.{◌≡◌, ℕ}
use Rattle.bisection.specs.Codes.{Name}

pub record SameName (d D D' : ℕ) (m m' : Name) : Type 0 where
  pub depth : D ≡ D'
  pub name : m ≡ m'
