-- Points that pass the test of a query are points of the cube, and a coordinate is its two bytes.
use Rattle.std.specs.Prelude.{◌≡◌, refl, true, List, [], ◌∷◌, ℕ, zero, suc, ◌+◌, ◌-◌, ◌*◌, ◌≤◌, ◌<◌, eqb, length, get_or}
use Rattle.std.proofs.Common.{ap, arith}
use borrow.Author.Tests.{leb-true, eqb-true}
use Rattle.dimension.specs.Sizes.{cube_side}
use Rattle.bisection.specs.Cells.{coordinate}
use Rattle.bisection.specs.Refusals.{each}
use Rattle.bisection.proofs.Theorems.Checked.{both, each_at}
use Rattle.points.specs.Points.{point_of, is_point, InCube}
use Rattle.points.specs.Theorems.CubePoints.{in_range}

point_length : (d : ℕ) (bytes : List ℕ) → length bytes ≡ 2 * d → length (point_of bytes) ≡ d
unfolding point_of
point_length zero [] e = refl
point_length (suc d) [] e = absurd (omega arith)
point_length d (x ∷ []) e = absurd (omega arith)
point_length zero (x ∷ y ∷ bytes) e = absurd (omega arith)
point_length (suc d) (x ∷ y ∷ bytes) e = ap suc (point_length d bytes (omega arith))

module _ (d : ℕ) (bytes : List ℕ) (e : is_point d bytes ≡ true) where
  pub point_bytes : length bytes ≡ 2 * d
  unfolding is_point
  point_bytes = eqb-true (length bytes) (2 * d) (both (eqb (length bytes) (2 * d)) (each d (in_range bytes)) e).0

  pub point_in_cube : InCube d (point_of bytes)
  unfolding is_point
  point_in_cube = record {
    axes = point_length d bytes point_bytes;
    in_range = λ a l u. leb-true (coordinate (point_of bytes) a) cube_side (each_at d (in_range bytes) (both (eqb (length bytes) (2 * d)) (each d (in_range bytes)) e).1 (a - 1) (omega arith));
  }

pub coordinate_bytes : (bytes : List ℕ) (a : ℕ) → 1 ≤ a → 2 * a ≤ length bytes → get_or bytes (2 * (a - 1)) 0 + 256 * get_or bytes (2 * (a - 1) + 1) 0 ≡ coordinate (point_of bytes) a
unfolding point_of
coordinate_bytes bytes zero l h = absurd (omega arith)
coordinate_bytes bytes (suc i) l h = let e : suc i - 1 ≡ i = omega arith in rw e (go bytes i (omega arith))
  where
    go : (bytes : List ℕ) (i : ℕ) → 2 * i + 1 < length bytes → get_or bytes (2 * i) 0 + 256 * get_or bytes (2 * i + 1) 0 ≡ get_or (point_of bytes) i 0
    go [] i l = absurd (omega arith)
    go (x ∷ []) i l = absurd (omega arith)
    go (x ∷ y ∷ bytes) zero l = refl
    go (x ∷ y ∷ bytes) (suc i) l = let e : 2 * suc i ≡ suc (suc (2 * i)) = omega arith in let f : suc (suc (2 * i)) + 1 ≡ suc (suc (2 * i + 1)) = omega arith in
        rw (e, f) (go bytes i (omega arith))
