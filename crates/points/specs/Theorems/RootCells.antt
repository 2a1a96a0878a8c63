-- The weights of a point in a root's cell. On the axis of the root's entry i the vertices up to i are at 0 and those past it at the
-- cube's side, so what weighs the vertices up to i is what lacks to the point's coordinate there: a point lies in the cell exactly
-- when its coordinates fall along the root, and its weights are their falls.
use Rattle.std.specs.Prelude.{cond, List, [], ◌∷◌, leb, get_or}
use Prim.Native.Nat.{ℕ, zero, suc, ◌-◌, ◌≤◌}
use Rattle.std.proofs.Math.ListN.{length}
use Rattle.dimension.specs.Sizes.{cube_side}
use Rattle.bisection.specs.Cells.{Point, coordinate}

-- v falls along a list, from b on
pub data Falls (v : ℕ → ℕ) : ℕ → List ℕ → Type 0 where
  falls_none : {b : ℕ} → Falls v b []
  falls_more : {b x : ℕ} {xs : List ℕ} → v x ≤ b → Falls v (v x) xs → Falls v b (x ∷ xs)

-- the cube's side, the coordinates along the root, then 0: the weights are the falls of this
unfoldable pub height : Point → List ℕ → ℕ → ℕ
height p root zero = cube_side
height p root (suc j) = cond (leb (suc j) (length root)) (coordinate p (get_or root j 0)) 0

abbrev pub root_weight : Point → List ℕ → ℕ → ℕ
root_weight p root j = height p root j - height p root (suc j)
