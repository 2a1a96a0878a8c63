-- Lists read by their places: a list shifted left with one element put behind, the two children so, the midpoint of two points, and how
-- many bytes a point has.
use Rattle.std.specs.Prelude.{List, ◌∷◌, ◌++◌, take}
use Prim.Native.Nat.{ℕ, suc}
use Rattle.std.proofs.Math.ListN.{drop}
use Rattle.bisection.specs.Cells.{Point, Cell, vertex, midpoint}

-- places 1..n go to 0..n-1, x stands at n, and what is past n stays
unfoldable pub shifted : {A : Type 0} → ℕ → A → List A → List A
shifted n x l = take n (drop 1 l) ++ x ∷ drop (suc n) l

-- the middle of the edge that is split; child 0 has it in the place of vertex k, child 1 is the cell shifted with it put behind
abbrev pub middle : ℕ → Cell → Point
middle k vs = midpoint (vertex vs 0) (vertex vs k)
