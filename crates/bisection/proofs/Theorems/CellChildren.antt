-- The step of a path is a step of Maubach's bisection: the cell of a path with one step more is child 0 or child 1 of the path's
-- cell. It holds over any dimension, root and path, and said of codes over those that are good.
use Rattle.std.specs.Prelude.{◌≡◌, refl, List, [], ◌∷◌, ◌++◌, ℕ, suc, ◌+◌, ◌≤◌, ◌<◌, length, get_or, take}
use Rattle.std.proofs.Common.{sym, ap, ◌∙◌, arith, zero-add, length-append, take_at}
use Rattle.std.proofs.Math.Decide.{dec_lt}
use Rattle.std.proofs.Math.ListN.{get_or-append}
use Rattle.std.proofs.lemmas.List.{get_or_at}
use Rattle.dimension.specs.Sizes.{greatest_depth, split_place}
use Rattle.bisection.specs.Cells.{Cell, child, root_cell, cell_below, cell_of}
use Rattle.bisection.specs.Roots.{GoodPath}
use Rattle.bisection.specs.Codes.{code_of, IsCodeOf, dimension_of, depth_of}
use Rattle.bisection.specs.Facets.{IsCell}
use Rattle.bisection.proofs.Theorems.CodePaths.{length_root, length_path_of}
use Rattle.bisection.specs.Theorems.CellChildren.{Longer}

below_child : (d : ℕ) (path : List ℕ) (D : ℕ) (vs : Cell) (b : ℕ)
    → cell_below d D vs (path ++ b ∷ []) ≡ child b (split_place d (D + length path)) (cell_below d D vs path)
unfolding cell_below
below_child d [] D vs b = let e : D + 0 ≡ D = omega arith in rw e refl
below_child d (x ∷ path) D vs b = below_child d path (suc D) (child x (split_place d D) vs) b
    ∙ ap (λ (n : ℕ). child b (split_place d n) (cell_below d (suc D) (child x (split_place d D) vs) path)) deeper
  where
    deeper : suc D + length path ≡ D + suc (length path)
    deeper = omega arith

pub cell_of_child : (root path : List ℕ) (b : ℕ) → cell_of root (path ++ b ∷ []) ≡ child b (split_place (length root) (length path)) (cell_of root path)
unfolding cell_of
cell_of_child root path b = rw zero-add at (below_child (length root) path 0 (root_cell root) b)

-- a path is known by the path with one step more
pub shorter : (p q : List ℕ) (x y : ℕ) → p ++ x ∷ [] ≡ q ++ y ∷ [] → p ≡ q
shorter p q x y e = sym (take_at p (x ∷ []) (length p) refl) ∙ ap (take (length p)) e ∙ ap (λ (n : ℕ). take n (q ++ y ∷ [])) size ∙ take_at q (y ∷ []) (length q) refl
  where
    size : length p ≡ length q
    size = omega (arith, simp length-append at (ap length e))

pub longer : (b : ℕ) (path : List ℕ) → Longer (b ∷ path)
longer b [] = record { front = []; last = b; is = refl }
longer b (x ∷ path) = let s = longer x path in record { front = b ∷ s.front; last = s.last; is = ap (λ (l : List ℕ). b ∷ l) s.is }

-- a good path with a step more, where it is not the deepest
pub one_step_more : {d : ℕ} {path : List ℕ} {b : ℕ} → GoodPath d path → b ≤ 1 → length path < greatest_depth d → GoodPath d (path ++ b ∷ [])
one_step_more {d} {path} {b} p w l = record { steps = λ i h. go i (omega (arith, more)) (dec_lt i (length path)); depth = omega (arith, more) }
  where
    more : length (path ++ b ∷ []) ≡ suc (length path)
    more = simp length-append (omega arith)

    go : (i : ℕ) → i < suc (length path) → Dec (i < length path) → get_or (path ++ b ∷ []) i 0 ≤ 1
    go i h (yes q) = rw (get_or-append path (b ∷ []) 0 i q) (p.steps i q)
    go i h (no q) = let e : i ≡ length path = omega arith in rw e (rw (get_or_at path b [] 0 (length path) refl) w)

-- said of codes: the code of the path with one step more is a good path's, and names the child of the code's cell
pub child_code_of : {code answer root path : List ℕ} {b : ℕ} → IsCodeOf code root path → answer ≡ code_of root (path ++ b ∷ []) → b ≤ 1 → depth_of code < greatest_depth (dimension_of code)
    → IsCodeOf answer root (path ++ b ∷ [])
child_code_of c e w l = record { good_root = c.good_root; good_path = one_step_more c.good_path w (rw (length_root c, length_path_of c) l); is = e }

pub child_cell : {code answer root path : List ℕ} {vs : Cell} {b : ℕ} → IsCodeOf code root path → answer ≡ code_of root (path ++ b ∷ []) → b ≤ 1
    → depth_of code < greatest_depth (dimension_of code) → vs ≡ cell_of root path → IsCell answer (child b (split_place (dimension_of code) (depth_of code)) vs)
child_cell {code} {answer} {root} {path} {vs} {b} c e w l is = record {
  root = root;
  path = path ++ b ∷ [];
  is_code = child_code_of c e w l;
  is = rw is (sym (cell_of_child root path b ∙ rw (length_root c, length_path_of c) refl));
}

-- and the code of the path without its last step names the cell whose child it is
pub parent_cell : {code answer root : List ℕ} (path : List ℕ) (b : ℕ) → IsCodeOf code root (path ++ b ∷ []) → answer ≡ code_of root path → IsCell answer (cell_of root path)
parent_cell {root = root} path b c e = record {
  root = root;
  path = path;
  is_code = record { good_root = c.good_root; good_path = record { steps = steps; depth = omega (arith, more, c.good_path.depth) }; is = e };
  is = refl;
}
  where
    more : length (path ++ b ∷ []) ≡ suc (length path)
    more = simp length-append (omega arith)

    steps : (i : ℕ) → i < length path → get_or path i 0 ≤ 1
    steps i h = rw (get_or-append path (b ∷ []) 0 i h) at (c.good_path.steps i (omega (arith, more)))
