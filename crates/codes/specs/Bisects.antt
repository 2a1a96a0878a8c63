-- Children and parents agree with Maubach's bisection, over any dimension: what `child` answers is the code of child 0 or child 1 of
-- the code's cell, and a code's cell is child 0 or child 1 of the cell that `parent` answers.
use Rattle.std.specs.Prelude.{◌≡◌, refl, List, [], ◌∷◌, ◌++◌, ℕ, ◌≤◌, ◌<◌}
use Rattle.std.proofs.Common.{◌∙◌}
use Rattle.dimension.specs.Sizes.{greatest_depth, split_place}
use Rattle.bisection.specs.Cells.{Cell, child}
use Rattle.bisection.specs.Codes.{dimension_of, depth_of}
use Rattle.bisection.specs.Facets.{IsCell}
use Rattle.bisection.proofs.Theorems.CodePaths.{one_path, dimension_of_code, depth_of_code}
use Rattle.bisection.proofs.Theorems.CodeCells.{one_cell}
use Rattle.bisection.proofs.Theorems.CellChildren.{cell_of_child, child_cell, parent_cell}
use Rattle.codes.specs.Outcomes.{ChildOf, ParentOf}

-- the cell of the child's code is that child of the code's cell
pub child_bisects : {which : ℕ} {code answer : List ℕ} {vs : Cell} → ChildOf which code answer → which ≤ 1 → depth_of code < greatest_depth (dimension_of code)
    → IsCell code vs → IsCell answer (child which (split_place (dimension_of code) (depth_of code)) vs)
child_bisects c w l v = child_cell c.is_code c.is w l (v.is ∙ rw ((one_path v.is_code c.is_code).0, (one_path v.is_code c.is_code).1) refl)

-- the code's cell is a child of the cell of the parent's code
pub parent_bisects : {code answer : List ℕ} {vs ws : Cell} (p : ParentOf code answer) → IsCell code vs → IsCell answer ws
    → vs ≡ child p.last (split_place (dimension_of answer) (depth_of answer)) ws
parent_bisects p v w =
    one_cell v (record { root = p.root; path = p.path ++ p.last ∷ []; is_code = p.is_code; is = refl })
    ∙ cell_of_child p.root p.path p.last
    ∙ rw (one_cell w (parent_cell p.path p.last p.is_code p.is), p.is, dimension_of_code p.root p.path, depth_of_code p.root p.path) refl
