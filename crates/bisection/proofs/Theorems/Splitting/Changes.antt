-- Crossing keeps the place, but between siblings. For a cell that has a parent: its facets but one lie inside the parent's, and across
-- those the place is kept; across the one that is left lies the sibling. The facets of a root opposite the ends of its split edge lie in
-- faces of the cube, and any other place is kept.
use Rattle.std.specs.Prelude.{◌≡◌, refl, Bool, false, ◌⊎◌, ◌≢◌, ℕ, suc, ◌-◌, ◌≤◌, ◌<◌, length, get_or}
use Rattle.std.proofs.Common.{sym, ◌∙◌, subst, inl, inr, arith, zero-add, length-append}
use Rattle.std.proofs.Math.Path.{ap}
use mathlib.Core.List.{List, [], ◌∷◌, ◌++◌, Memᴰ}
use Rattle.std.proofs.Math.Decide.{ℕ_discrete}
use Rattle.std.proofs.lemmas.List.{get_or_at}
use Rattle.dimension.specs.Sizes.{cube_side, greatest_depth, split_place}
use Rattle.dimension.specs.Laws.{at_root}
use Rattle.bisection.specs.Cells.{Point, Cell, coordinate, child, root_cell, cell_below, cell_of}
use Rattle.bisection.specs.Roots.{GoodRoot}
use Rattle.bisection.specs.Codes.{code_of, IsCodeOf, dimension_of, depth_of}
use Rattle.bisection.specs.Facets.{facet, InFace, IsCell, Across}
use Rattle.bisection.proofs.Theorems.Axis.{closed_near, closed_far}
use Rattle.bisection.proofs.Theorems.CodePaths.{some_axes, dimension_of_code, depth_of_code, length_root, length_path_of}
use Rattle.bisection.proofs.Theorems.CodeCells.{same_code}
use Rattle.bisection.specs.Theorems.CellChildren.{Longer}
use Rattle.bisection.proofs.Theorems.CellChildren.{cell_of_child, parent_cell, longer}
use Rattle.bisection.specs.Theorems.Drawn.{along}
use Rattle.bisection.proofs.Theorems.Geometry.{root_drawn, root_reads}
use Rattle.bisection.specs.Theorems.Crossing.Points.{OtherPlace}
use Rattle.bisection.proofs.Theorems.Crossing.Points.{mem_facet}
use Rattle.bisection.specs.Theorems.Neighbour.{Neighbour, none, one}
use Rattle.bisection.proofs.Theorems.Neighbour.{neighbour, across_not_face, across_ends, across_determined}
use Rattle.bisection.specs.Theorems.Splitting.Children.{kept_at}
use Rattle.bisection.proofs.Theorems.Splitting.Agreement.{code_of_child, child_dimension, child_is_cell, agree_alone, agree_across}
use Rattle.bisection.specs.Theorems.Splitting.Siblings.{OneHolder}
use Rattle.bisection.proofs.Theorems.Splitting.Siblings.{one_holder, sibling_across}
use Rattle.bisection.specs.Theorems.Splitting.Changes.{TwoChildren}

-- the facets of a root opposite its first and its last vertex lie in faces of the cube
module _ (root : List ℕ) (good : GoodRoot root) where
  size : length (root_cell root) ≡ suc (length root)
  size = (root_drawn root good).sized.size

  -- on the axis of entry p all vertices but i are at one height
  in_face : (p : ℕ) → p < length root → (i height : ℕ) → i ≤ length root → (height ≡ 0) ⊎ (height ≡ cube_side)
      → ((j : ℕ) → j ≤ length root → j ≢ i → along (root_cell root) (get_or root p 0) j ≡ height) → InFace (length root) (facet i (root_cell root))
  in_face p l i height il edge flat = record { a = get_or root p 0; low = good.permutation.low p l; high = good.permutation.high p l; height = height; edge = edge; flat = at }
    where
      at : (v : Point) → Memᴰ v (facet i (root_cell root)) → coordinate v (get_or root p 0) ≡ height
      at v m = let q : OtherPlace v i (root_cell root) = mem_facet (root_cell root) i (omega (arith, size)) m in rw q.is (flat q.place (omega (arith, q.below, size)) q.other)

  root_face : (i : ℕ) → (i ≡ 0) ⊎ (i ≡ length root) → InFace (length root) (facet i (root_cell root))
  root_face i (inl e) = in_face 0 (some_axes good.dimension) i cube_side (omega arith) (inr refl)
      (λ j l n. root_reads root good 0 (some_axes good.dimension) j l ∙ closed_far 0 cube_side false 0 (length root) j (omega arith) l ∙ zero-add cube_side)
  root_face i (inr e) = let d0 = some_axes good.dimension in in_face (length root - 1) (omega arith) i 0 (omega arith) (inl refl)
      (λ j l n. root_reads root good (length root - 1) (omega arith) j l ∙ closed_near 0 cube_side false (length root - 1) (length root) j (omega arith))

module _ {code code' : List ℕ} {i i' : ℕ} (il : i ≤ dimension_of code) (x : Across code i code' i') (n : i' ≢ i) where
  -- a child
  module _ {parent : List ℕ} {ps : Cell} (p : IsCell parent ps) (deep : depth_of parent < greatest_depth (dimension_of parent)) (b : ℕ) (small : b ≤ 1)
      (u : IsCell code (child b (split_place (dimension_of parent) (depth_of parent)) ps)) where
    abbrev k : ℕ
    k = split_place (dimension_of parent) (depth_of parent)

    within : i ≤ dimension_of parent
    within = rw (← (ap dimension_of (same_code u (child_is_cell p b small deep) refl) ∙ child_dimension p b)) il

    -- inside a facet of the parent the place is kept
    not_inside : i ≢ kept_at b k → ⊥
    not_inside o = go (neighbour p h.i h.within)
      where
        h : OneHolder (dimension_of parent) ps (child b k ps) i
        h = one_holder p deep b small i within o

        go : {t : Bool} → Neighbour parent ps h.i t → ⊥
        go (none w a) = agree_alone p deep b small h.within within h.inside u w code' x.shares
        go (one w y) = n (across_determined il x (agree_across p deep b small h.within within h.inside y.shares.cell' y u).across).1

    to_sibling : Dec (i ≡ kept_at b k) → TwoChildren code code'
    to_sibling (no o) = absurd (not_inside o)
    to_sibling (yes e) = record {
      parent = parent;
      ps = ps;
      cell = p;
      below = deep;
      number = b;
      small = small;
      one_child = u;
      other_child = rw (across_determined il x across).0 sibling;
    }
      where
        sibling : IsCell (code_of_child p (1 - b)) (child (1 - b) k ps)
        sibling = child_is_cell p (1 - b) (omega arith) deep

        across : Across code i (code_of_child p (1 - b)) (kept_at (1 - b) k)
        across = rw e (sibling_across p deep b small u sibling)

  -- an end
  at_end : (i ≡ 0) ⊎ (i ≡ split_place (dimension_of code) (depth_of code))
  at_end = go (ℕ_discrete i 0) (ℕ_discrete i (split_place (dimension_of code) (depth_of code)))
    where
      go : Dec (i ≡ 0) → Dec (i ≡ split_place (dimension_of code) (depth_of code)) → (i ≡ 0) ⊎ (i ≡ split_place (dimension_of code) (depth_of code))
      go (yes e) q = inl e
      go (no e) (yes q) = inr q
      go (no e) (no q) = absurd (n ((across_ends x.shares.cell x.shares.cell' il x).inner e q))

  pub place_changes : TwoChildren code code'
  place_changes = go c.path refl
    where
      c : IsCell code x.shares.vs
      c = x.shares.cell

      go : (path : List ℕ) → c.path ≡ path → TwoChildren code code'
      go [] e = absurd (across_not_face c x.shares.cell' il x face)
        where
          depth : depth_of code ≡ 0
          depth = sym (length_path_of c.is_code) ∙ ap length e

          last : split_place (dimension_of code) (depth_of code) ≡ length c.root
          last = rw (depth, ← length_root c.is_code) (at_root (length c.root) (some_axes c.is_code.good_root.dimension)).1

          cell : x.shares.vs ≡ root_cell c.root
          cell = unfold cell_of cell_below in c.is ∙ ap (cell_of c.root) e

          face : InFace (dimension_of code) (facet i x.shares.vs)
          face = rw (cell, ← length_root c.is_code) (root_face c.root c.is_code.good_root i (rw last at at_end))
      go (y ∷ path) e = to_sibling parent deep s.last small u (ℕ_discrete i (kept_at s.last (split_place (dimension_of (code_of c.root s.front)) (depth_of (code_of c.root s.front)))))
        where
          s : Longer (y ∷ path)
          s = longer y path

          is_code : IsCodeOf code c.root (s.front ++ s.last ∷ [])
          is_code = subst (IsCodeOf code c.root) (e ∙ s.is) c.is_code

          parent : IsCell (code_of c.root s.front) (cell_of c.root s.front)
          parent = parent_cell s.front s.last is_code refl

          more : length (s.front ++ s.last ∷ []) ≡ suc (length s.front)
          more = simp length-append (omega arith)

          small : s.last ≤ 1
          small = rw (get_or_at s.front s.last [] 0 (length s.front) refl) at (is_code.good_path.steps (length s.front) (omega (arith, more)))

          deep : depth_of (code_of c.root s.front) < greatest_depth (dimension_of (code_of c.root s.front))
          deep = rw (depth_of_code c.root s.front, dimension_of_code c.root s.front) (omega (arith, more, is_code.good_path.depth))

          u : IsCell code (child s.last (split_place (dimension_of (code_of c.root s.front)) (depth_of (code_of c.root s.front))) (cell_of c.root s.front))
          u = rw (depth_of_code c.root s.front, dimension_of_code c.root s.front)
              (record { root = c.root; path = s.front ++ s.last ∷ []; is_code = is_code; is = sym (cell_of_child c.root s.front s.last) })
