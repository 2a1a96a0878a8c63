-- Crossing and splitting, cell by cell: a crossing seen from a child and from the parent, from the bisection's theorem that the two agree.
use Rattle.std.specs.Prelude.{◌≡◌, refl, Bool, true, false, ◌≢◌, List, [], ◌∷◌, ℕ, ◌-◌, ◌≤◌, ◌<◌, length}
use Rattle.std.proofs.Common.{sym, ap, ◌∙◌, subst, arith}
use Rattle.std.proofs.Math.Decide.{ℕ_discrete}
use Rattle.dimension.specs.Sizes.{greatest_depth, split_place}
use Rattle.bisection.specs.Cells.{child}
use Rattle.bisection.specs.Codes.{dimension_of, depth_of}
use Rattle.bisection.specs.Facets.{facet, InFace, IsCell, Across}
use Rattle.bisection.specs.Weights.{LiesInside}
use Rattle.bisection.proofs.Theorems.CodeCells.{same_code}
use Rattle.bisection.specs.Theorems.Crossing.Skips.{Skipped}
use Rattle.bisection.proofs.Theorems.Crossing.Skips.{skip_other, skipped}
use Rattle.bisection.specs.Theorems.Neighbour.{Neighbour, none, one}
use Rattle.bisection.proofs.Theorems.Neighbour.{neighbour}
use Rattle.bisection.specs.Theorems.Splitting.Children.{kept_at}
use Rattle.bisection.proofs.Theorems.Splitting.Children.{lacks_in}
use Rattle.bisection.specs.Theorems.Splitting.Children as halved
use Rattle.bisection.proofs.Theorems.Splitting.Children as halves
use Rattle.bisection.specs.Theorems.Splitting.Inside.{Lies, whole, part, Holder}
use Rattle.bisection.proofs.Theorems.Splitting.Inside.{holder, lies_inside}
use Rattle.bisection.specs.Theorems.Splitting.Agreement.{number_across, ChildAcross}
use Rattle.bisection.proofs.Theorems.Splitting.Agreement.{number_small, agree_alone, agree_across}
use Rattle.bisection.proofs.Theorems.Splitting.Siblings.{sibling_across}
use Rattle.sheets.specs.Forests.{TreeCell, child_of}
use Rattle.finding.specs.Theorems.OneOfThree.{CellOf}
use Rattle.rings.specs.Compatible.{vertices_of}
use Rattle.rings.specs.Rings.{code_for, LeadsTo}
use Rattle.rings.proofs.Theorems.Shape.{End, at_zero, at_split, lacks, Up, sibling, cousin, Down}
use Rattle.rings.proofs.Theorems.Cells as cells
use Rattle.rings.specs.Theorems.Cells.{bit, shape, LeadsSomewhere}
use Rattle.rings.proofs.Theorems.Cells.{bit_small, bit_of, child_real, child_room, front_real, is_cell, dim_of, depth_of_is, coded_cell, sized, child_points, across_leads, split_in}

-- the end that a child lacks, by its number
pub lacks_is : (d : ℕ) (b : Bool) (c : TreeCell) → halved.lacks (bit b) (split_place d (length c.path)) ≡ lacks (shape d) b c
lacks_is d false c = refl
lacks_is d true c = refl

module _ {d : ℕ} {c : TreeCell} (r : CellOf d c) (deep : length c.path < greatest_depth d) where
  abbrev k : ℕ
  k = split_place d (length c.path)

  k_is : split_place (dimension_of (code_for c)) (depth_of (code_for c)) ≡ split_place d (length c.path)
  k_is = rw (dim_of r, depth_of_is c) refl

  deep_code : depth_of (code_for c) < greatest_depth (dimension_of (code_for c))
  deep_code = rw (dim_of r, depth_of_is c) deep

  k_in : split_place d (length c.path) ≤ d
  k_in = (split_in d (coded_cell r).dimension (length c.path)).1

  k_some : 1 ≤ split_place d (length c.path)
  k_some = (split_in d (coded_cell r).dimension (length c.path)).0

  -- a child by its code
  child_cell : (b : ℕ) → b ≤ 1 → IsCell (code_for (child_of b c)) (child b (split_place (dimension_of (code_for c)) (depth_of (code_for c))) (vertices_of c))
  child_cell b small = rw k_is (subst (IsCell (code_for (child_of b c))) (cells.child_points b r) (is_cell (child_real b small r deep)))

  -- facet j of child b lies inside facet i of the cell
  module _ (b : ℕ) (small : b ≤ 1) {i j : ℕ} (il : i ≤ d) (jl : j ≤ d) (lies : Lies d b (split_place d (length c.path)) i j) where
    inside : LiesInside (facet j (child b (split_place (dimension_of (code_for c)) (depth_of (code_for c))) (vertices_of c))) (facet i (vertices_of c))
    inside = rw k_is (lies_inside (coded_cell r) deep b i j il jl lies)

    -- across facet i lies a cell: then a child of it lies across facet j, at the same place
    pub step_across : {n : TreeCell} {i' : ℕ} → LeadsTo d c i n i' → (b' : Bool) × LeadsTo d (child_of b c) j (child_of (bit b') n) j
    step_across {n} {i'} x = (
      bits.0,
      record {
        cell = child_real b small r deep;
        beyond = child_real (bit bits.0) (bit_small bits.0) x.beyond deep_n;
        facet_of = jl;
        across = subst (λ (l : List ℕ). Across (code_for (child_of b c)) j l j) there a.across;
      },
    )
      where
        a : ChildAcross (code_for (child_of b c)) j (split_place (dimension_of (code_for c)) (depth_of (code_for c))) (vertices_of n) (number_across i i' b)
        a = agree_across (is_cell r) deep_code b small (omega (arith, il, dim_of r)) (omega (arith, jl, dim_of r)) inside (is_cell x.beyond) x.across (child_cell b small)

        bits : (b' : Bool) × (number_across i i' b ≡ bit b')
        bits = bit_of (number_across i i' b) (number_small i i' b small)

        deep_n : length n.path < greatest_depth d
        deep_n = omega (arith, deep, cells.level x)

        points : vertices_of (child_of (bit bits.0) n) ≡ child (number_across i i' b) (split_place (dimension_of (code_for c)) (depth_of (code_for c))) (vertices_of n)
        points = cells.child_points (bit bits.0) x.beyond ∙ ap (λ (m : ℕ). child m (split_place d (length n.path)) (vertices_of n)) (sym bits.1)
            ∙ ap (λ (t : ℕ). child (number_across i i' b) t (vertices_of n)) (ap (split_place d) (cells.level x) ∙ sym k_is)

        there : a.child_code' ≡ code_for (child_of (bit bits.0) n)
        there = same_code a.cell (is_cell (child_real (bit bits.0) (bit_small bits.0) x.beyond deep_n)) (sym points)

    -- facet i lies in a face of the cube: then nothing lies across facet j
    none_across : InFace (dimension_of (code_for c)) (facet i (vertices_of c)) → {n : TreeCell} {j' : ℕ} → LeadsTo d (child_of b c) j n j' → ⊥
    none_across w {n} x = agree_alone (is_cell r) deep_code b small (omega (arith, il, dim_of r)) (omega (arith, jl, dim_of r)) inside (child_cell b small) w (code_for n) x.across.shares

  -- the whole of a facet at an end
  pub down_end : (b : Bool) {n : TreeCell} {j : ℕ} → LeadsTo d c (lacks (shape d) b c) n j → Down (shape d) b c (split_place d (length c.path)) n
  down_end b x = let s = step_across (bit b) (bit_small b) x.facet_of k_in (whole refl (sym (lacks_is d b c))) x in record { b' = s.0; leads = s.1 }

  -- a facet at no end: child 0 has its part at the same place
  pub down_inner : {n : TreeCell} {i j : ℕ} → ¬ End (shape d) c i → LeadsTo d c i n j → Down (shape d) false c i n
  down_inner {n} {i} o x = record { b' = f.0; leads = f.1 }
    where
      s : Skipped d (split_place d (length c.path)) i
      s = skipped (split_place d (length c.path)) i k_in x.facet_of (λ e. o (at_split e))

      f : (b' : Bool) × LeadsTo d (child_of 0 c) i (child_of (bit b') n) i
      f = step_across 0 (omega arith) x.facet_of x.facet_of (part s.from s.below (sym s.is) (sym s.is) (λ e. o (at_zero e))) x

  -- a child's facet is the one to the sibling, or lies inside one of the cell's
  module _ (b : Bool) {n : TreeCell} {i j : ℕ} (x : LeadsTo d (child_of (bit b) c) i n j) where
    to_sibling : i ≡ kept_at (bit b) (split_place d (length c.path)) → Up (shape d) b c i n
    to_sibling e = sibling other.0 (cells.one x s).0
      where
        other : (b' : Bool) × (1 - bit b ≡ bit b')
        other = bit_of (1 - bit b) (omega (arith, bit_small b))

        s : LeadsTo d (child_of (bit b) c) i (child_of (bit other.0) c) (kept_at (1 - bit b) (split_place (dimension_of (code_for c)) (depth_of (code_for c))))
        s = record {
          cell = x.cell;
          beyond = child_real (bit other.0) (bit_small other.0) r deep;
          facet_of = x.facet_of;
          across = subst (λ (m : ℕ). Across (code_for (child_of (bit b) c)) i (code_for (child_of m c)) (kept_at (1 - bit b) (split_place (dimension_of (code_for c)) (depth_of (code_for c))))) other.1
              (subst (λ (u : ℕ). Across (code_for (child_of (bit b) c)) u (code_for (child_of (1 - bit b) c)) (kept_at (1 - bit b) (split_place (dimension_of (code_for c)) (depth_of (code_for c))))) (ap (kept_at (bit b)) k_is ∙ sym e)
              (sibling_across (is_cell r) deep_code (bit b) (bit_small b) (child_cell (bit b) (bit_small b)) (child_cell (1 - bit b) (omega (arith, bit_small b)))));
        }

    to_cousin : (h : Holder d (bit b) (split_place d (length c.path)) i) → Up (shape d) b c i n
    to_cousin h = go (neighbour (is_cell r) h.i (omega (arith, h.within, dim_of r)))
      where
        at_end : Lies d (bit b) (split_place d (length c.path)) h.i i → End (shape d) c h.i → (i ≡ split_place d (length c.path)) × (h.i ≡ lacks (shape d) b c)
        at_end (whole e q) z = (e, q ∙ lacks_is d b c)
        at_end (part t l p q o) z = absurd (not_end z (halves.inner (bit b) (λ s. skip_other (halved.lacks (bit b) (split_place d (length c.path))) t (sym q ∙ s)) o))
          where
            not_end : End (shape d) c h.i → (h.i ≢ 0) × (h.i ≢ split_place d (length c.path)) → ⊥
            not_end (at_zero u) f = f.0 u
            not_end (at_split u) f = f.1 u

        beyond : LeadsSomewhere d c h.i → Up (shape d) b c i n
        beyond y = let s = step_across (bit b) (bit_small b) h.within x.facet_of h.lies y.leads in cousin h.i y.j y.n s.0 y.leads (cells.one x s.1).0 (at_end h.lies)

        go : {t : Bool} → Neighbour (code_for c) (vertices_of c) h.i t → Up (shape d) b c i n
        go (none w a) = absurd (none_across (bit b) (bit_small b) h.within x.facet_of h.lies w x)
        go (one w y) = beyond (across_leads r h.within y)

    child_up : Up (shape d) b c i n
    child_up = go (ℕ_discrete i (kept_at (bit b) (split_place d (length c.path))))
      where
        go : Dec (i ≡ kept_at (bit b) (split_place d (length c.path))) → Up (shape d) b c i n
        go (yes e) = to_sibling e
        go (no e) = to_cousin (holder (bit b) (split_place d (length c.path)) i k_some k_in x.facet_of e (lacks_in (sized r) (split_place d (length c.path)) k_in (bit b)))

pub up : {d : ℕ} (b : Bool) (p : TreeCell) {n : TreeCell} {i j : ℕ} → LeadsTo d (child_of (bit b) p) i n j → Up (shape d) b p i n
up b p x = child_up (front_real p (bit b ∷ []) x.cell) (child_room (bit b) p x.cell) b x
