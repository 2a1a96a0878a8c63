-- The small sheet of request No. 4. The old rule passes every good sheet whose leaves are at most one deep: the cell across a facet is as
-- deep as the leaf, so it is a leaf, or a child of one, or the parent of one. The new rule fails at the large leaf's diagonal.
use Rattle.std.specs.Prelude.{refl, List, ℕ, zero, suc, ◌≤◌, ◌<◌, length}
use Rattle.std.proofs.Common.{sym, ◌∙◌, subst, arith}
use Rattle.bisection.specs.Facets.{facet, InFace}
use Rattle.bisection.specs.Refusals.{done}
use Rattle.sheets.specs.Forests.{TreeCell}
use Rattle.sheets.specs.Sheets.{leaf_in, Good, sheet_good}
use Rattle.finding.specs.Theorems.OneOfThree.{CellOf}
use Rattle.rings.specs.Compatible.{vertices_of, OneHasFacet, Compatible}
use Rattle.rings.specs.Rings.{IsLeaf, LeadsTo, Sharer, child_1, child_0}
use Rattle.rings.specs.Theorems.Cells.{LeadsSomewhere}
use Rattle.rings.proofs.Theorems.Cells.{has_across, level, apart, last_small, free_leads}
use Rattle.rings.proofs.Theorems.Lying.{one_below}
use Rattle.rings.proofs.Theorems.Leaves.{leaf_real, one_number, Stands, a_leaf, in_leaf, a_split, stands}
use Rattle.rings.proofs.Theorems.Forms.{forms}
use Rattle.compatible.specs.Compatible.{yes_or_no, CompatibleIs, not_all}
use Rattle.compatible.specs.Determined.{compatible_determined}
use Rattle.demands.specs.Seam.{seam, seam_leaves, CellAcross, NearLeaf, itself, parent, child, Meets, OldRule, Stricter, SeamIs}
use Rattle.demands.specs.Theorems.Cracked.{seam_good, seam_incompatible}

-- what crossing leads to is the same-depth cell across
cell_across : {d : ℕ} {c n : TreeCell} {i j : ℕ} → LeadsTo d c i n j → CellAcross c i n
cell_across x = record {
  good_root = x.beyond.good.good_root;
  good_path = x.beyond.good.good_path;
  axes = x.beyond.axes ∙ sym x.cell.axes;
  depth = level x;
  another = apart x;
  has = (has_across x).all;
}

-- the leaves of a good sheet, and the cell across a facet
module _ {sheet : List ℕ} {n : ℕ} (g : Good sheet n) where
  abbrev d : ℕ
  d = g.dimension

  leaf_is : (m : ℕ) → m < length g.cells → IsLeaf g.cells (leaf_in g.cells m)
  leaf_is m l = record { number = m; small = l; is = refl }

  real : (m : ℕ) → m < length g.cells → CellOf d (leaf_in g.cells m)
  real m l = leaf_real d g.has_dimension g.leaves (leaf_is m l)

  old_by : ((m : ℕ) (l : m < length g.cells) (i : ℕ) → i ≤ length (leaf_in g.cells m).root → ¬ InFace (length (leaf_in g.cells m).root) (facet i (vertices_of (leaf_in g.cells m)))
      → (e : TreeCell) (j : ℕ) → LeadsTo d (leaf_in g.cells m) i e j → NearLeaf g.cells e) → OldRule g.cells
  old_by near = record { holds = go }
    where
      go : (m : ℕ) → m < length g.cells → (i : ℕ) → i ≤ length (leaf_in g.cells m).root
          → ¬ InFace (length (leaf_in g.cells m).root) (facet i (vertices_of (leaf_in g.cells m))) → Meets g.cells (leaf_in g.cells m) i
      go m l i il free = record { across = x.n; is = cell_across x.leads; near = near m l i il free x.n x.j x.leads }
        where
          x : LeadsSomewhere d (leaf_in g.cells m) i
          x = free_leads (real m l) (omega (arith, il, (real m l).axes)) (rw (real m l).axes at free)

  -- no leaf is deeper than one
  module _ (low : (m : ℕ) → m < length g.cells → length (leaf_in g.cells m).path ≤ 1) where
    near_leaf : {e : TreeCell} → CellOf d e → length e.path ≤ 1 → NearLeaf g.cells e
    near_leaf {e} r el = go (stands d g.has_dimension g.leaves r)
      where
        go : Stands d g.has_dimension g.leaves e → NearLeaf g.cells e
        go (a_leaf m) = itself m
        go (in_leaf m l s) = let o = one_below s (omega arith) in parent (leaf_in g.cells m) o.0 o.1 (leaf_is m l)
        go (a_split s) = let o = one_below s.inside (omega (arith, low s.number s.small)) in
            child o.0 (last_small o.0 e (subst (CellOf d) o.1 (real s.number s.small))) (record { number = s.number; small = s.small; is = o.1 })

    low_old : OldRule g.cells
    low_old = old_by (λ m l i il free e j x. near_leaf x.beyond (omega (arith, level x, low m l)))

  -- who has the facet is the cell across, or its parent or a child of it
  compatible_old : Compatible g.cells → OldRule g.cells
  compatible_old c = old_by near
    where
      sharer_near : {e h : TreeCell} {j : ℕ} → IsLeaf g.cells h → Sharer d e j h → NearLeaf g.cells e
      sharer_near m (Sharer.itself q) = itself (subst (IsLeaf g.cells) q m)
      sharer_near {h = h} m (Sharer.parent p) = parent h p.number p.is m
      sharer_near m (child_1 q k) = child 1 (omega arith) (subst (IsLeaf g.cells) q m)
      sharer_near m (child_0 q k) = child 0 (omega arith) (subst (IsLeaf g.cells) q m)

      near : (m : ℕ) (l : m < length g.cells) (i : ℕ) → i ≤ length (leaf_in g.cells m).root → ¬ InFace (length (leaf_in g.cells m).root) (facet i (vertices_of (leaf_in g.cells m)))
          → (e : TreeCell) (j : ℕ) → LeadsTo d (leaf_in g.cells m) i e j → NearLeaf g.cells e
      near m l i il free e j x = sharer_near other ((forms d g.has_dimension g.leaves).sharer (leaf_in g.cells m) e (leaf_in g.cells o.other) i j x (leaf_is m l) other
          (λ q. o.is.another (one_number d g.has_dimension g.leaves o.is.small l q)) o.is.has)
        where
          o : OneHasFacet g.cells m i
          o = c.one m l i il free

          other : IsLeaf g.cells (leaf_in g.cells o.other)
          other = leaf_is o.other o.is.small

pub stricter : Stricter
stricter sheet n g c = compatible_old g c

seam_low : (m : ℕ) → m < 3 → length (leaf_in seam_leaves m).path ≤ 1
seam_low zero l = omega arith
seam_low (suc zero) l = omega arith
seam_low (suc (suc zero)) l = omega arith
seam_low (suc (suc (suc m))) l = absurd (omega arith)

pub seam_answer : CompatibleIs seam (yes_or_no done 0 0)
unfolding seam_good
seam_answer = sheet_good seam_good (not_all seam_incompatible refl)

pub seam_is : SeamIs
unfolding seam_good
seam_is = record {
  good = seam_good;
  leaves = refl;
  old_rule = low_old seam_good seam_low;
  not_compatible = seam_incompatible;
  answer = seam_answer;
  only = λ r a. compatible_determined a seam_answer;
}
