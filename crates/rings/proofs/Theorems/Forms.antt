-- The claim about the forms, for the leaves of a forest on all roots of a dimension.
use Rattle.std.specs.Prelude.{◌≡◌, Bool, true, false, ◌≢◌, List, ℕ}
use Rattle.std.proofs.Common.{ap, ◌∙◌, subst}
use Rattle.dimension.specs.Sizes.{is_dimension, greatest_depth}
use Rattle.bisection.specs.Roots.{roots}
use Rattle.bisection.specs.Facets.{facet, HasAll}
use Rattle.sheets.specs.Forests.{TreeCell, child_of, Leaves}
use Rattle.finding.specs.Theorems.OneOfThree.{CellOf}
use Rattle.rings.specs.Compatible.{vertices_of, Compatible}
use Rattle.rings.specs.Rings.{IsLeaf, IsSplit, Present, leaf, split, LeadsTo, Parent, Sharer, itself, parent, child_1, child_0, Matched, present, AllPass, FirstPass, WholeRings, Forms}
use Rattle.rings.specs.Rings as rings
use Rattle.rings.proofs.Theorems.Shape.{End, at_zero, at_split}
use Rattle.rings.proofs.Theorems.Forests.{split_present}
use Rattle.rings.specs.Theorems.Forests as forest
use Rattle.rings.proofs.Theorems.Forests as forests
use Rattle.rings.proofs.Theorems.Sharers as sharers
use Rattle.rings.proofs.Theorems.Whole as whole
use Rattle.rings.specs.Theorems.Cells.{bit, shape}
use Rattle.rings.proofs.Theorems.Cells.{bit_of, last_small}
use Rattle.rings.proofs.Theorems.Bisected.{bisected}
use Rattle.rings.proofs.Theorems.Leaves.{splits, leaf_in_is, leaf_out, leaf_real, compatible_in, compatible_out}

-- the words of Rings and those of the theory
module _ {d : ℕ} {n e : TreeCell} {j : ℕ} where
  sharer_out : sharers.Sharer (shape d) n j e → Sharer d n j e
  sharer_out (sharers.Sharer.same q) = itself q
  sharer_out (sharers.Sharer.upper b q p) = parent (record { number = bit b; is = q; newest = p })
  sharer_out (sharers.Sharer.lower false q p) = child_0 q p
  sharer_out (sharers.Sharer.lower true q p) = child_1 q p

  parent_in : CellOf d n → (p : Parent d n j e) → (b : Bool) × (n ≡ child_of (bit b) e)
  parent_in r p = let o = bit_of p.number (last_small p.number e (subst (CellOf d) p.is r)) in (o.0, p.is ∙ ap (λ (b : ℕ). child_of b e) o.1)

  sharer_in : CellOf d n → Sharer d n j e → sharers.Sharer (shape d) n j e
  sharer_in r (itself q) = sharers.Sharer.same q
  sharer_in r (parent p) = let o = parent_in r p in sharers.Sharer.upper o.0 o.1 p.newest
  sharer_in r (child_1 q p) = sharers.Sharer.lower true q p
  sharer_in r (child_0 q p) = sharers.Sharer.lower false q p

module _ (d : ℕ) {leaves : List TreeCell} (known : is_dimension d ≡ true) (v : Leaves (roots d) (greatest_depth d) leaves) where
  present_out : {n : TreeCell} → CellOf d n → forest.Present (shape d) (IsSplit leaves) n → Present leaves n
  present_out {n} r p = go ((splits d known v).test n r)
    where
      go : Dec (IsSplit leaves n) → Present leaves n
      go (yes s) = split s
      go (no s) = leaf (leaf_out d known v (record { present = p; whole = s }))

  present_in : {n : TreeCell} → Present leaves n → forest.Present (shape d) (IsSplit leaves) n
  present_in (leaf m) = (leaf_in_is d known v m).present
  present_in (split s) = split_present (bisected d known) (splits d known v) s

  -- ---- who has a facet
  facet_sharer : {c n e : TreeCell} {i j : ℕ} → LeadsTo d c i n j → IsLeaf leaves c → IsLeaf leaves e → e ≢ c → HasAll (facet i (vertices_of c)) (vertices_of e) → Sharer d n j e
  facet_sharer x l m o h = sharer_out (whole.leaf_sharer (bisected d known) (splits d known v) x (leaf_in_is d known v l) (leaf_in_is d known v m) o (record { facet_of = x.facet_of; all = h }))

  sharer_facet : {c n e : TreeCell} {i j : ℕ} → LeadsTo d c i n j → IsLeaf leaves e → Sharer d n j e → (e ≢ c) × HasAll (facet i (vertices_of c)) (vertices_of e)
  sharer_facet x m h = let k = sharer_in x.beyond h in (whole.sharer_another (bisected d known) (splits d known v) x k, (sharers.sharer_has (bisected d known) x (leaf_real d known v m) k).all)

  one_sharer : {c n e e' : TreeCell} {i j : ℕ} → LeadsTo d c i n j → IsLeaf leaves e → IsLeaf leaves e' → Sharer d n j e → Sharer d n j e' → e ≡ e'
  one_sharer x m m' h h' = whole.one_sharer (bisected d known) (splits d known v) (leaf_in_is d known v m) (leaf_in_is d known v m') (sharer_in x.beyond h) (sharer_in x.beyond h')

  -- ---- one look for each facet
  matched_in : {n : TreeCell} {j : ℕ} → CellOf d n → Matched d leaves n j → forests.Matched (shape d) (IsSplit leaves) n j
  matched_in r (present p) = forests.Matched.there (present_in p)
  matched_in r (rings.Matched.parent e m p) = let o = parent_in r p in forests.Matched.larger o.0 e o.1 (leaf_in_is d known v m) p.newest

  matched_out : {n : TreeCell} {j : ℕ} → CellOf d n → forests.Matched (shape d) (IsSplit leaves) n j → Matched d leaves n j
  matched_out r (forests.Matched.there p) = present (present_out r p)
  matched_out r (forests.Matched.larger b e q m p) = rings.Matched.parent e (leaf_out d known v m) (record { number = bit b; is = q; newest = p })

  pub compatible_pass : Compatible leaves → AllPass d leaves
  compatible_pass k c l i il n j x = matched_out x.beyond (whole.compatible_pass (bisected d known) (splits d known v) (compatible_in d known v k) c n i j (leaf_in_is d known v l) x)

  compatible_first : Compatible leaves → FirstPass d leaves
  compatible_first k c l i il i0 = compatible_pass k (child_of 0 c) l i il

  pub first_compatible : FirstPass d leaves → Compatible leaves
  first_compatible k = compatible_out d known v (whole.first_compatible (bisected d known) (splits d known v) (λ c n i j l i0 x. matched_in x.beyond (k c (leaf_out d known v l) i x.facet_of i0 n j x)))

  pass_compatible : AllPass d leaves → Compatible leaves
  pass_compatible k = first_compatible (λ c l i il i0. k (child_of 0 c) l i il)

  -- ---- whole rings
  pub compatible_rings : Compatible leaves → WholeRings d leaves
  compatible_rings k c s i il i0 ik n j x = whole.compatible_whole (bisected d known) (splits d known v) (compatible_in d known v k) c n i j s neither x
    where
      neither : ¬ End (shape d) c i
      neither (at_zero e) = i0 e
      neither (at_split e) = ik e

  pub rings_compatible : WholeRings d leaves → Compatible leaves
  rings_compatible k = compatible_out d known v (whole.whole_compatible (bisected d known) (splits d known v) (λ c n i j s o x. k c s i x.facet_of (λ e. o (at_zero e)) (λ e. o (at_split e)) n j x))

  pub forms : Forms d leaves
  forms = record {
    sharer = λ c n e i j x l m o h. facet_sharer x l m o h;
    has = λ c n e i j x m h. sharer_facet x m h;
    one = λ c n e e' i j x m m' h h'. one_sharer x m m' h h';
    passes = (compatible_pass, pass_compatible);
    firsts = (compatible_first, first_compatible);
    rings = (compatible_rings, rings_compatible);
  }
