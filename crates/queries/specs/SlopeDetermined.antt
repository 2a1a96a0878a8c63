-- Two outcomes that the contract of the slope query allows are equal: the leaf is one, its slope is, and each component is one f64.
use Rattle.std.specs.Prelude.{◌≡◌, List, ℕ, T, ℤ, length, Result, Ok}
use Rattle.std.proofs.Common.{sym, ap, ◌∙◌, subst}
use Rattle.dimension.specs.Sizes.{box_side}
use Rattle.bisection.specs.declared.Refused.{Refused}
use Rattle.bisection.specs.Refusals.{refused_point}
use Rattle.bisection.specs.Slopes.{Linear}
use Rattle.bisection.specs.Cells.{Point, cell_of}
use Rattle.bisection.specs.Theorems.Slopes.One.{OneSlope}
use Rattle.bisection.proofs.Theorems.Slopes.One.{one_slope}
use Rattle.sheets.specs.Forests.{TreeCell}
use Rattle.sheets.specs.Sheets.{samples_of, leaf_in, sample_width, Good}
use Rattle.sheets.specs.Theorems.Determined.{query_one}
use Rattle.sheets.specs.Theorems.Good.{same_axes}
use Rattle.points.specs.Points.{is_point}
use Rattle.greys.specs.Samples.{sample_at}
use Rattle.slopes.specs.Slopes.{Components, flat_of}
use Rattle.slopes.specs.Determined.{components_one}
use Rattle.slopes.specs.declared.Slopes.{Slopes}
use Rattle.slopes.specs.declared.SlopeAnswer.{SlopeAnswer}
use Rattle.queries.specs.Queries.{cell_in, side_in, LeafAt}
use Rattle.queries.specs.SlopeQueries.{SlopeOn, slope_refused, slope_found, SlopeIs, FlatSlopeIs}
use Rattle.queries.specs.Determined.{same_leaf, good_leaf, same_samples, same_side, side_some, refused_one}

-- the numbers of the leaf's slope are one list
module _ {sheet : List ℕ} {n m : ℕ} (g : Good sheet n) (h : Good sheet m) {p : Point} {i j : ℕ} (a : LeafAt g.cells p i) (b : LeafAt h.cells p j) where
  same_numbers : {ns us : List ℤ} → Linear (side_in g.cells i) (cell_in g.cells i) (sample_at sample_width (samples_of g.records i)) ns
      → Linear (side_in h.cells j) (cell_in h.cells j) (sample_at sample_width (samples_of h.records j)) us → ns ≡ us
  same_numbers {us = us} l k = one.others l ∙ sym (one.others (subst (λ (c : TreeCell). through c (samples_of g.records i)) (sym (same_leaf g h a b))
      (subst (through (leaf_in h.cells j)) (sym (same_samples g h a b)) k)))
    where
      through : TreeCell → List ℕ → Type 0
      through c samples = Linear (box_side (length c.root) (length c.path)) (cell_of c.root c.path) (sample_at sample_width samples) us

      one : OneSlope (leaf_in g.cells i).root (leaf_in g.cells i).path (sample_at sample_width (samples_of g.records i))
      one = one_slope (leaf_in g.cells i).root (leaf_in g.cells i).path (good_leaf g h a b).0.good_root (good_leaf g h a b).0.good_path.depth
          (sample_at sample_width (samples_of g.records i))

pub slope_determined : {sheet point : List ℕ} {v u : Result Slopes Refused} → SlopeIs sheet point v → SlopeIs sheet point u → v ≡ u
slope_determined {sheet} {point} {v} {u} q t = query_one q t (refused_one v u) on
  where
    on : (n m : ℕ) (g : Good sheet n) (h : Good sheet m) → SlopeOn g point v → SlopeOn h point u → v ≡ u
    on n m g h (slope_refused k e) (slope_refused l f) = refused_one v u refused_point 0 e f
    on n m g h (slope_refused k e) (slope_found l b y z f) = absurd (subst T (sym (ap (λ (d : ℕ). is_point d point) (same_axes g h)) ∙ k) (subst T (sym l) tt))
    on n m g h (slope_found k a x z e) (slope_refused l f) = absurd (subst T (ap (λ (d : ℕ). is_point d point) (same_axes g h) ∙ l) (subst T (sym k) tt))
    on n m g h (slope_found {i = i} {ns = ns} k a w c e) (slope_found {ns = us} {x = y} l b w' c' f) = e ∙ ap Ok (components_one (side_some g h a b) c there) ∙ sym f
      where
        there : Components (side_in g.cells i) ns y
        there = subst (λ (l : List ℤ). Components (side_in g.cells i) l y) (sym (same_numbers g h a b w w')) (subst (λ (s : ℕ). Components s us y) (sym (same_side g h a b)) c')

pub flat_slope_determined : {sheet point : List ℕ} {r s : SlopeAnswer} → FlatSlopeIs sheet point r → FlatSlopeIs sheet point s → r ≡ s
flat_slope_determined f g = f.is ∙ ap flat_of (slope_determined f.slope g.slope) ∙ sym g.is
