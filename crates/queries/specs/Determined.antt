-- Two outcomes that the contract of the leaf query or of the value query allows are equal: a sheet is good in one way only, a point has one
-- leaf there, and the leaf's weights, samples and value are one.
use Rattle.std.specs.Prelude.{◌≡◌, refl, List, [], ◌∷◌, ◌++◌, ℕ, zero, suc, ◌*◌, ◌<◌, T, length, take, drop, Float, Result, Ok, Err}
use Rattle.std.proofs.Common.{sym, ap, ◌∙◌, subst, arith, take_at, drop_at}
use Rattle.std.proofs.Math.Decide.{dec_lt}
use Rattle.dimension.specs.Sizes.{box_side}
use Rattle.dimension.specs.Laws.{side_of}
use Rattle.bisection.specs.Cells.{Point, point_bytes}
use Rattle.bisection.specs.Codes.{code_of}
use Rattle.bisection.specs.declared.Refused.{Refused}
use Rattle.bisection.specs.Refusals.{done, refused_point}
use Rattle.bisection.specs.NumberLaws.{one_refusal}
use Rattle.bisection.proofs.Theorems.CodePaths.{some_axes}
use Rattle.bisection.proofs.Theorems.Ladders.{held_at}
use Rattle.sheets.specs.Forests.{TreeCell}
use Rattle.sheets.specs.Sheets.{Records, none, more, samples_of, leaf_in, sample_width, Good}
use Rattle.sheets.specs.Theorems.Determined.{query_one}
use Rattle.sheets.specs.Theorems.Good.{same_cells, same_axes}
use Rattle.sheets.specs.Theorems.Listing.{GoodCell}
use Rattle.points.specs.Points.{point_of, is_point}
use Rattle.points.proofs.Theorems.Cells.{weights_one}
use Rattle.points.proofs.Theorems.CubePoints.{point_in_cube}
use Rattle.greys.specs.Fractions.{Fraction}
use Rattle.greys.specs.Samples.{grey_sum}
use Rattle.greys.specs.Exact.{fraction_one}
use Rattle.greys.specs.Values.{flat_of}
use Rattle.greys.specs.declared.ValueAnswer.{ValueAnswer}
use Rattle.queries.specs.declared.LeafAnswer.{LeafAnswer}
use Rattle.queries.specs.Queries.{side_in, LeafAt, LeafWeights, weights_length, leaf_refusal, leaf_told, LeafOn, leaf_refused, leaf_found, LeafIs, Tells, RefusedAt, ValueOn, value_refused, value_found, ValueIs, FlatValueIs}
use Rattle.finding.specs.Walk.{leaf_good}

-- there is one leaf at a point
pub leaf_one : {cs : List TreeCell} {p : Point} {i j : ℕ} → LeafAt cs p i → LeafAt cs p j → i ≡ j
leaf_one {i = i} {j = j} a b = go (dec_lt i j) (dec_lt j i)
  where
    go : Dec (i < j) → Dec (j < i) → i ≡ j
    go (yes l) m = absurd (b.first i l a.inside)
    go (no l) (yes m) = absurd (a.first j m b.inside)
    go (no l) (no m) = omega arith

-- a list of bytes has its samples in one way only
same_front : (a b x y : List ℕ) → length a ≡ length b → a ++ x ≡ b ++ y → (a ≡ b) × (x ≡ y)
same_front a b x y e q = (
  sym (take_at a x (length a) refl) ∙ ap (take (length a)) q ∙ take_at b y (length a) (sym e),
  sym (drop_at a x (length a) refl) ∙ ap (drop (length a)) q ∙ drop_at b y (length a) (sym e),
)

samples_one : {mark : List ℕ} {width d d' : ℕ} {cs cs' : List TreeCell} {s s' : List ℕ} (r : Records mark width d cs s) (r' : Records mark width d' cs' s') → d ≡ d' → cs ≡ cs' → s ≡ s' → (i : ℕ) → samples_of r i ≡ samples_of r' i
unfolding samples_of
samples_one none none a b q i = refl
samples_one none (more smp e q r) a b z i = absurd (omega (arith, ap length b))
samples_one (more smp e q r) none a b z i = absurd (omega (arith, ap length b))
samples_one {mark} {width} {d} {d'} (more {c = c} {cs = cs} {rest = rest} smp e q r) (more {c = c'} {cs = cs'} {rest = rest'} smp' e' q' r') a b z i = go i (samples_one r r' a others both.1)
  where
    cells : c' ≡ c
    cells = cc

    others : cs ≡ cs'
    others = cc

    code : List ℕ
    code = code_of c.root c.path

    both : (smp ≡ smp') × (rest ≡ rest')
    both = same_front smp smp' rest rest' (e ∙ ap (λ (n : ℕ). width * suc n) a ∙ sym e')
        (same_front (code_of c.root c.path) (code_of c.root c.path) (smp ++ rest) (smp' ++ rest') refl (same_front mark mark (code_of c.root c.path ++ (smp ++ rest)) (code_of c.root c.path ++ (smp' ++ rest')) refl
        (sym q ∙ z ∙ q' ∙ ap (λ (c : TreeCell). mark ++ (code_of c.root c.path ++ (smp' ++ rest'))) cells)).1).1

    go : (i : ℕ) → ((j : ℕ) → samples_of r j ≡ samples_of r' j) → samples_of (more {c = c} smp e q r) i ≡ samples_of (more {c = c'} smp' e' q' r') i
    go zero t = both.0
    go (suc i) t = t i

-- the leaf at a point of a good sheet, with its side and its samples
module _ {sheet : List ℕ} {n m : ℕ} (g : Good sheet n) (h : Good sheet m) {p : Point} {i j : ℕ} (a : LeafAt g.cells p i) (b : LeafAt h.cells p j) where
  pub same_number : i ≡ j
  same_number = leaf_one a (subst (λ (cs : List TreeCell). LeafAt cs p j) (sym (same_cells g h)) b)

  pub same_leaf : leaf_in g.cells i ≡ leaf_in h.cells j
  same_leaf = ap (λ (cs : List TreeCell). leaf_in cs i) (same_cells g h) ∙ ap (leaf_in h.cells) same_number

  pub good_leaf : GoodCell (leaf_in g.cells i) × (length (leaf_in g.cells i).root ≡ g.dimension)
  good_leaf = leaf_good g i a.number

  pub same_samples : samples_of g.records i ≡ samples_of h.records j
  same_samples = samples_one g.records h.records (same_axes g h) (same_cells g h) refl i ∙ ap (samples_of h.records) same_number

  pub same_side : side_in g.cells i ≡ side_in h.cells j
  same_side = ap (λ (c : TreeCell). box_side (length c.root) (length c.path)) same_leaf

  pub side_some : 0 < side_in g.cells i
  side_some = (side_of (length (leaf_in g.cells i).root) (length (leaf_in g.cells i).path) (some_axes good_leaf.0.good_root.dimension) good_leaf.0.good_path.depth).some

  -- and with its weights
  same_weights : {ws us : List ℕ} → length p ≡ g.dimension → LeafWeights g.cells i p ws → LeafWeights h.cells j p us → ws ≡ us
  same_weights {us = us} dims w u = weights_one (leaf_in g.cells i).root good_leaf.0.good_root (dims ∙ sym good_leaf.1) (leaf_in g.cells i).path good_leaf.0.good_path.depth w
      (subst (λ (c : TreeCell). weighs_in c) (sym same_leaf) u)
    where
      weighs_in : TreeCell → Type 0
      weighs_in c = LeafWeights (c ∷ []) 0 p us

pub record SameLeaf (r s : LeafAnswer) (after after' : List ℕ) : Type 0 where
  pub answer : r ≡ s
  pub buffer : after ≡ after'

pub leaf_determined : {sheet point before after after' : List ℕ} {r s : LeafAnswer} → LeafIs sheet point before r after → LeafIs sheet point before s after' → SameLeaf r s after after'
leaf_determined {sheet} {point} {before} {after} {after'} {r} {s} q t = query_one q t (λ number offset x y. record { answer = x.0 ∙ sym y.0; buffer = x.1 ∙ sym y.1 }) on
  where
    on : (n m : ℕ) (g : Good sheet n) (h : Good sheet m) → LeafOn g point before r after → LeafOn h point before s after' → SameLeaf r s after after'
    on n m g h (leaf_refused k e b) (leaf_refused l f c) = record { answer = e ∙ ap (λ (d : ℕ). leaf_told (leaf_refusal d point (length before)) 0 0 0) (same_axes g h) ∙ sym f; buffer = b ∙ sym c }
    on n m g h (leaf_refused k e b) (leaf_found l x y f c) = absurd (k (ap (λ (d : ℕ). leaf_refusal d point (length before)) (same_axes g h) ∙ l))
    on n m g h (leaf_found k a w e b) (leaf_refused l f c) = absurd (l (ap (λ (d : ℕ). leaf_refusal d point (length before)) (sym (same_axes g h)) ∙ k))
    on n m g h (leaf_found k a w e b) (leaf_found {i = j} {ws = us} l x y f c) = record {
      answer = e ∙ ap (λ (i : ℕ). leaf_told done 0 i (weights_length g.dimension)) (same_number g h a x) ∙ ap (λ (d : ℕ). leaf_told done 0 j (weights_length d)) (same_axes g h) ∙ sym f;
      buffer = b ∙ ap (λ (ws : List ℕ). point_bytes ws ++ drop (weights_length g.dimension) before) (same_weights g h a x in_cube w y) ∙ ap (λ (d : ℕ). point_bytes us ++ drop (weights_length d) before) (same_axes g h) ∙ sym c;
    }
      where
        in_cube : length (point_of point) ≡ g.dimension
        in_cube = (point_in_cube g.dimension point (unfold leaf_refusal in held_at _ tt k 0)).axes

-- one refusal of a number and an offset
tells_one : (r s : Refused) {number offset : ℕ} → Tells r number offset → Tells s number offset → r ≡ s
tells_one r s e f = λ i. record { refusal = one_refusal r.refusal s.refusal (e.0 ∙ sym f.0) i; offset = (e.1 ∙ sym f.1) i }

pub refused_one : {A : Type 0} (v u : Result A Refused) (number offset : ℕ) → RefusedAt v number offset → RefusedAt u number offset → v ≡ u
refused_one (Ok x) u number offset e f = absurd e
refused_one (Err r) (Ok y) number offset e f = absurd f
refused_one (Err r) (Err s) number offset e f = ap Err (tells_one r s e f)

-- one f64 only, +0.0 for zero
pub value_determined : {sheet point : List ℕ} {v u : Result Float Refused} → ValueIs sheet point v → ValueIs sheet point u → v ≡ u
value_determined {sheet} {point} {v} {u} q t = query_one q t (refused_one v u) on
  where
    on : (n m : ℕ) (g : Good sheet n) (h : Good sheet m) → ValueOn g point v → ValueOn h point u → v ≡ u
    on n m g h (value_refused k e) (value_refused l f) = refused_one v u refused_point 0 e f
    on n m g h (value_refused k e) (value_found l x y z f) = absurd (subst T (sym (ap (λ (d : ℕ). is_point d point) (same_axes g h)) ∙ k) (subst T (sym l) tt))
    on n m g h (value_found k a w z e) (value_refused l f) = absurd (subst T (ap (λ (d : ℕ). is_point d point) (same_axes g h) ∙ l) (subst T (sym k) tt))
    on n m g h (value_found {i = i} {ws = ws} {x = x} k a w z e) (value_found {i = j} {ws = us} {x = y} l b w' z' f) = e ∙ ap Ok (fraction_one (side_some g h a b) z there) ∙ sym f
      where
        in_cube : length (point_of point) ≡ g.dimension
        in_cube = (point_in_cube g.dimension point k).axes

        same_sum : grey_sum sample_width us (samples_of h.records j) ≡ grey_sum sample_width ws (samples_of g.records i)
        same_sum = sym (ap (λ (l : List ℕ). grey_sum sample_width l (samples_of g.records i)) (same_weights g h a b in_cube w w') ∙ ap (grey_sum sample_width us) (same_samples g h a b))

        there : Fraction y (grey_sum sample_width ws (samples_of g.records i)) (side_in g.cells i)
        there = subst (λ (n : ℕ). Fraction y n (side_in g.cells i)) same_sum (subst (Fraction y (grey_sum sample_width us (samples_of h.records j))) (sym (same_side g h a b)) z')

pub flat_determined : {sheet point : List ℕ} {r s : ValueAnswer} → FlatValueIs sheet point r → FlatValueIs sheet point s → r ≡ s
flat_determined f g = f.is ∙ ap flat_of (value_determined f.value g.value) ∙ sym g.is
