-- Demand 2 holds, from the contracts and the bisection's theorems.
use Rattle.std.specs.Prelude.{◌≡◌, refl, true, List, ℕ, suc, ◌*◌, ◌≤◌, leb, length, get_or, take, drop, Float, Ok}
use Rattle.std.proofs.Common.{sym, ap, ◌∙◌, subst, arith, take_at, leb-true, ltb-true}
use Rattle.dimension.specs.Sizes.{greatest_depth, split_place}
use Rattle.bisection.specs.Cells.{Point, Cell, cell_of, cell_bytes, point_bytes, child}
use Rattle.bisection.specs.Roots.{GoodRoot, GoodPath}
use Rattle.bisection.specs.Codes.{code_of, IsCodeOf, dimension_of, depth_of}
use Rattle.bisection.specs.Refusals.{done, is_path}
use Rattle.bisection.specs.Facets.{IsCell}
use Rattle.bisection.proofs.Theorems.Ladders.{held_at}
use Rattle.bisection.proofs.Theorems.Lists.{point_size}
use Rattle.bisection.proofs.Theorems.Checked.{each_at}
use Rattle.bisection.proofs.Theorems.Geometry.{closed_form}
use Rattle.bisection.proofs.Theorems.CodePaths.{one_path}
use Rattle.bisection.proofs.Theorems.CodeCells.{one_cell, same_code}
use Rattle.bisection.specs.Theorems.Slopes.One.{OneSlope}
use Rattle.bisection.proofs.Theorems.Slopes.One.{one_slope}
use Rattle.codes.specs.declared.Written.{Written}
use Rattle.codes.specs.declared.PathWritten.{PathWritten}
use Rattle.codes.specs.Outcomes.{Writes, path_refusal, PathToCode, CodeToPath, PathOf, Vertices, child_refusal, Child, Parent}
use Rattle.codes.specs.PathAnswers.{good_root}
use Rattle.codes.specs.Bisects.{child_bisects, parent_bisects}
use Rattle.sheets.specs.declared.SheetAnswer.{SheetAnswer}
use Rattle.sheets.specs.Sheets.{SheetIs, good, record_refused, not_next, ended_early, Good, told, leaf_in, sample_width, samples_of, sheet_refused, sheet_good}
use Rattle.sheets.specs.Theorems.Determined.{sheet_determined, good_of}
use Rattle.sheets.specs.Theorems.Good.{same_cells}
use Rattle.sheets.specs.Theorems.Listing.{GoodCell}
use Rattle.queries.specs.declared.LeafAnswer.{LeafAnswer}
use Rattle.finding.specs.Walk.{leaf_good}
use Rattle.queries.specs.Queries.{LeafIs, LeafAt, LeafWeights, LeafOn, leaf_refused, leaf_found, weights_length, side_in, ValueIs, ValueOn, value_refused, value_found}
use Rattle.greys.specs.Fractions.{Fraction}
use Rattle.greys.specs.Samples.{grey_sum, sample_at}
use Rattle.queries.specs.SlopeQueries.{SlopeIs, SlopeOn, slope_refused, slope_found}
use Rattle.slopes.specs.declared.Slopes.{Slopes}
use Rattle.compatible.specs.declared.CompatibleAnswer.{CompatibleAnswer}
use Rattle.rings.specs.Compatible.{Compatible}
use Rattle.compatible.specs.Compatible.{CompatibleIs, Judges, yes_all, not_all}
use Rattle.demands.specs.Two.{OneCode, There, SlopesThere, Demand2}

-- what an entry that is done has written, at the front of the buffer
front : {refusal : ℕ} {answer before : List ℕ} {r : Written} {after : List ℕ} → Writes refusal answer before r after → r.refusal ≡ done → take r.length after ≡ answer
front {answer = answer} {before = before} {r = r} w e = let o = w.written (sym w.number ∙ e) in ap (take r.length) o.1 ∙ take_at answer (drop (length answer) before) r.length (sym o.0)

good_path : {d : ℕ} (path : List ℕ) → length path ≤ greatest_depth d → is_path path ≡ true → GoodPath d path
unfolding is_path
good_path path l e = record { steps = λ i m. leb-true (get_or path i 0) 1 (each_at (length path) (λ j. leb (get_or path j 0) 1) e i m); depth = l }

-- a root and a path that are not refused are those of their code
path_good : (root path : List ℕ) (room : ℕ) → path_refusal root path room ≡ done → IsCodeOf (code_of root path) root path
unfolding path_refusal
path_good root path room e = record { good_root = good_root root (held_at _ tt e 0) (held_at _ tt e 2); good_path = good_path path (leb-true (length path) (greatest_depth (length root)) (held_at _ tt e 1)) (held_at _ tt e 3); is = refl }

root_front : {code roots paths : List ℕ} {s : PathWritten} {roots' paths' : List ℕ} (p : PathOf code roots paths s roots' paths') → (take s.axes roots' ≡ p.root) × (take s.depth paths' ≡ p.path)
root_front {roots = roots} {paths = paths} {s = s} p = (
  ap (take s.axes) p.root_written ∙ take_at p.root (drop (length p.root) roots) s.axes (sym p.axes),
  ap (take s.depth) p.path_written ∙ take_at p.path (drop (length p.path) paths) s.depth (sym p.depth),
)

and_back : (root path before : List ℕ) (r : Written) (after : List ℕ) → PathToCode root path before r after → r.refusal ≡ done → (roots paths : List ℕ) (s : PathWritten) (roots' paths' : List ℕ) → CodeToPath (take r.length after) roots paths s roots' paths'
    → s.refusal ≡ done → (take s.axes roots' ≡ root) × (take s.depth paths' ≡ path)
and_back root path before r after w e roots paths s roots' paths' c k =
    let p = c.written (sym c.number ∙ k) in
    let o = one_path p.is_code (subst (λ (l : List ℕ). IsCodeOf l root path) (sym (front w e)) (path_good root path (length before) (sym w.number ∙ e))) in
    let f = root_front p in (f.0 ∙ o.0, f.1 ∙ o.1)

and_forth : (code roots paths : List ℕ) (s : PathWritten) (roots' paths' : List ℕ) → CodeToPath code roots paths s roots' paths' → s.refusal ≡ done
    → (before : List ℕ) (r : Written) (after : List ℕ) → PathToCode (take s.axes roots') (take s.depth paths') before r after → r.refusal ≡ done
    → take r.length after ≡ code
and_forth code roots paths s roots' paths' c k before r after w e = let p = c.written (sym c.number ∙ k) in let f = root_front p in front w e ∙ (λ i. code_of (f.0 i) (f.1 i)) ∙ sym p.is_code.is

one : (root path : List ℕ) → GoodRoot root → GoodPath (length root) path → OneCode (cell_of root path)
one root path g h = record { code = code_of root path; its = its; only = λ code' c. same_code c its refl }
  where
    its : IsCell (code_of root path) (cell_of root path)
    its = record { root = root; path = path; is_code = record { good_root = g; good_path = h; is = refl }; is = refl }

points : (code before : List ℕ) (r : Written) (after : List ℕ) → Vertices code before r after → r.refusal ≡ done → (vs : Cell) → IsCell code vs → take r.length after ≡ cell_bytes vs
points code before r after a e vs c =
    let v = a.is (sym a.writes.number ∙ e) in
    front a.writes e ∙ v.is ∙ ap cell_bytes (one_cell (record { root = v.root; path = v.path; is_code = v.is_code; is = refl }) c)

pub half : (code : List ℕ) (which : ℕ) (before : List ℕ) (r : Written) (after : List ℕ) → Child code which before r after → r.refusal ≡ done → (vs : Cell) → IsCell code vs → IsCell (take r.length after) (child which (split_place (dimension_of code) (depth_of code)) vs)
unfolding child_refusal
half code which before r after a e vs c =
    let z : child_refusal code which (length before) ≡ done = sym a.writes.number ∙ e in
    subst (λ (l : List ℕ). IsCell l (child which (split_place (dimension_of code) (depth_of code)) vs)) (sym (front a.writes e)) (child_bisects (a.is z) (leb-true which 1 (held_at _ tt z 1)) (ltb-true (depth_of code) (greatest_depth (dimension_of code)) (held_at _ tt z 2)) c)

whole : (code before : List ℕ) (r : Written) (after : List ℕ) → Parent code before r after → r.refusal ≡ done → (vs ws : Cell) → IsCell code vs → IsCell (take r.length after) ws
    → (which : ℕ) × (vs ≡ child which (split_place (dimension_of (take r.length after)) (depth_of (take r.length after))) ws)
whole code before r after a e vs ws v w =
    let p = a.is (sym a.writes.number ∙ e) in
    let o = parent_bisects p v (subst (λ (l : List ℕ). IsCell l ws) (front a.writes e) w) in
    (p.last, rw (front a.writes e) o)

yes_good : (sheet : List ℕ) (r : SheetAnswer) → SheetIs sheet r → r.refusal ≡ done → Good sheet r.records
yes_good sheet r s e = good_of s e

good_yes : (sheet : List ℕ) (r : SheetAnswer) → SheetIs sheet r → (n : ℕ) → Good sheet n → (r.refusal ≡ done) × (r.records ≡ n)
good_yes sheet r s n g = let q = sheet_determined sheet r (told done 0 n) s (good g refl) in (ap (λ (a : SheetAnswer). a.refusal) q, ap (λ (a : SheetAnswer). a.records) q)

-- a weight for each vertex, two bytes each
size : {sheet : List ℕ} {n : ℕ} (g : Good sheet n) {p : Point} {i : ℕ} {ws : List ℕ} → LeafAt g.cells p i → LeafWeights g.cells i p ws → length (point_bytes ws) ≡ weights_length g.dimension
size g {p} {i} {ws} a w = let c = leaf_good g i a.number in point_size ws ∙ ap (λ (m : ℕ). 2 * m) (w.count ∙ (closed_form (leaf_in g.cells i).root (leaf_in g.cells i).path c.0.good_root c.0.good_path.depth).sized.size ∙ ap suc c.1)

leaf_there : (sheet point before : List ℕ) (r : LeafAnswer) (after : List ℕ) → LeafIs sheet point before r after → r.refusal ≡ done
    → (t : There sheet point) × (r.number ≡ t.number) × (take r.length after ≡ point_bytes t.weights)
leaf_there sheet point before r after q e = go q
  where
    on : {n : ℕ} (g : Good sheet n) → LeafOn g point before r after → (t : There sheet point) × (r.number ≡ t.number) × (take r.length after ≡ point_bytes t.weights)
    on g (leaf_refused h t b) = absurd (h (sym (ap (λ (r : LeafAnswer). r.refusal) t) ∙ e))
    on {n} g (leaf_found {i = i} {ws = ws} h a w t b) = (
      record { count = n; good = g; number = i; leaf = a; weights = ws; weighs = w },
      ap (λ (r : LeafAnswer). r.number) t,
      ap (take r.length) b ∙ take_at (point_bytes ws) (drop (weights_length g.dimension) before) r.length (size g a w ∙ sym (ap (λ (r : LeafAnswer). r.length) t)),
    )

    go : LeafIs sheet point before r after → (t : There sheet point) × (r.number ≡ t.number) × (take r.length after ≡ point_bytes t.weights)
    go (sheet_refused {a = a} s k x) = absurd (k (sym (ap (λ (r : LeafAnswer). r.refusal) x.0) ∙ e))
    go (sheet_good g x) = on g x

-- the value of a leaf there
Valued : List ℕ → List ℕ → Float → Type 0
Valued sheet point x = (t : There sheet point) × Fraction x (grey_sum sample_width t.weights (samples_of t.good.records t.number)) (side_in t.good.cells t.number)

value_there : (sheet point : List ℕ) (x : Float) → ValueIs sheet point (Ok x) → (t : There sheet point) × Fraction x (grey_sum sample_width t.weights (samples_of t.good.records t.number)) (side_in t.good.cells t.number)
unfolding Valued
value_there sheet point x q = go q
  where
    on : {n : ℕ} (g : Good sheet n) → ValueOn g point (Ok x) → Valued sheet point x
    on g (value_refused h t) = absurd t
    on {n} g (value_found {i = i} {ws = ws} {x = y} h a w f t) = let same : y ≡ x = cc in subst (Valued sheet point) same (record { count = n; good = g; number = i; leaf = a; weights = ws; weighs = w }, f)

    go : ValueIs sheet point (Ok x) → Valued sheet point x
    go (sheet_refused s k t) = absurd t
    go (sheet_good g t) = on g t

slopes_there : (sheet point : List ℕ) (x : Slopes) → SlopeIs sheet point (Ok x) → SlopesThere sheet point x
slopes_there sheet point x q = go q
  where
    on : {n : ℕ} (g : Good sheet n) → SlopeOn g point (Ok x) → SlopesThere sheet point x
    on g (slope_refused h t) = absurd t
    on {n} g (slope_found {i = i} {ns = ns} {x = y} h a l c t) = let same : y ≡ x = cc in subst (SlopesThere sheet point) same
        (record { count = n; good = g; number = i; leaf = a; numbers = ns; linear = l; only = λ us k. one.others k ∙ sym (one.others l); components = c })
      where
        cell : GoodCell (leaf_in g.cells i)
        cell = (leaf_good g i a.number).0

        one : OneSlope (leaf_in g.cells i).root (leaf_in g.cells i).path (sample_at sample_width (samples_of g.records i))
        one = one_slope (leaf_in g.cells i).root (leaf_in g.cells i).path cell.good_root cell.good_path.depth (sample_at sample_width (samples_of g.records i))

    go : SlopeIs sheet point (Ok x) → SlopesThere sheet point x
    go (sheet_refused s k t) = absurd t
    go (sheet_good g t) = on g t

told_compatible : (sheet : List ℕ) (r : CompatibleAnswer) → CompatibleIs sheet r → (n : ℕ) (g : Good sheet n) → (r.compatible ≡ 1 → Compatible g.cells) × (Compatible g.cells → r.compatible ≡ 1)
told_compatible sheet r q n g = go q
  where
    judged : {m : ℕ} (h : Good sheet m) → Judges h.cells r → (r.compatible ≡ 1 → Compatible g.cells) × (Compatible g.cells → r.compatible ≡ 1)
    judged h (yes_all c t) = (λ e. subst Compatible (same_cells h g) c, λ c'. ap (λ (r : CompatibleAnswer). r.compatible) t)
    judged h (not_all c t) = (λ e. absurd (omega (arith, e, ap (λ (r : CompatibleAnswer). r.compatible) t)), λ c'. absurd (c (subst Compatible (sym (same_cells h g)) c')))

    go : CompatibleIs sheet r → (r.compatible ≡ 1 → Compatible g.cells) × (Compatible g.cells → r.compatible ≡ 1)
    go (sheet_refused {a = a} s k x) = absurd (k (good_yes sheet a s n g).0)
    go (sheet_good h x) = judged h x

pub demand_2 : Demand2
demand_2 = record {
  path_and_back = and_back;
  code_and_back = and_forth;
  one_code = one;
  vertices = points;
  child_of = half;
  parent_of = whole;
  yes_good = yes_good;
  good_yes = good_yes;
  leaf_at = leaf_there;
  value_at = value_there;
  slope_at = slopes_there;
  compatible = told_compatible;
}
