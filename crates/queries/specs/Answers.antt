-- The answers of the two queries, put together: the check of the sheet, the leaf's own weights, its samples and its value.
use Rattle.std.specs.Prelude.{◌≡◌, refl, true, false, ◌≢◌, ℕ, suc, ◌+◌, ◌-◌, ◌*◌, ◌/◌, ◌^◌, ◌≤◌, ◌<◌, length, get_or, take, Float, Result, Ok, Err, IsErrAnd}
use Rattle.std.proofs.Math.Path.{sym, ap}
use Rattle.std.proofs.Common.{◌∙◌, subst, arith, length-take, length-drop, ext_get_or, get_or-take, length-take-le, pow_pos}
use mathlib.Core.List.{List, ◌++◌}
use Rattle.std.proofs.Math.Nat.{mul-div_cancel_left}
use Rattle.std.proofs.Math.ListN.{drop}
use borrow.Author.Tests.{le-leb, lt-leb}
use Rattle.common.specs.Putting.{put}
use Rattle.dimension.specs.Sizes.{is_dimension, axes_of, cube_side, box_side, box_depth}
use Rattle.dimension.specs.Laws.{side_whole, side_of, box_in, dimension, cube_two_bytes, halvings_few}
use Rattle.bisection.specs.Cells.{Point, point_bytes}
use Rattle.bisection.specs.declared.Refusal.TheVariants.{Short, Point as OutOfCube}
use Rattle.bisection.specs.declared.Refused.{Refused}
use Rattle.bisection.specs.NumberLaws.{refuses}
use Rattle.bisection.specs.Numbers.{number_of}
use Rattle.bisection.specs.Refusals.{done, refused_short, refused_point}
use Rattle.bisection.specs.Weights.{Weighs}
use Rattle.bisection.proofs.Theorems.CodePaths.{some_axes}
use Rattle.bisection.specs.Theorems.Ladders.{holds, fails, all_hold}
use Rattle.bisection.proofs.Theorems.Ladders.{first_is}
use Rattle.bisection.proofs.Theorems.Weights.Axes.{weight_most}
use Rattle.sheets.specs.declared.Edition.{Edition}
use Rattle.sheets.specs.Forests.{TreeCell}
use Rattle.sheets.specs.Sheets.{samples_of, leaf_in, sheet_mark, sample_width, Good, Query, sheet_refused, sheet_good}
use Rattle.sheets.specs.Steps.{mark_of, IsFirst}
use Rattle.sheets.specs.Theorems.Listing.{GoodCell}
use Rattle.points.specs.Points.{point_of, is_point}
use Rattle.points.proofs.Theorems.Cells.{weights_scaled}
use Rattle.points.specs.Theorems.BoxWeights.{BoxWeights}
use Rattle.points.proofs.Theorems.BoxWeights.{box_weights}
use Rattle.points.proofs.Theorems.CubePoints.{point_in_cube}
use Rattle.greys.specs.Fractions.{Fraction}
use Rattle.greys.specs.Samples.{grey_sum, Weighable}
use Rattle.greys.specs.Exact.{cube_power, power_some}
use Rattle.greys.specs.Sums.{InRatio, grey_same, cube_weighable}
use Rattle.finding.specs.declared.Sheet.{Sheet}
use Rattle.finding.specs.declared.opened.Opened.{Opened}
use Rattle.finding.specs.Opened.{OpenedIs, shut, opened_checked, Checked}
use Rattle.queries.specs.declared.Chosen.{Chosen}
use Rattle.queries.specs.declared.LeafAnswer.{LeafAnswer}
use Rattle.queries.specs.Queries.{cell_in, weights_length, leaf_refusal, leaf_told, leaf_refused, leaf_found, LeafIs, Tells, ValueOn, value_refused, value_found, ValueIs}
use Rattle.finding.specs.Walk.{leaf_good}
use Rattle.queries.specs.Forms.{leaf_answer}
use Rattle.queries.specs.Choice.{ChoiceReady, ChosenIs}
use Rattle.queries.specs.Writing.{halved, weight_bytes, WeightsReady, halved_at, halved_length, weights_length_is}

-- ---- the edition of document 01

-- a good sheet of that edition and of d axes, and a point of the cube
pub record FirstReady (e : Edition) (sheet : List ℕ) (d : ℕ) (point : List ℕ) : Type 0 where
  pub first : IsFirst e
  pub ready : ChoiceReady (mark_of e) e.width sheet d point

choice_first : {e : Edition} {sheet point : List ℕ} {d : ℕ} → FirstReady e sheet d point → ChoiceReady sheet_mark sample_width sheet d point
choice_first {e} {sheet} {point} {d} r = subst (λ (w : ℕ). ChoiceReady sheet_mark w sheet d point) r.first.width_is (subst (λ (m : List ℕ). ChoiceReady m e.width sheet d point) r.first.mark_is r.ready)

pub chosen_first : {e : Edition} {sheet : List ℕ} {p : Point} {d : ℕ} {r : Chosen} → IsFirst e → ChosenIs (mark_of e) e.width sheet d p r → ChosenIs sheet_mark sample_width sheet d p r
chosen_first {e} {sheet} {p} {d} {r} f c = subst (λ (w : ℕ). ChosenIs sheet_mark w sheet d p r) f.width_is (subst (λ (m : List ℕ). ChosenIs m e.width sheet d p r) f.mark_is c)

-- ---- the leaf's own weights: those of the cube's side are so many times as large

module _ {mark : List ℕ} {width : ℕ} {sheet : List ℕ} {d : ℕ} {p : Point} {r : Chosen} (dims : length p ≡ d) (c : ChosenIs mark width sheet d p r) where
  abbrev leaf : TreeCell
  leaf = leaf_in c.good.cells r.number

  cell : GoodCell leaf × (length leaf.root ≡ d)
  cell = let o = leaf_good c.good r.number c.leaf_at.number in (o.0, o.1 ∙ c.axes)

  own_weights : BoxWeights leaf.root leaf.path p
  own_weights = box_weights leaf.root cell.0.good_root (dims ∙ sym cell.1) leaf.path cell.0.good_path.depth c.leaf_at.inside

  times : ℕ
  times = 2 ^ box_depth (length leaf.root) (length leaf.path)

  side_is : cube_side ≡ 2 ^ box_depth (length leaf.root) (length leaf.path) * box_side (length leaf.root) (length leaf.path)
  side_is = unfold box_side in sym (side_whole (box_depth (length leaf.root) (length leaf.path)) (box_in (length leaf.root) (length leaf.path) (some_axes cell.0.good_root.dimension) cell.0.good_path.depth))

  own_times : (j : ℕ) → j ≤ d → get_or (take (suc d) r.weights) j 0 ≡ 2 ^ box_depth (length leaf.root) (length leaf.path) * get_or own_weights.ws j 0
  own_times j l = weights_scaled leaf.root cell.0.good_root (dims ∙ sym cell.1) leaf.path cell.0.good_path.depth (2 ^ box_depth (length leaf.root) (length leaf.path))
      (side_of (length leaf.root) (length leaf.path) (some_axes cell.0.good_root.dimension) cell.0.good_path.depth).some
      (subst (λ (W : ℕ). Weighs (cell_in c.good.cells r.number) p W (take (suc d) r.weights)) side_is c.weighs) own_weights.weighs j (omega (arith, cell.1))

  same_count : length (take (suc d) r.weights) ≡ length own_weights.ws
  same_count = c.weighs.count ∙ sym own_weights.weighs.count

  -- the value by them is the value
  own_value : {x : Float} (width : ℕ) (samples : List ℕ) → Fraction x (grey_sum width (take (suc d) r.weights) samples) cube_side → Fraction x (grey_sum width own_weights.ws samples) (box_side (length leaf.root) (length leaf.path))
  own_value width samples f = grey_same width samples (power_some cube_power) ratio f
    where
      few : length (take (suc d) r.weights) ≤ suc d
      few = omega (arith, length-take (suc d) r.weights)

      ratio : InRatio (box_side (length leaf.root) (length leaf.path)) cube_side (take (suc d) r.weights) own_weights.ws
      ratio = record { count = same_count; each = λ j l. rw (own_times j (omega (arith, few)), side_is) (omega arith) }

-- ---- the value

-- the grey value at a point of a good sheet
pub record GreyIs (sheet : List ℕ) (d : ℕ) (point : List ℕ) (x : Float) : Type 0 where
  pub count : ℕ
  pub good_sheet : Good sheet count
  pub axes : good_sheet.dimension ≡ d
  pub value : ValueOn good_sheet point (Ok x)

-- n bytes from a place on, as a slice of the sheet
abbrev pub slice : List ℕ → ℕ → ℕ → List ℕ
slice sheet start n = take (start + n - start) (drop start sheet)

pub slice_at : (sheet : List ℕ) (start n : ℕ) → slice sheet start n ≡ take n (drop start sheet)
slice_at sheet start n = let e : start + n - start ≡ n = omega arith in ap (λ (k : ℕ). take k (drop start sheet)) e

pub slice_length : (sheet : List ℕ) (start n : ℕ) → start + n ≤ length sheet → length (slice sheet start n) ≡ n
slice_length sheet start n l = omega (arith, length-take (start + n - start) (drop start sheet), length-drop start sheet)

module _ {e : Edition} {sheet point : List ℕ} {d : ℕ} {r : Chosen} (ready : FirstReady e sheet d point) (chosen : ChosenIs (mark_of e) e.width sheet d (point_of point) r) where
  abbrev of_first : ChosenIs sheet_mark sample_width sheet d (point_of point) r
  of_first = chosen_first ready.first chosen

  in_cube : length (point_of point) ≡ d
  in_cube = (point_in_cube d point ready.ready.passes).axes

  module _ {n : ℕ} (is : n ≡ e.width * suc d) where
    size_is : n ≡ sample_width * suc d
    size_is = is ∙ ap (λ (w : ℕ). w * suc d) ready.first.width_is

    slice_is : slice sheet r.samples n ≡ samples_of of_first.good.records r.number
    slice_is = slice_at sheet r.samples n ∙ ap (λ (k : ℕ). take k (drop r.samples sheet)) size_is ∙ of_first.samples_are

    pub grey_end : r.samples + n ≤ length sheet
    grey_end = omega (arith, size_is, of_first.room)

    pub grey_ready : Weighable e.width d r.weights (slice sheet r.samples n)
    grey_ready = rw ready.first.width_is (cube_weighable (omega (arith, size_is, length-take (r.samples + n - r.samples) (drop r.samples sheet), length-drop r.samples sheet, of_first.room)) (omega arith) of_first.weighs.sum)

    pub grey_is : {x : Float} → Fraction x (grey_sum e.width (take (suc d) r.weights) (slice sheet r.samples n)) cube_side → GreyIs sheet d point x
    grey_is {x} v = record {
      count = of_first.count;
      good_sheet = of_first.good;
      axes = of_first.axes;
      value = value_found (rw of_first.axes ready.ready.passes) of_first.leaf_at (own_weights in_cube of_first).weighs (own_value in_cube of_first sample_width (samples_of of_first.good.records r.number) there) refl;
    }
      where
        there : Fraction x (grey_sum sample_width (take (suc d) r.weights) (samples_of of_first.good.records r.number)) cube_side
        there = subst (λ (l : List ℕ). Fraction x (grey_sum sample_width (take (suc d) r.weights) l) cube_side) slice_is
            (subst (λ (w : ℕ). Fraction x (grey_sum w (take (suc d) r.weights) (slice sheet r.samples n)) cube_side) ready.first.width_is v)

pub value_done : {bytes sheet point : List ℕ} {d : ℕ} {x : Float} → bytes ≡ sheet → GreyIs bytes d point x → ValueIs sheet point (Ok x)
value_done {point = point} {x = x} same g = subst (λ (s : List ℕ). ValueIs s point (Ok x)) same (sheet_good g.good_sheet g.value)

-- ---- the front of a query: the check of the sheet, then of the point

-- what it refuses
abbrev pub NotAsked : List ℕ → List ℕ → Refused → Type 0
NotAsked sheet point r = Query sheet (Tells r) (λ n g. (is_point g.dimension point ≡ false) × Tells r refused_point 0)

abbrev pub AskedIs : List ℕ → List ℕ → Result Sheet Refused → Type 0
AskedIs sheet point (Ok s) = (s.bytes.now ≡ sheet) × FirstReady s.edition sheet (axes_of s.dim) point
AskedIs sheet point (Err r) = NotAsked sheet point r

-- what a `?` answers
pub err_is : {A : Type 0} (v : Result A Refused) {r : Refused} → IsErrAnd v (λ y. y ≡ r) → v ≡ Err r
err_is (Ok x) is = absurd is
err_is (Err y) is = ap Err is

-- a query of a sheet that is not good
pub query_shut : {sheet : List ℕ} {r : Refused} → OpenedIs sheet (Err r) → (refused : ℕ → ℕ → Type 0) {answered : (n : ℕ) → Good sheet n → Type 0} → refused (number_of r.refusal) r.offset → Query sheet refused answered
query_shut {r = r} (shut o) refused q = sheet_refused o (refuses r.refusal) q

pub asked_shut : {sheet : List ℕ} (point : List ℕ) (r : Refused) → OpenedIs sheet (Err r) → NotAsked sheet point r
asked_shut point r s = query_shut s (Tells r) (refl, refl)

module _ {sheet : List ℕ} {o : Opened} (is : OpenedIs sheet (Ok o)) (point : List ℕ) where
  abbrev d : ℕ
  d = axes_of o.dim

  it : Checked sheet (axes_of o.dim) o.records
  it = opened_checked is

  passes_is : is_point it.good_sheet.dimension point ≡ is_point d point
  passes_is = ap (λ (n : ℕ). is_point n point) it.axes

  pub asked_out : false ≡ is_point d point → NotAsked sheet point (record { refusal = OutOfCube; offset = 0 })
  asked_out test = sheet_good it.good_sheet (passes_is ∙ sym test, (refl, refl))

  pub asked_ready : true ≡ is_point d point → {e : Edition} → IsFirst e → FirstReady e sheet d point
  asked_ready test {e} f = record {
    first = f;
    ready = subst (λ (w : ℕ). ChoiceReady (mark_of e) w sheet d point) (sym f.width_is) (subst (λ (m : List ℕ). ChoiceReady m sample_width sheet d point) (sym f.mark_is)
        (record { count = it.count; good = it.good_sheet; axes = it.axes; passes = sym test }));
  }

pub value_not : {sheet point : List ℕ} {r : Refused} → NotAsked sheet point r → ValueIs sheet point (Err r)
value_not (sheet_refused s k t) = sheet_refused s k t
value_not (sheet_good g t) = sheet_good g (value_refused t.0 t.1)

-- ---- the leaf

-- the weights are divided by the power of two that the box was halved by
module _ {mark : List ℕ} {width : ℕ} {sheet : List ℕ} {d : ℕ} {p : Point} {r : Chosen} (dims : length p ≡ d) (c : ChosenIs mark width sheet d p r) {boxes : ℕ} (is : boxes ≡ box_depth d r.depth) where
  boxes_are : boxes ≡ box_depth (length (leaf dims c).root) (length (leaf dims c).path)
  boxes_are = is ∙ rw (c.depth_is, ← (cell dims c).1) refl

  own_ready : {out : List ℕ} → 2 * suc d ≤ length out → WeightsReady d boxes r.weights out
  own_ready l = record {
    five = c.five;
    axes = axes;
    few = omega (arith, boxes_are, box_in (length (leaf dims c).root) (length (leaf dims c).path) (some_axes (cell dims c).0.good_root.dimension) (cell dims c).0.good_path.depth, halvings_few);
    small = λ n h. omega (arith, get_or-take (suc d) r.weights n 0 (omega arith), weight_most c.weighs n, cube_two_bytes);
    room = l;
  }
    where
      axes : d ≤ 4
      axes = (dimension d (subst (λ (n : ℕ). is_dimension n ≡ true) c.axes c.good.has_dimension)).few

  halved_own : {out : List ℕ} → WeightsReady d boxes r.weights out → halved d boxes r.weights ≡ (own_weights dims c).ws
  halved_own ready = ext_get_or 0 _ _ (halved_length ready ∙ sym count) (λ j l. halved_at ready j (omega (arith, halved_length ready)) ∙ one j (omega (arith, halved_length ready)))
    where
      count : length (own_weights dims c).ws ≡ suc d
      count = sym (same_count dims c) ∙ length-take-le (suc d) r.weights (omega (arith, ready.five, ready.axes))

      one : (j : ℕ) → j ≤ d → get_or r.weights j 0 / 2 ^ boxes ≡ get_or (own_weights dims c).ws j 0
      one j l = ap (λ (x : ℕ). x / 2 ^ boxes) (sym (get_or-take (suc d) r.weights j 0 (omega arith)) ∙ own_times dims c j l) ∙ rw (← boxes_are) (mul-div_cancel_left (get_or (own_weights dims c).ws j 0) (pow_pos boxes))

module _ {sheet point : List ℕ} (before : List ℕ) where
  -- which test fails first
  leaf_no : {n : ℕ} (g : Good sheet n) (number : ℕ) {r : LeafAnswer} → number ≢ done → leaf_refusal g.dimension point (length before) ≡ number → r ≡ leaf_told number 0 0 0 → LeafIs sheet point before r before
  leaf_no g number k e q = sheet_good g (leaf_refused (λ z. k (sym e ∙ z)) (q ∙ ap (λ (n : ℕ). leaf_told n 0 0 0) (sym e)) refl)

  pub leaf_not : (r : Refused) → NotAsked sheet point r → LeafIs sheet point before (leaf_answer (Err r)) before
  unfolding leaf_refusal
  leaf_not r (sheet_refused s k t) = sheet_refused s k ((λ i. leaf_told (t.0 i) (t.1 i) 0 0), refl)
  leaf_not r (sheet_good g t) = leaf_no g refused_point (omega arith) (first_is (fails t.0)) (λ i. leaf_told (t.1.0 i) (t.1.1 i) 0 0)

  module _ {e : Edition} {d : ℕ} (ready : FirstReady e sheet d point) {n : ℕ} (axes : n ≡ d) where
    abbrev first : ChoiceReady sheet_mark sample_width sheet d point
    first = choice_first ready

    passes : is_point first.good.dimension point ≡ true
    passes = rw first.axes first.passes

    pub leaf_short : length before < 2 * (n + 1) → LeafIs sheet point before (leaf_answer (Err (record { refusal = Short; offset = 0 }))) before
    unfolding leaf_refusal
    leaf_short l = leaf_no first.good refused_short (omega arith) (first_is (holds passes (fails (lt-leb (weights_length first.good.dimension) (length before) (omega (arith, axes, first.axes)))))) refl

    module _ {bytes : List ℕ} (same : bytes ≡ sheet) {r : Chosen} (of_bytes : ChosenIs (mark_of e) e.width bytes d (point_of point) r) {boxes : ℕ} (deep : boxes ≡ box_depth d r.depth) (room : 2 * (n + 1) ≤ length before) where
      abbrev c : ChosenIs sheet_mark sample_width sheet d (point_of point) r
      c = chosen_first ready.first (subst (λ (s : List ℕ). ChosenIs (mark_of e) e.width s d (point_of point) r) same of_bytes)

      dims : length (point_of point) ≡ d
      dims = (point_in_cube d point first.passes).axes

      pub leaf_writes : WeightsReady d boxes r.weights before
      leaf_writes = own_ready dims c deep (omega (arith, axes, room))

      pub leaf_done : {after : List ℕ} → after ≡ put 0 (weight_bytes d boxes r.weights) before → LeafIs sheet point before (leaf_answer (Ok (record { number = r.number; length = 2 * (n + 1) }))) after
      leaf_done {after} e = sheet_good c.good (leaf_found all c.leaf_at (own_weights dims c).weighs (ap (leaf_told done 0 r.number) (rw c.axes (omega (arith, axes)))) (e ∙ written))
        where
          all : leaf_refusal c.good.dimension point (length before) ≡ done
          all = unfold leaf_refusal in first_is (holds (rw c.axes first.passes) (holds (le-leb (weights_length c.good.dimension) (length before) (omega (arith, c.axes, axes, room))) all_hold))

          bytes_are : weight_bytes d boxes r.weights ≡ point_bytes (own_weights dims c).ws
          bytes_are = unfold weight_bytes in ap point_bytes (halved_own dims c deep leaf_writes)

          long : 0 + length (weight_bytes d boxes r.weights) ≡ weights_length c.good.dimension
          long = omega (arith, weights_length_is leaf_writes, c.axes)

          written : put 0 (weight_bytes d boxes r.weights) before ≡ point_bytes (own_weights dims c).ws ++ drop (weights_length c.good.dimension) before
          written = unfold put in ap (λ (k : ℕ). weight_bytes d boxes r.weights ++ drop k before) long ∙ ap (λ (l : List ℕ). l ++ drop (weights_length c.good.dimension) before) bytes_are
