-- How a row is shown: from conditions that are computed.
use Rattle.std.specs.Prelude.{◌≡◌, refl, true, false, List, [], ◌∷◌, ◌++◌, ℕ, suc, ◌*◌, ◌^◌, ◌≤◌, ◌<◌, T, leb, ltb, ℤ, nat_abs, length, drop}
use Rattle.std.proofs.Common.{sym, ap, ◌∙◌, subst, arith, mul-one, le-leb, leb-true}
use Rattle.dimension.specs.Sizes.{is_dimension, greatest_depth, code_length, points_length}
use Rattle.bisection.specs.Cells.{Point, Cell, vertex, cell_of, point_bytes, cell_bytes}
use Rattle.bisection.specs.Codes.{code_of, dimension_of, depth_of}
use Rattle.bisection.specs.Refusals.{done, code_refusal, is_root, is_path}
use Rattle.bisection.specs.Theorems.Ladders.{all_hold, holds, past}
use Rattle.bisection.proofs.Theorems.Ladders.{first_is}
use Rattle.bisection.specs.Theorems.CodePaths.{root_of, path_of, child_code}
use Rattle.bisection.proofs.Theorems.CodePaths.{code_path}
use Rattle.bisection.proofs.Theorems.CodeCells.{code_cell, cell_passes, one_cell}
use Rattle.bisection.specs.Facets.{IsCell, Across}
use Rattle.bisection.specs.Slopes.{on_axis, Linear}
use Rattle.bisection.specs.Theorems.Neighbour.{is_blocked, table_code, table_place}
use Rattle.bisection.proofs.Theorems.Neighbour.{face_is_blocked, blocked_is_face, blocked_alone, across_unblocked}
use Rattle.codes.specs.Outcomes.{path_refusal, PathToCode, vertices_refusal, Vertices, child_refusal, Child}
use Rattle.codes.specs.PathAnswers.{good_root, code_of_length}
use Rattle.codes.specs.ChildAnswers.{child_of, child_length}
use Rattle.codes.specs.Writing.{done_writes, done_answers}
use Rattle.crossing.specs.Outcome.{by_axes, crossed, wall}
use Rattle.sheets.specs.Sheets.{sheet_mark, sample_width, samples_of, GoodSheet, good, Good, sheet_good}
use Rattle.listing.specs.Texts.{Listing}
use Rattle.points.specs.Points.{point_of, is_point}
use Rattle.greys.specs.Fractions.{Power}
use Rattle.greys.specs.Samples.{grey_sum, sample_at}
use Rattle.greys.specs.Exact.{fraction_same, whole_fraction, quotient_divided}
use Rattle.queries.specs.SlopeQueries.{slope_found}
use Rattle.queries.specs.Queries.{cell_in, side_in, LeafAt, LeafWeights, weights_length, leaf_refusal, leaf_told, leaf_found, value_found}
use Rattle.compatible.specs.Compatible.{yes_or_no, CompatibleIs}
use Rattle.demands.specs.Rows.{Row, path_to_code, vertices, code_check, child_at, cross, walled, sheet_check, listing, leaf_at, value_at, slope_at, compatible, Answered, over_side, Holds, Every}

-- a root and a path that are not refused, and their code
pub record PathShown (root path code : List ℕ) : Type 0 where
  pub dimension : is_dimension (length root) ≡ true
  pub depth : leb (length path) (greatest_depth (length root)) ≡ true
  pub good : is_root root ≡ true
  pub steps : is_path path ≡ true
  pub is : code_of root path ≡ code

-- a code that passes, the bytes of its bisection's cell, and room for as many as the entry asks
pub record CellShown (code points : List ℕ) : Type 0 where
  pub passes : code_refusal code ≡ done
  pub is : cell_bytes (cell_of (root_of code) (path_of code)) ≡ points
  pub size : points_length (dimension_of code) ≡ length points

-- a code that passes and is not deepest, and its child
pub record ChildShown (code : List ℕ) (which : ℕ) (answer : List ℕ) : Type 0 where
  pub passes : code_refusal code ≡ done
  pub step : leb which 1 ≡ true
  pub deeper : ltb (depth_of code) (greatest_depth (dimension_of code)) ≡ true
  pub is : child_code which code ≡ answer

-- a code that passes and one of its facets, which the rule table crosses or not
pub record CrossShown (code : List ℕ) (i : ℕ) (answer : List ℕ) (place : ℕ) (new : Point) : Type 0 where
  pub passes : code_refusal code ≡ done
  pub facet : leb i (dimension_of code) ≡ true
  pub free : is_blocked code i ≡ false
  pub is : table_code code i ≡ answer
  pub at : table_place code i ≡ place
  pub lands : vertex (cell_of (root_of answer) (path_of answer)) place ≡ new

pub record WallShown (code : List ℕ) (i : ℕ) : Type 0 where
  pub passes : code_refusal code ≡ done
  pub facet : leb i (dimension_of code) ≡ true
  pub blocked : is_blocked code i ≡ true

-- a good sheet, a point of the cube, the leaf there and its weights
pub record LeafShown (sheet point : List ℕ) (number : ℕ) (weights : List ℕ) : Type 0 where
  pub count : ℕ
  pub good_sheet : Good sheet count
  pub passes : is_point good_sheet.dimension point ≡ true
  pub leaf : LeafAt good_sheet.cells (point_of point) number
  pub weighs : LeafWeights good_sheet.cells number (point_of point) weights
  pub size : length (point_bytes weights) ≡ weights_length good_sheet.dimension

-- and the sum of the weights times the samples, a multiple of the side
pub record ValueShown (sheet point : List ℕ) (value : ℕ) : Type 0 where
  pub number : ℕ
  pub weights : List ℕ
  pub leaf_shown : LeafShown sheet point number weights
  pub small : value ≤ 2 ^ 53
  pub sum : value * side_in leaf_shown.good_sheet.cells number ≡ grey_sum sample_width weights (samples_of leaf_shown.good_sheet.records number)

-- a good sheet, a point of the cube, the leaf there, and the numbers of its slope: each is a float, and the side is a power of two
pub record SlopeShown (sheet point : List ℕ) (numbers : List ℤ) (side : ℕ) : Type 0 where
  pub count : ℕ
  pub good_sheet : Good sheet count
  pub passes : is_point good_sheet.dimension point ≡ true
  pub number : ℕ
  pub leaf : LeafAt good_sheet.cells (point_of point) number
  pub side_is : side_in good_sheet.cells number ≡ side
  pub linear : Linear side (cell_in good_sheet.cells number) (sample_at sample_width (samples_of good_sheet.records number)) numbers
  pub power : Power side
  pub small : (nat_abs (on_axis numbers 1) < 2 ^ 53) × (nat_abs (on_axis numbers 2) < 2 ^ 53) × (nat_abs (on_axis numbers 3) < 2 ^ 53) × (nat_abs (on_axis numbers 4) < 2 ^ 53)

unfoldable pub Shown : Row → Type 0
Shown (path_to_code root path code) = PathShown root path code
Shown (vertices code points) = CellShown code points
Shown (code_check code refusal) = refusal ≡ code_refusal code
Shown (child_at code which answer) = ChildShown code which answer
Shown (cross code facet answer place new) = CrossShown code facet answer place new
Shown (walled code facet) = WallShown code facet
Shown (sheet_check sheet records) = GoodSheet sheet_mark sample_width sheet records
Shown (listing sheet text) = Listing sheet text
Shown (leaf_at sheet point number weights) = LeafShown sheet point number weights
Shown (value_at sheet point value) = ValueShown sheet point value
Shown (slope_at sheet point numbers side) = SlopeShown sheet point numbers side
Shown (compatible sheet answer) = CompatibleIs sheet (yes_or_no done 0 answer)

path_row : {root path code : List ℕ} → PathShown root path code → Answered (PathToCode root path) code
unfolding Answered path_refusal
path_row {root} {path} {code} a before room = done_writes (code_of root path)
    (first_is (holds a.dimension (holds a.depth (holds a.good (holds a.steps (holds (le-leb (code_length (length root) (length path)) (length before) fits) all_hold))))))
    (ap length (sym a.is)) (ap (λ (c : List ℕ). c ++ drop (length code) before) (sym a.is))
  where
    fits : code_length (length root) (length path) ≤ length before
    fits = omega (arith, code_of_length root path (good_root root a.dimension a.good) ∙ ap length a.is)

cell_row : {code points : List ℕ} → CellShown code points → Answered (Vertices code) points
unfolding Answered vertices_refusal
cell_row {code} {points} a before room = done_answers points (first_is (past a.passes (holds (le-leb (points_length (dimension_of code)) (length before) (omega (arith, a.size))) all_hold))) refl refl
    (record { root = root_of code; path = path_of code; is_code = code_path code a.passes; is = sym a.is })

child_row : {code : List ℕ} {which : ℕ} {answer : List ℕ} → ChildShown code which answer → Answered (Child code which) answer
unfolding Answered child_refusal
child_row {code} {which} {answer} a before room = done_answers (child_code which code)
    (first_is (past a.passes (holds a.step (holds a.deeper (holds (le-leb (code_length (dimension_of code) (suc (depth_of code))) (length before) fits) all_hold)))))
    (ap length (sym a.is)) (ap (λ (c : List ℕ). c ++ drop (length answer) before) (sym a.is)) (child_of code which a.passes)
  where
    fits : code_length (dimension_of code) (suc (depth_of code)) ≤ length before
    fits = omega (arith, child_length code which a.passes ∙ ap length a.is)

cross_row : {code : List ℕ} {i : ℕ} {answer : List ℕ} {place : ℕ} {new : Point} → CrossShown code i answer place new → Holds (cross code i answer place new)
unfolding Holds
cross_row {code} {i} {answer} {place} {new} a before room = record {
  own = λ n. absurd (n a.passes);
  above = λ e l. absurd (omega (arith, il, l));
  meets = λ e l. crossed answer place
      (record { vs = cell_of (root_of code) (path_of code); cell = c; free = λ w. absurd (wrong (sym (face_is_blocked c i il w) ∙ a.free)); across = across })
      room
      (record { number = refl; place = refl; size = refl; vertex = ap by_axes (sym a.lands ∙ ap (λ (ws : Cell). vertex ws place) there); written = refl });
}
  where
    c : IsCell code (cell_of (root_of code) (path_of code))
    c = code_cell code a.passes

    il : i ≤ dimension_of code
    il = leb-true i (dimension_of code) a.facet

    wrong : true ≡ false → ⊥
    wrong e = subst T e tt

    across : Across code i answer place
    across = subst (λ (j : ℕ). Across code i answer j) a.at (subst (λ (l : List ℕ). Across code i l (table_place code i)) a.is (across_unblocked c i il a.free))

    there : cell_of (root_of answer) (path_of answer) ≡ across.shares.ws
    there = one_cell (code_cell answer (cell_passes across.shares.cell')) across.shares.cell'

wall_row : {code : List ℕ} {i : ℕ} → WallShown code i → Holds (walled code i)
unfolding Holds
wall_row {code} {i} a before = record {
  own = λ n. absurd (n a.passes);
  above = λ e l. absurd (omega (arith, il, l));
  meets = λ e l. wall
      (record { vs = cell_of (root_of code) (path_of code); cell = c; face = blocked_is_face c i il a.blocked; alone = blocked_alone c i il a.blocked })
      (record { number = refl; place = refl; size = refl; vertex = refl; kept = refl });
}
  where
    c : IsCell code (cell_of (root_of code) (path_of code))
    c = code_cell code a.passes

    il : i ≤ dimension_of code
    il = leb-true i (dimension_of code) a.facet

leaf_row : {sheet point : List ℕ} {number : ℕ} {weights : List ℕ} → LeafShown sheet point number weights → Holds (leaf_at sheet point number weights)
unfolding Holds leaf_refusal
leaf_row {sheet} {point} {number} {weights} a before room = sheet_good a.good_sheet (leaf_found
    (first_is (holds a.passes (holds (le-leb (weights_length a.good_sheet.dimension) (length before) (omega (arith, a.size))) all_hold)))
    a.leaf a.weighs (ap (leaf_told done 0 number) a.size) (ap (λ (n : ℕ). point_bytes weights ++ drop n before) a.size))

value_row : {sheet point : List ℕ} {value : ℕ} → ValueShown sheet point value → Holds (value_at sheet point value)
unfolding Holds
value_row {value = value} a = let b = a.leaf_shown in
    sheet_good b.good_sheet (value_found b.passes b.leaf b.weighs (fraction_same (omega arith) (a.sum ∙ sym (mul-one (grey_sum sample_width a.weights (samples_of b.good_sheet.records a.number)))) (whole_fraction a.small)) refl)

slope_row : {sheet point : List ℕ} {numbers : List ℤ} {side : ℕ} → SlopeShown sheet point numbers side → Holds (slope_at sheet point numbers side)
unfolding Holds
slope_row {numbers = numbers} {side = side} a = sheet_good a.good_sheet (slope_found {ns = numbers} {x = over_side side numbers} a.passes a.leaf
    (rw a.side_is a.linear) (rw a.side_is (record {
      first = quotient_divided a.small.0 a.power;
      second = quotient_divided a.small.1 a.power;
      third = quotient_divided a.small.2 a.power;
      fourth = quotient_divided a.small.3 a.power;
    })) refl)

row : (r : Row) → Shown r → Holds r
unfolding Shown Holds
row (path_to_code root path code) a = path_row a
row (vertices code points) a = cell_row a
row (code_check code refusal) a = a
row (child_at code which answer) a = child_row a
row (cross code facet answer place new) a = cross_row a
row (walled code facet) a = wall_row a
row (sheet_check sheet records) a = good a refl
row (listing sheet text) a = λ before. record { text = text; listing = a; length_is = refl; front = refl }
row (leaf_at sheet point number weights) a = leaf_row a
row (value_at sheet point value) a = value_row a
row (slope_at sheet point numbers side) a = slope_row a
row (compatible sheet answer) a = a

-- row by row
infixr 5 ◌and◌
pub data EveryShown : List Row → Type 0 where
  no_more : EveryShown []
  ◌and◌ : {r : Row} {rows : List Row} → Shown r → EveryShown rows → EveryShown (r ∷ rows)

pub every : (rows : List Row) → EveryShown rows → Every rows
unfolding Every
every [] no_more = tt
every (r ∷ rows) (a and rest) = (row r a, every rows rest)
