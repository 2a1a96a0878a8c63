-- What a row of worked cells says. A row is an entry, its input and its outcome; it holds where the entry's contract
-- allows that outcome, for every lent buffer with room. By the theorem that two outcomes of a contract are equal,
-- the entry then has no other.
use Rattle.std.specs.Prelude.{◌≡◌, List, [], ◌∷◌, ◌++◌, ℕ, ◌≤◌, length, drop, ℤ, pos, Ok}
use Rattle.bisection.specs.Refusals.{done, refused_face, code_refusal}
use Rattle.codes.specs.declared.Written.{Written}
use Rattle.codes.specs.Outcomes.{PathToCode, Vertices, Child}
use Rattle.crossing.specs.Outcome.{by_axes, nowhere, Crosses}
use Rattle.sheets.specs.Sheets.{told, SheetIs}
use Rattle.listing.specs.Texts.{Lists}
use Rattle.std.specs.Float.{binary64}
use Rattle.std.specs.Float.Ieee.{of_int, div}
use Rattle.bisection.specs.Cells.{Point, point_bytes}
use Rattle.bisection.specs.Slopes.{on_axis}
use Rattle.queries.specs.Queries.{leaf_told, LeafIs, ValueIs}
use Rattle.queries.specs.SlopeQueries.{SlopeIs}
use Rattle.compatible.specs.Compatible.{yes_or_no, CompatibleIs}
use Rattle.slopes.specs.declared.Slopes.{Slopes}

pub data Row : Type 0 where
  path_to_code : (root path code : List ℕ) → Row
  -- the points as bytes, a coordinate in two, the low byte first
  vertices : (code points : List ℕ) → Row
  code_check : (code : List ℕ) (refusal : ℕ) → Row
  child_at : (code : List ℕ) (which : ℕ) (answer : List ℕ) → Row
  -- the answer's new vertex: its place, and its coordinates
  cross : (code : List ℕ) (facet : ℕ) (answer : List ℕ) (place : ℕ) (vertex : Point) → Row
  -- refusal 8
  walled : (code : List ℕ) (facet : ℕ) → Row
  sheet_check : (sheet : List ℕ) (records : ℕ) → Row
  listing : (sheet text : List ℕ) → Row
  -- the point as bytes, a coordinate in two, the low byte first
  leaf_at : (sheet point : List ℕ) (number : ℕ) (weights : List ℕ) → Row
  -- a value that is a whole number
  value_at : (sheet point : List ℕ) (value : ℕ) → Row
  -- the slopes: on each axis a whole number with a sign, over the side
  slope_at : (sheet point : List ℕ) (numbers : List ℤ) (side : ℕ) → Row
  -- 1 for yes, 0 for no
  compatible : (sheet : List ℕ) (answer : ℕ) → Row

-- the answer stands at the front of every buffer with room for it, and the other cells keep their content
unfoldable pub Answered : (List ℕ → Written → List ℕ → Type 0) → List ℕ → Type 0
Answered contract answer = (before : List ℕ) → length answer ≤ length before → contract before (record { refusal = done; length = length answer }) (answer ++ drop (length answer) before)

-- a number over the side, as f64s are divided; on an axis past the last number it is 0 over the side
abbrev pub over_side : ℕ → List ℤ → Slopes
over_side side ns = record {
  first = div binary64 (of_int binary64 (on_axis ns 1)) (of_int binary64 (pos side));
  second = div binary64 (of_int binary64 (on_axis ns 2)) (of_int binary64 (pos side));
  third = div binary64 (of_int binary64 (on_axis ns 3)) (of_int binary64 (pos side));
  fourth = div binary64 (of_int binary64 (on_axis ns 4)) (of_int binary64 (pos side));
}

unfoldable pub Holds : Row → Type 0
Holds (path_to_code root path code) = Answered (PathToCode root path) code
Holds (vertices code points) = Answered (Vertices code) points
Holds (code_check code refusal) = refusal ≡ code_refusal code
Holds (child_at code which answer) = Answered (Child code which) answer
Holds (cross code facet answer place vertex) = (before : List ℕ) → length answer ≤ length before
    → Crosses code facet before (record { refusal = done; place = place; length = length answer; vertex = by_axes vertex }) (answer ++ drop (length answer) before)
Holds (walled code facet) = (before : List ℕ) → Crosses code facet before (record { refusal = refused_face; place = 0; length = 0; vertex = nowhere }) before
Holds (sheet_check sheet records) = SheetIs sheet (told done 0 records)
Holds (listing sheet text) = (before : List ℕ) → Lists sheet before (length text) (text ++ drop (length text) before)
Holds (leaf_at sheet point number weights) = (before : List ℕ) → length (point_bytes weights) ≤ length before
    → LeafIs sheet point before (leaf_told done 0 number (length (point_bytes weights))) (point_bytes weights ++ drop (length (point_bytes weights)) before)
Holds (value_at sheet point value) = ValueIs sheet point (Ok (of_int binary64 (pos value)))
Holds (slope_at sheet point numbers side) = SlopeIs sheet point (Ok (over_side side numbers))
Holds (compatible sheet answer) = CompatibleIs sheet (yes_or_no done 0 answer)

unfoldable pub Every : List Row → Type 0
Every [] = Unit {0}
Every (row ∷ rows) = Holds row × Every rows
