-- Request No. 1: what the slope query answers. The whole sheet is checked first, then 12; the leaf is the one of the value query.
use Rattle.std.specs.Prelude.{◌≡◌, true, false, List, ℕ, ℤ, Result, Ok}
use Rattle.bisection.specs.declared.Refused.{Refused}
use Rattle.bisection.specs.Slopes.{Linear}
use Rattle.sheets.specs.Sheets.{sample_width, samples_of, Good, Query}
use Rattle.points.specs.Points.{point_of, is_point}
use Rattle.greys.specs.Samples.{sample_at}
use Rattle.slopes.specs.Slopes.{Components, flat_of}
use Rattle.slopes.specs.declared.Slopes.{Slopes}
use Rattle.slopes.specs.declared.SlopeAnswer.{SlopeAnswer}
use Rattle.queries.specs.Queries.{cell_in, side_in, LeafAt, RefusedAt}
use Rattle.bisection.specs.Refusals.{refused_point}

-- the slope of the only linear function through the leaf's samples: on each axis its number over s exactly
pub data SlopeOn {sheet : List ℕ} {n : ℕ} (g : Good sheet n) (point : List ℕ) (v : Result Slopes Refused) : Type 0 where
  slope_refused : is_point g.dimension point ≡ false → RefusedAt v refused_point 0 → SlopeOn g point v
  slope_found : {i : ℕ} {ns : List ℤ} {x : Slopes} → is_point g.dimension point ≡ true → LeafAt g.cells (point_of point) i
      → Linear (side_in g.cells i) (cell_in g.cells i) (sample_at sample_width (samples_of g.records i)) ns → Components (side_in g.cells i) ns x → v ≡ Ok x → SlopeOn g point v

abbrev pub SlopeIs : List ℕ → List ℕ → Result Slopes Refused → Type 0
SlopeIs sheet point v = Query sheet (RefusedAt v) (λ n g. SlopeOn g point v)

-- the same for a C program: the flat form of an answer that the contract allows
pub record FlatSlopeIs (sheet point : List ℕ) (r : SlopeAnswer) : Type 0 where
  pub answer : Result Slopes Refused
  pub slope : SlopeIs sheet point answer
  pub is : r ≡ flat_of answer
