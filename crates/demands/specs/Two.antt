-- Demand 2. Codes, paths, vertices, parents, children, leaf sheets and point queries agree with Maubach's bisection as document 01 writes
-- it (`cell_of`, `child`). Path to code and code to path undo each other, as calls; every cell up to the depth limit has exactly one code.
use Rattle.std.specs.Prelude.{◌≡◌, List, ℕ, length, take, ℤ, Float, Ok}
use Rattle.dimension.specs.Sizes.{split_place}
use Rattle.bisection.specs.Cells.{Cell, cell_of, cell_bytes, point_bytes, child}
use Rattle.bisection.specs.Roots.{GoodRoot, GoodPath}
use Rattle.bisection.specs.Codes.{dimension_of, depth_of}
use Rattle.bisection.specs.Refusals.{done}
use Rattle.bisection.specs.Facets.{IsCell}
use Rattle.bisection.specs.Slopes.{Linear}
use Rattle.codes.specs.declared.Written.{Written}
use Rattle.codes.specs.declared.PathWritten.{PathWritten}
use Rattle.codes.specs.Outcomes.{PathToCode, CodeToPath, Vertices, Child, Parent}
use Rattle.sheets.specs.declared.SheetAnswer.{SheetAnswer}
use Rattle.sheets.specs.Sheets.{SheetIs, Good, sample_width, samples_of}
use Rattle.points.specs.Points.{point_of}
use Rattle.queries.specs.declared.LeafAnswer.{LeafAnswer}
use Rattle.queries.specs.Queries.{LeafIs, LeafAt, LeafWeights, ValueIs, cell_in, side_in}
use Rattle.queries.specs.SlopeQueries.{SlopeIs}
use Rattle.greys.specs.Fractions.{Fraction}
use Rattle.greys.specs.Samples.{grey_sum, sample_at}
use Rattle.slopes.specs.declared.Slopes.{Slopes}
use Rattle.slopes.specs.Slopes.{Components}
use Rattle.compatible.specs.declared.CompatibleAnswer.{CompatibleAnswer}
use Rattle.rings.specs.Compatible.{Compatible}
use Rattle.compatible.specs.Compatible.{CompatibleIs}

-- a code for a cell: there is one, and no other
pub record OneCode (vs : Cell) : Type 0 where
  pub code : List ℕ
  pub its : IsCell code vs
  pub only : (code' : List ℕ) → IsCell code' vs → code' ≡ code

-- a sheet's leaf at a point: the first whose closed cell contains it, with its weights of sum s
pub record There (sheet point : List ℕ) : Type 0 where
  pub count : ℕ
  pub good : Good sheet count
  pub number : ℕ
  pub leaf : LeafAt good.cells (point_of point) number
  pub weights : List ℕ
  pub weighs : LeafWeights good.cells number (point_of point) weights

-- a sheet's slopes at a point: those of the only linear function through the samples of the leaf there, over s
pub record SlopesThere (sheet point : List ℕ) (x : Slopes) : Type 0 where
  pub count : ℕ
  pub good : Good sheet count
  pub number : ℕ
  pub leaf : LeafAt good.cells (point_of point) number
  pub numbers : List ℤ
  pub linear : Linear (side_in good.cells number) (cell_in good.cells number) (sample_at sample_width (samples_of good.records number)) numbers
  pub only : (ns : List ℤ) → Linear (side_in good.cells number) (cell_in good.cells number) (sample_at sample_width (samples_of good.records number)) ns → ns ≡ numbers
  pub components : Components (side_in good.cells number) numbers x

pub record Demand2 : Type 0 where
  -- what the one writes, given to the other, comes back
  pub path_and_back : (root path before : List ℕ) (r : Written) (after : List ℕ) → PathToCode root path before r after → r.refusal ≡ done
      → (roots paths : List ℕ) (s : PathWritten) (roots' paths' : List ℕ) → CodeToPath (take r.length after) roots paths s roots' paths' → s.refusal ≡ done
      → (take s.axes roots' ≡ root) × (take s.depth paths' ≡ path)
  pub code_and_back : (code roots paths : List ℕ) (s : PathWritten) (roots' paths' : List ℕ) → CodeToPath code roots paths s roots' paths' → s.refusal ≡ done
      → (before : List ℕ) (r : Written) (after : List ℕ) → PathToCode (take s.axes roots') (take s.depth paths') before r after → r.refusal ≡ done → take r.length after ≡ code
  -- every cell up to the depth limit has exactly one code
  pub one_code : (root path : List ℕ) → GoodRoot root → GoodPath (length root) path → OneCode (cell_of root path)
  -- vertices, children and parents are the bisection's
  pub vertices : (code before : List ℕ) (r : Written) (after : List ℕ) → Vertices code before r after → r.refusal ≡ done → (vs : Cell) → IsCell code vs → take r.length after ≡ cell_bytes vs
  pub child_of : (code : List ℕ) (which : ℕ) (before : List ℕ) (r : Written) (after : List ℕ) → Child code which before r after → r.refusal ≡ done
      → (vs : Cell) → IsCell code vs → IsCell (take r.length after) (child which (split_place (dimension_of code) (depth_of code)) vs)
  pub parent_of : (code before : List ℕ) (r : Written) (after : List ℕ) → Parent code before r after → r.refusal ≡ done
      → (vs ws : Cell) → IsCell code vs → IsCell (take r.length after) ws → (which : ℕ) × (vs ≡ child which (split_place (dimension_of (take r.length after)) (depth_of (take r.length after))) ws)
  -- the sheet check's yes is exactly a good sheet, and the count is that of its records
  pub yes_good : (sheet : List ℕ) (r : SheetAnswer) → SheetIs sheet r → r.refusal ≡ done → Good sheet r.records
  pub good_yes : (sheet : List ℕ) (r : SheetAnswer) → SheetIs sheet r → (n : ℕ) → Good sheet n → (r.refusal ≡ done) × (r.records ≡ n)
  -- the point queries' answers are those of the cells
  pub leaf_at : (sheet point before : List ℕ) (r : LeafAnswer) (after : List ℕ) → LeafIs sheet point before r after → r.refusal ≡ done
      → (t : There sheet point) × (r.number ≡ t.number) × (take r.length after ≡ point_bytes t.weights)
  pub value_at : (sheet point : List ℕ) (x : Float) → ValueIs sheet point (Ok x)
      → (t : There sheet point) × Fraction x (grey_sum sample_width t.weights (samples_of t.good.records t.number)) (side_in t.good.cells t.number)
  pub slope_at : (sheet point : List ℕ) (x : Slopes) → SlopeIs sheet point (Ok x) → SlopesThere sheet point x
  -- a sheet is said to be compatible exactly where it is
  pub compatible : (sheet : List ℕ) (r : CompatibleAnswer) → CompatibleIs sheet r → (n : ℕ) (g : Good sheet n) → (r.compatible ≡ 1 → Compatible g.cells) × (Compatible g.cells → r.compatible ≡ 1)
