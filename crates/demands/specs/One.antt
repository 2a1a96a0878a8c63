-- Demand 1. Every entry takes any bytes, numbers and lent buffers, and ends: no contract has a `requires`, and every function is proved
-- to return. Here is the rest of it: a refusal is a number of document 01's table, the answer's other numbers are zero, and no lent
-- cell is changed. The one exception is document 01's: what is refused while a sheet is read has the offset too.
use Rattle.std.specs.Prelude.{◌≡◌, List, [], ◌∷◌, ◌≢◌, ℕ, ◌≤◌}
use Rattle.bisection.specs.Refusals.{done, code_refusal}
use Rattle.codes.specs.declared.Written.{Written}
use Rattle.codes.specs.declared.PathWritten.{PathWritten}
use Rattle.codes.specs.Outcomes.{PathToCode, CodeToPath, Vertices, Child, Parent}
use Rattle.crossing.specs.declared.Crossed.{Crossed}
use Rattle.crossing.specs.Outcome.{Crosses}
use Rattle.sheets.specs.declared.SheetAnswer.{SheetAnswer}
use Rattle.sheets.specs.Sheets.{SheetIs}
use Rattle.queries.specs.declared.LeafAnswer.{LeafAnswer}
use Rattle.queries.specs.Queries.{LeafIs, FlatValueIs}
use Rattle.greys.specs.declared.ValueAnswer.{ValueAnswer}
use Rattle.greys.specs.Fractions.{plus_zero}
use Rattle.queries.specs.SlopeQueries.{FlatSlopeIs}
use Rattle.slopes.specs.declared.SlopeAnswer.{SlopeAnswer}
use Rattle.slopes.specs.Slopes.{no_slopes}
use Rattle.compatible.specs.declared.CompatibleAnswer.{CompatibleAnswer}
use Rattle.compatible.specs.Compatible.{CompatibleIs}

-- each is zero
unfoldable pub Zero : List ℕ → Type 0
Zero [] = Unit {0}
Zero (n ∷ ns) = (n ≡ 0) × Zero ns

-- a refusal: its number, which document 01's table has, the answer's other numbers, and the lent buffers before and after
pub record Clean (number : ℕ) (others : List ℕ) (before after : List (List ℕ)) : Type 0 where
  pub in_table : number ≤ 15
  pub zero : Zero others
  pub kept : after ≡ before

-- the offset of a sheet is the sheet check's, which is 0 of a good one
abbrev pub OffsetOf : List ℕ → ℕ → Type 0
OffsetOf sheet offset = (a : SheetAnswer) → SheetIs sheet a → offset ≡ a.offset

pub record Demand1 : Type 0 where
  pub code_check : (code : List ℕ) → code_refusal code ≤ 15
  pub path_to_code : (root path before : List ℕ) (r : Written) (after : List ℕ) → PathToCode root path before r after → r.refusal ≢ done → Clean r.refusal (r.length ∷ []) (before ∷ []) (after ∷ [])
  pub code_to_path : (code roots paths : List ℕ) (r : PathWritten) (roots' paths' : List ℕ) → CodeToPath code roots paths r roots' paths' → r.refusal ≢ done
      → Clean r.refusal (r.axes ∷ r.depth ∷ []) (roots ∷ paths ∷ []) (roots' ∷ paths' ∷ [])
  pub vertices : (code before : List ℕ) (r : Written) (after : List ℕ) → Vertices code before r after → r.refusal ≢ done → Clean r.refusal (r.length ∷ []) (before ∷ []) (after ∷ [])
  pub child : (code : List ℕ) (which : ℕ) (before : List ℕ) (r : Written) (after : List ℕ) → Child code which before r after → r.refusal ≢ done → Clean r.refusal (r.length ∷ []) (before ∷ []) (after ∷ [])
  pub parent : (code before : List ℕ) (r : Written) (after : List ℕ) → Parent code before r after → r.refusal ≢ done → Clean r.refusal (r.length ∷ []) (before ∷ []) (after ∷ [])
  pub cross : (code : List ℕ) (facet : ℕ) (before : List ℕ) (r : Crossed) (after : List ℕ) → Crosses code facet before r after → r.refusal ≢ done
      → Clean r.refusal (r.place ∷ r.length ∷ r.vertex.first ∷ r.vertex.second ∷ r.vertex.third ∷ r.vertex.fourth ∷ []) (before ∷ []) (after ∷ [])
  pub sheet_check : (sheet : List ℕ) (r : SheetAnswer) → SheetIs sheet r → r.refusal ≢ done → Clean r.refusal (r.records ∷ []) [] []
  pub leaf_at : (sheet point before : List ℕ) (r : LeafAnswer) (after : List ℕ) → LeafIs sheet point before r after → r.refusal ≢ done
      → Clean r.refusal (r.number ∷ r.length ∷ []) (before ∷ []) (after ∷ []) × OffsetOf sheet r.offset
  pub value_at : (sheet point : List ℕ) (r : ValueAnswer) → FlatValueIs sheet point r → r.refusal ≢ done → Clean r.refusal [] [] [] × OffsetOf sheet r.offset × (r.value ≡ plus_zero)
  pub slope_at : (sheet point : List ℕ) (r : SlopeAnswer) → FlatSlopeIs sheet point r → r.refusal ≢ done → Clean r.refusal [] [] [] × OffsetOf sheet r.offset × (r.slopes ≡ no_slopes)
  pub compatible : (sheet : List ℕ) (r : CompatibleAnswer) → CompatibleIs sheet r → r.refusal ≢ done → Clean r.refusal (r.compatible ∷ []) [] [] × OffsetOf sheet r.offset
