-- Document 01, "Sheets" and "Refusal numbers": the leaf at a point, and what the leaf query and the value query answer, every lent
-- cell included. The whole sheet is checked first, then 12, then 11 where the weights go to a lent buffer.
use Rattle.std.specs.Prelude.{◌≡◌, true, false, List, [], ◌∷◌, ◌++◌, ◌≢◌, ℕ, suc, ◌*◌, ◌<◌, leb, length, drop, Float, Result, Ok, IsErrAnd}
use Rattle.dimension.specs.Sizes.{box_side}
use Rattle.bisection.specs.Cells.{Point, Cell, cell_of, point_bytes}
use Rattle.bisection.specs.declared.Refused.{Refused}
use Rattle.bisection.specs.Refusals.{done, refused_short, need, first_refusal, refused_point}
use Rattle.bisection.specs.Numbers.{number_of}
use Rattle.bisection.specs.Weights.{Weighs, Inside}
use Rattle.sheets.specs.Forests.{TreeCell}
use Rattle.sheets.specs.Sheets.{sample_width, leaf_in, samples_of, Good, Query}
use Rattle.points.specs.Points.{point_of, is_point}
use Rattle.greys.specs.Fractions.{Fraction}
use Rattle.greys.specs.Samples.{grey_sum}
use Rattle.greys.specs.Values.{flat_of}
use Rattle.greys.specs.declared.ValueAnswer.{ValueAnswer}
use Rattle.queries.specs.declared.LeafAnswer.{LeafAnswer}

-- the cell of leaf i
abbrev pub cell_in : List TreeCell → ℕ → Cell
cell_in cs i = cell_of (leaf_in cs i).root (leaf_in cs i).path

-- the side of the leaf's box
abbrev pub side_in : List TreeCell → ℕ → ℕ
side_in cs i = box_side (length (leaf_in cs i).root) (length (leaf_in cs i).path)

-- the leaf at the point: the first in tree order whose closed cell contains it, counted from 0
pub record LeafAt (cs : List TreeCell) (p : Point) (i : ℕ) : Type 0 where
  pub number : i < length cs
  pub inside : Inside (cell_in cs i) p
  pub first : (j : ℕ) → j < i → Inside (cell_in cs j) p → ⊥

-- its weights: those of sum s
abbrev pub LeafWeights : List TreeCell → ℕ → Point → List ℕ → Type 0
LeafWeights cs i p ws = Weighs (cell_in cs i) p (side_in cs i) ws

-- a weight is two bytes, low byte first, one for each vertex
abbrev pub weights_length : ℕ → ℕ
weights_length d = 2 * suc d

unfoldable pub leaf_refusal : ℕ → List ℕ → ℕ → ℕ
leaf_refusal d point room = first_refusal (
    need (is_point d point) refused_point
    ∷ need (leb (weights_length d) room) refused_short
    ∷ [])

abbrev pub leaf_told : ℕ → ℕ → ℕ → ℕ → LeafAnswer
leaf_told refusal offset number length = record { refusal = refusal; offset = offset; number = number; length = length }

-- the leaf query: the record's number, and the weights at the front of the lent buffer
pub data LeafOn {sheet : List ℕ} {n : ℕ} (g : Good sheet n) (point before : List ℕ) (r : LeafAnswer) (after : List ℕ) : Type 0 where
  leaf_refused : leaf_refusal g.dimension point (length before) ≢ done → r ≡ leaf_told (leaf_refusal g.dimension point (length before)) 0 0 0 → after ≡ before → LeafOn g point before r after
  leaf_found : {i : ℕ} {ws : List ℕ} → leaf_refusal g.dimension point (length before) ≡ done → LeafAt g.cells (point_of point) i → LeafWeights g.cells i (point_of point) ws
      → r ≡ leaf_told done 0 i (weights_length g.dimension) → after ≡ point_bytes ws ++ drop (weights_length g.dimension) before → LeafOn g point before r after

abbrev pub LeafIs : List ℕ → List ℕ → List ℕ → LeafAnswer → List ℕ → Type 0
LeafIs sheet point before r after = Query sheet (λ number offset. (r ≡ leaf_told number offset 0 0) × (after ≡ before)) (λ n g. LeafOn g point before r after)

-- a refusal of this number, at this offset
abbrev pub Tells : Refused → ℕ → ℕ → Type 0
Tells r number offset = (number_of r.refusal ≡ number) × (r.offset ≡ offset)

-- an answer that is such a refusal
abbrev pub RefusedAt : {A : Type 0} → Result A Refused → ℕ → ℕ → Type 0
RefusedAt v number offset = IsErrAnd v (λ r. Tells r number offset)

-- the value query: the fraction (sum of wi times sample i) / s exactly
pub data ValueOn {sheet : List ℕ} {n : ℕ} (g : Good sheet n) (point : List ℕ) (v : Result Float Refused) : Type 0 where
  value_refused : is_point g.dimension point ≡ false → RefusedAt v refused_point 0 → ValueOn g point v
  value_found : {i : ℕ} {ws : List ℕ} {x : Float} → is_point g.dimension point ≡ true → LeafAt g.cells (point_of point) i → LeafWeights g.cells i (point_of point) ws
      → Fraction x (grey_sum sample_width ws (samples_of g.records i)) (side_in g.cells i) → v ≡ Ok x → ValueOn g point v

abbrev pub ValueIs : List ℕ → List ℕ → Result Float Refused → Type 0
ValueIs sheet point v = Query sheet (RefusedAt v) (λ n g. ValueOn g point v)

-- the same for a C program: the flat form of an answer that the contract allows
pub record FlatValueIs (sheet point : List ℕ) (r : ValueAnswer) : Type 0 where
  pub answer : Result Float Refused
  pub value : ValueIs sheet point answer
  pub is : r ≡ flat_of answer
