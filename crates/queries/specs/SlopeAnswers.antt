-- The answer of the slope query, put together: the check of the sheet, the leaf's code and samples, its slopes.
use Rattle.std.specs.Prelude.{◌≡◌, refl, true, List, ℕ, suc, ◌+◌, ◌*◌, ◌≤◌, length, take, drop, Ok, Err}
use Rattle.std.proofs.Common.{sym, ap, ◌∙◌, subst, arith}
use Rattle.dimension.specs.Sizes.{code_length}
use Rattle.bisection.specs.declared.Refused.{Refused}
use Rattle.bisection.specs.Codes.{code_of, IsCodeOf, dimension_of}
use Rattle.bisection.specs.Refusals.{done, code_refusal}
use Rattle.bisection.proofs.Theorems.CodePaths.{code_passes, length_root}
use Rattle.sheets.specs.Forests.{TreeCell}
use Rattle.sheets.specs.Sheets.{samples_of, GoodSheet, leaf_in, sheet_mark, sample_width, sheet_refused, sheet_good}
use Rattle.sheets.specs.declared.Edition.{Edition}
use Rattle.sheets.specs.Steps.{mark_of}
use Rattle.sheets.specs.Theorems.Listing.{GoodCell, code_of_cell}
use Rattle.points.specs.Points.{point_of, is_point}
use Rattle.slopes.specs.Gathering.{SlopesOf, CellSlopes}
use Rattle.slopes.specs.declared.Slopes.{Slopes}
use Rattle.finding.specs.Walk.{leaf_good}
use Rattle.queries.specs.declared.Standing.{Standing}
use Rattle.queries.specs.Queries.{LeafAt}
use Rattle.queries.specs.SlopeQueries.{slope_refused, slope_found, SlopeIs}
use Rattle.queries.specs.Choice.{ChoiceReady, StandsIs, stands_room}
use Rattle.queries.specs.Answers.{slice, slice_at, slice_length, FirstReady, NotAsked}

-- the slopes in the leaf at a point of a good sheet
pub record SlopesAt (mark : List ℕ) (width : ℕ) (sheet : List ℕ) (d : ℕ) (point : List ℕ) (x : Slopes) : Type 0 where
  pub count : ℕ
  pub good : GoodSheet mark width sheet count
  pub axes : good.dimension ≡ d
  pub passes : is_point d point ≡ true
  pub number : ℕ
  pub leaf_at : LeafAt good.cells (point_of point) number
  pub slopes : CellSlopes (leaf_in good.cells number).root (leaf_in good.cells number).path width (samples_of good.records number) x

module _ {mark : List ℕ} {width : ℕ} {sheet : List ℕ} {d : ℕ} {point : List ℕ} {r : Standing} (ready : ChoiceReady mark width sheet d point × (width ≤ 3))
    (s : StandsIs mark width sheet d (point_of point) r) where
  abbrev leaf : TreeCell
  leaf = leaf_in s.good.cells r.number

  cell : GoodCell leaf × (length leaf.root ≡ s.good.dimension)
  cell = leaf_good s.good r.number s.leaf_at.number

  pub code_end : {n : ℕ} → n ≡ code_length d r.depth → r.offset + length mark + n ≤ length sheet
  code_end code_is = omega (arith, stands_room s code_is)

  -- n is the code's length and m that of the samples
  module _ {n m : ℕ} (code_is : n ≡ code_length d r.depth) (samples_are : (m ≡ width * suc d) × (m ≤ 65536)) where
    length_is : n ≡ code_length s.good.dimension (length leaf.path)
    length_is = code_is ∙ rw (s.axes, s.depth_is) refl

    size_is : m ≡ width * suc s.good.dimension
    size_is = samples_are.0 ∙ rw s.axes refl

    pub slopes_end : r.offset + length mark + n + m ≤ length sheet
    slopes_end = omega (arith, s.stands.room, length_is, size_is)

    code_in : slice sheet (r.offset + length mark) n ≡ code_of leaf.root leaf.path
    code_in = slice_at sheet (r.offset + length mark) n ∙ ap (λ (k : ℕ). take k (drop (r.offset + length mark) sheet)) length_is ∙ s.stands.code_is

    behind : r.offset + length mark + n ≡ r.offset + (length mark + code_length s.good.dimension (length leaf.path))
    behind = omega (arith, length_is)

    samples_in : slice sheet (r.offset + length mark + n) m ≡ samples_of s.good.records r.number
    samples_in = slice_at sheet (r.offset + length mark + n) m ∙ ap (λ (k : ℕ). take m (drop k sheet)) behind
        ∙ ap (λ (k : ℕ). take k (drop (r.offset + (length mark + code_length s.good.dimension (length leaf.path))) sheet)) size_is ∙ s.stands.samples_are

    is_code : IsCodeOf (slice sheet (r.offset + length mark) n) leaf.root leaf.path
    is_code = subst (λ (l : List ℕ). IsCodeOf l leaf.root leaf.path) (sym code_in) (code_of_cell cell.0)

    samples_room : length (slice sheet (r.offset + length mark + n) m) ≡ m
    samples_room = slice_length sheet (r.offset + length mark + n) m slopes_end

    pub slopes_code : code_refusal (slice sheet (r.offset + length mark) n) ≡ done
    slopes_code = rw is_code.is (code_passes leaf.root leaf.path is_code.good_root is_code.good_path)

    pub slopes_ready : {code : List ℕ} → code ≡ slice sheet (r.offset + length mark) n
        → (width * suc (dimension_of code) ≤ length (slice sheet (r.offset + length mark + n) m)) × (width ≤ 3)
    slopes_ready {code} same = (omega (arith, samples_room, size_is, ap (λ (k : ℕ). width * suc k) (ap dimension_of same ∙ sym (length_root is_code) ∙ cell.1)), ready.1)

    pub slopes_are : {x : Slopes} → SlopesOf (slice sheet (r.offset + length mark) n) width (slice sheet (r.offset + length mark + n) m) x → SlopesAt mark width sheet d point x
    slopes_are {x} o = record {
      count = s.count;
      good = s.good;
      axes = s.axes;
      passes = ready.0.passes;
      number = r.number;
      leaf_at = s.leaf_at;
      slopes = subst (λ (l : List ℕ). CellSlopes leaf.root leaf.path width l x) samples_in (o.of leaf.root leaf.path is_code);
    }

-- ---- the front of a query

pub slope_not : {sheet point : List ℕ} {r : Refused} → NotAsked sheet point r → SlopeIs sheet point (Err r)
slope_not (sheet_refused s k t) = sheet_refused s k t
slope_not (sheet_good g t) = sheet_good g (slope_refused t.0 t.1)

-- ---- the edition of document 01

pub slopes_first : {e : Edition} {sheet point : List ℕ} {d : ℕ} → FirstReady e sheet d point → ChoiceReady (mark_of e) e.width sheet d point × (e.width ≤ 3)
slopes_first r = (r.ready, omega (arith, r.first.width_is))

pub slope_done : {e : Edition} {bytes sheet point : List ℕ} {d : ℕ} {x : Slopes} → FirstReady e sheet d point → bytes ≡ sheet → SlopesAt (mark_of e) e.width bytes d point x → SlopeIs sheet point (Ok x)
slope_done {e} {bytes} {sheet} {point} {d} {x} r same c = go (subst (λ (s : List ℕ). SlopesAt sheet_mark sample_width s d point x) same (subst (λ (w : ℕ). SlopesAt sheet_mark w bytes d point x) r.first.width_is
    (subst (λ (m : List ℕ). SlopesAt m e.width bytes d point x) r.first.mark_is c)))
  where
    go : SlopesAt sheet_mark sample_width sheet d point x → SlopeIs sheet point (Ok x)
    go c = sheet_good c.good (slope_found (rw c.axes c.passes) c.leaf_at c.slopes.linear c.slopes.components refl)
