-- What the functions of the sheet layer answer.
use Rattle.std.specs.Prelude.{◌≡◌, true, false, List, [], ◌∷◌, ◌≢◌, ℕ, Option, Some, None, Result, Ok, Err, suc, ◌+◌, ◌*◌, ◌^◌, ◌≤◌, ◌<◌, length, slice_index}
use Rattle.dimension.specs.declared.Dim.{Dim}
use Rattle.dimension.specs.Sizes.{axes_of, root_count, box_depth}
use Rattle.bisection.specs.declared.Refusal.{Refusal}
use Rattle.bisection.specs.Refusals.{refused_leaf}
use Rattle.bisection.specs.Numbers.{number_of}
use Rattle.codes.specs.Fronts.{front_dimension, front_length}
use Rattle.next.specs.declared.Next.{Next}
use Rattle.next.specs.declared.Match.{Match}
use Rattle.next.specs.Nexts.{MatchIs, AfterReady, AfterIs, FirstIs}
use Rattle.sheets.specs.declared.State.{State}
use Rattle.sheets.specs.declared.RecordParts.{RecordParts}
use Rattle.sheets.specs.declared.Edition.{Edition}
use Rattle.sheets.specs.Sheets.{sheet_mark, sample_width, behind_mark, is_marked, record_length, record_refusal}

-- the mark of an edition, and the edition of document 01
abbrev pub mark_of : Edition → List ℕ
mark_of e = slice_index e.mark 0 ∷ slice_index e.mark 1 ∷ []

pub record IsFirst (e : Edition) : Type 0 where
  pub mark_is : mark_of e ≡ sheet_mark
  pub width_is : e.width ≡ sample_width

-- what stands behind the mark of bytes that are marked
pub record Marked (mark bs rest : List ℕ) : Type 0 where
  pub marked : is_marked mark bs ≡ true
  pub rest_is : rest ≡ behind_mark mark bs
  pub two : 2 ≤ length rest

-- the parts of a record: its dimension, how long the code behind its mark is, and the whole
pub record PartsAre (mark : List ℕ) (width : ℕ) (bs : List ℕ) (r : RecordParts) : Type 0 where
  pub dimension_is : axes_of r.dim ≡ front_dimension (behind_mark mark bs)
  pub code_is : r.code ≡ front_length (behind_mark mark bs)
  pub whole_is : r.whole ≡ record_length mark width bs

abbrev pub state_of : ℕ → ℕ → Dim → ℕ → Next → State
state_of offset records dim root next = record { offset = offset; records = records; dim = dim; root = root; next = next }

-- at the first root of the dimension that the first record names
pub record Opens (mark bs : List ℕ) (s : State) : Type 0 where
  pub dimension_is : axes_of s.dim ≡ front_dimension (behind_mark mark bs)
  pub first : FirstIs (axes_of s.dim) 0 s.next
  pub is : s ≡ state_of 0 0 s.dim 0 s.next

-- there is no first record, or it is refused by itself
pub data Shut (mark bs : List ℕ) (x : Refusal) : Type 0 where
  no_record : length bs ≡ 0 → number_of x ≡ refused_leaf → Shut mark bs x
  refused : 0 < length bs → ((width : ℕ) → number_of x ≡ record_refusal mark width bs) → Shut mark bs x

abbrev pub OpenIs : List ℕ → List ℕ → Result State Refusal → Type 0
OpenIs mark bs (Ok s) = Opens mark bs s
OpenIs mark bs (Err x) = Shut mark bs x

-- how many bytes a record behind a mark has, whose code is so long
abbrev pub body_of : ℕ → State → Match → ℕ
body_of width s m = m.length + width * suc (axes_of s.dim)

-- the code of the record is that of the next leaf, and its samples are there
pub record Fitting (mark : List ℕ) (width : ℕ) (s : State) (bs : List ℕ) (m : Match) : Type 0 where
  pub marked : is_marked mark bs ≡ true
  pub root_left : s.root ≢ root_count (axes_of s.dim)
  pub matches : MatchIs (axes_of s.dim) s.next (behind_mark mark bs) (Some m)
  pub room : body_of width s m ≤ length (behind_mark mark bs)

-- one of the tests fails
pub data Unfit (mark : List ℕ) (width : ℕ) (s : State) (bs : List ℕ) : Type 0 where
  unmarked : is_marked mark bs ≡ false → Unfit mark width s bs
  no_root : s.root ≡ root_count (axes_of s.dim) → Unfit mark width s bs
  other : MatchIs (axes_of s.dim) s.next (behind_mark mark bs) None → Unfit mark width s bs
  cut_short : {m : Match} → MatchIs (axes_of s.dim) s.next (behind_mark mark bs) (Some m) → length (behind_mark mark bs) < body_of width s m → Unfit mark width s bs

abbrev pub FitsIs : List ℕ → ℕ → State → List ℕ → Option Match → Type 0
FitsIs mark width s bs (Some m) = Fitting mark width s bs m
FitsIs mark width s bs None = Unfit mark width s bs

pub record MoveReady (width : ℕ) (s : State) (m : Match) : Type 0 where
  pub ready : AfterReady (axes_of s.dim) s.next m.depth × (m.boxes ≡ box_depth (axes_of s.dim) m.depth)
  pub root_room : s.root + 1 < 2 ^ 64
  pub offset_room : s.offset + (2 + body_of width s m) < 2 ^ 64
  pub records_room : s.records + 1 < 2 ^ 64

-- behind the record, at the cell after its leaf: on the same root, or on the next one
pub data MoveIs (width : ℕ) (s : State) (m : Match) (r : State) : Type 0 where
  on : {n : Next} → AfterIs (axes_of s.dim) s.next m.depth (Some n) → r ≡ state_of (s.offset + (2 + body_of width s m)) (s.records + 1) s.dim s.root n → MoveIs width s m r
  over : {n : Next} → AfterIs (axes_of s.dim) s.next m.depth None → FirstIs (axes_of s.dim) (s.root + 1) n
      → r ≡ state_of (s.offset + (2 + body_of width s m)) (s.records + 1) s.dim (s.root + 1) n → MoveIs width s m r
