-- The search of a checked sheet for a place on the line: the sizes of the leaves are added up, and of each record only its depth is
-- read.
use Rattle.std.specs.Prelude.{◌≡◌, Bool, true, false, List, ℕ, suc, ◌+◌, ◌-◌, ◌*◌, ◌^◌, ◌<◌, length}
use Rattle.std.proofs.Common.{subst, arith}
use Rattle.std.proofs.Math.Decide.{dec_lt}
use Rattle.dimension.specs.Sizes.{greatest_depth, code_length}
use Rattle.codes.specs.Fronts.{front_depth}
use Rattle.sheets.specs.Forests.{TreeCell}
use Rattle.sheets.specs.Sheets.{GoodSheet, leaf_in}
use Rattle.finding.specs.declared.Sought.{Sought}
use Rattle.finding.specs.declared.Ahead.{Ahead}
use Rattle.finding.specs.Sizes.{sizes_to, sizes_next, sizes_past, Holds}
use Rattle.finding.specs.Finding.{distance}
use Rattle.finding.specs.Walk.{From}
use Rattle.finding.specs.Distances.{ahead_by, later, later_is, later_far, BetweenReady, BetweenIs}
use Rattle.finding.specs.Records.{onward, AtRecord, record_stretch, record_depth, record_size, record_part, record_next}

-- the place that is so far ahead of a leaf
abbrev pub placed : ℕ → List TreeCell → ℕ → Ahead → ℕ
placed M cs first ahead = sizes_to M cs first + distance (2 ^ M) ahead

-- a good sheet of d axes, a record of it, and a place ahead of it and before the end of the leaves
pub record SeekReady (mark : List ℕ) (width : ℕ) (sheet : List ℕ) (d first begins : ℕ) (place : Ahead) : Type 0 where
  pub count : ℕ
  pub good : GoodSheet mark width sheet count
  pub axes : good.dimension ≡ d
  pub at : From good first begins
  pub part_small : place.part < 2 ^ greatest_depth d
  pub before_end : placed (greatest_depth d) good.cells first place < sizes_to (greatest_depth d) good.cells (length good.cells)

-- the record whose leaf's part holds the place
pub record SoughtIs (mark : List ℕ) (width : ℕ) (sheet : List ℕ) (d first begins : ℕ) (place : Ahead) (r : Sought) : Type 0 where
  pub ready : SeekReady mark width sheet d first begins place
  pub long : length sheet < 2 ^ 64
  pub holds : Holds (greatest_depth d) ready.good.cells (placed (greatest_depth d) ready.good.cells first place) r.number
  pub depth_is : r.depth ≡ length (leaf_in ready.good.cells r.number).path
  pub at : From ready.good r.number r.offset

-- in the loop: what is left of the place
pub record Seeking (mark : List ℕ) (width : ℕ) (sheet : List ℕ) (d first begins : ℕ) (place : Ahead) (stretch number offset : ℕ) (ahead : Ahead) : Type 0 where
  pub ready : SeekReady mark width sheet d first begins place
  pub long : length sheet < 2 ^ 64
  pub stretch_is : stretch ≡ 2 ^ greatest_depth d
  pub part_small : ahead.part < stretch
  pub sum : distance (2 ^ greatest_depth d) ahead + sizes_to (greatest_depth d) ready.good.cells number ≡ placed (greatest_depth d) ready.good.cells first place
  pub at : From ready.good number offset

pub seek_start : {mark : List ℕ} {width : ℕ} {sheet : List ℕ} {d first begins : ℕ} {place : Ahead} {stretch : ℕ} → SeekReady mark width sheet d first begins place → stretch ≡ 2 ^ greatest_depth d → length sheet < 2 ^ 64
    → Seeking mark width sheet d first begins place stretch first begins place
seek_start r e l = record { ready = r; long = l; stretch_is = e; part_small = rw e r.part_small; sum = omega arith; at = r.at }

module _ {mark : List ℕ} {width : ℕ} {sheet : List ℕ} {d first begins : ℕ} {place : Ahead} {stretch number offset : ℕ} {ahead : Ahead} (s : Seeking mark width sheet d first begins place stretch number offset ahead) where
  pub seek_some : number < length s.ready.good.cells
  seek_some = go (dec_lt number (length s.ready.good.cells))
    where
      go : Dec (number < length s.ready.good.cells) → number < length s.ready.good.cells
      go (yes l) = l
      go (no l) = absurd (omega (arith, sizes_past (greatest_depth d) s.ready.good.cells number (omega arith), s.ready.before_end, s.sum))

  abbrev pub seek_at : AtRecord mark width sheet d number offset
  seek_at = record { count = s.ready.count; good = s.ready.good; axes = s.ready.axes; long = s.long; small = seek_some; at = s.at }

  module _ {depth : ℕ} (is : depth ≡ front_depth (onward sheet (offset + length mark))) {size : ℕ} (power : size ≡ 2 ^ (greatest_depth d - depth)) where
    pub seek_end : {r : Bool} → r ≡ later (ahead_by 0 size) ahead → r ≡ true → SoughtIs mark width sheet d first begins place (record { number = number; offset = offset; depth = depth })
    seek_end {r} w is_later = record {
      ready = s.ready;
      long = s.long;
      holds = record { small = seek_some; low = omega (arith, s.sum); high = omega (arith, s.sum, record_size seek_at is power, later_far (2 ^ greatest_depth d) (rw (← s.stretch_is) s.part_small) ((later_is (ahead_by 0 size) ahead w).0 is_later)) };
      depth_is = record_depth seek_at is;
      at = s.at;
    }

    pub seek_past : {r : Bool} → r ≡ later (ahead_by 0 size) ahead → r ≡ false → BetweenReady (ahead_by 0 size) ahead stretch
    seek_past {r} w is_past = record { order = (later_is (ahead_by 0 size) ahead w).1 is_past; from_small = rw s.stretch_is (record_part seek_at is power); to_small = s.part_small; fits = rw s.stretch_is (record_stretch seek_at) }

    pub seek_next : {step : ℕ} → step ≡ length mark + (code_length d depth + width * suc d) → {after : Ahead} → BetweenIs (ahead_by 0 size) ahead stretch after
        → Seeking mark width sheet d first begins place stretch (number + 1) (offset + step) after
    seek_next is_step {after} p = rw (one_more number) (record {
      ready = s.ready;
      long = s.long;
      stretch_is = s.stretch_is;
      part_small = p.part_small;
      sum = omega (arith, s.sum, sizes_next (greatest_depth d) s.ready.good.cells number seek_some, record_size seek_at is power, subst (λ (n : ℕ). distance n after + distance n (ahead_by 0 size) ≡ distance n ahead) s.stretch_is p.sum);
      at = record_next seek_at is is_step;
    })
      where
        one_more : (n : ℕ) → n + 1 ≡ suc n
        one_more n = omega arith
