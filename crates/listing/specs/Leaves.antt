-- The lines of a good sheet's leaves, put one after the other as the records are read.
use Rattle.std.specs.Prelude.{◌≡◌, List, [], ◌∷◌, ◌++◌, take, drop}
use Rattle.std.proofs.Math.Path.{refl, ap}
use Rattle.std.proofs.Common.{◌∙◌, subst, mul-le-mul, length-drop}
use Prim.Native.Nat.{ℕ, suc, ◌+◌, ◌-◌, ◌*◌, ◌^◌, ◌≤◌, ◌<◌}
use native.Mathlib.Omega.{arith}
use Rattle.std.proofs.Math.ListN.{length, length-append}
use Rattle.dimension.specs.Laws.{dimension}
use Rattle.bisection.specs.Codes.{code_of}
use Rattle.bisection.specs.Refusals.{done}
use Rattle.codes.specs.Fronts.{front_length, front_code}
use Rattle.codes.specs.Fronts.Laws.{front_is_front}
use Rattle.sheets.specs.declared.RecordParts.{RecordParts}
use Rattle.sheets.specs.Forests.{TreeCell}
use Rattle.sheets.specs.Sheets.{behind_mark, body_length, record_length, record_refusal, GoodSheet}
use Rattle.sheets.specs.Steps.{PartsAre}
use Rattle.sheets.specs.StepLaws.{part_all}
use Rattle.sheets.specs.Theorems.Listing.{GoodCell, Listed, listed_none, listed_more, record_of, record_passes, record_code, record_rest, record_read, IsRecord}
use Rattle.sheets.specs.Theorems.FirstRecord.{good_listed}
use Rattle.listing.specs.Texts.{sheet_limit, leaf_line, leaf_lines, good_text}
use Rattle.common.specs.Putting.{Puts, Putting, putting_start, putting_next, putting_end}
use Rattle.listing.specs.Digits.{decimal_short}
use Rattle.listing.specs.Lines.{leaf_length}

-- a sheet that is listed, its samples wide enough that a line is no longer than two records, and room behind n cells
pub record RoomFor (width : ℕ) (sheet : List ℕ) (n : ℕ) (out : List ℕ) : Type 0 where
  pub wide : 2 ≤ width
  pub small : length sheet ≤ sheet_limit
  pub room : n + 2 * length sheet ≤ length out

pub record PutsLeaves (mark : List ℕ) (width : ℕ) (sheet : List ℕ) (records from : ℕ) (out : List ℕ) (r : ℕ) (out' : List ℕ) : Type 0 where
  pub sheet_is : GoodSheet mark width sheet records
  pub puts : Puts from (leaf_lines 0 sheet_is.cells) out r out'
  pub short : length (leaf_lines 0 sheet_is.cells) ≤ 2 * length sheet

pub record PutsGood (mark : List ℕ) (width : ℕ) (sheet : List ℕ) (records : ℕ) (out : List ℕ) (r : ℕ) (out' : List ℕ) : Type 0 where
  pub sheet_is : GoodSheet mark width sheet records
  pub puts : Puts 0 (good_text sheet_is.dimension sheet_is.cells) out r out'
  pub short : length (good_text sheet_is.dimension sheet_is.cells) ≤ 32 + 2 * length sheet

record_length_is : (mark : List ℕ) (c : TreeCell) (samples rest : List ℕ) → length (record_of mark c samples rest) ≡ length mark + (length (code_of c.root c.path) + (length samples + length rest))
record_length_is mark c samples rest = length-append mark (code_of c.root c.path ++ (samples ++ rest)) ∙ omega (arith, length-append (code_of c.root c.path) (samples ++ rest), length-append samples rest)

-- a leaf's line is at most twice its record, for numbers of up to fourteen digits
module _ (mark : List ℕ) (width : ℕ) (two : length mark ≡ 2) (wide : 2 ≤ width) where
  samples_some : {c : TreeCell} → GoodCell c → (samples : List ℕ) → length samples ≡ width * suc (length c.root) → 6 ≤ length samples
  samples_some {c} g samples z = omega (arith, z, mul-le-mul {n₁ = 2} {m₁ = 3} {n₂ = width} {m₂ = suc (length c.root)} wide (omega (arith, (dimension (length c.root) g.good_root.dimension).two)))

  pub lines_short : {cs : List TreeCell} {s : List ℕ} (n : ℕ) → Listed mark width cs s → n + length cs ≤ 10 ^ 14 → length (leaf_lines n cs) ≤ 2 * length s
  unfolding leaf_lines
  lines_short n listed_none h = omega arith
  lines_short n (listed_more {c = c} {cs = cs} {rest = rest} g samples z e l) h =
      let line = leaf_length n (code_of c.root c.path) in
      let both = length-append (leaf_line n (code_of c.root c.path)) (leaf_lines (suc n) cs) in
      omega (arith, ap length e, record_length_is mark c samples rest, samples_some g samples z, decimal_short n 13 (omega arith), lines_short (suc n) l (omega arith))

  few_records : {cs : List TreeCell} {s : List ℕ} → Listed mark width cs s → length cs ≤ length s
  few_records listed_none = omega arith
  few_records (listed_more {c = c} {rest = rest} g samples z e l) = omega (arith, ap length e, record_length_is mark c samples rest, few_records l)

module _ (mark : List ℕ) (width : ℕ) {sheet : List ℕ} {records : ℕ} (two : length mark ≡ 2) (wide : 2 ≤ width) (g : GoodSheet mark width sheet records) (h : length sheet ≤ sheet_limit) where
  pub good_few : records ≤ sheet_limit
  good_few = omega (arith, few_records mark width two wide (good_listed g), g.count)

  pub good_short : length (leaf_lines 0 g.cells) ≤ 2 * length sheet
  good_short = lines_short mark width two wide 0 (good_listed g) (omega (arith, few_records mark width two wide (good_listed g)))

-- the listing under way: the leaves that are left, and the rest of the sheet with their records
pub record ListingOn (mark : List ℕ) (width : ℕ) (sheet : List ℕ) (records from : ℕ) (out₀ : List ℕ) (at number : ℕ) (rest out : List ℕ) : Type 0 where
  pub good : GoodSheet mark width sheet records
  pub left : List TreeCell
  pub listed : Listed mark width left rest
  pub inside : length rest ≤ length sheet
  pub count : number + length left ≡ records
  pub putting : Putting from (leaf_lines 0 good.cells) out₀ at (leaf_lines number left) out

pub on_start : (mark : List ℕ) (width : ℕ) (two : length mark ≡ 2) (sheet : List ℕ) (records from : ℕ) (out : List ℕ) → GoodSheet mark width sheet records → RoomFor width sheet from out → ListingOn mark width sheet records from out from 0 sheet out
on_start mark width two sheet records from out g r = record {
  good = g;
  left = g.cells;
  listed = good_listed g;
  inside = omega arith;
  count = omega (arith, g.count);
  putting = putting_start from (leaf_lines 0 g.cells) out (omega (arith, r.room, good_short mark width two r.wide g r.small));
}

-- the code of a record behind its m mark bytes, and what follows the record, as slices of the rest
abbrev pub code_in : ℕ → List ℕ → RecordParts → List ℕ
code_in m rest p = take (m + p.code - m) (drop m rest)

abbrev pub behind : List ℕ → RecordParts → List ℕ
behind rest p = take (length rest - p.whole) (drop p.whole rest)

-- what the next line needs and gives
pub record Line (mark : List ℕ) (width : ℕ) (sheet : List ℕ) (records from : ℕ) (out₀ : List ℕ) (at number : ℕ) (rest out : List ℕ) : Type 0 where
  pub passes : record_refusal mark width rest ≡ done
  pub code_fits : (p : RecordParts) → PartsAre mark width rest p → length mark + p.code ≤ length rest
  pub whole_fits : (p : RecordParts) → PartsAre mark width rest p → p.whole ≤ length rest
  pub fits : (p : RecordParts) → PartsAre mark width rest p → at + length (leaf_line number (code_in (length mark) rest p)) ≤ length out
  pub next : (p : RecordParts) → PartsAre mark width rest p → {r : ℕ} {out' : List ℕ} → Puts at (leaf_line number (code_in (length mark) rest p)) out r out' → ListingOn mark width sheet records from out₀ r (number + 1) (behind rest p) out'

module _ {mark : List ℕ} {width : ℕ} {sheet : List ℕ} {records from : ℕ} {out₀ : List ℕ} {at number : ℕ} {rest out : List ℕ} (on : ListingOn mark width sheet records from out₀ at number rest out) where
  module _ (c : TreeCell) (cs : List TreeCell) (left_is : on.left ≡ c ∷ cs) (g : GoodCell c) (samples after : List ℕ) (z : length samples ≡ width * suc (length c.root)) (e : rest ≡ record_of mark c samples after) (listed : Listed mark width cs after) where
    abbrev code : List ℕ
    code = code_of c.root c.path

    passes : record_refusal mark width rest ≡ done
    passes = rw e (record_passes mark width c g samples after z)

    lines_are : leaf_lines number on.left ≡ leaf_line number code ++ leaf_lines (number + 1) cs
    unfolding leaf_lines
    lines_are = ap (leaf_lines number) left_is ∙ ap (λ (n : ℕ). leaf_line number code ++ leaf_lines n cs) next_number
      where
        next_number : suc number ≡ number + 1
        next_number = omega arith

    room : at + length (leaf_line number code) ≤ length out
    room = omega (arith, on.putting.fits, ap length lines_are, length-append (leaf_line number code) (leaf_lines (number + 1) cs))

    read : IsRecord mark width rest
    read = record_read mark width rest passes

    module _ (p : RecordParts) (are : PartsAre mark width rest p) where
      fits_whole : p.whole ≤ length rest
      fits_whole = omega (arith, are.whole_is, read.inside)

      fits_code : length mark + p.code ≤ length rest
      fits_code = omega (arith, fits_whole, are.whole_is, are.code_is, long)
        where
          long : length mark + front_length (behind_mark mark rest) ≤ record_length mark width rest
          long = unfold record_length body_length in omega arith

      code_here : code_in (length mark) rest p ≡ code
      unfolding behind_mark
      code_here = ap (λ (n : ℕ). take n (drop (length mark) rest)) size ∙ front_is_front (behind_mark mark rest) ∙ ap (λ (s : List ℕ). front_code (behind_mark mark s)) e ∙ record_code mark width c g samples after z
        where
          size : length mark + p.code - length mark ≡ front_length (behind_mark mark rest)
          size = omega (arith, are.code_is)

      rest_here : behind rest p ≡ after
      rest_here = part_all rest p.whole ∙ ap (λ (n : ℕ). drop n rest) are.whole_is ∙ ap (λ (s : List ℕ). drop (record_length mark width s) s) e ∙ record_rest mark width c g samples after z

      next : {r : ℕ} {out' : List ℕ} → Puts at (leaf_line number code) out r out' → ListingOn mark width sheet records from out₀ r (number + 1) (behind rest p) out'
      next q = record {
        good = on.good;
        left = cs;
        listed = rw rest_here listed;
        inside = omega (arith, on.inside, ap length (part_all rest p.whole), length-drop p.whole rest);
        count = omega (arith, on.count, ap length left_is);
        putting = putting_next on.putting (leaf_line number code) (leaf_lines (number + 1) cs) lines_are q;
      }

    line_of : Line mark width sheet records from out₀ at number rest out
    line_of = record {
      passes = passes;
      code_fits = fits_code;
      whole_fits = fits_whole;
      fits = λ p are. rw (code_here p are) room;
      next = λ p are {r} {out'} q. next p are (subst (λ (t : List ℕ). Puts at (leaf_line number t) out r out') (code_here p are) q);
    }

  pub on_line : number < records → Line mark width sheet records from out₀ at number rest out
  on_line h = go on.left refl rest refl on.listed
    where
      go : (cs : List TreeCell) → on.left ≡ cs → (s : List ℕ) → rest ≡ s → Listed mark width cs s → Line mark width sheet records from out₀ at number rest out
      go cs q s t listed_none = absurd (omega (arith, on.count, ap length q))
      go cs q s t (listed_more {c = c} {cs = ds} {rest = after} g samples z e l) = line_of c ds q g samples after z (t ∙ e) l

  pub on_end : length mark ≡ 2 → 2 ≤ width → records ≤ number → length sheet ≤ sheet_limit → PutsLeaves mark width sheet records from out₀ at out
  on_end two wide h small = record { sheet_is = on.good; puts = putting_end on.putting (go on.left refl); short = good_short mark width two wide on.good small }
    where
      go : (cs : List TreeCell) → on.left ≡ cs → leaf_lines number on.left ≡ []
      go (c ∷ cs) q = absurd (omega (arith, on.count, ap length q))
      go [] q = ap (leaf_lines number) q ∙ nothing
        where
          nothing : leaf_lines number [] ≡ []
          nothing = unfold leaf_lines in refl
