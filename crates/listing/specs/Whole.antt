-- The whole output: a good sheet's three parts, and the text at the front of the buffer.
use Rattle.std.specs.Prelude.{◌≡◌, ℕ, ◌+◌, ◌≤◌, min, take}
use Rattle.std.proofs.Common.{sym, ◌∙◌, length-append, length-take}
use Rattle.std.proofs.Math.Path.{ap, subst}
use mathlib.Core.List.{List, ◌++◌}
use native.Mathlib.Omega.{arith}
use Rattle.std.proofs.Math.ListN.{length, drop}
use Rattle.dimension.specs.Sizes.{axes_of}
use Rattle.dimension.specs.Laws.{dimension}
use Rattle.sheets.specs.Sheets.{sheet_mark, sample_width, GoodSheet}
use Rattle.sheets.specs.declared.Edition.{Edition}
use Rattle.sheets.specs.declared.RecordParts.{RecordParts}
use Rattle.sheets.specs.Steps.{mark_of, IsFirst, PartsAre}
use Rattle.sheets.specs.Theorems.FirstRecord.{first_record}
use Rattle.sheets.specs.Theorems.Good.{same_axes}
use Rattle.listing.specs.Texts.{dim_word, leaves_word, number_line, leaf_lines, good_text, Listing, Lists}
use Rattle.common.specs.Putting.{put, Puts, puts_more, puts_length}
use Rattle.listing.specs.Digits.{decimal_short}
use Rattle.listing.specs.Lines.{number_length}
use Rattle.listing.specs.Leaves.{RoomFor, PutsLeaves, PutsGood, good_few}

-- the parts of a good sheet's text, the first record's dimension in the first line
module _ {mark : List ℕ} {width : ℕ} (two : length mark ≡ 2) {sheet : List ℕ} {records : ℕ} {out : List ℕ} (g : GoodSheet mark width sheet records) (room : RoomFor width sheet 32 out) {parts : RecordParts} (are : PartsAre mark width sheet parts)
    {d : ℕ} (d_is : d ≡ axes_of parts.dim) where
  dimension_is : d ≡ g.dimension
  dimension_is = d_is ∙ (first_record g).dimension_is parts are

  first_length : length (number_line dim_word d) ≤ 8
  first_length = omega (arith, number_length dim_word d, decimal_short d 2 (omega (arith, dimension_is, (dimension g.dimension g.has_dimension).few)))

  last_length : length (number_line leaves_word records) ≤ 22
  last_length = omega (arith, number_length leaves_word records, decimal_short records 13 (omega (arith, good_few mark width two room.wide g room.small)))

  pub first_fits : 0 + length (number_line dim_word d) ≤ length out
  first_fits = omega (arith, first_length, room.room)

  module _ {r : ℕ} {out₁ : List ℕ} (p : Puts 0 (number_line dim_word d) out r out₁) where
    pub leaves_fit : RoomFor width sheet r out₁
    leaves_fit = record { wide = room.wide; small = room.small; room = omega (arith, p.next, first_length, room.room, puts_length first_fits p) }

    module _ {s : ℕ} {out₂ : List ℕ} (q : PutsLeaves mark width sheet records r out₁ s out₂) where
      lines_fit : r + length (leaf_lines 0 q.sheet_is.cells) ≤ length out₁
      lines_fit = omega (arith, q.short, leaves_fit.room)

      pub last_fits : s + length (number_line leaves_word records) ≤ length out₂
      last_fits = omega (arith, q.puts.next, q.short, p.next, first_length, last_length, room.room, puts_length first_fits p, puts_length lines_fit q.puts)

      pub good_puts : {t : ℕ} {out₃ : List ℕ} → Puts s (number_line leaves_word records) out₂ t out₃ → PutsGood mark width sheet records out t out₃
      unfolding good_text
      good_puts {t} {out₃} u = record { sheet_is = q.sheet_is; puts = subst (λ (w : List ℕ). Puts 0 w out t out₃) same (puts_more both_fit (puts_more first_fits p q.puts) u); short = omega (arith, ap length same, ends, first_length, last_length, q.short, both_length) }
        where
          same : (number_line dim_word d ++ leaf_lines 0 q.sheet_is.cells) ++ number_line leaves_word records ≡ (number_line dim_word q.sheet_is.dimension ++ leaf_lines 0 q.sheet_is.cells) ++ number_line leaves_word (length q.sheet_is.cells)
          same = ap (λ (n : ℕ). (number_line dim_word n ++ leaf_lines 0 q.sheet_is.cells) ++ number_line leaves_word records) (dimension_is ∙ same_axes g q.sheet_is)
              ∙ ap (λ (n : ℕ). (number_line dim_word q.sheet_is.dimension ++ leaf_lines 0 q.sheet_is.cells) ++ number_line leaves_word n) (sym q.sheet_is.count)

          both_length : length (number_line dim_word d ++ leaf_lines 0 q.sheet_is.cells) ≡ length (number_line dim_word d) + length (leaf_lines 0 q.sheet_is.cells)
          both_length = length-append (number_line dim_word d) (leaf_lines 0 q.sheet_is.cells)

          ends : length ((number_line dim_word d ++ leaf_lines 0 q.sheet_is.cells) ++ number_line leaves_word records) ≡ length (number_line dim_word d ++ leaf_lines 0 q.sheet_is.cells) + length (number_line leaves_word records)
          ends = length-append (number_line dim_word d ++ leaf_lines 0 q.sheet_is.cells) (number_line leaves_word records)

          both_fit : 0 + length (number_line dim_word d ++ leaf_lines 0 q.sheet_is.cells) ≤ length out
          both_fit = omega (arith, both_length, first_length, q.short, room.room)

-- the edition of document 01
pub first_puts : {e : Edition} {sheet : List ℕ} {records : ℕ} {out out' : List ℕ} {r : ℕ} → IsFirst e → PutsGood (mark_of e) e.width sheet records out r out' → PutsGood sheet_mark sample_width sheet records out r out'
first_puts {e} {sheet} {records} {out} {out'} {r} f p = subst (λ (m : List ℕ). PutsGood m sample_width sheet records out r out') f.mark_is (subst (λ (w : ℕ). PutsGood (mark_of e) w sheet records out r out') f.width_is p)

-- a text put at the front is the listing
pub listed : {sheet text out out' : List ℕ} {r : ℕ} → Listing sheet text → Puts 0 text out r out' → Lists sheet out r out'
listed {sheet} {text} {out} l p = record { text = text; listing = l; length_is = p.next ∙ omega arith; front = p.is ∙ front }
  where
    front : put 0 text out ≡ text ++ drop (length text) out
    front = unfold put in ap (λ (n : ℕ). text ++ drop n out) start
      where
        start : 0 + length text ≡ length text
        start = omega arith

-- and all of what is written where the buffer holds it
pub listed_within : {sheet text out out' : List ℕ} {r : ℕ} → Listing sheet text → length text ≤ length out → Puts 0 text out r out'
    → Lists sheet out r out' × ((r ≤ length out') × (r ≡ length (take r out')))
listed_within {out' = out'} {r = r} l h p = (listed l p, (within, sym (length-take r out' ∙ least)))
  where
    within : r ≤ length out'
    within = omega (arith, p.next, puts_length (omega arith) p)

    least : min r (length out') ≡ r
    least = omega (arith, within)
