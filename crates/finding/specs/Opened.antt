-- The whole check of a sheet, as those who go on with the sheet ask for it: its first record names the dimension.
use Rattle.std.specs.Prelude.{◌≡◌, refl, List, ℕ, Result, Ok, Err}
use Rattle.std.proofs.Common.{sym, subst₂}
use Rattle.dimension.specs.Sizes.{axes_of}
use Rattle.bisection.specs.declared.Refused.{Refused}
use Rattle.bisection.specs.Refusals.{done}
use Rattle.sheets.specs.declared.Edition.{Edition}
use Rattle.sheets.specs.declared.RecordParts.{RecordParts}
use Rattle.sheets.specs.Forms.{sheet_answer}
use Rattle.sheets.specs.Sheets.{SheetIs, record_refusal, GoodSheet, sheet_mark, sample_width, Good}
use Rattle.sheets.specs.Steps.{mark_of, IsFirst, PartsAre}
use Rattle.sheets.specs.Theorems.Determined.{good_of}
use Rattle.sheets.specs.Theorems.FirstRecord.{first_record}
use Rattle.finding.specs.declared.opened.Opened.{Opened}

-- a checked sheet: it is good, of this dimension and with so many records
pub record Checked (sheet : List ℕ) (d records : ℕ) : Type 0 where
  pub count : ℕ
  pub good_sheet : Good sheet count
  pub axes : good_sheet.dimension ≡ d
  pub count_is : count ≡ records

-- what the whole check of a sheet says: a refusal with its offset, or the dimension of a good sheet and how many records it has
pub data OpenedIs (sheet : List ℕ) : Result Opened Refused → Type 0 where
  shut : {r : Refused} → SheetIs sheet (sheet_answer (Err r)) → OpenedIs sheet (Err r)
  checked : {o : Opened} → Checked sheet (axes_of o.dim) o.records → OpenedIs sheet (Ok o)

pub opened_checked : {sheet : List ℕ} {o : Opened} → OpenedIs sheet (Ok o) → Checked sheet (axes_of o.dim) o.records
opened_checked (checked c) = c

module _ {sheet : List ℕ} {n : ℕ} (s : SheetIs sheet (sheet_answer (Ok n))) {e : Edition} (f : IsFirst e) where
  g : Good sheet n
  g = good_of s refl

  of_edition : GoodSheet (mark_of e) e.width sheet n
  of_edition = subst₂ (λ (m : List ℕ) (w : ℕ). GoodSheet m w sheet n) (sym f.mark_is) (sym f.width_is) g

  pub opened_first : record_refusal (mark_of e) e.width sheet ≡ done
  opened_first = (first_record of_edition).passes

  pub opened_good : {p : RecordParts} → PartsAre (mark_of e) e.width sheet p → Checked sheet (axes_of p.dim) n
  opened_good {p} are = record { count = n; good_sheet = g; axes = sym ((first_record g).dimension_is p parts); count_is = refl }
    where
      parts : PartsAre sheet_mark sample_width sheet p
      parts = subst₂ (λ (m : List ℕ) (w : ℕ). PartsAre m w sheet p) f.mark_is f.width_is are
