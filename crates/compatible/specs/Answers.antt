-- The whole test: a checked sheet is ready for an index and for the walk, and what the walk says is the answer, since a sheet is
-- compatible exactly where all facets pass.
use Rattle.std.specs.Prelude.{◌≡◌, refl, Bool, true, false, List, ℕ, ◌≤◌, length, Ok, Err}
use Rattle.std.proofs.Common.{subst}
use Rattle.bisection.specs.declared.Refused.{Refused}
use Rattle.bisection.specs.NumberLaws.{refuses}
use Rattle.sheets.specs.declared.Edition.{Edition}
use Rattle.sheets.specs.Sheets.{GoodSheet, Good, sheet_mark, sample_width, sheet_refused, sheet_good}
use Rattle.sheets.specs.Steps.{mark_of, IsFirst}
use Rattle.finding.specs.declared.Entry.{Entry}
use Rattle.finding.specs.declared.Spread.{Spread}
use Rattle.finding.specs.declared.opened.Opened.{Opened}
use Rattle.finding.specs.Opened.{OpenedIs, shut, checked, Checked}
use Rattle.finding.specs.Finding.{Indexed}
use Rattle.finding.specs.Indexes.{IndexReady}
use Rattle.rings.proofs.Theorems.Forms.{compatible_pass, first_compatible}
use Rattle.compatible.specs.Forms.{compatible_answer}
use Rattle.compatible.specs.Compatible.{Judges, yes_all, not_all, CompatibleIs}
use Rattle.compatible.specs.Walking.{SheetReady, SheetHolds}

module _ {sheet : List ℕ} {d records : ℕ} (c : Checked sheet d records) {e : Edition} (f : IsFirst e) where
  own : (g : GoodSheet (mark_of e) e.width sheet records) × (g.dimension ≡ d)
  own = rw (f.mark_is, f.width_is) (subst (λ (n : ℕ). (g : Good sheet n) × (g.dimension ≡ d)) c.count_is (c.good_sheet, c.axes))

  pub index_ready : {index : List Entry} → 10 ≤ length index → IndexReady (mark_of e) e.width sheet d records index
  index_ready l = record { good = own.0; axes = own.1; some = l }

  pub sheet_ready : {index : List Entry} {spread : Spread} → Indexed (mark_of e) e.width sheet d index spread → SheetReady (mark_of e) e.width sheet d records index spread
  sheet_ready i = record { indexed = i; good = own.0; axes = own.1 }

module _ {sheet : List ℕ} where
  pub compatible_shut : {r : Refused} → OpenedIs sheet (Err r) → CompatibleIs sheet (compatible_answer (Err r))
  compatible_shut {r} (shut s) = sheet_refused s (refuses r.refusal) refl

  pub compatible_told : {o : Opened} → OpenedIs sheet (Ok o) → {b : Bool} → SheetHolds sheet_mark sample_width sheet b → CompatibleIs sheet (compatible_answer (Ok b))
  compatible_told (checked c) k = sheet_good c.good_sheet (judged _ k c.good_sheet)
    where
      judged : (b : Bool) → SheetHolds sheet_mark sample_width sheet b → {n : ℕ} (g : Good sheet n) → Judges g.cells (compatible_answer (Ok b))
      judged true k g = yes_all (first_compatible g.dimension g.has_dimension g.leaves (k.holds refl g)) refl
      judged false k g = not_all (λ c. k.fails refl g (compatible_pass g.dimension g.has_dimension g.leaves c)) refl
