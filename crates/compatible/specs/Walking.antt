-- The walk over leaves and facets. Of a facet it knows by `FacetIs` alone whether it passes.
use Rattle.std.specs.Prelude.{◌≡◌, refl, Bool, true, false, Option, Some, None, not, eqb, bit_and, List, ◌≢◌, ℕ, suc, ◌+◌, ◌-◌, ◌*◌, ◌^◌, ◌≤◌, ◌<◌, T, length, take, drop}
use Rattle.std.proofs.Common.{sym, ap, ◌∙◌, subst, subst₂, arith}
use Rattle.std.proofs.Math.Decide.{ℕ_discrete}
use Rattle.dimension.specs.Sizes.{greatest_depth, code_length}
use Rattle.positions.specs.Positions.{start_of, size_of}
use Rattle.codes.specs.Fronts.{front_depth}
use Rattle.sheets.specs.Forests.{TreeCell, child_of}
use Rattle.sheets.specs.Sheets.{GoodSheet, leaf_in}
use Rattle.sheets.specs.Theorems.Good.{same_cells, same_axes}
use Rattle.finding.specs.declared.Entry.{Entry}
use Rattle.finding.specs.declared.Spread.{Spread}
use Rattle.finding.specs.Finding.{Indexed}
use Rattle.finding.specs.Records.{onward, AtRecord, record_depth, record_size, record_next}
use Rattle.finding.specs.Walk.{From, from_start, Here, here, leaf_good}
use Rattle.finding.specs.Theorems.OneOfThree.{CellOf}
use Rattle.compatible.specs.declared.Passed.{Passed}
use Rattle.rings.specs.Rings.{code_for, AllPass, FirstPass}
use Rattle.compatible.specs.Steps.{IsSecond, start_second, NextStart, start_first, start_next, start_fits}
use Rattle.compatible.specs.FacetLaws.{FacetIs}

-- ---- all facets of a leaf

-- an index of a good sheet, and the code of a cell of its dimension
pub record LeafReady (mark : List ℕ) (width : ℕ) (sheet : List ℕ) (d : ℕ) (index : List Entry) (spread : Spread) (code : List ℕ) : Type 0 where
  pub indexed : Indexed mark width sheet d index spread
  pub cell : TreeCell
  pub good : CellOf d cell
  pub is : code ≡ code_for cell

-- a facet that does not pass
pub record Broken (mark : List ℕ) (width : ℕ) (sheet : List ℕ) (d : ℕ) (code : List ℕ) : Type 0 where
  pub facet : ℕ
  pub small : facet ≤ d
  pub fails : FacetIs mark width sheet d code facet false

-- yes: where the leaf is child 0 of a cell, every facet but facet 0 passes; no: some facet does not
pub record LeafHolds (mark : List ℕ) (width : ℕ) (sheet : List ℕ) (d : ℕ) (code : List ℕ) (r : Bool) : Type 0 where
  pub holds : r ≡ true → (c : TreeCell) → CellOf d (child_of 0 c) → code ≡ code_for (child_of 0 c) → (i : ℕ) → i ≤ d → i ≢ 0 → FacetIs mark width sheet d code i true
  pub fails : r ≡ false → Broken mark width sheet d code

-- in the loop: the facets before i but facet 0 pass
pub record Facing (mark : List ℕ) (width : ℕ) (sheet : List ℕ) (d : ℕ) (index : List Entry) (spread : Spread) (code : List ℕ) (i : ℕ) : Type 0 where
  pub ready : LeafReady mark width sheet d index spread code
  pub held : (j : ℕ) → j < i → j ≢ 0 → FacetIs mark width sheet d code j true

module _ {mark : List ℕ} {width : ℕ} {sheet : List ℕ} {d : ℕ} {index : List Entry} {spread : Spread} {code : List ℕ} where
  module _ {i : ℕ} (s : Facing mark width sheet d index spread code i) where
    pub facing_next : {b : Bool} → FacetIs mark width sheet d code i b → b ≡ true → Facing mark width sheet d index spread code (i + 1)
    facing_next {b} f e = record { ready = s.ready; held = λ j m n. go j m n (ℕ_discrete j i) }
      where
        go : (j : ℕ) → j < i + 1 → j ≢ 0 → Dec (j ≡ i) → FacetIs mark width sheet d code j true
        go j m n (yes q) = subst (λ (k : ℕ). FacetIs mark width sheet d code k true) (sym q) (subst (FacetIs mark width sheet d code i) e f)
        go j m n (no q) = s.held j (omega arith) n

    pub facing_end : d < i → LeafHolds mark width sheet d code true
    facing_end l = record { holds = λ z c g e j m n. s.held j (omega arith) n; fails = λ z. absurd (subst T z tt) }

-- ---- the leaf of a record

-- an index of a good sheet, a record of it, and where its leaf starts on its root's stretch
pub record RecordReady (mark : List ℕ) (width : ℕ) (sheet : List ℕ) (d : ℕ) (index : List Entry) (spread : Spread) (offset start : ℕ) : Type 0 where
  pub indexed : Indexed mark width sheet d index spread
  pub number : ℕ
  pub at : AtRecord mark width sheet d number offset
  pub starts : start ≡ start_of (greatest_depth d) (leaf_in at.good.cells number).path

-- what holds of a record at an offset, whichever it is: all facets of its leaf that are looked at pass; how long the record is, and the leaf's
-- part
pub record PassedIs (mark : List ℕ) (width : ℕ) (sheet : List ℕ) (d offset : ℕ) (r : Passed) : Type 0 where
  pub leaf : {number : ℕ} (a : AtRecord mark width sheet d number offset) → LeafHolds mark width sheet d (code_for (leaf_in a.good.cells number)) true
  pub next : {number : ℕ} (a : AtRecord mark width sheet d number offset) → From a.good (suc number) (offset + r.length)
  pub part : {number : ℕ} (a : AtRecord mark width sheet d number offset) → r.size ≡ size_of (greatest_depth d) (leaf_in a.good.cells number).path

-- so it is, or some facet does not pass
pub data RecordHolds (mark : List ℕ) (width : ℕ) (sheet : List ℕ) (d offset : ℕ) : Option Passed → Type 0 where
  passed : {r : Passed} → PassedIs mark width sheet d offset r → RecordHolds mark width sheet d offset (Some r)
  broken : ((number : ℕ) (a : AtRecord mark width sheet d number offset) → Broken mark width sheet d (code_for (leaf_in a.good.cells number))) → RecordHolds mark width sheet d offset None

passed_is : {mark : List ℕ} {width : ℕ} {sheet : List ℕ} {d offset : ℕ} {r : Passed} → RecordHolds mark width sheet d offset (Some r) → PassedIs mark width sheet d offset r
passed_is (passed p) = p

leaf_in_is : {mark : List ℕ} {width : ℕ} {sheet : List ℕ} {d number offset : ℕ} (r : AtRecord mark width sheet d number offset) → CellOf d (leaf_in r.good.cells number)
leaf_in_is {number = number} r = let o = leaf_good r.good number r.small in record { good = o.0; axes = o.1 ∙ r.axes }

-- so many bytes of a sheet behind the mark, as a slice
abbrev pub code_here : List ℕ → List ℕ → ℕ → ℕ → List ℕ
code_here mark sheet offset code = take (offset + length mark + code - (offset + length mark)) (drop (offset + length mark) sheet)

module _ {mark : List ℕ} {width : ℕ} {sheet : List ℕ} {d offset depth : ℕ} (is : depth ≡ front_depth (onward sheet (offset + length mark))) {code : ℕ} (code_is : code ≡ code_length d depth) where
  module _ {number : ℕ} (r : AtRecord mark width sheet d number offset) where
    it : Here r.good number offset
    it = here r.good r.small r.at

    size_is : code ≡ code_length r.good.dimension (length (leaf_in r.good.cells number).path)
    size_is = code_is ∙ rw (← r.axes, record_depth r is) refl

    pub record_end : offset + length mark + code ≤ length sheet
    record_end = omega (arith, it.room, size_is)

    here_is : code_here mark sheet offset code ≡ code_for (leaf_in r.good.cells number)
    here_is = ap (λ (n : ℕ). take n (drop (offset + length mark) sheet)) (cancel (offset + length mark) code ∙ size_is) ∙ it.code_is
      where
        cancel : (x y : ℕ) → x + y - x ≡ y
        cancel x y = omega arith

  pub record_broken : {b : Bool} → LeafHolds mark width sheet d (code_here mark sheet offset code) b → b ≡ false → RecordHolds mark width sheet d offset None
  record_broken h e = broken (λ n r. subst (Broken mark width sheet d) (here_is r) (h.fails e))

  module _ {size : ℕ} (power : size ≡ 2 ^ (greatest_depth d - depth)) where
    pub record_passed : {b : Bool} → LeafHolds mark width sheet d (code_here mark sheet offset code) b → b ≡ true → {step : ℕ} → step ≡ length mark + (code_length d depth + width * suc d)
        → RecordHolds mark width sheet d offset (Some (record { length = step; size = size }))
    record_passed {b} h e is_step = passed (record { leaf = λ r. subst₂ (LeafHolds mark width sheet d) (here_is r) e h; next = λ r. record_next r is is_step; part = λ r. record_size r is power })

    pub record_leaf : {index : List Entry} {spread : Spread} {start : ℕ} → RecordReady mark width sheet d index spread offset start
        → LeafReady mark width sheet d index spread (code_here mark sheet offset code) × IsSecond (code_here mark sheet offset code) (not (eqb (bit_and start size) 0))
    record_leaf ready = (
      record { indexed = ready.indexed; cell = leaf_in ready.at.good.cells ready.number; good = leaf_in_is ready.at; is = here_is ready.at },
      rw (here_is ready.at) (start_second (leaf_in_is ready.at) ready.starts (record_size ready.at is power)),
    )

-- ---- all leaves of a sheet

pub record SheetReady (mark : List ℕ) (width : ℕ) (sheet : List ℕ) (d records : ℕ) (index : List Entry) (spread : Spread) : Type 0 where
  pub indexed : Indexed mark width sheet d index spread
  pub good : GoodSheet mark width sheet records
  pub axes : good.dimension ≡ d

-- yes: those facets of the leaves that are child 0 pass; no: some facet of some leaf does not
pub record SheetHolds (mark : List ℕ) (width : ℕ) (sheet : List ℕ) (r : Bool) : Type 0 where
  pub holds : r ≡ true → {n : ℕ} (g : GoodSheet mark width sheet n) → FirstPass g.dimension g.cells
  pub fails : r ≡ false → {n : ℕ} (g : GoodSheet mark width sheet n) → AllPass g.dimension g.cells → ⊥

-- in the loop: so of the leaves before a number, and where that one starts
pub record Judging (mark : List ℕ) (width : ℕ) (sheet : List ℕ) (d records : ℕ) (index : List Entry) (spread : Spread) (stretch number offset start : ℕ) : Type 0 where
  pub ready : SheetReady mark width sheet d records index spread
  pub at : From ready.good number offset
  pub long : length sheet < 2 ^ 64
  pub stretch_is : stretch ≡ 2 ^ greatest_depth ready.good.dimension
  pub starts : number < records → start ≡ start_of (greatest_depth ready.good.dimension) (leaf_in ready.good.cells number).path
  pub held : (m : ℕ) → m < number → LeafHolds mark width sheet d (code_for (leaf_in ready.good.cells m)) true

module _ {mark : List ℕ} {width : ℕ} {sheet : List ℕ} {d records : ℕ} {index : List Entry} {spread : Spread} where
  pub judging_start : SheetReady mark width sheet d records index spread → length sheet < 2 ^ 64 → {stretch : ℕ} → stretch ≡ 2 ^ greatest_depth d
      → Judging mark width sheet d records index spread stretch 0 0 0
  judging_start r l power = record {
    ready = r;
    at = from_start r.good;
    long = l;
    stretch_is = power ∙ ap (λ (n : ℕ). 2 ^ greatest_depth n) (sym r.axes);
    starts = λ h. sym (start_first r.good (omega (arith, r.good.count)));
    held = λ m l. absurd (omega arith);
  }

  module _ {stretch number offset start : ℕ} (s : Judging mark width sheet d records index spread stretch number offset start) where
    module _ (l : number < records) where
      abbrev at_record : AtRecord mark width sheet d number offset
      at_record = record { count = records; good = s.ready.good; axes = s.ready.axes; long = s.long; small = omega (arith, s.ready.good.count); at = s.at }

      pub judging_record : {index' : List Entry} {spread' : Spread} → Indexed mark width sheet d index' spread' → RecordReady mark width sheet d index' spread' offset start
      judging_record i = record { indexed = i; number = number; at = at_record; starts = s.starts l ∙ ap (λ (n : ℕ). start_of (greatest_depth n) (leaf_in s.ready.good.cells number).path) s.ready.axes }

      -- a leaf with a facet that does not pass
      broken_sheet : Broken mark width sheet d (code_for (leaf_in s.ready.good.cells number)) → SheetHolds mark width sheet false
      broken_sheet b = record { holds = λ z. absurd (subst T (sym z) tt); fails = none }
        where
          none : false ≡ false → {n : ℕ} (g : GoodSheet mark width sheet n) → AllPass g.dimension g.cells → ⊥
          none z g all = b.fails.fails refl s.ready.good (leaf_in s.ready.good.cells number) (leaf_in_is at_record) refl
              (subst₂ AllPass (sym (same_axes s.ready.good g) ∙ s.ready.axes) (sym (same_cells s.ready.good g)) all _ (record { number = number; small = at_record.small; is = refl }) b.facet b.small)

      pub judging_fails : RecordHolds mark width sheet d offset None → SheetHolds mark width sheet false
      judging_fails (broken b) = broken_sheet (b number at_record)

      module _ {r : Passed} (h : RecordHolds mark width sheet d offset (Some r)) where
        p : PassedIs mark width sheet d offset r
        p = passed_is h

        part_here : r.size ≡ size_of (greatest_depth s.ready.good.dimension) (leaf_in s.ready.good.cells number).path
        part_here = p.part at_record ∙ ap (λ (n : ℕ). size_of (greatest_depth n) (leaf_in s.ready.good.cells number).path) (sym s.ready.axes)

        pub judging_ends : start + r.size < 2 ^ 64
        judging_ends = start_fits s.ready.good at_record.small (s.starts l) part_here

        pub judging_fits : offset + r.length < 2 ^ 64
        judging_fits = omega (arith, (p.next at_record).inside, s.long)

        pub judging_next : {index' : List Entry} {spread' : Spread} → Indexed mark width sheet d index' spread' → {start' : ℕ} → NextStart start r.size stretch start'
            → Judging mark width sheet d records index' spread' stretch (number + 1) (offset + r.length) start'
        judging_next i {start'} n = rw (one_more number) (record {
          ready = record { indexed = i; good = s.ready.good; axes = s.ready.axes };
          at = p.next at_record;
          long = s.long;
          stretch_is = s.stretch_is;
          starts = λ o. start_next s.ready.good (omega (arith, o, s.ready.good.count)) (s.starts l) part_here (subst (λ (k : ℕ). NextStart start r.size k start') s.stretch_is n);
          held = λ m o. go m o (ℕ_discrete m number);
        })
          where
            one_more : (k : ℕ) → k + 1 ≡ suc k
            one_more k = omega arith

            go : (m : ℕ) → m < suc number → Dec (m ≡ number) → LeafHolds mark width sheet d (code_for (leaf_in s.ready.good.cells m)) true
            go m o (yes q) = subst (λ (n : ℕ). LeafHolds mark width sheet d (code_for (leaf_in s.ready.good.cells n)) true) (sym q) (p.leaf at_record)
            go m o (no q) = s.held m (omega arith)

    pub judging_done : records ≤ number → SheetHolds mark width sheet true
    judging_done l = record { holds = all; fails = λ z. absurd (subst T z tt) }
      where
        all : true ≡ true → {n : ℕ} (g : GoodSheet mark width sheet n) → FirstPass g.dimension g.cells
        all z g = subst₂ FirstPass (sym s.ready.axes ∙ same_axes s.ready.good g) (same_cells s.ready.good g) each
          where
            each : FirstPass d s.ready.good.cells
            each c v i k i0 = ((s.held v.number (omega (arith, v.small, s.ready.good.count))).holds refl c cell (ap code_for v.is) i k i0).holds refl s.ready.good (child_of 0 c) cell (ap code_for v.is)
              where
                cell : CellOf d (child_of 0 c)
                cell = let o = leaf_good s.ready.good v.number v.small in subst (CellOf d) v.is (record { good = o.0; axes = o.1 ∙ s.ready.axes })
