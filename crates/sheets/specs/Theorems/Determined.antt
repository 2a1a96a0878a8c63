-- The answer of the sheet check is determined, and so are the leaves of a good sheet.
use Rattle.std.specs.Prelude.{◌≡◌, refl, List, [], ◌++◌, ◌≢◌, ℕ, suc, ◌+◌, ◌*◌, ◌≤◌, ◌<◌, length, take, drop}
use Rattle.std.proofs.Common.{sym, ap, ◌∙◌, subst, append-nil, arith, zero-add, length-drop, take-append-drop, drop-drop}
use Rattle.std.proofs.Math.Decide.{dec_lt}
use Rattle.bisection.specs.Refusals.{done}
use Rattle.codes.specs.Fronts.Laws.{front_two}
use Rattle.sheets.specs.declared.SheetAnswer.{SheetAnswer}
use Rattle.sheets.specs.Forests.{TreeCell}
use Rattle.sheets.specs.Sheets.{Records, none, more, GoodSheet, Begins, behind_mark, body_length, record_length, record_refusal, Read, start, next, told, Checks, good, record_refused, not_next, ended_early, SheetIs, sheet_mark, sample_width, Good, Query, sheet_refused, sheet_good}
use Rattle.sheets.specs.Theorems.Listing.{record_of, IsRecord, record_read, record_passes, record_rest, Listed, listed_empty, Cut, cut, CellsIn, cells_none, cells_more, records_listed, leaves_cells}

module _ (mark : List ℕ) (width : ℕ) where
  -- a record that passes has some bytes, and they are there
  pub record_inside : (bs : List ℕ) → record_refusal mark width bs ≡ done → (0 < length bs) × (2 ≤ record_length mark width bs) × (record_length mark width bs ≤ length bs)
  record_inside bs e = (omega (arith, r.inside, few), few, r.inside)
    where
      r : IsRecord mark width bs
      r = record_read mark width bs e

      few : 2 ≤ record_length mark width bs
      few = unfold record_length body_length in omega (arith, front_two (behind_mark mark bs))

  module _ (sheet : List ℕ) where
    pub read_inside : {at n : ℕ} → Read mark width sheet at n → at ≤ length sheet
    read_inside start = omega arith
    read_inside (next {at = at} r e q b) = omega (arith, read_inside r, record_inside (drop at sheet) e, length-drop at sheet)

    -- the offset after n records is one
    pub read_same : {at at' n n' : ℕ} → n ≡ n' → Read mark width sheet at n → Read mark width sheet at' n' → at ≡ at'
    read_same e start start = refl
    read_same e start (next r x q b) = absurd (omega arith)
    read_same e (next r x q b) start = absurd (omega arith)
    read_same e (next {at = a} r x q b) (next {at = a'} r' x' q' b') =
        let o : a ≡ a' = read_same (omega arith) r r' in
        q ∙ ap (λ (a : ℕ). a + record_length mark width (drop a sheet)) o ∙ sym q'

    -- the record at an offset passes and is the next leaf
    abbrev pub GoesOn : ℕ → Type 0
    GoesOn at = (record_refusal mark width (drop at sheet) ≡ done) × Begins mark width (take (at + record_length mark width (drop at sheet)) sheet)

    -- so it is wherever the reading has gone on
    pub read_on : {at at' n n' : ℕ} → Read mark width sheet at n → Read mark width sheet at' n' → n < n' → GoesOn at
    read_on r start h = absurd (omega arith)
    read_on {at} {n = n} r (next {at = a} {n = m} {to = to} r' x q b) h = go (dec_lt n m) (read_on r r')
      where
        go : Dec (n < m) → (n < m → GoesOn at) → GoesOn at
        go (yes l) ih = ih l
        go (no l) ih = subst GoesOn (read_same (omega arith) r' r) (x, subst (λ (t : ℕ). Begins mark width (take t sheet)) q b)

    -- a good sheet is read to its end
    read_all : {m : ℕ} → GoodSheet mark width sheet m → {d : ℕ} {cs : List TreeCell} {rest : List ℕ} {at n : ℕ} → CellsIn d cs → Records mark width d cs rest → Read mark width sheet at n → at ≤ length sheet → drop at sheet ≡ rest → Read mark width sheet (length sheet) (n + length cs)
    read_all g {at = at} {n = n} cells_none none r h e = subst (λ (k : ℕ). Read mark width sheet (length sheet) k) zero_more (subst (λ (a : ℕ). Read mark width sheet a n) whole r)
      where
        whole : at ≡ length sheet
        whole = omega (arith, length-drop at sheet, ap length e)

        zero_more : n ≡ n + 0
        zero_more = omega arith
    read_all {m} g {d} {at = at} {n = n} (cells_more {c = c} {cs = cs} k q l) (more {rest = rest} samples z s rs) r h e =
        subst (λ (i : ℕ). Read mark width sheet (length sheet) i) one_more (read_all g l rs (next r passes refl begun) inside behind)
      where
        size : length samples ≡ width * suc (length c.root)
        size = z ∙ ap (λ (i : ℕ). width * suc i) (sym q)

        here : drop at sheet ≡ record_of mark c samples rest
        here = e ∙ s

        passes : record_refusal mark width (drop at sheet) ≡ done
        passes = ap (record_refusal mark width) here ∙ record_passes mark width c k samples rest size

        to : ℕ
        to = at + record_length mark width (drop at sheet)

        begun : Begins mark width (take (at + record_length mark width (drop at sheet)) sheet)
        begun = record { rest = drop (at + record_length mark width (drop at sheet)) sheet; count = m; good = subst (λ (l : List ℕ). GoodSheet mark width l m) (sym (take-append-drop (at + record_length mark width (drop at sheet)) sheet)) g }

        inside : at + record_length mark width (drop at sheet) ≤ length sheet
        inside = omega (arith, record_inside (drop at sheet) passes, length-drop at sheet, h)

        behind : drop (at + record_length mark width (drop at sheet)) sheet ≡ rest
        behind = sym (drop-drop (record_length mark width (drop at sheet)) at sheet) ∙ ap (λ (l : List ℕ). drop (record_length mark width l) l) here ∙ record_rest mark width c k samples rest size

        one_more : suc n + length cs ≡ n + suc (length cs)
        one_more = omega arith

    pub good_read : {m : ℕ} → GoodSheet mark width sheet m → Read mark width sheet (length sheet) m
    good_read g = subst (λ (k : ℕ). Read mark width sheet (length sheet) k) (zero-add (length g.cells) ∙ g.count) (read_all g (leaves_cells g.dimension g.has_dimension g.leaves) g.records start (omega arith) refl)

    -- where an answer stands, the reading goes no further
    record Stops (at n : ℕ) : Type 0 where
      pub read : Read mark width sheet at n
      pub ends : record_refusal mark width (drop at sheet) ≡ done → Begins mark width (take (at + record_length mark width (drop at sheet)) sheet) → ⊥

    at_end : {at n : ℕ} → Read mark width sheet at n → at ≡ length sheet → Stops at n
    at_end {at} r e = record { read = r; ends = λ x b. omega (arith, record_inside (drop at sheet) x, length-drop at sheet) }

    stops_same : {at at' n n' : ℕ} → Stops at n → Stops at' n' → (at ≡ at') × (n ≡ n')
    stops_same {at} {at'} {n} {n'} s s' = go (dec_lt n n') (dec_lt n' n)
      where
        go : Dec (n < n') → Dec (n' < n) → (at ≡ at') × (n ≡ n')
        go (yes h) q = let w = read_on s.read s'.read h in absurd (s.ends w.0 w.1)
        go (no h) (yes q) = let w = read_on s'.read s.read q in absurd (s'.ends w.0 w.1)
        go (no h) (no q) = let e : n ≡ n' = omega arith in (read_same e s.read s'.read, e)

    -- any two answers are equal
    pub checks_same : {r r' : SheetAnswer} → Checks mark width sheet r → Checks mark width sheet r' → r ≡ r'
    checks_same (good g e) (good g' e') = e ∙ ap (told 0 0) (stops_same (at_end (good_read g) refl) (at_end (good_read g') refl)).1 ∙ sym e'
    checks_same (good g e) (record_refused r h x e') = let o = (stops_same (at_end (good_read g) refl) (record { read = r; ends = λ y b. x y })).0 in absurd (omega arith)
    checks_same (good g e) (not_next r h x b e') = let o = (stops_same (at_end (good_read g) refl) (record { read = r; ends = λ y c. b c })).0 in absurd (omega arith)
    checks_same (good {n = n} g e) (ended_early r h x e') = absurd (x n g)
    checks_same (record_refused r h x e') (good g e) = let o = (stops_same (at_end (good_read g) refl) (record { read = r; ends = λ y b. x y })).0 in absurd (omega arith)
    checks_same (record_refused r h x e) (record_refused r' h' x' e') = e ∙ ap (λ (a : ℕ). told (record_refusal mark width (drop a sheet)) a 0) (stops_same (record { read = r; ends = λ y b. x y }) (record { read = r'; ends = λ y b. x' y })).0 ∙ sym e'
    checks_same (record_refused r h x e) (not_next r' h' x' b e') = absurd (x (ap (λ (a : ℕ). record_refusal mark width (drop a sheet)) (stops_same (record { read = r; ends = λ y c. x y }) (record { read = r'; ends = λ y c. b c })).0 ∙ x'))
    checks_same (record_refused r h x e) (ended_early r' h' x' e') = let o = (stops_same (record { read = r; ends = λ y b. x y }) (at_end r' h')).0 in absurd (omega arith)
    checks_same (not_next r h x b e') (good g e) = let o = (stops_same (at_end (good_read g) refl) (record { read = r; ends = λ y c. b c })).0 in absurd (omega arith)
    checks_same (not_next r' h' x' b e') (record_refused r h x e) = absurd (x (ap (λ (a : ℕ). record_refusal mark width (drop a sheet)) (stops_same (record { read = r; ends = λ y c. x y }) (record { read = r'; ends = λ y c. b c })).0 ∙ x'))
    checks_same (not_next r h x b e) (not_next r' h' x' b' e') = e ∙ ap (λ (a : ℕ). told 14 a 0) (stops_same (record { read = r; ends = λ y c. b c }) (record { read = r'; ends = λ y c. b' c })).0 ∙ sym e'
    checks_same (not_next r h x b e) (ended_early r' h' x' e') = let o = (stops_same (record { read = r; ends = λ y c. b c }) (at_end r' h')).0 in absurd (omega arith)
    checks_same (ended_early r h x e') (good {n = n} g e) = absurd (x n g)
    checks_same (ended_early r' h' x' e') (record_refused r h x e) = let o = (stops_same (record { read = r; ends = λ y b. x y }) (at_end r' h')).0 in absurd (omega arith)
    checks_same (ended_early r' h' x' e') (not_next r h x b e) = let o = (stops_same (record { read = r; ends = λ y c. b c }) (at_end r' h')).0 in absurd (omega arith)
    checks_same (ended_early r h x e) (ended_early r' h' x' e') = e ∙ ap (λ (a : ℕ). told 14 a 0) (stops_same (at_end r h) (at_end r' h')).0 ∙ sym e'

    -- the leaves of a good sheet are determined by its bytes
    pub good_cells : {m m' : ℕ} (g : GoodSheet mark width sheet m) (g' : GoodSheet mark width sheet m') → g.cells ≡ g'.cells
    good_cells g g' = k.is ∙ ap (λ (l : List TreeCell). g'.cells ++ l) (listed_empty mark width k.listed refl) ∙ append-nil g'.cells
      where
        listed : {m : ℕ} (g : GoodSheet mark width sheet m) → Listed mark width g.cells sheet
        listed g = records_listed (leaves_cells g.dimension g.has_dimension g.leaves) g.records

        k : Cut mark width g.cells g'.cells []
        k = cut mark width [] (listed g') (listed g) (sym (append-nil sheet))

-- the contract of the sheet check determines its answer
pub sheet_determined : (sheet : List ℕ) (r r' : SheetAnswer) → SheetIs sheet r → SheetIs sheet r' → r ≡ r'
sheet_determined sheet r r' a b = checks_same sheet_mark sample_width sheet a b

-- what is answered: a refusal begins inside the sheet or at its end, and no refusal means a good sheet
pub offset_inside : {sheet : List ℕ} {r : SheetAnswer} → SheetIs sheet r → r.offset ≤ length sheet
offset_inside (good g e) = omega (arith, ap (λ (a : SheetAnswer). a.offset) e)
offset_inside (record_refused x h n e) = omega (arith, ap (λ (a : SheetAnswer). a.offset) e)
offset_inside (not_next x h n b e) = omega (arith, ap (λ (a : SheetAnswer). a.offset) e)
offset_inside (ended_early x h n e) = omega (arith, ap (λ (a : SheetAnswer). a.offset) e)

pub good_of : {sheet : List ℕ} {r : SheetAnswer} → SheetIs sheet r → r.refusal ≡ done → Good sheet r.records
good_of {sheet} (good g e) z = subst (Good sheet) (sym (ap (λ (a : SheetAnswer). a.records) e)) g
good_of (record_refused x h n e) z = absurd (n (sym (ap (λ (a : SheetAnswer). a.refusal) e) ∙ z))
good_of (not_next x h n b e) z = absurd (omega (arith, ap (λ (a : SheetAnswer). a.refusal) e))
good_of (ended_early x h n e) z = absurd (omega (arith, ap (λ (a : SheetAnswer). a.refusal) e))

-- a sheet is refused, or good in one way
pub not_both : {sheet : List ℕ} {a : SheetAnswer} {n : ℕ} → SheetIs sheet a → a.refusal ≢ done → Good sheet n → ⊥
not_both {sheet} {a} {n} s k g = k (ap (λ (a : SheetAnswer). a.refusal) (sheet_determined sheet a (told done 0 n) s (good g refl)))

pub query_one : {sheet : List ℕ} {refused refused' : ℕ → ℕ → Type 0} {answered answered' : (n : ℕ) → Good sheet n → Type 0} {Z : Type 0}
    → Query sheet refused answered → Query sheet refused' answered' → ((number offset : ℕ) → refused number offset → refused' number offset → Z)
    → ((n m : ℕ) (g : Good sheet n) (h : Good sheet m) → answered n g → answered' m h → Z) → Z
query_one {sheet} {refused' = refused'} (sheet_refused {a = a} s k x) (sheet_refused {a = b} t l y) f g = f a.refusal a.offset x (subst (λ (c : SheetAnswer). refused' c.refusal c.offset) (sym (sheet_determined sheet a b s t)) y)
query_one (sheet_refused s k x) (sheet_good h y) f g = absurd (not_both s k h)
query_one (sheet_good h x) (sheet_refused s k y) f g = absurd (not_both s k h)
query_one (sheet_good {n = n} g x) (sheet_good {n = m} h y) f k = k n m g h x y
