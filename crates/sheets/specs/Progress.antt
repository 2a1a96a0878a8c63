-- The loop of the sheet check: what has been read is a front of some good sheet, and its state stands for the cell behind it.
use Rattle.std.specs.Prelude.{◌≡◌, Bool, List, [], ◌∷◌, ◌++◌, ◌≢◌, ℕ, Option, Some, Result, Ok, Err, suc, ◌+◌, ◌-◌, ◌^◌, ◌≤◌, ◌<◌, T, length, get_or, take, drop, unwrap_or}
use Rattle.std.specs.Result.{result_err}
use Rattle.std.proofs.Math.Path.{refl}
use Rattle.std.proofs.Common.{sym, ap, ◌∙◌, subst, append_assoc, arith, length-append, length-drop, take_at, take-add}
use Rattle.dimension.specs.Sizes.{axes_of, greatest_depth}
use Rattle.dimension.specs.Laws.{axes_dimension}
use Rattle.bisection.specs.declared.Refusal.{Refusal}
use Rattle.bisection.specs.declared.Refusal.TheVariants.{Leaf}
use Rattle.bisection.specs.Roots.{roots}
use Rattle.bisection.specs.Codes.{code_of, IsCodeOf}
use Rattle.bisection.specs.Refusals.{done, code_refusal}
use Rattle.bisection.specs.Numbers.{number_of, refusal_in}
use Rattle.bisection.specs.NumberLaws.{refuses}
use Rattle.bisection.proofs.Theorems.CodePaths.{one_path, code_passes}
use Rattle.codes.specs.Fronts.{front_dimension, front_code}
use Rattle.codes.specs.Fronts.Laws.{front_code_dimension, front_root}
use Rattle.positions.specs.RootNumbers.{roots_count, roots_few}
use Rattle.next.specs.declared.Next.{Next}
use Rattle.next.specs.declared.Match.{Match}
use Rattle.next.specs.Paths.{steps, zeros}
use Rattle.next.specs.Nexts.{Stands, First, Matched, Gone, AfterIs}
use Rattle.next.specs.Matching.{matched_ready, matched_boxes}
use Rattle.sheets.specs.declared.State.{State}
use Rattle.sheets.specs.Forests.{TreeCell, tree_cell, Leaves}
use Rattle.sheets.specs.Sheets.{GoodSheet, Begins, behind_mark, body_length, record_length, record_refusal, Read, start, next, told, Checks, record_refused}
use Rattle.sheets.specs.Sheets.{not_next}
use Rattle.sheets.specs.Steps.{state_of, Opens, body_of, Fitting, Unfit, unmarked, no_root, other, cut_short, FitsIs, MoveReady, MoveIs}
use Rattle.sheets.specs.Steps as steps_of
use Rattle.sheets.specs.StepLaws.{parts_marked, parts_passed, record_marked, part_all}
use Rattle.sheets.specs.Theorems.Frontier.{Follows, begins_follows, follows_begins}
use Rattle.sheets.specs.Theorems.Frontier as frontier
use Rattle.sheets.specs.Theorems.Reading.{passed, unmarked_by_code}
use Rattle.sheets.specs.Theorems.Listing.{record_of, IsRecord, record_read, Listed, listed_none, listed_more, listed_join, Cut, cut}
use Rattle.sheets.specs.Theorems.Listing.{CellsIn, cells_more, cells_front, cells_within, records_listed, listed_records, write, records_join, leaves_cells}
use Rattle.sheets.specs.Theorems.Listing.{same_dimension}
use Rattle.sheets.specs.Theorems.Determined.{record_inside}
use Rattle.sheets.specs.Ahead.{Ahead, ahead_first, ahead_on, ahead_over, Taken, taken}

last_dimension : {d : ℕ} (cs : List TreeCell) (c : TreeCell) → CellsIn d (cs ++ c ∷ []) → length c.root ≡ d
last_dimension [] c (cells_more g e l) = e
last_dimension (x ∷ cs) c (cells_more g e l) = last_dimension cs c l

pub some_of : (cs : List TreeCell) → cs ≢ [] → 0 < length cs
some_of [] n = absurd (n refl)
some_of (c ∷ cs) n = omega arith

pub listed_good : {mark : List ℕ} {width : ℕ} {sheet : List ℕ} {n : ℕ} (g : GoodSheet mark width sheet n) → Listed mark width g.cells sheet
listed_good g = records_listed (leaves_cells g.dimension g.has_dimension g.leaves) g.records

-- what has been read
pub record Behind (mark : List ℕ) (width : ℕ) (sheet : List ℕ) (offset records : ℕ) (cells : List TreeCell) : Type 0 where
  pub inside : offset ≤ length sheet
  pub few : records ≤ offset
  pub listed : Listed mark width cells (take offset sheet)
  pub count : length cells ≡ records
  pub reading : Read mark width sheet offset records

behind_none : {mark : List ℕ} {width : ℕ} {sheet : List ℕ} → Behind mark width sheet 0 0 []
behind_none = record { inside = omega arith; few = omega arith; listed = listed_none; count = refl; reading = start }

-- in the dimension of the record that comes, where that passes
pub record Going (mark : List ℕ) (width : ℕ) (sheet : List ℕ) (s : State) : Type 0 where
  pub cells : List TreeCell
  pub behind : Behind mark width sheet s.offset s.records cells
  pub ahead : Ahead (axes_of s.dim) cells s.root s.next
  pub named : (d : ℕ) (c : TreeCell) → length c.root ≡ front_dimension (behind_mark mark (drop s.offset sheet)) → CellsIn d (cells ++ c ∷ []) → axes_of s.dim ≡ d

pub going_start : {mark : List ℕ} {width : ℕ} {sheet : List ℕ} {s : State} → Opens mark sheet s → Going mark width sheet s
going_start {mark} {width} {sheet} {s} o = subst (Going mark width sheet) (sym o.is) (record {
  cells = [];
  behind = behind_none;
  ahead = ahead_first (axes_of s.dim) s.next o.first;
  named = λ d c a v. o.dimension_is ∙ sym a ∙ last_dimension [] c v;
})

-- a record whose code matches has the length that its bytes tell
fit_body : (mark : List ℕ) (width : ℕ) (bs : List ℕ) (s : State) {root : List ℕ} {p : List Bool} {m : Match} → Stands (axes_of s.dim) s.next root p → Matched root p (behind_mark mark bs) m
    → body_of width s m ≡ body_length width (behind_mark mark bs)
unfolding body_length
fit_body mark width bs s st h = rw (h.length_is, axes) refl
  where
    axes : axes_of s.dim ≡ front_dimension (behind_mark mark bs)
    axes = sym st.cell.rooted.axes ∙ sym (front_root h.first.is_code) ∙ front_code_dimension (behind_mark mark bs)

-- a record that passes its own tests
module _ {mark : List ℕ} {width : ℕ} {sheet : List ℕ} {s : State} (o : Going mark width sheet s) (ok : record_refusal mark width (drop s.offset sheet) ≡ done) where
  abbrev bs : List ℕ
  bs = drop s.offset sheet

  abbrev n : ℕ
  n = record_length mark width (drop s.offset sheet)

  it : IsRecord mark width (drop s.offset sheet)
  it = record_read mark width (drop s.offset sheet) ok

  abbrev c : TreeCell
  c = it.of

  abbrev piece : List ℕ
  piece = record_of mark it.of it.samples []

  regroup : (a b c d : List ℕ) → (a ++ (b ++ (c ++ []))) ++ d ≡ a ++ (b ++ (c ++ d))
  regroup a b c d = simp append_assoc

  whole : bs ≡ piece ++ drop n bs
  whole = it.is ∙ sym (regroup mark (code_of it.of.root it.of.path) it.samples (drop n bs))

  piece_size : length piece ≡ n
  piece_size = omega (arith, ap length whole, length-append piece (drop n bs), length-drop n bs, it.inside)

  to_is : take (s.offset + n) sheet ≡ take s.offset sheet ++ piece
  to_is = take-add s.offset n sheet ∙ ap (λ (l : List ℕ). take s.offset sheet ++ l) (ap (λ (l : List ℕ). take n l) whole ∙ take_at piece (drop n bs) n piece_size)

  more_listed : Listed mark width (o.cells ++ c ∷ []) (take (s.offset + n) sheet)
  more_listed = subst (Listed mark width (o.cells ++ it.of ∷ [])) (sym to_is) (listed_join mark width o.behind.listed (listed_more it.good it.samples it.size refl listed_none))

  is_code : IsCodeOf (front_code (behind_mark mark bs)) c.root c.path
  is_code = record { good_root = it.good.good_root; good_path = it.good.good_path; is = it.code_is }

  axes : length c.root ≡ front_dimension (behind_mark mark bs)
  axes = sym (front_root is_code) ∙ front_code_dimension (behind_mark mark bs)

  -- a good sheet that begins so has the next leaf here
  begins_first : Begins mark width (take (s.offset + n) sheet) → (s.root < length (roots (axes_of s.dim))) × First (get_or (roots (axes_of s.dim)) s.root []) o.ahead.path (front_code (behind_mark mark bs))
  begins_first b = (
    t.root_left,
    record {
      n = t.n;
      is_code = subst (λ (r : List ℕ). IsCodeOf (front_code (behind_mark mark bs)) r (steps (zeros t.n o.ahead.path))) t.root_is
          (subst (IsCodeOf (front_code (behind_mark mark bs)) c.root) t.path_is is_code);
    },
  )
    where
      l : Cut mark width b.good.cells (o.cells ++ c ∷ []) b.rest
      l = cut mark width b.rest more_listed (listed_good b.good) refl

      cells_are : CellsIn b.good.dimension (o.cells ++ c ∷ [])
      cells_are = cells_front (o.cells ++ c ∷ []) l.behind (subst (CellsIn b.good.dimension) l.is (leaves_cells b.good.dimension b.good.has_dimension b.good.leaves))

      follows : (x : frontier.State) × Follows (frontier.state (roots b.good.dimension) []) (o.cells ++ c ∷ []) x
      follows = begins_follows (o.cells ++ c ∷ []) l.behind (subst (Leaves (roots b.good.dimension) (greatest_depth b.good.dimension)) l.is b.good.leaves)

      t : Taken o.ahead c
      t = taken o.ahead c (subst (λ (i : ℕ). Follows (frontier.state (roots i) []) (o.cells ++ c ∷ []) follows.0) (sym (o.named _ c axes cells_are)) follows.1)

  -- one that does not fit is not the next leaf
  not_begun : Unfit mark width s bs → Begins mark width (take (s.offset + n) sheet) → ⊥
  not_begun (unmarked m) b = subst T (sym (parts_marked mark width bs ok) ∙ m) tt
  not_begun (no_root z) b = omega (arith, (begins_first b).0, z, roots_count (axes_of s.dim))
  not_begun (other m) b = let t = begins_first b in m.told (get_or (roots (axes_of s.dim)) s.root []) o.ahead.path (o.ahead.stands t.0) t.1
  not_begun (cut_short m l) b =
      let t = begins_first b in
      let st = o.ahead.stands t.0 in
      let room = (passed width (behind_mark mark bs) (parts_passed mark width bs ok)).inside in
      omega (arith, fit_body mark width bs s st (m.told (get_or (roots (axes_of s.dim)) s.root []) o.ahead.path st), room, l)

  -- what is read with it is a front of a good sheet
  module _ {root : ℕ} {cell : Next} (w : Ahead (axes_of s.dim) (o.cells ++ c ∷ []) root cell) where
    begun : Begins mark width (take (s.offset + n) sheet)
    begun =
        let r = follows_begins w.follows (cells_within w.cells_in) in
        let x = write mark width (axes_of s.dim) r.0 in
        record {
          rest = x.sheet;
          count = length ((o.cells ++ c ∷ []) ++ r.0);
          good = record {
            dimension = axes_of s.dim;
            has_dimension = axes_dimension s.dim;
            cells = (o.cells ++ c ∷ []) ++ r.0;
            leaves = r.1;
            records = records_join (listed_records w.cells_in more_listed)
                x.records;
            count = refl;
          };
        }

    behind_on : Going mark width sheet (state_of (s.offset + n) (s.records + 1) s.dim root cell)
    behind_on = record {
      cells = o.cells ++ c ∷ [];
      behind = record {
        inside = omega (arith, it.inside, length-drop s.offset sheet, o.behind.inside);
        few = omega (arith, o.behind.few, (record_inside mark width bs ok).1);
        listed = more_listed;
        count = length-append o.cells (c ∷ []) ∙ ap (λ (k : ℕ). k + 1) o.behind.count;
        reading = subst (λ (k : ℕ). Read mark width sheet (s.offset + n) k) plus (next o.behind.reading ok refl begun);
      };
      ahead = w;
      named = λ i x q v. same_dimension (omega (arith, length-append o.cells (c ∷ []))) w.cells_in (cells_front (o.cells ++ c ∷ []) (x ∷ []) v);
    }
      where
        plus : suc s.records ≡ s.records + 1
        plus = omega arith

-- a record that fits: its code is that of the next leaf
pub record Fitted {mark : List ℕ} {width : ℕ} {sheet : List ℕ} {s : State} (o : Going mark width sheet s) (m : Match) : Type 0 where
  pub root_left : s.root < length (roots (axes_of s.dim))
  pub match : Matched (get_or (roots (axes_of s.dim)) s.root []) o.ahead.path (behind_mark mark (drop s.offset sheet)) m
  pub ok : record_refusal mark width (drop s.offset sheet) ≡ done
  pub size : body_of width s m ≡ body_length width (behind_mark mark (drop s.offset sheet))

fitted : {mark : List ℕ} {width : ℕ} {sheet : List ℕ} {s : State} (o : Going mark width sheet s) {m : Match} → Fitting mark width s (drop s.offset sheet) m → Fitted o m
fitted {mark} {width} {sheet} {s} o {m} f = record {
  root_left = left;
  match = at;
  ok = sym (record_marked mark width (drop s.offset sheet) f.marked done (sym (unmarked_by_code width (behind_mark mark (drop s.offset sheet)) passes (subst (λ (i : ℕ). i ≤ length (behind_mark mark (drop s.offset sheet))) size f.room))));
  size = size;
}
  where
    left : s.root < length (roots (axes_of s.dim))
    left = omega (arith, o.ahead.root_in, roots_count (axes_of s.dim), f.root_left)

    at : Matched (get_or (roots (axes_of s.dim)) s.root []) o.ahead.path (behind_mark mark (drop s.offset sheet)) m
    at = f.matches.told (get_or (roots (axes_of s.dim)) s.root []) o.ahead.path (o.ahead.stands left)

    size : body_of width s m ≡ body_length width (behind_mark mark (drop s.offset sheet))
    size = fit_body mark width (drop s.offset sheet) s (o.ahead.stands left) at

    passes : code_refusal (front_code (behind_mark mark (drop s.offset sheet))) ≡ done
    passes = rw at.first.is_code.is (code_passes _ _ at.first.is_code.good_root at.first.is_code.good_path)

-- behind it
pub record Moved (mark : List ℕ) (width : ℕ) (sheet : List ℕ) (s t : State) : Type 0 where
  pub going_on : Going mark width sheet t
  pub farther : s.offset < t.offset

module _ {mark : List ℕ} {width : ℕ} {sheet : List ℕ} {s : State} (o : Going mark width sheet s) {m : Match} (two : length mark ≡ 2) (f : Fitted o m) where
  long : 2 + body_of width s m ≡ record_length mark width (drop s.offset sheet)
  unfolding record_length
  long = rw (two, f.size) refl

  fitted_ready : length sheet < 2 ^ 64 → MoveReady width s m
  fitted_ready h =
      let room = record_inside mark width (drop s.offset sheet) f.ok in
      record {
        ready = (matched_ready (o.ahead.stands f.root_left) f.match, matched_boxes (o.ahead.stands f.root_left) f.match);
        root_room = omega (arith, f.root_left, roots_few (axes_of s.dim) (axes_dimension s.dim));
        offset_room = omega (arith, long, room.2, length-drop s.offset sheet, o.behind.inside);
        records_room = omega (arith, o.behind.few, room.1, room.2, length-drop s.offset sheet);
      }

  the_cell : IsRecord.of (it o f.ok) ≡ tree_cell (get_or (roots (axes_of s.dim)) s.root []) (steps (zeros f.match.first.n o.ahead.path))
  the_cell = let e = one_path (is_code o f.ok) f.match.first.is_code in λ i. record { root = e.0 i; path = e.1 i }

  fitted_on : {t : State} → MoveIs width s m t → Moved mark width sheet s t
  fitted_on {t} v = by v
    where
      here : List ℕ
      here = get_or (roots (axes_of s.dim)) s.root []

      ax : length (it o f.ok).of.root ≡ axes_of s.dim
      ax = ap (λ (x : TreeCell). length x.root) the_cell ∙ (o.ahead.stands f.root_left).cell.rooted.axes

      gone : {x : Option Next} → AfterIs (axes_of s.dim) s.next m.depth x → Gone (axes_of s.dim) here (zeros f.match.first.n o.ahead.path) x
      gone a = a.gone here o.ahead.path f.match.first.n (o.ahead.stands f.root_left) f.match.depth_is

      to : {root : ℕ} {cell : Next} → Ahead (axes_of s.dim) (o.cells ++ (it o f.ok).of ∷ []) root cell
          → t ≡ state_of (s.offset + (2 + body_of width s m)) (s.records + 1) s.dim root cell → Moved mark width sheet s t
      to {root} {cell} w e = subst (Moved mark width sheet s) (sym (e ∙ ap (λ (i : ℕ). state_of (s.offset + i) (s.records + 1) s.dim root cell) long))
          (record { going_on = behind_on o f.ok w; farther = omega (arith, (record_inside mark width (drop s.offset sheet) f.ok).1) })

      by : MoveIs width s m t → Moved mark width sheet s t
      by (steps_of.on a e) = to (ahead_on o.ahead f.root_left _ (it o f.ok).good ax f.match.first.n the_cell (gone a)) e
      by (steps_of.over a q e) = to (ahead_over o.ahead f.root_left _ (it o f.ok).good ax f.match.first.n the_cell (gone a) q) e

-- the loop's body: the record's bytes are those from the offset on
module _ {mark : List ℕ} {width : ℕ} {sheet : List ℕ} {s : State} (g : Going mark width sheet s) (lt : s.offset < length sheet) where
  abbrev part : List ℕ
  part = take (length sheet - s.offset) (drop s.offset sheet)

  -- one that does not fit is refused by itself, or is not the next leaf
  pub go_refused : Unfit mark width s part → (r : Result Unit Refusal) → refusal_in r ≡ record_refusal mark width part → (x : Refusal) → x ≡ unwrap_or (result_err r) Leaf
      → Checks mark width sheet (told (number_of x) s.offset 0)
  go_refused u (Ok o) e x q = not_next g.behind.reading lt ok (not_begun g ok (subst (λ (l : List ℕ). Unfit mark width s l) (part_all sheet s.offset) u)) (ap (λ (y : Refusal). told (number_of y) s.offset 0) q)
    where
      ok : record_refusal mark width (drop s.offset sheet) ≡ done
      ok = ap (record_refusal mark width) (sym (part_all sheet s.offset)) ∙ sym e
  go_refused u (Err y) e x q = record_refused g.behind.reading lt (λ z. refuses y (own ∙ z)) (ap (λ (y : Refusal). told (number_of y) s.offset 0) q ∙ ap (λ (i : ℕ). told i s.offset 0) own)
    where
      own : number_of y ≡ record_refusal mark width (drop s.offset sheet)
      own = e ∙ ap (record_refusal mark width) (part_all sheet s.offset)

  module _ {m : Match} (fit : FitsIs mark width s part (Some m)) (two : length mark ≡ 2) where
    f : Fitted g m
    f = fitted g (subst (λ (l : List ℕ). Fitting mark width s l m) (part_all sheet s.offset) fit)

    pub go_ready : length sheet < 2 ^ 64 → MoveReady width s m
    go_ready l = fitted_ready g two f l

    pub go_on : {t : State} → MoveIs width s m t → Moved mark width sheet s t
    go_on v = fitted_on g two f v
