-- Records one after the other: a list of bytes lists cells in one way only, and a front of it lists a front of them.
use Rattle.std.specs.Prelude.{◌≡◌, Bool, false, ◌&&◌, length, get_or, replicate}
use Rattle.std.proofs.Math.Path.{refl, sym, ap}
use Rattle.std.proofs.Common.{◌∙◌, subst, arith, length-append, drop-drop, le-leb}
use Rattle.std.proofs.Math.Bool.{true}
use mathlib.Core.List.{List, [], ◌∷◌, ◌++◌, append_assoc}
use Prim.Native.Nat.{ℕ, suc, ◌+◌, ◌*◌, ◌≤◌, ◌<◌}
use Rattle.std.proofs.Math.Dec.{leb}
use Rattle.std.proofs.Math.ListN.{drop, length-drop}
use Rattle.std.proofs.lemmas.List.{length-replicate}
use Rattle.std.proofs.Math.Seq.{drop_at}
use Rattle.dimension.specs.Sizes.{is_dimension, greatest_depth}
use Rattle.bisection.specs.Roots.{GoodRoot, GoodPath, roots}
use Rattle.bisection.specs.Codes.{code_of, IsCodeOf}
use Rattle.bisection.specs.Refusals.{done, code_refusal}
use Rattle.bisection.proofs.Theorems.Checked.{both, and_both}
use Rattle.bisection.specs.Theorems.Ladders.{all_hold, holds, past}
use Rattle.bisection.proofs.Theorems.Ladders.{first_is, held_at}
use Rattle.bisection.specs.Theorems.CodePaths.{root_of, path_of}
use Rattle.bisection.proofs.Theorems.CodePaths.{code_path, code_passes, one_path}
use Rattle.codes.specs.Fronts.{front_dimension, front_code}
use Rattle.codes.specs.Fronts.Laws.{code_two, front_root}
use Rattle.positions.specs.RootNumbers.{roots_good, roots_length}
use Rattle.next.specs.Paths.{zeros, steps, steps_good}
use Rattle.sheets.specs.Forests.{TreeCell, tree_cell, NoDeeper, no_deeper_none, no_deeper_more, Leaves}
use Rattle.sheets.specs.Sheets.{begins_with, behind_mark, is_marked, body_length, record_length, unmarked_refusal, record_refusal, Records, none, more}
use Rattle.sheets.specs.Theorems.Frontier.{State, advance, Follows, end, leaf, good_follows}
use Rattle.sheets.specs.Theorems.Reading.{begins_is, is_begins, Passed, passed, code_in, unmarked_passes, rest_behind}

-- a cell with a good root and a good path
pub record GoodCell (c : TreeCell) : Type 0 where
  pub good_root : GoodRoot c.root
  pub good_path : GoodPath (length c.root) c.path

pub code_of_cell : {c : TreeCell} → GoodCell c → IsCodeOf (code_of c.root c.path) c.root c.path
code_of_cell g = record { good_root = g.good_root; good_path = g.good_path; is = refl }

passes_cell : {c : TreeCell} → GoodCell c → code_refusal (code_of c.root c.path) ≡ done
passes_cell {c} g = code_passes c.root c.path g.good_root g.good_path

-- the record of a cell, and any rest
abbrev pub record_of : List ℕ → TreeCell → List ℕ → List ℕ → List ℕ
record_of mark c samples rest = mark ++ (code_of c.root c.path ++ (samples ++ rest))

-- a record that passes its own tests is the record of a cell
pub record IsRecord (mark : List ℕ) (width : ℕ) (bs : List ℕ) : Type 0 where
  pub of : TreeCell
  pub good : GoodCell of
  pub code_is : front_code (behind_mark mark bs) ≡ code_of of.root of.path
  pub samples : List ℕ
  pub size : length samples ≡ width * suc (length of.root)
  pub is : bs ≡ record_of mark of samples (drop (record_length mark width bs) bs)
  pub inside : record_length mark width bs ≤ length bs

module _ (mark : List ℕ) (width : ℕ) where
  pub record_read : (bs : List ℕ) → record_refusal mark width bs ≡ done → IsRecord mark width bs
  unfolding record_refusal is_marked
  record_read bs e = record {
    of = tree_cell (root_of code) (path_of code);
    good = record { good_root = c.good_root; good_path = c.good_path };
    code_is = c.is;
    samples = p.samples;
    size = p.size ∙ ap (λ (d : ℕ). width * suc d) (sym p.dimension_is ∙ front_root c);
    is = unfold behind_mark record_length in (marked ∙ ap (λ (l : List ℕ). mark ++ l) (p.is ∙ ap (λ (l : List ℕ). l ++ (p.samples ++ drop size (drop (length mark) bs))) c.is
        ∙ ap (λ (l : List ℕ). code_of (root_of code) (path_of code) ++ (p.samples ++ l)) (drop-drop size (length mark) bs)));
    inside = unfold record_length behind_mark in omega (arith, p.inside, length-drop (length mark) bs, marked_length);
  }
    where
      b : (begins_with mark bs ≡ true) × (leb 2 (length (behind_mark mark bs)) ≡ true)
      b = both (begins_with mark bs) (leb 2 (length (behind_mark mark bs))) (held_at _ tt e 0)

      marked : bs ≡ mark ++ drop (length mark) bs
      marked = begins_is mark bs b.0

      marked_length : length bs ≡ length mark + length (drop (length mark) bs)
      marked_length = ap length marked ∙ length-append mark (drop (length mark) bs)

      p : Passed width (behind_mark mark bs)
      p = passed width (behind_mark mark bs) (held_at _ tt e 1)

      size : ℕ
      size = body_length width (drop (length mark) bs)

      code : List ℕ
      code = front_code (behind_mark mark bs)

      c : IsCodeOf (front_code (behind_mark mark bs)) (root_of (front_code (behind_mark mark bs))) (path_of (front_code (behind_mark mark bs)))
      c = code_path (front_code (behind_mark mark bs)) p.code

  -- the record of a cell passes its own tests
  module _ (c : TreeCell) (g : GoodCell c) (samples rest : List ℕ) (size : length samples ≡ width * suc (length c.root)) where
    abbrev it : List ℕ
    it = code_of c.root c.path

    size_as : length samples ≡ width * suc (front_dimension (code_of c.root c.path))
    size_as = rw (front_root (code_of_cell g)) size

    behind : behind_mark mark (record_of mark c samples rest) ≡ it ++ (samples ++ rest)
    unfolding behind_mark
    behind = drop_at mark (it ++ (samples ++ rest)) (length mark) refl

    pub two_behind : 2 ≤ length (it ++ (samples ++ rest))
    two_behind = omega (arith, code_two it (passes_cell g), length-append it (samples ++ rest))

    pub record_passes : record_refusal mark width (record_of mark c samples rest) ≡ done
    unfolding record_refusal is_marked
    record_passes = first_is (holds marked (past (ap (unmarked_refusal width) behind ∙ unmarked_passes width it samples rest (passes_cell g) size_as) all_hold))
      where
        two : leb 2 (length (behind_mark mark (record_of mark c samples rest))) ≡ true
        two = rw behind (le-leb 2 (length (it ++ (samples ++ rest))) two_behind)

        marked : (begins_with mark (record_of mark c samples rest) && leb 2 (length (behind_mark mark (record_of mark c samples rest)))) ≡ true
        marked = and_both (begins_with mark (record_of mark c samples rest)) (leb 2 (length (behind_mark mark (record_of mark c samples rest)))) (is_begins mark (it ++ (samples ++ rest))) two

    pub record_code : front_code (behind_mark mark (record_of mark c samples rest)) ≡ it
    record_code = ap front_code behind ∙ code_in width it samples rest (passes_cell g) size_as

    pub record_rest : drop (record_length mark width (record_of mark c samples rest)) (record_of mark c samples rest) ≡ rest
    unfolding record_length
    record_rest = sym (drop-drop (body_length width (behind_mark mark (record_of mark c samples rest))) (length mark) (record_of mark c samples rest)) ∙ last ∙ rest_behind width it samples rest (passes_cell g) size_as
      where
        last : drop (body_length width (behind_mark mark (record_of mark c samples rest))) (drop (length mark) (record_of mark c samples rest)) ≡ drop (body_length width (it ++ (samples ++ rest))) (it ++ (samples ++ rest))
        last = unfold behind_mark in ap (λ (l : List ℕ). drop (body_length width l) l) (unfold behind_mark in behind)

  -- a record is that of one cell, and its rest is one
  same_record : (c c' : TreeCell) → GoodCell c → GoodCell c' → (s s' r r' : List ℕ) → length s ≡ width * suc (length c.root) → length s' ≡ width * suc (length c'.root) → record_of mark c s r ≡ record_of mark c' s' r' → (c ≡ c') × (r ≡ r')
  same_record c c' g g' s s' r r' z z' e = (λ i. record { root = o.0 i; path = o.1 i }, sym (record_rest c g s r z) ∙ ap (λ (l : List ℕ). drop (record_length mark width l) l) e ∙ record_rest c' g' s' r' z')
    where
      codes : code_of c.root c.path ≡ code_of c'.root c'.path
      codes = sym (record_code c g s r z) ∙ ap (λ (l : List ℕ). front_code (behind_mark mark l)) e ∙ record_code c' g' s' r' z'

      o : (c.root ≡ c'.root) × (c.path ≡ c'.path)
      o = one_path (code_of_cell g) (record { good_root = g'.good_root; good_path = g'.good_path; is = codes })

  pub data Listed : List TreeCell → List ℕ → Type 0 where
    listed_none : Listed [] []
    listed_more : {c : TreeCell} {cs : List TreeCell} {rest sheet : List ℕ} → GoodCell c → (samples : List ℕ) → length samples ≡ width * suc (length c.root) → sheet ≡ record_of mark c samples rest → Listed cs rest → Listed (c ∷ cs) sheet

  pub record Cut (cs front : List TreeCell) (rest : List ℕ) : Type 0 where
    pub behind : List TreeCell
    pub is : cs ≡ front ++ behind
    pub listed : Listed behind rest

  regroup : (a b c d : List ℕ) (e : List ℕ) → (a ++ (b ++ (c ++ d))) ++ e ≡ a ++ (b ++ (c ++ (d ++ e)))
  regroup a b c d e = simp append_assoc

  not_empty : (c : TreeCell) → GoodCell c → (samples rest : List ℕ) → [] ≡ record_of mark c samples rest → ⊥
  not_empty c g samples rest e = omega (arith, ap length e, length-append mark (code_of c.root c.path ++ (samples ++ rest)), length-append (code_of c.root c.path) (samples ++ rest), code_two (code_of c.root c.path) (passes_cell g))

  pub listed_empty : {cs : List TreeCell} {s : List ℕ} → Listed cs s → s ≡ [] → cs ≡ []
  listed_empty listed_none e = refl
  listed_empty (listed_more {c = c} {rest = r} g smp z q l) e = absurd (not_empty c g smp r (sym e ∙ q))

  pub cut : {cs front : List TreeCell} {s f : List ℕ} (rest : List ℕ) → Listed front f → Listed cs s → s ≡ f ++ rest → Cut cs front rest
  cut {cs} rest listed_none l e = record { behind = cs; is = refl; listed = subst (Listed cs) e l }
  cut rest (listed_more {c = c} {rest = r} g smp z q l) listed_none e = absurd (not_empty c g smp (r ++ rest) (e ∙ ap (λ (x : List ℕ). x ++ rest) q ∙ regroup mark (code_of c.root c.path) smp r rest))
  cut rest (listed_more {c = c} {cs = fs} {rest = r} g smp z q l) (listed_more {c = c'} {cs = cs'} {rest = r'} g' smp' z' q' l') e =
      let o = same_record c' c g' g smp' smp r' (r ++ rest) z' z (sym q' ∙ e ∙ ap (λ (x : List ℕ). x ++ rest) q ∙ regroup mark (code_of c.root c.path) smp r rest) in
      let k = cut rest l l' o.1 in
      record { behind = k.behind; is = ap (λ (x : TreeCell). x ∷ cs') o.0 ∙ ap (λ (x : List TreeCell). c ∷ x) k.is; listed = k.listed }

  pub listed_join : {cs ds : List TreeCell} {a b : List ℕ} → Listed cs a → Listed ds b → Listed (cs ++ ds) (a ++ b)
  listed_join listed_none m = m
  listed_join {b = b} (listed_more {c = c} {rest = r} g smp z q l) m = listed_more g smp z (ap (λ (x : List ℕ). x ++ b) q ∙ regroup mark (code_of c.root c.path) smp r b) (listed_join l m)

-- cells of one dimension
pub data CellsIn (d : ℕ) : List TreeCell → Type 0 where
  cells_none : CellsIn d []
  cells_more : {c : TreeCell} {cs : List TreeCell} → GoodCell c → length c.root ≡ d → CellsIn d cs → CellsIn d (c ∷ cs)

pub cells_join : {d : ℕ} {cs ds : List TreeCell} → CellsIn d cs → CellsIn d ds → CellsIn d (cs ++ ds)
cells_join cells_none m = m
cells_join (cells_more g e l) m = cells_more g e (cells_join l m)

pub cells_front : {d : ℕ} (cs ds : List TreeCell) → CellsIn d (cs ++ ds) → CellsIn d cs
cells_front [] ds l = cells_none
cells_front (c ∷ cs) ds (cells_more g e l) = cells_more g e (cells_front cs ds l)

-- cells of one dimension have no other
pub same_dimension : {d d' : ℕ} {cs : List TreeCell} → 0 < length cs → CellsIn d cs → CellsIn d' cs → d ≡ d'
same_dimension h cells_none l = absurd (omega arith)
same_dimension h (cells_more g e l) (cells_more g' e' l') = sym e ∙ e'

pub cells_within : {d : ℕ} {cs : List TreeCell} → CellsIn d cs → NoDeeper (greatest_depth d) cs
cells_within cells_none = no_deeper_none
cells_within (cells_more {c = c} g e l) = no_deeper_more {c = c} (subst (λ (n : ℕ). length c.path ≤ greatest_depth n) e g.good_path.depth) (cells_within l)

-- every list of cells has records
pub record Written (mark : List ℕ) (width d : ℕ) (cs : List TreeCell) : Type 0 where
  pub sheet : List ℕ
  pub records : Records mark width d cs sheet

pub write : (mark : List ℕ) (width d : ℕ) (cs : List TreeCell) → Written mark width d cs
write mark width d [] = record { sheet = []; records = none }
write mark width d (c ∷ cs) = let w = write mark width d cs in record { sheet = record_of mark c (replicate (width * suc d) 0) w.sheet; records = more (replicate (width * suc d) 0) (length-replicate {A = ℕ} (width * suc d) 0) refl w.records }

module _ {mark : List ℕ} {width d : ℕ} where
  pub records_listed : {cs : List TreeCell} {s : List ℕ} → CellsIn d cs → Records mark width d cs s → Listed mark width cs s
  records_listed cells_none none = listed_none
  records_listed (cells_more g e l) (more smp z q r) = listed_more g smp (z ∙ ap (λ (n : ℕ). width * suc n) (sym e)) q (records_listed l r)

  pub listed_records : {cs : List TreeCell} {s : List ℕ} → CellsIn d cs → Listed mark width cs s → Records mark width d cs s
  listed_records cells_none listed_none = none
  listed_records (cells_more g' e l) (listed_more g smp z q r) = more smp (z ∙ ap (λ (n : ℕ). width * suc n) e) q (listed_records l r)

  pub records_join : {cs ds : List TreeCell} {a b : List ℕ} → Records mark width d cs a → Records mark width d ds b → Records mark width d (cs ++ ds) (a ++ b)
  records_join none m = m
  records_join {b = b} (more {c = c} {rest = r} smp z q l) m = more smp z (ap (λ (x : List ℕ). x ++ b) q ∙ regroup mark width (mark) (code_of c.root c.path) smp r b) (records_join l m)

-- the leaves of a forest on all roots of a dimension are its cells
pub data RootsIn (d : ℕ) : List (List ℕ) → Type 0 where
  roots_none : RootsIn d []
  roots_more : {r : List ℕ} {rs : List (List ℕ)} → GoodRoot r → length r ≡ d → RootsIn d rs → RootsIn d (r ∷ rs)

roots_by : (d : ℕ) (rs : List (List ℕ)) → ((i : ℕ) → i < length rs → GoodRoot (get_or rs i [])) → ((i : ℕ) → i < length rs → length (get_or rs i []) ≡ d) → RootsIn d rs
roots_by d [] g e = roots_none
roots_by d (r ∷ rs) g e = roots_more (g 0 (omega arith)) (e 0 (omega arith)) (roots_by d rs (λ i h. g (suc i) (omega arith)) (λ i h. e (suc i) (omega arith)))

pub roots_in : (d : ℕ) → is_dimension d ≡ true → RootsIn d (roots d)
roots_in d e = roots_by d (roots d) (roots_good d e) (roots_length d)

advance_in : {d : ℕ} (r : List ℕ) (rs : List (List ℕ)) (p : List Bool) → RootsIn d (r ∷ rs) → RootsIn d (advance r rs p).roots
unfolding advance
advance_in r rs [] (roots_more g e l) = l
advance_in r rs (true ∷ p) l = advance_in r rs p l
advance_in r rs (false ∷ p) l = l

head_in : {d : ℕ} {r : List ℕ} {rs : List (List ℕ)} → RootsIn d (r ∷ rs) → GoodRoot r × (length r ≡ d)
head_in (roots_more g e l) = (g, e)

pub follows_cells : {d : ℕ} (rs : List (List ℕ)) {s t : State} {cs : List TreeCell} → RootsIn d rs → rs ≡ s.roots → Follows s cs t → NoDeeper (greatest_depth d) cs → CellsIn d cs
follows_cells rs l q end w = cells_none
follows_cells {d} rs l q (leaf {r = r} {rs = rs'} {p = p} n f) (no_deeper_more h w) =
    let l' : RootsIn d (r ∷ rs') = subst (RootsIn d) q l in
    let g = head_in l' in
    cells_more {c = tree_cell r (steps (zeros n p))} (record { good_root = g.0; good_path = record { steps = (steps_good (zeros n p)).small; depth = rw g.1 h } }) g.1 (follows_cells (advance r rs' (zeros n p)).roots (advance_in r rs' (zeros n p) l') refl f w)

pub leaves_cells : (d : ℕ) → is_dimension d ≡ true → {cs : List TreeCell} → Leaves (roots d) (greatest_depth d) cs → CellsIn d cs
leaves_cells d e v = let f = good_follows v in follows_cells (roots d) (roots_in d e) refl f.1 v.within
