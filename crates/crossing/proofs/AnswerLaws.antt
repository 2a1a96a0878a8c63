-- The ways out of a crossing, each with what is known there; and a change of a name's entries where more bytes follow them.
use Rattle.std.specs.Prelude.{◌≡◌, refl, true, false, ◌≢◌, ℕ, Ok, Err, suc, ◌+◌, ◌-◌, ◌≤◌, ◌<◌, T, length, get_or, take, drop, set}
use Rattle.std.proofs.Math.Path.{sym}
use Rattle.std.proofs.Common.{ap, ◌∙◌, subst, arith, length-set, take_at, drop_at}
use mathlib.Core.List.{List, ◌∷◌, ◌++◌, append_assoc}
use Rattle.std.proofs.Math.ListN.{get_or-append}
use Rattle.std.proofs.lemmas.List.{set-append_left}
use Rattle.std.proofs.Math.Seq.{paste}
use Rattle.bisection.specs.Cells.{Cell, vertex, cell_of}
use Rattle.bisection.specs.Codes.{bytes, dimension_of, depth_of, entries_of, orthants_of, parts_of, negated}
use Rattle.bisection.specs.declared.Refusal.{Refusal}
use Rattle.bisection.specs.declared.Refusal.TheVariants.{Step, Face, Short}
use Rattle.bisection.specs.Numbers.{number_of}
use Rattle.bisection.specs.NumberLaws.{refuses}
use Rattle.bisection.specs.Refusals.{done, code_refusal}
use Rattle.bisection.specs.Facets.{IsCell, Shares}
use Rattle.bisection.specs.Theorems.CodePaths.{root_of, path_of}
use Rattle.bisection.proofs.Theorems.CodeCells.{code_cell, cell_passes, one_cell}
use Rattle.bisection.specs.Theorems.Table.{Move, exchanged, negated_at, entries_by}
use Rattle.bisection.specs.Theorems.Crossing.Sound.{Allowed, a_swap, a_near, a_far, a_left, a_right, a_trade}
use Rattle.bisection.proofs.Theorems.Crossing.Rearranged.{exchanged_length, negated_at_length}
use Rattle.bisection.specs.Theorems.Neighbour.{is_blocked, table_code, table_place}
use Rattle.bisection.proofs.Theorems.Neighbour.{blocked_is_face, blocked_alone, face_is_blocked, across_unblocked}
use Rattle.bisection.proofs.Theorems.Entries.{turned_append, unturned_append}
use Rattle.entries.specs.Passed.{Checked, checked}
use Rattle.crossing.specs.declared.Crossing.{Crossing}
use Rattle.crossing.specs.declared.Crossed.{Crossed}
use Rattle.corners.specs.Vertices.{vertex_in}
use Rattle.crossing.specs.Outcome.{by_axes, Refuses, Walled, Beyond, Meets, wall, short, crossed as meets_crossed, Crosses}
use Rattle.crossing.specs.Forms.{crossed}
use Rattle.crossing.specs.Answers.{Whole}

-- the cell across has a code of the same length
pub shares_size : {i : ℕ} {code code' : List ℕ} → Shares i code code' → length code' ≡ length code
shares_size {i} {code} {code'} s = (checked code' (cell_passes s.cell')).size ∙ rw (← s.dimension, ← s.depth) (sym (checked code (cell_passes s.cell)).size)

refused : (x : Refusal) (before : List ℕ) → Refuses (number_of x) before (crossed (Err x)) before
refused x before = record { number = refl; place = refl; size = refl; vertex = refl; kept = refl }

-- what the table's answer says of a code that passes
module _ (code : List ℕ) (p : code_refusal code ≡ done) (i : ℕ) (il : i ≤ dimension_of code) where
  cell : IsCell code (cell_of (root_of code) (path_of code))
  cell = code_cell code p

  walled : is_blocked code i ≡ true → Walled code i
  walled e = record { vs = cell_of (root_of code) (path_of code); cell = cell; face = blocked_is_face cell i il e; alone = blocked_alone cell i il e }

  beyond : is_blocked code i ≡ false → Beyond code i (table_code code i) (table_place code i)
  beyond e = record {
    vs = cell_of (root_of code) (path_of code);
    cell = cell;
    free = λ w. subst T (sym (face_is_blocked cell i il w) ∙ e) tt;
    across = across_unblocked cell i il e;
  }

  pub table_size : is_blocked code i ≡ false → length (table_code code i) ≡ length code
  table_size e = shares_size (beyond e).across.shares

  -- the place is one of four bits
  pub table_place_is : is_blocked code i ≡ false → table_place code i ≤ 4
  table_place_is e = omega (arith, (beyond e).across.place, (checked code p).range.few)

  -- where the code across stands at the front: it passes, and the place is one of its vertices'
  module _ (e : is_blocked code i ≡ false) (rest : List ℕ) {after : List ℕ} (q : after ≡ table_code code i ++ rest) where
    pub table_front : take (length code) after ≡ table_code code i
    table_front = ap (take (length code)) q ∙ take_at (table_code code i) rest (length code) (table_size e)

    pub front_passes : code_refusal (take (length code) after) ≡ done
    front_passes = rw table_front (cell_passes (beyond e).across.shares.cell')

    pub front_place : table_place code i ≤ dimension_of (take (length code) after)
    front_place = rw (table_front, ← (beyond e).across.shares.dimension) (beyond e).across.place

-- the ways out, in document 01's order
module _ (code before : List ℕ) (i : ℕ) where
  -- the code's own number, and any answer that tells it
  pub cross_told : {x : ℕ} {r : Crossed} → x ≡ code_refusal code → x ≢ done → Refuses x before r before → Crosses code i before r before
  cross_told {x} {r} e n f = record { own = λ q. subst (λ (m : ℕ). Refuses m before r before) e f; above = λ p l. absurd (n (e ∙ p)); meets = λ p l. absurd (n (e ∙ p)) }

  -- a refusal that is the code's own
  pub cross_own : (x : Refusal) → number_of x ≡ code_refusal code → Crosses code i before (crossed (Err x)) before
  cross_own x e = cross_told e (refuses x) (refused x before)

  -- as the code has its dimension and the facet
  pub cross_step : code_refusal code ≡ done → {d j : ℕ} → d ≡ dimension_of code → j ≡ i → d < j → Crosses code i before (crossed (Err Step)) before
  cross_step p q t l = record { own = λ n. absurd (n p); above = λ p m. refused Step before; meets = λ p m. absurd (omega arith) }

  module _ (p : code_refusal code ≡ done) (il : i ≤ dimension_of code) where
    met : {r : Crossed} {after : List ℕ} → Meets code i before r after → Crosses code i before r after
    met m = record { own = λ n. absurd (n p); above = λ p l. absurd (omega arith); meets = λ p l. m }

    pub cross_face : is_blocked code i ≡ true → Crosses code i before (crossed (Err Face)) before
    cross_face e = met (wall (walled code p i il e) (refused Face before))

    pub cross_short : is_blocked code i ≡ false → length before < length code → Crosses code i before (crossed (Err Short)) before
    cross_short e l = met (short (table_code code i) (table_place code i) (beyond code p i il e) (omega (arith, table_size code p i il e)) (refused Short before))

    pub cross_done : (e : is_blocked code i ≡ false) {after : List ℕ} → after ≡ table_code code i ++ drop (length code) before → length code ≤ length before
        → {r : Crossing} → Whole (table_place code i) (take (length code) after) r → Crosses code i before (crossed (Ok r)) after
    cross_done e {after} q l w = met (meets_crossed (table_code code i) (table_place code i) (beyond code p i il e) (omega (arith, size))
        (record {
          number = refl;
          place = w.place;
          size = w.size ∙ ap length front;
          vertex = w.vertex ∙ ap by_axes (ap (λ (l : List ℕ). vertex_in l (table_place code i)) front
              ∙ ap (λ (ws : Cell). vertex ws (table_place code i)) (one_cell (code_cell (table_code code i) (cell_passes there)) there));
          written = q ∙ ap (λ (n : ℕ). table_code code i ++ drop n before) (sym size);
        }))
      where
        size : length (table_code code i) ≡ length code
        size = table_size code p i il e

        front : take (length code) after ≡ table_code code i
        front = table_front code p i il e (drop (length code) before) q

        there : IsCell (table_code code i) (beyond code p i il e).across.shares.ws
        there = (beyond code p i il e).across.shares.cell'

-- a code that passes with other entries, before more bytes
pub code_pasted : (code : List ℕ) (p : code_refusal code ≡ done) {d : ℕ} → d ≡ dimension_of code → (es rest : List ℕ)
    → paste (code ++ rest) 2 es d ≡ bytes (dimension_of code) (depth_of code) (record { entries = take d es; orthants = orthants_of code }) ++ rest
unfolding bytes
code_pasted code p {d} a es rest = ap (λ (l : List ℕ). paste (l ++ rest) 2 es d) k.good.is
    ∙ ap (λ (l : List ℕ). (dimension_of code ∷ depth_of code ∷ take d es) ++ l) behind
    ∙ ap (λ (l : List ℕ). dimension_of code ∷ depth_of code ∷ l) (sym (append_assoc (take d es) (orthants_of code) rest))
  where
    k : Checked code
    k = checked code p

    two : 2 + d ≡ suc (suc d)
    two = omega arith

    behind : drop (2 + d) (bytes (dimension_of code) (depth_of code) (parts_of code) ++ rest) ≡ orthants_of code ++ rest
    behind = unfold bytes parts_of in rw (two, append_assoc (entries_of code) (orthants_of code) rest)
        (drop_at (entries_of code) (orthants_of code ++ rest) d (unfold parts_of in k.good.passes.signed.size ∙ sym a))

-- a change of the entries goes no further
negated_append : (at : ℕ) (es rest : List ℕ) → at < length es → negated_at at (es ++ rest) ≡ negated_at at es ++ rest
unfolding negated_at
negated_append at es rest h = rw (get_or-append es rest 0 at h) (set-append_left es rest at (negated (get_or es at 0)) h)

exchanged_append : (t u : ℕ) (es rest : List ℕ) → t < length es → u < length es → exchanged t u (es ++ rest) ≡ exchanged t u es ++ rest
unfolding exchanged
exchanged_append t u es rest h l = rw (get_or-append es rest 0 t h, get_or-append es rest 0 u l, set-append_left es rest t (get_or es u 0) h)
    (set-append_left (set es t (get_or es u 0)) rest u (get_or es t 0) (rw (length-set es t (get_or es u 0)) l))

pub entries_append : {d k : ℕ} {m : Move} → Allowed d k m → 1 ≤ k → k ≤ d → (es rest : List ℕ) → length es ≡ d → entries_by d k m (es ++ rest) ≡ entries_by d k m es ++ rest
unfolding entries_by
entries_append (a_swap {i} h l) k1 kd es rest e = exchanged_append (i - 1) i es rest (omega arith) (omega arith)
entries_append {d} a_near k1 kd es rest e = negated_append (d - 1) es rest (omega arith)
entries_append (a_far q) k1 kd es rest e = negated_append 0 es rest (omega arith)
entries_append {d} {k} (a_left q) k1 kd es rest e = turned_append (suc k) es rest (omega arith) (omega arith)
entries_append {d} {k} (a_right q) k1 kd es rest e = unturned_append k es rest (omega arith)
entries_append {d} {k} (a_trade q) k1 kd es rest e =
    rw (exchanged_append 0 k es rest (omega arith) (omega arith), negated_append k (exchanged 0 k es) rest (omega (arith, exchanged_length 0 k es)))
    (negated_append 0 (negated_at k (exchanged 0 k es)) rest (omega (arith, exchanged_length 0 k es, negated_at_length k (exchanged 0 k es))))
