-- The contract of crossing determines the answer: two outcomes that it allows for the same input are equal, every number
-- and every lent cell. And crossing back leads back: from the code that an answer gives, across the place that it gives,
-- the answer is the first code, byte by byte, the first facet, and the vertex that the first crossing left.
use Rattle.std.specs.Prelude.{◌≡◌, refl, List, ◌++◌, ◌≢◌, ℕ, Result, Ok, Err, ◌≤◌, ◌<◌, length, take, drop}
use Rattle.std.proofs.Common.{sym, ap, ◌∙◌, subst, arith, take_at}
use Rattle.std.proofs.Math.Decide.{dec_lt, ℕ_discrete}
use Rattle.bisection.specs.Cells.{Point, Cell, vertex}
use Rattle.bisection.specs.Codes.{dimension_of}
use Rattle.bisection.specs.declared.Refusal.{Refusal}
use Rattle.bisection.specs.NumberLaws.{refuses, one_refusal}
use Rattle.bisection.specs.Refusals.{done, code_refusal}
use Rattle.bisection.specs.Facets.{IsCell, Across}
use Rattle.bisection.proofs.Theorems.CodeCells.{cell_passes, one_cell}
use Rattle.bisection.proofs.Theorems.Neighbour.{across_determined, across_back}
use Rattle.crossing.specs.declared.Crossing.{Crossing}
use Rattle.crossing.specs.declared.Crossed.{Crossed}
use Rattle.crossing.specs.Forms.{crossed as form}
use Rattle.crossing.specs.Outcome.{by_axes, Refuses, Gives, Walled, Beyond, Meets, wall, short, crossed, Crosses}
use Rattle.crossing.specs.Determined.{Back, Given, Same}

-- one cell across, or none
one : {code : List ℕ} {i : ℕ} {code' code'' : List ℕ} {j j' : ℕ} → i ≤ dimension_of code → Beyond code i code' j → Beyond code i code'' j' → (code' ≡ code'') × (j ≡ j')
one il b b' = across_determined il b.across b'.across

-- and one new vertex
one_vertex : {code code' : List ℕ} {vs ws : Cell} {i j : ℕ} → code ≡ code' → i ≡ j → IsCell code vs → IsCell code' ws → vertex vs i ≡ vertex ws j
one_vertex {vs = vs} {ws} {i} {j} e f c d = let same = one_cell (subst (λ (l : List ℕ). IsCell l vs) e c) d in λ k. vertex (same k) (f k)

apart : {code : List ℕ} {i : ℕ} {code' : List ℕ} {j : ℕ} → Walled code i → Beyond code i code' j → ⊥
apart {code' = code'} w b = w.alone code' b.across.shares

module _ {before : List ℕ} {r : Crossed} {after : List ℕ} {r' : Crossed} {after' : List ℕ} where
  refuses_same : {x : ℕ} → Refuses x before r after → Refuses x before r' after' → Same r after r' after'
  refuses_same a b = record {
    refusal = a.number ∙ sym b.number;
    place = a.place ∙ sym b.place;
    size = a.size ∙ sym b.size;
    vertex = a.vertex ∙ sym b.vertex;
    buffer = a.kept ∙ sym b.kept;
  }

  gives_same : {code' code'' : List ℕ} {j j' : ℕ} {v v' : Point} → code' ≡ code'' → j ≡ j' → v ≡ v' → Gives code' j v before r after → Gives code'' j' v' before r' after' → Same r after r' after'
  gives_same e f g a b = record {
    refusal = a.number ∙ sym b.number;
    place = a.place ∙ f ∙ sym b.place;
    size = a.size ∙ ap length e ∙ sym b.size;
    vertex = a.vertex ∙ ap by_axes g ∙ sym b.vertex;
    buffer = a.written ∙ ap (λ (c : List ℕ). c ++ drop (length c) before) e ∙ sym b.written;
  }

  module _ {code : List ℕ} {i : ℕ} (il : i ≤ dimension_of code) where
    meets_same : Meets code i before r after → Meets code i before r' after' → Same r after r' after'
    meets_same (wall w a) (wall w' a') = refuses_same a a'
    meets_same (wall w a) (short c j b h a') = absurd (apart w b)
    meets_same (wall w a) (crossed c j b h a') = absurd (apart w b)
    meets_same (short c j b h a) (wall w a') = absurd (apart w b)
    meets_same (short c j b h a) (short c' j' b' h' a') = refuses_same a a'
    meets_same (short c j b h a) (crossed c' j' b' h' a') = absurd (omega (arith, ap length (one il b b').0))
    meets_same (crossed c j b h a) (wall w a') = absurd (apart w b)
    meets_same (crossed c j b h a) (short c' j' b' h' a') = absurd (omega (arith, ap length (one il b b').0))
    meets_same (crossed c j b h a) (crossed c' j' b' h' a') = gives_same (one il b b').0 (one il b b').1
        (one_vertex (one il b b').0 (one il b b').1 b.across.shares.cell' b'.across.shares.cell') a a'

-- two outcomes that the contract allows for the same input are equal
pub determined : {code : List ℕ} {i : ℕ} {before : List ℕ} {r : Crossed} {after : List ℕ} {r' : Crossed} {after' : List ℕ}
    → Crosses code i before r after → Crosses code i before r' after' → Same r after r' after'
determined {code} {i} {before} {r} {after} {r'} {after'} a b = go (ℕ_discrete (code_refusal code) done) (dec_lt (dimension_of code) i)
  where
    go : Dec (code_refusal code ≡ done) → Dec (dimension_of code < i) → Same r after r' after'
    go (no n) l = refuses_same (a.own n) (b.own n)
    go (yes p) (yes l) = refuses_same (a.above p l) (b.above p l)
    go (yes p) (no l) = meets_same (omega arith) (a.meets p (omega arith)) (b.meets p (omega arith))

pub given_done : {code : List ℕ} {i : ℕ} {before : List ℕ} {r : Crossed} {after : List ℕ} → Crosses code i before r after → r.refusal ≡ done → Given code i before r after
given_done {code} {i} {before} {r} {after} a e = go (ℕ_discrete (code_refusal code) done) (dec_lt (dimension_of code) i)
  where
    never : {x : ℕ} → x ≢ 0 → Refuses x before r after → ⊥
    never n q = n (sym q.number ∙ e)

    met : i ≤ dimension_of code → Meets code i before r after → Given code i before r after
    met l (wall w q) = absurd (never (omega arith) q)
    met l (short c j b h q) = absurd (never (omega arith) q)
    met l (crossed c j b h q) = record {
      code' = c;
      facet = l;
      across = rw q.place b.across;
      front = ap (take r.length) q.written ∙ take_at c (drop (length c) before) r.length (sym q.size);
      size = q.size;
      vertex = λ ws w. q.vertex ∙ ap by_axes (one_vertex refl (sym q.place) b.across.shares.cell' w);
      fits = h;
    }

    go : Dec (code_refusal code ≡ done) → Dec (dimension_of code < i) → Given code i before r after
    go (no n) l = absurd (never n (a.own n))
    go (yes p) (yes l) = absurd (never (omega arith) (a.above p l))
    go (yes p) (no l) = met (omega arith) (a.meets p (omega arith))

module _ {code : List ℕ} {i : ℕ} {before : List ℕ} {r : Crossed} {after : List ℕ} (a : Crosses code i before r after) (e : r.refusal ≡ done) where
  there : Given code i before r after
  there = given_done a e

  home : Across there.code' r.place code i
  home = across_back there.facet there.across

  within : r.place ≤ dimension_of there.code'
  within = rw (← there.across.shares.dimension) there.across.place

  module _ {before' : List ℕ} {r' : Crossed} {after' : List ℕ} (room : length code ≤ length before') where
    met_back : Meets there.code' r.place before' r' after' → Back code i r' after'
    met_back (wall w q) = absurd (w.alone code home.shares)
    met_back (short c j b h q) = absurd (omega (arith, ap length (across_determined within b.across home).0))
    met_back (crossed c j b h q) = record {
      refusal = q.number;
      place = q.place ∙ (across_determined within b.across home).1;
      vertex = λ vs v. q.vertex ∙ ap by_axes (one_vertex (across_determined within b.across home).0 (across_determined within b.across home).1 b.across.shares.cell' v);
      front = ap (take r'.length) q.written ∙ take_at c (drop (length c) before') r'.length (sym q.size) ∙ (across_determined within b.across home).0;
    }

    pub crossing_back : Crosses (take r.length after) r.place before' r' after' → Back code i r' after'
    crossing_back b = met_back ((subst (λ (c : List ℕ). Crosses c r.place before' r' after') there.front b).meets (cell_passes there.across.shares.cell') within)

-- the form that a C program has of an answer loses nothing
pub one_crossed : (r r' : Result Crossing Refusal) → form r ≡ form r' → r ≡ r'
one_crossed (Ok a) (Ok b) e = ap Ok (λ i. record { place = (e i).place; length = (e i).length; vertex = (e i).vertex })
one_crossed (Ok a) (Err y) e = absurd (refuses y (sym (ap (λ (w : Crossed). w.refusal) e)))
one_crossed (Err x) (Ok b) e = absurd (refuses x (ap (λ (w : Crossed). w.refusal) e))
one_crossed (Err x) (Err y) e = ap Err (one_refusal x y (ap (λ (w : Crossed). w.refusal) e))
