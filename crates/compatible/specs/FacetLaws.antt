-- One facet of a leaf: it lies in a face of the cube, so that no crossing is done, or the crossing gives the cell across and the place of
-- its new vertex, and both are the only ones.
use Rattle.std.specs.Prelude.{◌≡◌, Bool, true, false, ◌≢◌, List, ℕ, ◌≤◌, T, length, take, drop, Ok, Err}
use Rattle.std.proofs.Common.{sym, ap, ◌∙◌, subst, subst₂, arith, length-append, take_at}
use Rattle.dimension.specs.Sizes.{longest_of_all}
use Rattle.dimension.specs.Laws.{dimension, code_longest}
use Rattle.bisection.specs.Codes.{IsCodeOf, dimension_of}
use Rattle.bisection.specs.Facets.{Shares, Across}
use Rattle.bisection.specs.Refusals.{done, code_refusal}
use Rattle.bisection.proofs.Theorems.CodePaths.{code_passes, length_root}
use Rattle.bisection.proofs.Theorems.Neighbour.{across_determined}
use Rattle.codes.specs.Fronts.Laws.{front_root, code_length_is}
use Rattle.bisection.specs.declared.Refusal.{Refusal}
use Rattle.bisection.specs.NumberLaws.{refuses}
use Rattle.crossing.specs.declared.Crossed.{Crossed}
use Rattle.crossing.specs.declared.Crossing.{Crossing}
use Rattle.crossing.specs.Forms.{crossed as crossing_answer}
use Rattle.crossing.specs.Outcome.{Meets, wall, short, crossed}
use Rattle.crossing.specs.Outcome as outcome
use Rattle.sheets.specs.Forests.{TreeCell, tree_cell}
use Rattle.sheets.specs.Sheets.{GoodSheet}
use Rattle.sheets.specs.Theorems.Listing.{code_of_cell}
use Rattle.finding.specs.declared.Entry.{Entry}
use Rattle.finding.specs.declared.Spread.{Spread}
use Rattle.finding.specs.Finding.{Indexed}
use Rattle.finding.specs.Theorems.OneOfThree.{CellOf}
use Rattle.rings.specs.Rings.{code_for, Matched, FacetPasses}
use Rattle.compatible.specs.Looks.{LookReady, LookIs}

-- an index of a good sheet, the code of a cell of its dimension, and one of the cell's facets
pub record FacetReady (mark : List ℕ) (width : ℕ) (sheet : List ℕ) (d : ℕ) (index : List Entry) (spread : Spread) (code : List ℕ) (i : ℕ) : Type 0 where
  pub indexed : Indexed mark width sheet d index spread
  pub cell : TreeCell
  pub good : CellOf d cell
  pub is : code ≡ code_for cell
  pub small : i ≤ d

-- yes exactly where the facet of the code's cell passes
pub record FacetIs (mark : List ℕ) (width : ℕ) (sheet : List ℕ) (d : ℕ) (code : List ℕ) (i : ℕ) (r : Bool) : Type 0 where
  pub holds : r ≡ true → {m : ℕ} (g : GoodSheet mark width sheet m) (c : TreeCell) → CellOf d c → code ≡ code_for c → FacetPasses d g.cells c i
  pub fails : r ≡ false → {m : ℕ} (g : GoodSheet mark width sheet m) (c : TreeCell) → CellOf d c → code ≡ code_for c → FacetPasses d g.cells c i → ⊥

code_done : {code root path : List ℕ} → IsCodeOf code root path → code_refusal code ≡ done
code_done {root = root} {path = path} c = rw c.is (code_passes root path c.good_root c.good_path)

-- no code is longer than the longest of all dimensions
code_fits : {code root path : List ℕ} → IsCodeOf code root path → length code ≤ longest_of_all
code_fits {root = root} {path = path} c = omega (arith, code_length_is c (code_done c), code_longest (length root) (length path) (dimension (length root) c.good_root.dimension) c.good_path.depth)

module _ {mark : List ℕ} {width : ℕ} {sheet : List ℕ} {d : ℕ} {index : List Entry} {spread : Spread} {code : List ℕ} {i : ℕ} (ready : FacetReady mark width sheet d index spread code i) where
  own_code : IsCodeOf code ready.cell.root ready.cell.path
  own_code = rw ready.is (code_of_cell ready.good.good)

  own_axes : dimension_of code ≡ d
  own_axes = sym (length_root own_code) ∙ ready.good.axes

  pub facet_code : code_refusal code ≡ done
  facet_code = code_done own_code

  met : {before after : List ℕ} {r : Crossed} → outcome.Crosses code i before r after → Meets code i before r after
  met x = x.meets facet_code (rw own_axes ready.small)

  -- refused: there is room for every code, so no other cell has the facet's vertices, and nothing lies across
  pub facet_wall : {before after : List ℕ} (y : Refusal) → outcome.Crosses code i before (crossing_answer (Err y)) after → longest_of_all ≡ length before → FacetIs mark width sheet d code i true
  facet_wall {before} {after} y x room = record { holds = λ z g c good e n j a. absurd (none (met x) (refuses y) (subst (λ (l : List ℕ). Across l i (code_for n) j) (sym e) a.across).shares); fails = λ z. absurd (subst T z tt) }
    where
      none : {r : Crossed} → Meets code i before r after → r.refusal ≢ done → {code' : List ℕ} → Shares i code code' → ⊥
      none (wall w q) k {code'} s = w.alone code' s
      none (short code' j b l q) k s = omega (arith, room, code_fits b.across.shares.cell'.is_code)
      none (crossed code' j b l q) k s = k q.number

  module _ {before after : List ℕ} {r : Crossing} (x : outcome.Crosses code i before (crossing_answer (Ok r)) after) where
    -- done: the code of the cell across stands at the buffer's front
    record CrossedTo : Type 0 where
      to : List ℕ
      across : Across code i to r.place
      written : take r.length after ≡ to
      inside : r.length ≤ length after

    over : CrossedTo
    over = go (met x)
      where
        go : Meets code i before (crossing_answer (Ok r)) after → CrossedTo
        go (wall w q) = absurd (omega (arith, q.number))
        go (short code' j b l q) = absurd (omega (arith, q.number))
        go (crossed code' j b l q) = record {
          to = code';
          across = rw q.place b.across;
          written = ap (take r.length) q.written ∙ take_at code' (drop (length code') before) r.length (sym q.size);
          inside = omega (arith, q.size, ap length q.written, length-append code' (drop (length code') before));
        }

    pub facet_room : r.length ≤ length after
    facet_room = over.inside

    abbrev beyond : TreeCell
    beyond = tree_cell over.across.shares.cell'.root over.across.shares.cell'.path

    beyond_code : IsCodeOf over.to beyond.root beyond.path
    beyond_code = over.across.shares.cell'.is_code

    beyond_axes : length beyond.root ≡ d
    beyond_axes = length_root beyond_code ∙ sym over.across.shares.dimension ∙ own_axes

    pub facet_next : LookReady mark width sheet d index spread (take r.length after)
    facet_next = rw over.written (record { indexed = ready.indexed; passes = code_done beyond_code; axes = front_root beyond_code ∙ beyond_axes })

    -- the cell across and its place are the only ones, so the look at them decides
    pub facet_looked : {place : ℕ} → place ≡ r.place → {b : Bool} → LookIs mark width sheet d (take r.length after) place b → FacetIs mark width sheet d code i b
    facet_looked {place} at {b} look = record {
      holds = λ z g c good e n j a. let o = across_determined (rw own_axes ready.small) over.across (subst (λ (l : List ℕ). Across l i (code_for n) j) (sym e) a.across) in
          subst (Matched d g.cells n) o.1 (there.yes z g n (rw o.0 (code_of_cell a.beyond.good)));
      fails = λ z g c good e passes. there.no z g beyond beyond_code (passes beyond r.place (record {
        cell = good;
        beyond = record { good = record { good_root = beyond_code.good_root; good_path = beyond_code.good_path }; axes = beyond_axes };
        facet_of = ready.small;
        across = subst₂ (λ (l l' : List ℕ). Across l i l' r.place) e beyond_code.is over.across;
      }));
    }
      where
        there : LookIs mark width sheet d over.to r.place b
        there = subst₂ (λ (l : List ℕ) (j : ℕ). LookIs mark width sheet d l j b) over.written at look
