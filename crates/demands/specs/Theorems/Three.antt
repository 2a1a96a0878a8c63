-- Demand 3 holds, from the contract of crossing.
use Rattle.std.specs.Prelude.{◌≡◌, refl, List, ◌≢◌, ℕ, ◌≤◌, length, take}
use Rattle.std.proofs.Common.{sym, ◌∙◌, subst, arith}
use Rattle.dimension.specs.Sizes.{code_length}
use Rattle.bisection.specs.Cells.{Cell, vertex}
use Rattle.bisection.specs.Codes.{dimension_of, depth_of}
use Rattle.bisection.specs.Refusals.{done, refused_face}
use Rattle.bisection.specs.Facets.{facet, InFace, IsCell, Shares, Across}
use Rattle.bisection.proofs.Theorems.CodePaths.{length_root, length_path_of}
use Rattle.bisection.proofs.Theorems.CodeCells.{cell_passes, one_cell}
use Rattle.codes.specs.Fronts.Laws.{code_length_is}
use Rattle.crossing.specs.declared.Crossed.{Crossed}
use Rattle.crossing.specs.Outcome.{by_axes, nowhere, Meets, wall, short, crossed, Crosses}
use Rattle.crossing.proofs.Determined.{given_done, crossing_back}
use Rattle.demands.specs.Three.{Call, Crossing, Demand3}

-- the code of a cell has the length that its dimension and depth give
pub cell_length : {code : List ℕ} {vs : Cell} → IsCell code vs → length code ≡ code_length (dimension_of code) (depth_of code)
cell_length c = code_length_is c.is_code (cell_passes c) ∙ rw (length_root c.is_code, length_path_of c.is_code) refl

module _ {code : List ℕ} {vs : Cell} {i : ℕ} {before : List ℕ} {r : Crossed} {after : List ℕ} (c : Call code vs i before r after) where
  met : Meets code i before r after
  met = c.meets.meets c.accepted c.place

  -- the cell across has a code as long
  as_long : {code' : List ℕ} → Shares i code code' → length code' ≡ length code
  as_long s = cell_length s.cell' ∙ rw (← s.dimension, ← s.depth) refl ∙ sym (cell_length s.cell)

  only_face : r.refusal ≢ done → r.refusal ≡ refused_face
  only_face k = go met
    where
      go : Meets code i before r after → r.refusal ≡ refused_face
      go (wall w q) = q.number
      go (short code' j b l q) = absurd (omega (arith, l, c.room, as_long b.across.shares))
      go (crossed code' j b l q) = absurd (k q.number)

  in_face : r.refusal ≡ refused_face → InFace (dimension_of code) (facet i vs)
  in_face e = go met
    where
      go : Meets code i before r after → InFace (dimension_of code) (facet i vs)
      go (wall w q) = subst (λ (ws : Cell). InFace (dimension_of code) (facet i ws)) (one_cell w.cell c.cell) w.face
      go (short code' j b l q) = absurd (omega (arith, e, q.number))
      go (crossed code' j b l q) = absurd (omega (arith, e, q.number))

  in_none : r.refusal ≡ done → ¬ InFace (dimension_of code) (facet i vs)
  in_none e = go met
    where
      go : Meets code i before r after → ¬ InFace (dimension_of code) (facet i vs)
      go (wall w q) = absurd (omega (arith, e, q.number))
      go (short code' j b l q) = absurd (omega (arith, e, q.number))
      go (crossed code' j b l q) = subst (λ (ws : Cell). ¬ InFace (dimension_of code) (facet i ws)) (one_cell b.cell c.cell) b.free

  no_other : r.refusal ≡ refused_face → (code' : List ℕ) → ¬ Shares i code code'
  no_other e = go met
    where
      go : Meets code i before r after → (code' : List ℕ) → ¬ Shares i code code'
      go (wall w q) = w.alone
      go (short code' j b l q) = absurd (omega (arith, e, q.number))
      go (crossed code' j b l q) = absurd (omega (arith, e, q.number))

  one_other : r.refusal ≡ done → Across code i (take r.length after) r.place
  one_other e = let g = given_done c.meets e in subst (λ (l : List ℕ). Across code i l r.place) (sym g.front) g.across

  lands_there : r.refusal ≡ done → (ws : Cell) → IsCell (take r.length after) ws → r.vertex ≡ by_axes (vertex ws r.place)
  lands_there e ws w = let g = given_done c.meets e in g.vertex ws (subst (λ (l : List ℕ). IsCell l ws) g.front w)

  lands_nowhere : r.refusal ≢ done → r.vertex ≡ nowhere
  lands_nowhere k = go met
    where
      go : Meets code i before r after → r.vertex ≡ nowhere
      go (wall w q) = q.vertex
      go (short code' j b l q) = q.vertex
      go (crossed code' j b l q) = absurd (k q.number)

  and_back : r.refusal ≡ done → (before' : List ℕ) (r' : Crossed) (after' : List ℕ) → length code ≤ length before' → Crosses (take r.length after) r.place before' r' after'
      → (r'.refusal ≡ done) × (take r'.length after' ≡ code) × (r'.place ≡ i) × (r'.vertex ≡ by_axes (vertex vs i))
  and_back e before' r' after' l b = let g = crossing_back c.meets e l b in (g.refusal, g.front, g.place, g.vertex vs c.cell)

  pub crossing : Crossing code vs i r after
  crossing = record { refused = only_face; face = in_face; no_face = in_none; alone = no_other; across = one_other; lands = lands_there; refused_nowhere = lands_nowhere; back = and_back }

pub demand_3 : Demand3
unfolding Demand3
demand_3 code vs i before r after c = crossing c
