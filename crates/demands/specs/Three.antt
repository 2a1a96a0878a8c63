-- Demand 3. For every accepted code and each vertex of its cell, with enough room for the answer: crossing the facet opposite that
-- vertex is refused exactly when the facet lies in a face of the cube, which is exactly when no other cell of that depth has all its
-- vertices. Otherwise the answer is the one other cell of the same depth that has them, with the place of its new vertex and that
-- vertex's coordinates, and crossing back opposite that place gives the first code, byte by byte, and the vertex that was left. The
-- coordinates are 0 on the axes past the dimension, and all of them where the crossing is refused.
use Rattle.std.specs.Prelude.{◌≡◌, List, ◌≢◌, ℕ, ◌≤◌, length, take}
use Rattle.bisection.specs.Cells.{Cell, vertex}
use Rattle.bisection.specs.Codes.{dimension_of}
use Rattle.bisection.specs.Refusals.{done, refused_face, code_refusal}
use Rattle.bisection.specs.Facets.{facet, InFace, IsCell, Shares, Across}
use Rattle.crossing.specs.declared.Crossed.{Crossed}
use Rattle.crossing.specs.Outcome.{by_axes, nowhere, Crosses}

-- a call of crossing: an accepted code of a cell, a place of a vertex, room for a code as long, and an outcome that the contract allows
pub record Call (code : List ℕ) (vs : Cell) (i : ℕ) (before : List ℕ) (r : Crossed) (after : List ℕ) : Type 0 where
  pub accepted : code_refusal code ≡ done
  pub cell : IsCell code vs
  pub place : i ≤ dimension_of code
  pub room : length code ≤ length before
  pub meets : Crosses code i before r after

pub record Crossing (code : List ℕ) (vs : Cell) (i : ℕ) (r : Crossed) (after : List ℕ) : Type 0 where
  -- the only refusal is 8
  pub refused : r.refusal ≢ done → r.refusal ≡ refused_face
  -- exactly when the facet lies in a face of the cube
  pub face : r.refusal ≡ refused_face → InFace (dimension_of code) (facet i vs)
  pub no_face : r.refusal ≡ done → ¬ InFace (dimension_of code) (facet i vs)
  -- exactly when no other cell of that depth has all the facet's vertices
  pub alone : r.refusal ≡ refused_face → (code' : List ℕ) → ¬ Shares i code code'
  -- otherwise the one other cell that has them, with the place of its new vertex
  pub across : r.refusal ≡ done → Across code i (take r.length after) r.place
  -- with that vertex's coordinates; none on a refusal
  pub lands : r.refusal ≡ done → (ws : Cell) → IsCell (take r.length after) ws → r.vertex ≡ by_axes (vertex ws r.place)
  pub refused_nowhere : r.refusal ≢ done → r.vertex ≡ nowhere
  -- and crossing back gives the first code, byte by byte, the first place, and the vertex there
  pub back : r.refusal ≡ done → (before' : List ℕ) (r' : Crossed) (after' : List ℕ) → length code ≤ length before' → Crosses (take r.length after) r.place before' r' after'
      → (r'.refusal ≡ done) × (take r'.length after' ≡ code) × (r'.place ≡ i) × (r'.vertex ≡ by_axes (vertex vs i))

-- the demand: so of every call
unfoldable pub Demand3 : Type 0
Demand3 = (code : List ℕ) (vs : Cell) (i : ℕ) (before : List ℕ) (r : Crossed) (after : List ℕ) → Call code vs i before r after → Crossing code vs i r after
