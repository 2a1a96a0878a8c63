-- What crossing answers, for every input: the answer and every lent cell, refusals too. Document 01, "Crossing" and
-- "Refusal numbers". `before` and `after` are the lent buffer at entry and at exit.
use Rattle.std.specs.Prelude.{◌≡◌, ◌≢◌, List, ◌++◌, ℕ, ◌≤◌, ◌<◌, length, drop}
use Rattle.bisection.specs.Cells.{Point, Cell, coordinate, vertex}
use Rattle.bisection.specs.Codes.{dimension_of}
use Rattle.bisection.specs.Refusals.{done, refused_step, refused_face, refused_short, code_refusal}
use Rattle.bisection.specs.Facets.{facet, InFace, IsCell, Shares, Across}
use Rattle.crossing.specs.declared.Vertex.{Vertex}
use Rattle.crossing.specs.declared.Crossed.{Crossed}

-- a point by value: its coordinate on each of the four axes, 0 on those that it lacks
unfoldable pub by_axes : Point → Vertex
by_axes v = record { first = coordinate v 1; second = coordinate v 2; third = coordinate v 3; fourth = coordinate v 4 }

abbrev pub nowhere : Vertex
nowhere = record { first = 0; second = 0; third = 0; fourth = 0 }

-- refused: place, length and the four coordinates are 0, and no lent cell changes
pub record Refuses (refusal : ℕ) (before : List ℕ) (r : Crossed) (after : List ℕ) : Type 0 where
  pub number : r.refusal ≡ refusal
  pub place : r.place ≡ 0
  pub size : r.length ≡ 0
  pub vertex : r.vertex ≡ nowhere
  pub kept : after ≡ before

-- done: the code stands at the buffer's front, its new vertex v at place j; the cells past it keep their content
pub record Gives (code' : List ℕ) (j : ℕ) (v : Point) (before : List ℕ) (r : Crossed) (after : List ℕ) : Type 0 where
  pub number : r.refusal ≡ done
  pub place : r.place ≡ j
  pub size : r.length ≡ length code'
  pub vertex : r.vertex ≡ by_axes v
  pub written : after ≡ code' ++ drop (length code') before

-- facet i of the code's cell lies in a face of the cube, and no other cell of that depth has all its vertices
pub record Walled (code : List ℕ) (i : ℕ) : Type 0 where
  pub vs : Cell
  pub cell : IsCell code vs
  pub face : InFace (dimension_of code) (facet i vs)
  pub alone : (code' : List ℕ) → ¬ Shares i code code'

-- it lies in none, and exactly one other cell of that depth has them: that of code', whose vertex j is new
pub record Beyond (code : List ℕ) (i : ℕ) (code' : List ℕ) (j : ℕ) : Type 0 where
  pub vs : Cell
  pub cell : IsCell code vs
  pub free : ¬ InFace (dimension_of code) (facet i vs)
  pub across : Across code i code' j

pub data Meets (code : List ℕ) (i : ℕ) (before : List ℕ) (r : Crossed) (after : List ℕ) : Type 0 where
  wall : Walled code i → Refuses refused_face before r after → Meets code i before r after
  short : (code' : List ℕ) (j : ℕ) → Beyond code i code' j → length before < length code' → Refuses refused_short before r after → Meets code i before r after
  crossed : (code' : List ℕ) (j : ℕ) (b : Beyond code i code' j) → length code' ≤ length before → Gives code' j (vertex b.across.shares.ws j) before r after → Meets code i before r after

-- in this order: the code's own refusal; 7; 8, 11 or done
pub record Crosses (code : List ℕ) (i : ℕ) (before : List ℕ) (r : Crossed) (after : List ℕ) : Type 0 where
  pub own : code_refusal code ≢ done → Refuses (code_refusal code) before r after
  pub above : code_refusal code ≡ done → dimension_of code < i → Refuses refused_step before r after
  pub meets : code_refusal code ≡ done → i ≤ dimension_of code → Meets code i before r after
