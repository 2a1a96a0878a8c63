-- The contract of crossing determines the answer: two outcomes that it allows for the same input are equal, every number
-- and every lent cell. And crossing back leads back: from the code that an answer gives, across the place that it gives,
-- the answer is the first code, byte by byte, the first facet, and the vertex that the first crossing left.
use Rattle.std.specs.Prelude.{◌≡◌, List, ℕ, ◌≤◌, length, take}
use Rattle.bisection.specs.Cells.{Cell, vertex}
use Rattle.bisection.specs.Codes.{dimension_of}
use Rattle.bisection.specs.Refusals.{done}
use Rattle.bisection.specs.Facets.{IsCell, Across}
use Rattle.crossing.specs.declared.Crossed.{Crossed}
use Rattle.crossing.specs.Outcome.{by_axes}

-- the same answer and the same buffer
pub record Same (r : Crossed) (after : List ℕ) (r' : Crossed) (after' : List ℕ) : Type 0 where
  pub refusal : r.refusal ≡ r'.refusal
  pub place : r.place ≡ r'.place
  pub size : r.length ≡ r'.length
  pub vertex : r.vertex ≡ r'.vertex
  pub buffer : after ≡ after'

-- an answer that is done: the cell across, at the front of the buffer
pub record Given (code : List ℕ) (i : ℕ) (before : List ℕ) (r : Crossed) (after : List ℕ) : Type 0 where
  pub code' : List ℕ
  pub facet : i ≤ dimension_of code
  pub across : Across code i code' r.place
  pub front : take r.length after ≡ code'
  pub size : r.length ≡ length code'
  pub vertex : (ws : Cell) → IsCell code' ws → r.vertex ≡ by_axes (vertex ws r.place)
  pub fits : length code' ≤ length before

-- crossing back: into a buffer with room for the first code
pub record Back (code : List ℕ) (i : ℕ) (r : Crossed) (after : List ℕ) : Type 0 where
  pub refusal : r.refusal ≡ done
  pub place : r.place ≡ i
  pub vertex : (vs : Cell) → IsCell code vs → r.vertex ≡ by_axes (vertex vs i)
  pub front : take r.length after ≡ code
