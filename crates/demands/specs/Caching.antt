-- Request No. 5 for programs that keep children of neighbours, over the entries' contracts: crossing and then child, or child and then
-- crossing, meet. The child's number is kept but in one case: where the crossing's new vertex stands at another place than i. That is
-- so only from a cell to its sibling; i is the one end of the split edge and that place the other, and the number is the other one.
-- The child's own place is always kept.
use Rattle.std.specs.Prelude.{◌≡◌, List, ◌⊎◌, ◌≢◌, ℕ, ◌-◌, ◌≤◌, length, take}
use Rattle.dimension.specs.Sizes.{split_place}
use Rattle.bisection.specs.Cells.{Cell}
use Rattle.bisection.specs.Codes.{dimension_of, depth_of}
use Rattle.bisection.specs.Refusals.{done, refused_face}
use Rattle.bisection.specs.Facets.{facet}
use Rattle.bisection.specs.Weights.{LiesInside}
use Rattle.codes.specs.declared.Written.{Written}
use Rattle.codes.specs.Outcomes.{Child}
use Rattle.crossing.specs.declared.Crossed.{Crossed}
use Rattle.demands.specs.Three.{Call}
use Rattle.demands.specs.Agree.{Split}

-- any call of child with that number and with room is done and gives these bytes
pub record ChildGives (code : List ℕ) (number : ℕ) (child_code : List ℕ) : Type 0 where
  pub gives : (before : List ℕ) (r : Written) (after : List ℕ) → Child code number before r after → length child_code ≤ length before
      → (r.refusal ≡ done) × (take r.length after ≡ child_code)

-- the two children of one cell
pub record Siblings (code code' : List ℕ) : Type 0 where
  pub parent : List ℕ
  pub ps : Cell
  pub number : ℕ
  pub vs : Cell
  pub one : Split parent ps number code vs
  pub vs' : Cell
  pub other : Split parent ps (1 - number) code' vs'

-- r and after are the outcome of crossing facet i of the code's cell, with split place k, s and after' of crossing facet j of its child b
pub record Meet (code : List ℕ) (k i b j : ℕ) (r : Crossed) (after : List ℕ) (s : Crossed) (after' : List ℕ) : Type 0 where
  -- both are refused with 8, or both are done
  pub refused : r.refusal ≡ refused_face → s.refusal ≡ refused_face
  pub crossed : r.refusal ≡ done → s.refusal ≡ done
  -- the code that the child's crossing gives is a child's of the code that the cell's gives
  pub kept : r.refusal ≡ done → r.place ≡ i → ChildGives (take r.length after) b (take s.length after')
  pub changed : r.refusal ≡ done → r.place ≢ i → ChildGives (take r.length after) (1 - b) (take s.length after')
  pub siblings : r.refusal ≡ done → r.place ≢ i → Siblings code (take r.length after)
  pub ends : r.refusal ≡ done → r.place ≢ i → ((i ≡ 0) × (r.place ≡ k)) ⊎ ((i ≡ k) × (r.place ≡ 0))
  -- and its new vertex stands at place j
  pub place : r.refusal ≡ done → s.place ≡ j

-- so of any three calls that are allowed, where facet j of the child lies inside facet i
unfoldable pub Caching : Type 0
Caching = (code : List ℕ) (vs : Cell) (i : ℕ) (before : List ℕ) (r : Crossed) (after : List ℕ) → Call code vs i before r after
    → (b : ℕ) (lent : List ℕ) (w : Written) (written : List ℕ) → Child code b lent w written → w.refusal ≡ done
    → (us : Cell) (j : ℕ) (before' : List ℕ) (s : Crossed) (after' : List ℕ) → Call (take w.length written) us j before' s after'
    → LiesInside (facet j us) (facet i vs) → Meet code (split_place (dimension_of code) (depth_of code)) i b j r after s after'
