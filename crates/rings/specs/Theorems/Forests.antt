-- Forests as sets of split cells: their leaves, when they are compatible, and the other forms of that.
use Rattle.std.specs.Prelude.{◌≡◌, Bool, ◌≢◌, ℕ, ◌<◌}
use Rattle.rings.specs.Theorems.Shape.{Shape}

-- the split cells of a forest: real, with room for children, and with each its parent
pub record Splits (X : Shape) (S : X.C → Type 0) : Type 0 where
  pub real : {c : X.C} → S c → X.Real c
  pub room : {c : X.C} → S c → X.depth c < X.greatest
  pub parent : (b : Bool) {c : X.C} → S (X.child b c) → S c
  pub test : (c : X.C) → X.Real c → Dec (S c)

-- a cell of the forest, split or not: a root, or the child of a split cell
pub data Present (X : Shape) (S : X.C → Type 0) (c : X.C) : Type 0 where
  root : X.Real c → X.depth c ≡ 0 → Present X S c
  below : (b : Bool) (p : X.C) → S p → c ≡ X.child b p → Present X S c

pub record Leaf (X : Shape) (S : X.C → Type 0) (c : X.C) : Type 0 where
  pub present : Present X S c
  pub whole : ¬ S c

-- another leaf that has all vertices of facet i of c, and no second one
pub record OneOther (X : Shape) (S : X.C → Type 0) (c : X.C) (i : ℕ) : Type 0 where
  pub other : X.C
  pub leaf : Leaf X S other
  pub another : other ≢ c
  pub has : X.Has c i other
  pub only : (m : X.C) → Leaf X S m → m ≢ c → X.Has c i m → m ≡ other

-- compatible: so of each leaf and each facet that may be crossed
abbrev pub Compatible : (X : Shape) → (X.C → Type 0) → Type 0
Compatible X S = (c n : X.C) (i j : ℕ) → Leaf X S c → X.LeadsTo c i n j → OneOther X S c i
