-- What the theory of rings knows of cells: children, depth, crossings, and which cells have all vertices of a facet. `Laws` is what the
-- bisection is shown to satisfy in Bisected; nothing here knows a dimension, a point or a code.
use Rattle.std.specs.Prelude.{◌≡◌, Bool, true, false, ◌⊎◌, ◌≢◌, ℕ, suc, ◌≤◌, ◌<◌}
use Rattle.rings.specs.Theorems.Shape.{Shape}

module _ (X : Shape) where
  -- k of a cell: its children have their newest vertex there
  abbrev pub split_of : X.C → ℕ
  split_of c = X.split_at (X.depth c)

  -- an end of the edge to be split: place 0 or place k
  pub data End (c : X.C) (i : ℕ) : Type 0 where
    at_zero : i ≡ 0 → End c i
    at_split : i ≡ split_of c → End c i

  -- the end that a child lacks
  abbrev pub lacks : Bool → X.C → ℕ
  lacks false c = split_of c
  lacks true c = 0

  -- a cell by its parent
  pub record Child (c : X.C) : Type 0 where
    pub number : Bool
    pub parent : X.C
    pub real : X.Real parent
    pub is : c ≡ X.child number parent

  -- the crossing of facet i of a child, seen from the parent: to the sibling, or to a child of a cell across the parent; across a facet
  -- at an end only where i is the place of the newest vertex
  pub data Up (b : Bool) (p : X.C) (i : ℕ) (n : X.C) : Type 0 where
    sibling : (b' : Bool) → n ≡ X.child b' p → Up b p i n
    cousin : (i' j' : ℕ) (q : X.C) (b' : Bool) → X.LeadsTo p i' q j' → n ≡ X.child b' q → (End p i' → (i ≡ split_of p) × (i' ≡ lacks b p)) → Up b p i n

  -- a crossing seen from a child: a facet of it leads to a child of the cell across, at the same place
  pub record Down (b : Bool) (c : X.C) (place : ℕ) (n : X.C) : Type 0 where
    pub b' : Bool
    pub leads : X.LeadsTo (X.child b c) place (X.child b' n) place

  pub record Laws : Type 0 where
    -- the tree
    pub child_depth : (b : Bool) (c : X.C) → X.depth (X.child b c) ≡ suc (X.depth c)
    pub child_one : (b b' : Bool) (c c' : X.C) → X.child b c ≡ X.child b' c' → c ≡ c'
    pub child_real : (b : Bool) {c : X.C} → X.Real c → X.depth c < X.greatest → X.Real (X.child b c)
    pub deep : {c : X.C} → X.Real c → X.depth c ≤ X.greatest
    pub above : {c : X.C} → X.Real c → (X.depth c ≡ 0) ⊎ Child c
    -- places
    pub split_some : (c : X.C) → split_of c ≢ 0
    pub split_inner : (b : Bool) (c : X.C) → ¬ End (X.child b c) (split_of c)
    -- crossing
    pub real : {c n : X.C} {i j : ℕ} → X.LeadsTo c i n j → X.Real n
    pub level : {c n : X.C} {i j : ℕ} → X.LeadsTo c i n j → X.depth n ≡ X.depth c
    pub apart : {c n : X.C} {i j : ℕ} → X.LeadsTo c i n j → n ≢ c
    pub back : {c n : X.C} {i j : ℕ} → X.LeadsTo c i n j → X.LeadsTo n j c i
    pub one : {c n n' : X.C} {i j j' : ℕ} → X.LeadsTo c i n j → X.LeadsTo c i n' j' → (n ≡ n') × (j ≡ j')
    pub ends : {c n : X.C} {i j : ℕ} → X.LeadsTo c i n j → End c i → End n j
    -- crossing and splitting
    pub up : {b : Bool} {p n : X.C} {i j : ℕ} → X.LeadsTo (X.child b p) i n j → Up b p i n
    -- of a facet at an end, the child without that end has the whole; of another, child 0 has a part, at its place
    pub down_end : {b : Bool} {c n : X.C} {j : ℕ} → X.depth c < X.greatest → X.LeadsTo c (lacks b c) n j → Down b c (split_of c) n
    pub down_inner : {c n : X.C} {i j : ℕ} → X.depth c < X.greatest → ¬ End c i → X.LeadsTo c i n j → Down false c i n
    -- who has the vertices of a facet
    pub has_self : {c m : X.C} {i : ℕ} → X.Real c → X.Has c i m → X.Has c i c
    pub has_across : {c n : X.C} {i j : ℕ} → X.LeadsTo c i n j → X.Has c i n
    pub has_shared : {c n m : X.C} {i j : ℕ} → X.LeadsTo c i n j → X.Has c i m → X.Has n j m
    pub has_level : {c m : X.C} {i : ℕ} → X.Real c → X.Real m → X.Has c i m → X.depth m ≡ X.depth c → m ≢ c → (j : ℕ) × X.LeadsTo c i m j
    -- the facet of a child without its newest vertex is the parent's facet without the end that the child lacks
    pub has_child : {b : Bool} {p m : X.C} → X.Real p → X.Has (X.child b p) (split_of p) m → X.Has p (lacks b p) m
    pub has_parent : {b : Bool} {p m : X.C} → X.Real p → X.Has p (lacks b p) m → X.Has (X.child b p) (split_of p) m
    -- a child has that facet of its parent, and no other
    pub child_has : (b : Bool) {c : X.C} → X.Real (X.child b c) → X.Has c (lacks b c) (X.child b c)
    pub has_lacks : {c : X.C} {i : ℕ} (b : Bool) → X.Real (X.child b c) → X.Has c i (X.child b c) → i ≡ lacks b c
    -- a child's newest vertex is no vertex of a cell no deeper than the parent
    pub has_older : {p m : X.C} {i : ℕ} (b : Bool) → X.Real (X.child b p) → X.Real m → X.Has (X.child b p) i m → X.depth m ≤ X.depth p → i ≡ split_of p
    pub has_up : {c p : X.C} {i : ℕ} (b : Bool) → X.Real c → X.Real (X.child b p) → X.Has c i (X.child b p) → X.depth c ≤ X.depth p → X.Has c i p
