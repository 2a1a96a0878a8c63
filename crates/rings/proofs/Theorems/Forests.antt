-- Forests as sets of split cells: their leaves, when they are compatible, and the other forms of that.
use Rattle.std.specs.Prelude.{◌≡◌, Bool, false, ◌⊎◌, ◌≢◌, ℕ}
use Rattle.std.proofs.Common.{sym, subst, ap, ◌∙◌, inl, inr, arith}
use Rattle.std.proofs.Math.Decide.{ℕ_discrete}
use Rattle.rings.specs.Theorems.Shape.{Shape}
use Rattle.rings.proofs.Theorems.Shape.{Laws, split_of, End, at_zero, at_split, Child}
use Rattle.rings.specs.Theorems.Forests.{Leaf, Present, Splits, below, root}

-- one look: the cell across is present, or its parent is a leaf and the new vertex is its newest
pub data Matched (X : Shape) (S : X.C → Type 0) (n : X.C) (j : ℕ) : Type 0 where
  there : Present X S n → Matched X S n j
  larger : (b : Bool) (p : X.C) → n ≡ X.child b p → Leaf X S p → j ≡ split_of X p → Matched X S n j

abbrev pub AllPass : (X : Shape) → (X.C → Type 0) → Type 0
AllPass X S = (c n : X.C) (i j : ℕ) → Leaf X S c → X.LeadsTo c i n j → Matched X S n j

-- the same of the leaves alone that are child 0 of a cell, and of their facets other than 0
abbrev pub FirstPass : (X : Shape) → (X.C → Type 0) → Type 0
FirstPass X S = (c n : X.C) (i j : ℕ) → Leaf X S (X.child false c) → i ≢ 0 → X.LeadsTo (X.child false c) i n j → Matched X S n j

-- whole rings: across a facet of a split cell that has the whole edge to be split lies a split cell
abbrev pub WholeRings : (X : Shape) → (X.C → Type 0) → Type 0
WholeRings X S = (c n : X.C) (i j : ℕ) → S c → ¬ End X c i → X.LeadsTo c i n j → S n

module _ {X : Shape} (w : Laws X) {S : X.C → Type 0} (s : Splits X S) where
  pub present_real : {c : X.C} → Present X S c → X.Real c
  present_real (root r e) = r
  present_real (below b p h e) = subst X.Real (sym e) (w.child_real b (s.real h) (s.room h))

  pub leaf_real : {c : X.C} → Leaf X S c → X.Real c
  leaf_real l = present_real l.present

  -- the parent of a child that is present is split
  pub present_parent : (b : Bool) (p : X.C) {c : X.C} → Present X S c → c ≡ X.child b p → S p
  present_parent b p (root r z) e = absurd (omega (arith, w.child_depth b p, z, ap X.depth e))
  present_parent b p (below b' p' h e') e = subst S (w.child_one b' b p' p (sym e' ∙ e)) h

  -- no leaf is the child of another
  pub not_below : (b : Bool) (p : X.C) {c : X.C} → Leaf X S c → Leaf X S p → c ≢ X.child b p
  not_below b p l l' e = l'.whole (present_parent b p l.present e)

  -- a real cell is present, or its parent is not split
  pub data Where (c : X.C) : Type 0 where
    here : Present X S c → Where c
    missing : (b : Bool) (p : X.C) → X.Real p → c ≡ X.child b p → ¬ S p → Where c

  pub find : {c : X.C} → X.Real c → Where c
  find {c} r = go (w.above r)
    where
      by_parent : (k : Child X c) → Dec (S k.parent) → Where c
      by_parent k (yes h) = here (below k.number k.parent h k.is)
      by_parent k (no h) = missing k.number k.parent k.real k.is h

      go : (X.depth c ≡ 0) ⊎ Child X c → Where c
      go (inl z) = here (root r z)
      go (inr k) = by_parent k (s.test k.parent k.real)

  -- a split cell is present
  pub split_present : {c : X.C} → S c → Present X S c
  split_present {c} h = go (w.above (s.real h))
    where
      go : (X.depth c ≡ 0) ⊎ Child X c → Present X S c
      go (inl z) = root (s.real h) z
      go (inr k) = below k.number k.parent (s.parent k.number (subst S k.is h)) k.is

pub end_test : (X : Shape) (c : X.C) (i : ℕ) → Dec (End X c i)
end_test X c i = go (ℕ_discrete i 0) (ℕ_discrete i (split_of X c))
  where
    neither : i ≢ 0 → i ≢ split_of X c → ¬ End X c i
    neither n m (at_zero e) = n e
    neither n m (at_split e) = m e

    go : Dec (i ≡ 0) → Dec (i ≡ split_of X c) → Dec (End X c i)
    go (yes e) q = yes (at_zero e)
    go (no n) (yes e) = yes (at_split e)
    go (no n) (no m) = no (neither n m)
