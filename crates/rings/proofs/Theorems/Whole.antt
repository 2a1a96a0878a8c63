-- The forms of a compatible forest: at most one other leaf has all vertices of a facet, so one look for each facet tells; and the split
-- cells come as whole rings.
use Rattle.std.specs.Prelude.{◌≡◌, refl, Bool, true, ◌≢◌}
use Rattle.std.proofs.Common.{sym, subst, ap, ◌∙◌, arith}
use Rattle.std.proofs.Math.Bool.{false}
use Prim.Native.Nat.{ℕ, zero, suc, ◌+◌, ◌≤◌}
use Rattle.rings.specs.Theorems.Shape.{Shape}
use Rattle.rings.proofs.Theorems.Shape.{Laws, split_of, End, at_zero, at_split, lacks, Up, sibling, cousin, Down}
use Rattle.rings.specs.Theorems.Forests.{Splits, Present, root, below, Leaf, OneOther, Compatible}
use Rattle.rings.proofs.Theorems.Forests.{Matched, there, larger, AllPass, FirstPass, WholeRings}
use Rattle.rings.proofs.Theorems.Forests.{Where, here, missing, find, leaf_real, present_parent, not_below, split_present, end_test}
use Rattle.rings.proofs.Theorems.Sharers.{Sharer, same, upper, lower, sharer, sharer_has, lacks_end}

module _ {X : Shape} (w : Laws X) {S : X.C → Type 0} (s : Splits X S) where
  -- of leaves neither is the other's parent
  pub leaf_sharer : {c n m : X.C} {i j : ℕ} → X.LeadsTo c i n j → Leaf X S c → Leaf X S m → m ≢ c → X.Has c i m → Sharer X n j m
  leaf_sharer {c} {n} {m} x l l' o h = sharer w x (leaf_real w s l') h o (λ b. not_below w s b m l l') (λ b. not_below w s b c l' l)

  -- at most one of the sharers is a leaf
  pub one_sharer : {n m m' : X.C} {j : ℕ} → Leaf X S m → Leaf X S m' → Sharer X n j m → Sharer X n j m' → m ≡ m'
  one_sharer l l' (same e) (same e') = e ∙ sym e'
  one_sharer {m' = m'} l l' (same e) (upper b e' q) = absurd (not_below w s b m' l l' (e ∙ e'))
  one_sharer {m = m} l l' (same e) (lower b e' q) = absurd (not_below w s b m l' l (e' ∙ ap (X.child b) (sym e)))
  one_sharer {m = m} l l' (upper b e q) (same e') = absurd (not_below w s b m l' l (e' ∙ e))
  one_sharer {m = m} {m' = m'} l l' (upper b e q) (upper b' e' q') = w.child_one b b' m m' (sym e ∙ e')
  one_sharer {n = n} l l' (upper b e q) (lower b' e' q') = absurd (l.whole (s.parent b (subst S e (present_parent w s b' n l'.present e'))))
  one_sharer {m' = m'} l l' (lower b e q) (same e') = absurd (not_below w s b m' l l' (e ∙ ap (X.child b) (sym e')))
  one_sharer {n = n} l l' (lower b e q) (upper b' e' q') = absurd (l'.whole (s.parent b' (subst S e' (present_parent w s b n l.present e))))
  one_sharer l l' (lower false e q) (lower false e' q') = e ∙ sym e'
  one_sharer {n = n} l l' (lower false e q) (lower true e' q') = absurd (w.split_some n (sym q ∙ q'))
  one_sharer {n = n} l l' (lower true e q) (lower false e' q') = absurd (w.split_some n (sym q' ∙ q))
  one_sharer l l' (lower true e q) (lower true e' q') = e ∙ sym e'

  -- a sharer that is a leaf is another leaf
  pub sharer_another : {c n m : X.C} {i j : ℕ} → X.LeadsTo c i n j → Sharer X n j m → m ≢ c
  sharer_another x (same e) q = w.apart x (sym e ∙ q)
  sharer_another {c} {m = m} x (upper b e r) q = omega (arith, w.child_depth b m, ap X.depth e, w.level x, ap X.depth q)
  sharer_another {n = n} x (lower b e r) q = omega (arith, w.child_depth b n, ap X.depth e, w.level x, ap X.depth q)

  holds : {c n m : X.C} {i j : ℕ} → X.LeadsTo c i n j → Leaf X S c → Leaf X S m → Sharer X n j m → OneOther X S c i
  holds {c} {m = m} {i = i} x l l' h = record { other = m; leaf = l'; another = sharer_another x h; has = sharer_has w x (leaf_real w s l') h; only = λ y ly o q. one_sharer ly l' (leaf_sharer x l ly o q) h }

  -- ---- whole rings make the forest compatible
  module _ (v : WholeRings X S) where
    -- a child of a split cell crosses to a cell whose parent is not split: it crosses the facet without its newest vertex, and the
    -- parent's crossing there leads to that parent
    record Outside (b : Bool) (p : X.C) (i : ℕ) (q : X.C) : Type 0 where
      j' : ℕ
      leads : X.LeadsTo p (lacks X b p) q j'
      lacking : i ≡ split_of X p

    outside : {b b' : Bool} {p q : X.C} {i j : ℕ} → S p → X.LeadsTo (X.child b p) i (X.child b' q) j → ¬ S q → Outside b p i q
    outside {b} {b'} {p} {q} {i} hp x hq = go (w.up x)
      where
        at_end : (i' j' : ℕ) → X.LeadsTo p i' q j' → (End X p i' → (i ≡ split_of X p) × (i' ≡ lacks X b p)) → Dec (End X p i') → Outside b p i q
        at_end i' j' y f (yes e) = record { j' = j'; leads = subst (λ (z : ℕ). X.LeadsTo p z q j') (f e).1 y; lacking = (f e).0 }
        at_end i' j' y f (no e) = absurd (hq (v p q i' j' hp e y))

        go : Up X b p i (X.child b' q) → Outside b p i q
        go (sibling b'' e) = absurd (hq (subst S (sym (w.child_one b' b'' q p e)) hp))
        go (cousin i' j' q' b'' y e f) = at_end i' j' (subst (λ (z : X.C). X.LeadsTo p i' z j') (sym (w.child_one b' b'' q q' e)) y) f (end_test X p i')

    -- so that parent is present
    outside_present : {b : Bool} {p q : X.C} {i : ℕ} → S p → Outside b p i q → ¬ S q → X.Real q → Present X S q
    outside_present {b} {p} {q} {i} hp o hq r = go (find w s r) (split_present w s hp)
      where
        twice : (b₁ b₂ : Bool) (p' q' : X.C) → S p' → p ≡ X.child b₁ p' → q ≡ X.child b₂ q' → ¬ S q' → ⊥
        twice b₁ b₂ p' q' h e e' n = w.split_inner b₁ p' (subst (End X (X.child b₁ p')) o'.lacking (subst (λ (z : X.C). End X z (lacks X b z)) e (lacks_end w b p)))
          where
            o' : Outside b₁ p' (lacks X b (X.child b₁ p')) q'
            o' = outside {b' = b₂} h (subst (λ (z : X.C). X.LeadsTo (X.child b₁ p') (lacks X b (X.child b₁ p')) z o.j') e' (subst (λ (z : X.C). X.LeadsTo z (lacks X b z) q o.j') e o.leads)) n

        go : Where w s q → Present X S p → Present X S q
        go (here h) h' = h
        go (missing b₂ q' r' e' n) (root r'' z) = absurd (omega (arith, w.child_depth b₂ q', ap X.depth e', w.level o.leads, z))
        go (missing b₂ q' r' e' n) (below b₁ p' h e) = absurd (twice b₁ b₂ p' q' h e e' n)

    module _ {c n : X.C} {i j : ℕ} (l : Leaf X S c) (x : X.LeadsTo c i n j) where
      -- the cell across is split: its child on this side is the leaf
      split_end : S n → (b : Bool) → j ≡ lacks X b n → OneOther X S c i
      split_end h b e = holds x l leaf (lower b refl e)
        where
          d : Down X b n (split_of X n) c
          d = w.down_end (s.room h) (subst (λ (z : ℕ). X.LeadsTo n z c i) e (w.back x))

          leaf : Leaf X S (X.child b n)
          leaf = record { present = below b n h refl; whole = λ h'. l.whole (s.parent d.b' (v (X.child b n) (X.child d.b' c) _ _ h' (w.split_inner b n) d.leads)) }

      across_split : S n → OneOther X S c i
      across_split h = go (end_test X c i)
        where
          by_end : End X n j → OneOther X S c i
          by_end (at_zero e) = split_end h true e
          by_end (at_split e) = split_end h false e

          go : Dec (End X c i) → OneOther X S c i
          go (yes e) = by_end (w.ends x e)
          go (no e) = absurd (l.whole (v n c j i h (λ q. e (w.ends (w.back x) q)) (w.back x)))

      -- it is missing: its parent is the leaf
      across_missing : (b : Bool) (q : X.C) → X.Real q → n ≡ X.child b q → ¬ S q → OneOther X S c i
      across_missing b q r e h = go l.present
        where
          by_parent : (b₀ : Bool) (p : X.C) → S p → c ≡ X.child b₀ p → OneOther X S c i
          by_parent b₀ p hp e₀ = holds x l (record { present = outside_present hp o h r; whole = h }) (upper b e place)
            where
              x' : X.LeadsTo (X.child b₀ p) i (X.child b q) j
              x' = subst (λ (z : X.C). X.LeadsTo z i (X.child b q) j) e₀ (subst (λ (z : X.C). X.LeadsTo c i z j) e x)

              o : Outside b₀ p i q
              o = outside hp x' h

              d : Down X b₀ p (split_of X p) q
              d = w.down_end (s.room hp) o.leads

              place : j ≡ split_of X q
              place = (w.one (subst (λ (z : ℕ). X.LeadsTo (X.child b₀ p) z (X.child b q) j) o.lacking x') d.leads).1 ∙ ap X.split_at (sym (w.level o.leads))

          go : Present X S c → OneOther X S c i
          go (root r' z) = absurd (omega (arith, w.child_depth b q, ap X.depth e, w.level x))
          go (below b₀ p hp e₀) = by_parent b₀ p hp e₀

      whole_one : OneOther X S c i
      whole_one = go (find w s (w.real x)) (s.test n (w.real x))
        where
          go : Where w s n → Dec (S n) → OneOther X S c i
          go p (yes h) = across_split h
          go (here p) (no h) = holds x l (record { present = p; whole = h }) (same refl)
          go (missing b q r e h') (no h) = across_missing b q r e h'

    pub whole_compatible : Compatible X S
    whole_compatible c n i j l x = whole_one l x

  -- ---- where it is compatible, one look at the cell across a facet finds it present or finds its parent
  pub compatible_pass : Compatible X S → AllPass X S
  compatible_pass v c n i j l x = let o = v c n i j l x in go o.other o.leaf (leaf_sharer x l o.leaf o.another o.has)
    where
      go : (m : X.C) → Leaf X S m → Sharer X n j m → Matched X S n j
      go m lm (same e) = there (subst (Present X S) e lm.present)
      go m lm (upper b e q) = larger b m e lm q
      go m lm (lower b e q) = there (split_present w s (present_parent w s b n lm.present e))

  pub pass_first : AllPass X S → FirstPass X S
  pass_first v c n i j l o x = v (X.child false c) n i j l x

  -- ---- and where it does so from the leaves that are child 0, but for facet 0, the rings are whole: a cell across an inner facet of a
  -- split cell is seen from child 0, or from a cell below it that is child 0 too
  module _ (v : FirstPass X S) where
    Below : ℕ → Type 0
    Below f = (c n : X.C) (i j : ℕ) → X.greatest ≤ f + X.depth c → S c → ¬ End X c i → X.LeadsTo c i n j → S n

    -- whether child 0 of a split cell is split
    test : {c : X.C} → S c → Dec (S (X.child false c))
    test {c} h = s.test (X.child false c) (w.child_real false (s.real h) (s.room h))

    -- child 0 of a split cell, where it is not split, is a leaf
    first : {c : X.C} → S c → ¬ S (X.child false c) → Leaf X S (X.child false c)
    first {c} h h' = record { present = below false c h refl; whole = h' }

    step : (f : ℕ) → Below f → Below (suc f)
    unfolding Below
    step f ih c n i j a h o x = go (test h) (end_test X (X.child false c) i)
      where
        d : Down X false c i n
        d = w.down_inner (s.room h) o x

        -- child 0 is a leaf
        leaf : Matched X S (X.child d.b' n) i → S n
        leaf (there p) = present_parent w s d.b' n p refl
        leaf (larger b p q lp t) = absurd (o (at_split (t ∙ ap (split_of X) (w.child_one b d.b' p n (sym q)) ∙ ap X.split_at (w.level x))))

        -- it is split, and facet i is at its end k: the whole of it is seen from its own child 0
        at_end : S (X.child false c) → i ≡ split_of X (X.child false c) → S n
        at_end h' e = by (test h')
          where
            d' : Down X false (X.child false c) (split_of X (X.child false c)) (X.child d.b' n)
            d' = w.down_end {b = false} (s.room h') (subst (λ (z : ℕ). X.LeadsTo (X.child false c) z (X.child d.b' n) i) e d.leads)

            seen : Matched X S (X.child d'.b' (X.child d.b' n)) (split_of X (X.child false c)) → S n
            seen (there p) = s.parent d.b' (present_parent w s d'.b' (X.child d.b' n) p refl)
            seen (larger b p q lp t) = present_parent w s d.b' n lp.present (w.child_one b d'.b' p (X.child d.b' n) (sym q))

            by : Dec (S (X.child false (X.child false c))) → S n
            by (yes q) = s.parent d.b' (s.parent d'.b' (ih (X.child false (X.child false c)) _ _ _ (omega (arith, a, w.child_depth false c, w.child_depth false (X.child false c))) q (w.split_inner false (X.child false c)) d'.leads))
            by (no q) = seen (v (X.child false c) _ _ _ (first h' q) (w.split_some (X.child false c)) d'.leads)

        go : Dec (S (X.child false c)) → Dec (End X (X.child false c) i) → S n
        go (no q) t = leaf (v c _ i i (first h q) (λ e. o (at_zero e)) d.leads)
        go (yes q) (no o') = s.parent d.b' (ih (X.child false c) _ i i (omega (arith, a, w.child_depth false c)) q o' d.leads)
        go (yes q) (yes (at_zero e)) = absurd (o (at_zero e))
        go (yes q) (yes (at_split e)) = at_end q e

    below_whole : (f : ℕ) → Below f
    unfolding Below
    below_whole zero = λ c n i j a h o x. absurd (omega (arith, s.room h, a))
    below_whole (suc f) = step f (below_whole f)

    pub first_whole : WholeRings X S
    unfolding Below
    first_whole c n i j h o x = below_whole X.greatest c n i j (omega arith) h o x

  -- the forms
  pub compatible_whole : Compatible X S → WholeRings X S
  compatible_whole v = first_whole (pass_first (compatible_pass v))

  pub first_compatible : FirstPass X S → Compatible X S
  first_compatible v = whole_compatible (first_whole v)
