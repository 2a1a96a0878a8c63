-- Who has all vertices of a facet, where neither cell is the other's parent: the cell across, or its parent, or a child of it. It is the
-- parent only where the new vertex is the newest, and a child only where it is the end that the child lacks.
use Rattle.std.specs.Prelude.{◌≡◌, refl, Bool, true, false, ◌⊎◌, ◌≢◌, ℕ, zero, suc, ◌≤◌, ◌<◌}
use Rattle.std.proofs.Common.{sym, subst, ap, ◌∙◌, inl, inr, arith}
use Rattle.std.proofs.Math.Decide.{dec_lt}
use Rattle.rings.specs.Theorems.Shape.{Shape}
use Rattle.rings.proofs.Theorems.Shape.{Laws, split_of, End, at_zero, at_split, Child, lacks, Down}

pub data Sharer (X : Shape) (n : X.C) (j : ℕ) (m : X.C) : Type 0 where
  same : m ≡ n → Sharer X n j m
  upper : (b : Bool) → n ≡ X.child b m → j ≡ split_of X m → Sharer X n j m
  lower : (b : Bool) → m ≡ X.child b n → j ≡ lacks X b n → Sharer X n j m

module _ {X : Shape} (w : Laws X) where
  pub lacks_end : (b : Bool) (c : X.C) → End X c (lacks X b c)
  lacks_end false c = at_split refl
  lacks_end true c = at_zero refl

  -- a cell that has the whole of a facet at an end is not less deep
  end_level : {p m : X.C} (b : Bool) → X.Real p → X.Real m → X.Has p (lacks X b p) m → X.depth m ≤ X.depth p → X.depth m ≡ X.depth p
  end_level {p} {m} b r r' h l = go (dec_lt (X.depth m) (X.depth p)) (w.above r)
    where
      newest : (k : Child X p) → X.depth m < X.depth p → ⊥
      newest k q = w.split_inner k.number k.parent (subst (End X (X.child k.number k.parent)) older (subst (λ (c : X.C). End X c (lacks X b c)) k.is (lacks_end b p)))
        where
          older : lacks X b (X.child k.number k.parent) ≡ split_of X k.parent
          older = w.has_older k.number (subst X.Real k.is r) r' (subst (λ (c : X.C). X.Has c (lacks X b c) m) k.is h)
              (omega (arith, q, ap X.depth k.is, w.child_depth k.number k.parent))

      go : Dec (X.depth m < X.depth p) → (X.depth p ≡ 0) ⊎ Child X p → X.depth m ≡ X.depth p
      go (no q) k = omega arith
      go (yes q) (inl z) = absurd (omega arith)
      go (yes q) (inr k) = absurd (newest k q)

  -- a facet that a child has is had by none of that child's children
  not_twice : {a p m : X.C} {i : ℕ} (b b' : Bool) → p ≡ X.child b' a → m ≡ X.child b p → X.Real a → X.Real p → X.Real m → X.Has a i p → X.Has a i m → ⊥
  not_twice {a} {p} {m} {i} b b' e f ra rp rm hp hm = w.split_inner b' a (subst (End X (X.child b' a)) (sym at) (lacks_end b (X.child b' a)))
    where
      lies : i ≡ lacks X b' a
      lies = w.has_lacks b' (subst X.Real e rp) (subst (X.Has a i) e hp)

      m_is : m ≡ X.child b (X.child b' a)
      m_is = f ∙ ap (X.child b) e

      at : split_of X a ≡ lacks X b (X.child b' a)
      at = w.has_lacks b (subst X.Real m_is rm) (subst (X.Has (X.child b' a) (split_of X a)) m_is (w.has_parent ra (subst (λ (y : ℕ). X.Has a y m) lies hm)))

  -- a cell that has a facet of a cell less deep: so has its parent
  has_above : {c m : X.C} {i : ℕ} → X.Real c → X.Real m → X.Has c i m → X.depth c < X.depth m → (k : Child X m) → X.Has c i k.parent
  has_above {c} {m} {i} r r' h l k = w.has_up k.number r (subst X.Real k.is r') (subst (X.Has c i) k.is h) (omega (arith, l, ap X.depth k.is, w.child_depth k.number k.parent))

  -- a deeper cell that has all vertices of a facet is one step deeper
  module _ {c : X.C} {i : ℕ} (r : X.Real c) where
    not_two : {m : X.C} → X.Real m → X.Has c i m → (k : Child X m) (k' : Child X k.parent) → X.Has c i k.parent → X.depth k.parent ≡ suc (X.depth c) → ⊥
    not_two {m} r' h k k' hp e = not_c (λ q. not_twice k.number k'.number (k'.is ∙ ap (X.child k'.number) q) k.is r k.real r' hp h)
      where
        level : X.depth k'.parent ≡ X.depth c
        level = omega (arith, e, ap X.depth k'.is, w.child_depth k'.number k'.parent)

        not_c : k'.parent ≢ c → ⊥
        not_c q = let y = w.has_level r k'.real (has_above r k.real hp (omega (arith, e)) k') level q in
            not_twice k.number k'.number k'.is k.is k'.real k.real r' (w.has_shared y.1 hp) (w.has_shared y.1 h)

    one_step : (f : ℕ) (m : X.C) → X.Real m → X.Has c i m → X.depth c < X.depth m → X.depth m ≤ f → X.depth m ≡ suc (X.depth c)
    one_step zero m r' h l g = absurd (omega arith)
    one_step (suc f) m r' h l g = go (w.above r') (one_step f)
      where
        go : (X.depth m ≡ 0) ⊎ Child X m → ((p : X.C) → X.Real p → X.Has c i p → X.depth c < X.depth p → X.depth p ≤ f → X.depth p ≡ suc (X.depth c)) → X.depth m ≡ suc (X.depth c)
        go (inl z) ih = absurd (omega arith)
        go (inr k) ih = at (dec_lt (X.depth c) (X.depth k.parent))
          where
            up : X.depth m ≡ suc (X.depth k.parent)
            up = ap X.depth k.is ∙ w.child_depth k.number k.parent

            hp : X.Has c i k.parent
            hp = has_above r r' h l k

            deep : X.depth c < X.depth k.parent → (X.depth k.parent ≡ 0) ⊎ Child X k.parent → ⊥
            deep q (inl z) = omega arith
            deep q (inr k') = not_two r' h k k' hp (ih k.parent k.real hp q (omega (arith, up, g)))

            at : Dec (X.depth c < X.depth k.parent) → X.depth m ≡ suc (X.depth c)
            at (yes q) = absurd (deep q (w.above k.real))
            at (no q) = omega (arith, up, l)

  module _ {c n m : X.C} {i j : ℕ} (x : X.LeadsTo c i n j) (r' : X.Real m) (h : X.Has c i m) (another : m ≢ c) (not_up : (b : Bool) → c ≢ X.child b m) (not_down : (b : Bool) → m ≢ X.child b c) where
    r : X.Real c
    r = w.real (w.back x)

    level : X.depth m ≡ X.depth c → Sharer X n j m
    level e = same (w.one (w.has_level r r' h e another).1 x).0

    older : X.depth m < X.depth c → (X.depth c ≡ 0) ⊎ Child X c → Sharer X n j m
    older l (inl z) = absurd (omega arith)
    older l (inr k) = upper d.b' same_one.0 (same_one.1 ∙ ap X.split_at (sym m_level))
      where
        up : X.depth c ≡ suc (X.depth k.parent)
        up = ap X.depth k.is ∙ w.child_depth k.number k.parent

        lacking : i ≡ split_of X k.parent
        lacking = w.has_older k.number (subst X.Real k.is r) r' (subst (λ (y : X.C). X.Has y i m) k.is h) (omega (arith, up, l))

        had : X.Has k.parent (lacks X k.number k.parent) m
        had = w.has_child k.real (subst (λ (y : ℕ). X.Has (X.child k.number k.parent) y m) lacking (subst (λ (y : X.C). X.Has y i m) k.is h))

        m_level : X.depth m ≡ X.depth k.parent
        m_level = end_level k.number k.real r' had (omega (arith, up, l))

        d : Down X k.number k.parent (split_of X k.parent) m
        d = w.down_end (omega (arith, up, w.deep r)) (w.has_level k.real r' had m_level (λ e. not_up k.number (k.is ∙ ap (X.child k.number) (sym e)))).1

        same_one : (n ≡ X.child d.b' m) × (j ≡ split_of X k.parent)
        same_one = w.one (subst (λ (y : ℕ). X.LeadsTo (X.child k.number k.parent) y n j) lacking (subst (λ (y : X.C). X.LeadsTo y i n j) k.is x)) d.leads

    younger : X.depth c < X.depth m → (X.depth m ≡ 0) ⊎ Child X m → Sharer X n j m
    younger l (inl z) = absurd (omega arith)
    younger l (inr k) = lower k.number m_is (w.has_lacks k.number (subst X.Real m_is r') (subst (X.Has n j) m_is (w.has_shared x h)))
      where
        p_level : X.depth k.parent ≡ X.depth c
        p_level = omega (arith, ap X.depth k.is, w.child_depth k.number k.parent, one_step r (X.depth m) m r' h l (omega arith))

        m_is : m ≡ X.child k.number n
        m_is = k.is ∙ ap (X.child k.number) (w.one (w.has_level r k.real (has_above r r' h l k) p_level (λ e. not_down k.number (k.is ∙ ap (X.child k.number) e))).1 x).0

    pub sharer : Sharer X n j m
    sharer = go (dec_lt (X.depth m) (X.depth c)) (dec_lt (X.depth c) (X.depth m))
      where
        go : Dec (X.depth m < X.depth c) → Dec (X.depth c < X.depth m) → Sharer X n j m
        go (yes l) q = older l (w.above r)
        go (no l) (yes q) = younger q (w.above r')
        go (no l) (no q) = level (omega arith)

  -- each of these has them
  pub sharer_has : {c n m : X.C} {i j : ℕ} → X.LeadsTo c i n j → X.Real m → Sharer X n j m → X.Has c i m
  sharer_has {c} {n} {m} {i} {j} x r' (same e) = subst (X.Has c i) (sym e) (w.has_across x)
  sharer_has {c} {n} {m} {i} {j} x r' (upper b e q) = w.has_shared (w.back x)
      (subst (λ (y : ℕ). X.Has n y m) (sym q) (subst (λ (y : X.C). X.Has y (split_of X m) m) (sym e) (w.has_parent r' (w.has_self r' (w.child_has b (subst X.Real e (w.real x)))))))
  sharer_has {c} {n} {m} {i} {j} x r' (lower b e q) = w.has_shared (w.back x) (subst (λ (y : ℕ). X.Has n y m) (sym q) (subst (X.Has n (lacks X b n)) (sym e) (w.child_has b (subst X.Real e r'))))
