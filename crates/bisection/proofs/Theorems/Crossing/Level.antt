-- Two frames whose shared vertices keep their places are the same, or the second lies where a row of the table puts the
-- first. Two arguments give it: two axes exchange their places or none moves; one axis has another side or none has.
use Rattle.std.specs.Prelude.{◌≡◌, true, false, ◌⊎◌, ◌≢◌, ℕ, suc, ◌-◌, ◌%◌, ◌≤◌, ◌<◌}
use Rattle.std.proofs.Math.Path.{sym, ap}
use Rattle.std.proofs.Common.{◌∙◌, subst, arith}
use Rattle.std.proofs.Math.Logic.{inl, inr, ⊎_elim}
use Rattle.std.proofs.Math.Decide.{ℕ_discrete}
use borrow.Author.Tests.{eq-eqb, ne_eqb}
use Rattle.bisection.proofs.Theorems.Crossing.Sums.{same_place, at_axis}
use Rattle.bisection.proofs.Theorems.Crossing.Rows.{sides_odd}
use Rattle.bisection.specs.Theorems.Crossing.Frames.{Frame, GoodFrame, Meets}
use Rattle.bisection.specs.Theorems.Crossing.Axes.{Fits, Exchange, stay, up, down}
use Rattle.bisection.proofs.Theorems.Crossing.Axes.{near_kept, kept, kept_past, far_kept, swapped, whole_far, whole_at, whole_near}
use Rattle.bisection.specs.Theorems.Table.{Move, swap, nearer, farther, trade}
use Rattle.bisection.specs.Theorems.Crossing.Moves.{own, Lands}
use Rattle.bisection.proofs.Theorems.Crossing.Moves.{applies}
use Rattle.bisection.specs.Theorems.Crossing.Level.{LandsAt, Outcome, SameAt, Strict, at_u, at_w, crossed, other, same}

-- one axis of a good frame
pub fits : {d k : ℕ} {c : Frame} → GoodFrame d k c → (a : ℕ) → a < d → Fits d k (c.at a) (c.near a) (c.far a)
fits g a l = record { first = g.perm.first a l; last = g.perm.last a l; sides = g.sides a l; even = g.even a l }

module _ {d k : ℕ} {c c' : Frame} (g : GoodFrame d k c) (g' : GoodFrame d k c') where
  module _ {u w : ℕ} (u1 : 1 ≤ u) (ud : u ≤ d) (apart : u ≢ w) (Stay Go : ℕ → Type 0) (each : (a : ℕ) → a < d → Exchange u w (c.at a) (c'.at a) (Stay a) (Go a)) where
    f : ℕ
    f = c.axis u

    fd : f < d
    unfolding f
    fd = g.perm.axis u u1 ud

    fu : c.at f ≡ u
    unfolding f
    fu = g.perm.back u u1 ud

    is_f : (a : ℕ) → a < d → c.at a ≡ u → a ≡ f
    unfolding f
    is_f a l e = at_axis g.perm a u l e

    is_f' : (a : ℕ) → a < d → c'.at a ≡ c'.at f → a ≡ f
    is_f' a l e = same_place g'.perm a f l fd e

    All : Type 0
    All = (a : ℕ) → a < d → Strict u w (c.at a) (c'.at a) (Stay a) (Go a)

    None : Type 0
    None = (a : ℕ) → a < d → (c'.at a ≡ c.at a) × Stay a

    all_or_none : None ⊎ All
    unfolding None All
    all_or_none = go (each f fd)
      where
        go : Exchange u w (c.at f) (c'.at f) (Stay f) (Go f) → None ⊎ All
        go (down e q h) = absurd (apart (sym fu ∙ e))
        go (stay q h) = inl (λ a l. pick a l (each a l))
          where
            pick : (a : ℕ) → a < d → Exchange u w (c.at a) (c'.at a) (Stay a) (Go a) → (c'.at a ≡ c.at a) × Stay a
            pick a l (stay e x) = (e, x)
            pick a l (up e r x) = absurd (apart (sym fu ∙ sym q ∙ ap c'.at (sym (is_f a l e)) ∙ r))
            pick a l (down e r x) = absurd (apart (sym fu ∙ ap c.at (sym (is_f' a l (r ∙ sym fu ∙ sym q))) ∙ e))
        go (up e q h) = inr (λ a l. pick a l (each a l) (ℕ_discrete (c.at a) u) (ℕ_discrete (c.at a) w))
          where
            pick : (a : ℕ) → a < d → Exchange u w (c.at a) (c'.at a) (Stay a) (Go a) → Dec (c.at a ≡ u) → Dec (c.at a ≡ w) → Strict u w (c.at a) (c'.at a) (Stay a) (Go a)
            pick a l (up e r x) y z = at_u e r x
            pick a l (down e r x) y z = at_w e r x
            pick a l (stay e x) (yes y) z = absurd (apart (sym y ∙ sym e ∙ ap c'.at (is_f a l y) ∙ q))
            pick a l (stay e x) (no y) (yes z) = absurd (y (ap c.at (is_f' a l (e ∙ z ∙ sym q)) ∙ fu))
            pick a l (stay e x) (no y) (no z) = other y z e x

  -- one axis, at place t, has another side, or none has
  module _ (m : Move) (t : ℕ) (rest : (a : ℕ) → a < d → c.at a ≢ t → SameAt c c' a × LandsAt d k m c c' a) where
    to_axis : (P : ℕ → Type 0) → P (c.axis t) → (a : ℕ) → a < d → c.at a ≡ t → P a
    to_axis P h a l q = subst P (sym (at_axis g.perm a t l q)) h

    by_one : SameAt c c' (c.axis t) ⊎ LandsAt d k m c c' (c.axis t) → Outcome d k m c c'
    by_one (inl h) = same (λ a l. go a l (ℕ_discrete (c.at a) t))
      where
        go : (a : ℕ) → a < d → Dec (c.at a ≡ t) → SameAt c c' a
        go a l (yes q) = to_axis (SameAt c c') h a l q
        go a l (no q) = (rest a l q).0
    by_one (inr h) = crossed (λ a l. go a l (ℕ_discrete (c.at a) t))
      where
        go : (a : ℕ) → a < d → Dec (c.at a ≡ t) → LandsAt d k m c c' a
        go a l (yes q) = to_axis (LandsAt d k m c c') h a l q
        go a l (no q) = (rest a l q).1

  -- a facet with vertices 0 and d
  module _ {i : ℕ} (i1 : 1 ≤ i) (id : i < d) (agree : (j : ℕ) → j ≤ d → j ≢ i → Meets d k c j c' j) where
    far_of : (a : ℕ) → a < d → c'.far a ≡ c.far a
    far_of a l = far_kept (fits g a l) (fits g' a l) i1 (λ j h n. agree j h n a l) d (omega arith) (omega arith) (g.perm.last a l) (g'.perm.last a l)

    Near : ℕ → Type 0
    Near a = c'.near a ≡ c.near a

    pub inside : Outcome d k (swap i) c c'
    unfolding Near None All
    inside = ⊎_elim (λ h. same (λ a l. record { at = (h a l).0; near = (h a l).1; far = far_of a l })) (λ h. crossed (λ a l. pick a l (h a l)))
        (all_or_none i1 (omega arith) (omega arith) Near Near (λ a l. kept (fits g a l) (fits g' a l) i1 (λ j h n. agree j h n a l)))
      where
        pick : (a : ℕ) → a < d → Strict i (suc i) (c.at a) (c'.at a) (Near a) (Near a) → LandsAt d k (swap i) c c' a
        pick a l (at_u e q x) = simp applies (record { at = q; near = x; far = far_of a l })
        pick a l (at_w e q x) = simp applies (record { at = q; near = x; far = far_of a l })
        pick a l (other n h q x) = simp applies (record { at = q; near = x; far = far_of a l })

  -- the axis of place k + 1
  abbrev b : ℕ
  b = c.axis (suc k)

  b_in : k < d → c.axis (suc k) < d
  b_in kd = g.perm.axis (suc k) (omega arith) kd

  b_at : k < d → c.at (c.axis (suc k)) ≡ suc k
  b_at kd = g.perm.back (suc k) (omega arith) kd

  -- a swap at k brings the entry of place k + 1 to a place of the own sign
  pub swap_own : 1 ≤ k → k < d → ((a : ℕ) → a < d → LandsAt d k (swap k) c c' a) → own k c ≡ true
  unfolding own
  swap_own k1 kd w = eq-eqb (c.near b % 2) 0 (go (simp (applies, b_at kd) at (w b (b_in kd))))
    where
      go : Lands (record { at = k; near = c.near b; far = c.far b }) (c'.at b) (c'.near b) (c'.far b) → c.near b % 2 ≡ 0
      go w = rw w.near at (g'.even b (b_in kd) (omega (arith, w.at)))

  -- the facet without the last vertex
  module _ (d1 : 1 ≤ d) (agree : (j : ℕ) → j ≤ d → j ≢ d → Meets d k c j c' j) where
    near_d : (a : ℕ) → a < d → c'.near a ≡ c.near a
    near_d a l = near_kept (fits g a l) (fits g' a l) d1 (λ j h n. agree j h n a l)

    at_d : (a : ℕ) → a < d → c'.at a ≡ c.at a
    at_d a l = kept_past (fits g a l) (fits g' a l) d1 (λ j h n. agree j h n a l) (omega arith)

    far_d : (a : ℕ) → a < d → c.at a ≢ d → c'.far a ≡ c.far a
    far_d a l n = far_kept (fits g a l) (fits g' a l) d1 (λ j h n. agree j h n a l) (d - 1) (omega arith) (omega arith)
        (omega (arith, g.perm.last a l)) (omega (arith, at_d a l, g.perm.last a l))

    pub ending : Outcome d k nearer c c'
    ending = by_one nearer d rest (go (ℕ_discrete (c'.far a0) (c.far a0)))
      where
        a0 : ℕ
        a0 = c.axis d

        l0 : a0 < d
        l0 = g.perm.axis d d1 (omega arith)

        p0 : c.at a0 ≡ d
        p0 = g.perm.back d d1 (omega arith)

        rest : (a : ℕ) → a < d → c.at a ≢ d → SameAt c c' a × LandsAt d k nearer c c' a
        rest a l n = (record { at = at_d a l; near = near_d a l; far = far_d a l n }, simp applies (record { at = at_d a l; near = near_d a l; far = far_d a l n }))

        go : Dec (c'.far a0 ≡ c.far a0) → SameAt c c' a0 ⊎ LandsAt d k nearer c c' a0
        go (yes q) = inl (record { at = at_d a0 l0; near = near_d a0 l0; far = q })
        go (no q) = inr (simp (applies, p0) (record { at = at_d a0 l0 ∙ p0; near = near_d a0 l0; far = omega (arith, near_d a0 l0, g.sides a0 l0, g'.sides a0 l0) }))

  -- the facet without vertex 0, inside a level, the same places
  module _ (k1 : 1 ≤ k) (kd : k < d) (agree : (j : ℕ) → j ≤ d → j ≢ 0 → Meets d k c j c' j) where
    Stays : ℕ → Type 0
    Stays a = (c'.near a ≡ c.near a) × (c'.far a ≡ c.far a)

    Turns : ℕ → Type 0
    Turns a = (c'.near a ≡ c.far a) × (c'.far a ≡ c.near a)

    pub starting : Outcome d k trade c c'
    unfolding Stays Turns None All
    starting = ⊎_elim (λ h. same (λ a l. record { at = (h a l).0; near = (h a l).1.0; far = (h a l).1.1 })) (λ h. crossed (λ a l. pick a (h a l)))
        (all_or_none (omega arith) (omega arith) (omega arith) Stays Turns (λ a l. swapped (fits g a l) (fits g' a l) k1 kd (λ j h n. agree j h n a l)))
      where
        pick : (a : ℕ) → Strict 1 (suc k) (c.at a) (c'.at a) (Stays a) (Turns a) → LandsAt d k trade c c' a
        pick a (at_u e q x) = simp applies (record { at = q; near = x.0; far = x.1 })
        pick a (at_w e q x) = simp applies (record { at = q; near = x.0; far = x.1 })
        pick a (other n h q x) = simp applies (record { at = q; near = x.0; far = x.1 })

  -- a trade brings the entry of place k + 1, turned round, to a place of the own sign
  pub trade_own : 1 ≤ k → k < d → ((a : ℕ) → a < d → LandsAt d k trade c c' a) → own k c ≡ false
  unfolding own
  trade_own k1 kd w = ne_eqb (c.near b % 2) 0 (go (simp (applies, b_at kd) at (w b (b_in kd))))
    where
      go : Lands (record { at = 1; near = c.far b; far = c.near b }) (c'.at b) (c'.near b) (c'.far b) → c.near b % 2 ≢ 0
      go w q = omega (arith, sides_odd (g.sides b (b_in kd)), w.near, g'.even b (b_in kd) (omega (arith, w.at)))

-- the facet without vertex 0 at the start of a level
module _ {d : ℕ} {c c' : Frame} (g : GoodFrame d d c) (g' : GoodFrame d d c') (d1 : 1 ≤ d) (agree : (j : ℕ) → j ≤ d → j ≢ 0 → Meets d d c j c' j) where
  at_of : (a : ℕ) → a < d → c'.at a ≡ c.at a
  at_of a l = whole_at (fits g a l) (fits g' a l) (λ j h n. agree j h n a l)

  far_whole : (a : ℕ) → a < d → c'.far a ≡ c.far a
  far_whole a l = whole_far (fits g a l) (fits g' a l) (λ j h n. agree j h n a l)

  near_whole : (a : ℕ) → a < d → c.at a ≢ 1 → c'.near a ≡ c.near a
  near_whole a l n = whole_near (fits g a l) (fits g' a l) (λ j h n. agree j h n a l) (omega (arith, g.perm.first a l))

  pub opening : Outcome d d farther c c'
  opening = by_one g g' farther 1 rest (go (ℕ_discrete (c'.near a0) (c.near a0)))
    where
      a0 : ℕ
      a0 = c.axis 1

      l0 : a0 < d
      l0 = g.perm.axis 1 (omega arith) d1

      p0 : c.at a0 ≡ 1
      p0 = g.perm.back 1 (omega arith) d1

      rest : (a : ℕ) → a < d → c.at a ≢ 1 → SameAt c c' a × LandsAt d d farther c c' a
      rest a l n = (record { at = at_of a l; near = near_whole a l n; far = far_whole a l }, simp applies (record { at = at_of a l; near = near_whole a l n; far = far_whole a l }))

      go : Dec (c'.near a0 ≡ c.near a0) → SameAt c c' a0 ⊎ LandsAt d d farther c c' a0
      go (yes q) = inl (record { at = at_of a0 l0; near = q; far = far_whole a0 l0 })
      go (no q) = inr (simp (applies, p0) (record { at = at_of a0 l0 ∙ p0; near = omega (arith, far_whole a0 l0, g.sides a0 l0, g'.sides a0 l0); far = far_whole a0 l0 }))
