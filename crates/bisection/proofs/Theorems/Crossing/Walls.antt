-- The rows that would lead out of the cube. Nothing lies where they lead, so that the frame alone has the facet's
-- vertices; and they are the rows of just those facets that lie in a wall of the cube.
use Rattle.std.specs.Prelude.{◌≡◌, refl, ◌≢◌, ℕ, ◌-◌, ◌*◌, ◌≤◌, ◌<◌}
use Rattle.std.proofs.Common.{sym, ap, ◌∙◌, subst, arith}
use Rattle.std.proofs.Math.Decide.{dec_le}
use Rattle.bisection.proofs.Theorems.Crossing.Sums.{at_axis}
use Rattle.bisection.specs.Theorems.Crossing.Rows.{Sides}
use Rattle.bisection.proofs.Theorems.Crossing.Rows.{row_before, row_in, row_past, row_after, sides_turn, sides_odd}
use Rattle.bisection.specs.Theorems.Crossing.Frames.{Frame, GoodFrame}
use Rattle.bisection.specs.Theorems.Crossing.Shift.{HasFacet}
use Rattle.bisection.specs.Theorems.Table.{Move, move}
use Rattle.bisection.specs.Theorems.Crossing.Moves.{own, Lands, Moved, is_near, is_far, is_left, is_trade, is_edge, is_right, is_swap}
use Rattle.bisection.proofs.Theorems.Crossing.Moves.{applies, view}
use Rattle.bisection.specs.Theorems.Crossing.Level.{Outcome, same, crossed, SameAt, LandsAt}
use Rattle.bisection.proofs.Theorems.Crossing.Unique.{unique}
use Rattle.bisection.specs.Theorems.Crossing.Walls.{InCube, OnWall, Stuck, Wall, bottom, end, start, top}

-- from a wall the other side is out of the cube
past_wall : {N w x y : ℕ} → Wall N w → w ≡ x → y ≤ N → 2 * x - y ≤ N → Sides x y → Sides x (2 * x - y) → ⊥
past_wall bottom e h l s t = omega arith
past_wall top e h l s t = omega arith

module _ {N d k i : ℕ} {c c' : Frame} (k1 : 1 ≤ k) (kd : k ≤ d) (il : i ≤ d) (g : GoodFrame d k c) (g' : GoodFrame d k c') (b : InCube N d c) (b' : InCube N d c') (sh : HasFacet d k i c c') where
  stuck_not : (m : Move) → Stuck N d c m → ((a : ℕ) → a < d → LandsAt d k m c c' a) → ⊥
  stuck_not m (end w) h = go (simp (applies, ei) at (h e ed))
    where
      e : ℕ
      e = c.axis d

      ed : e < d
      ed = g.perm.axis d (omega arith) (omega arith)

      ei : c.at e ≡ d
      ei = g.perm.back d (omega arith) (omega arith)

      go : Lands (record { at = d; near = c.near e; far = 2 * c.near e - c.far e }) (c'.at e) (c'.near e) (c'.far e) → ⊥
      go q = past_wall w refl (b.far e ed) (rw q.far at (b'.far e ed)) (g.sides e ed) (rw (q.near, q.far) at (g'.sides e ed))
  stuck_not m (start w) h = go (simp (applies, ei) at (h e ed))
    where
      e : ℕ
      e = c.axis 1

      ed : e < d
      ed = g.perm.axis 1 (omega arith) (omega arith)

      ei : c.at e ≡ 1
      ei = g.perm.back 1 (omega arith) (omega arith)

      go : Lands (record { at = 1; near = 2 * c.far e - c.near e; far = c.far e }) (c'.at e) (c'.near e) (c'.far e) → ⊥
      go q = past_wall w refl (b.near e ed) (rw q.near at (b'.near e ed)) (sides_turn (g.sides e ed)) (sides_turn (rw (q.near, q.far) at (g'.sides e ed)))

  pub alone : Stuck N d c (move d k i (own k c)) → (a : ℕ) → a < d → SameAt c c' a
  alone s = go (unique k1 kd il g g' sh)
    where
      go : Outcome d k (move d k i (own k c)) c c' → (a : ℕ) → a < d → SameAt c c' a
      go (same h) = h
      go (crossed h) = absurd (stuck_not (move d k i (own k c)) s h)

-- refused exactly where the facet lies in a face of the cube
module _ {N d k i : ℕ} {c : Frame} (k1 : 1 ≤ k) (kd : k ≤ d) (il : i ≤ d) (g : GoodFrame d k c) where
  pub on_wall : Stuck N d c (move d k i (own k c)) → OnWall N d k i c
  on_wall s = go (view d k i (own k c)) s
    where
      go : {m : Move} → Moved d k i (own k c) m → Stuck N d c m → OnWall N d k i c
      go (is_near e) (end w) = record {
        axis = c.axis d;
        real = g.perm.axis d (omega arith) (omega arith);
        wall = c.near (c.axis d);
        is_wall = w;
        flat = λ j l n. row_before k (c.at (c.axis d)) (c.near (c.axis d)) (c.far (c.axis d)) j (omega (arith, g.perm.back d (omega arith) (omega arith)));
      }
      go (is_far e z q) (start w) = record {
        axis = c.axis 1;
        real = g.perm.axis 1 (omega arith) (omega arith);
        wall = c.far (c.axis 1);
        is_wall = w;
        flat = λ j l n. row_in k (c.at (c.axis 1)) (c.near (c.axis 1)) (c.far (c.axis 1)) j (omega (arith, g.perm.back 1 (omega arith) (omega arith))) (omega arith);
      }
      go (is_left _ _ _ _) s = elim s [ ]
      go (is_trade _ _ _ _) s = elim s [ ]
      go (is_edge _ _ _ _) s = elim s [ ]
      go (is_right _ _ _ _) s = elim s [ ]
      go (is_swap _ _ _) s = elim s [ ]

  pub wall_stuck : OnWall N d k i c → Stuck N d c (move d k i (own k c))
  wall_stuck f = go (view d k i (own k c))
    where
      a : ℕ
      a = f.axis

      s : Sides (c.near a) (c.far a)
      s = g.sides a f.real

      -- a facet with vertex 0 has near at the wall, so the axis never leaves it
      first : i ≢ 0 → 2 * c.near a ≡ 2 * f.wall
      first n = sym (row_before k (c.at a) (c.near a) (c.far a) 0 (g.perm.first a f.real)) ∙ f.flat 0 (omega arith) (omega arith)

      never : (j : ℕ) → i ≢ 0 → j ≤ d → j ≢ i → c.at a ≤ j → ⊥
      never j n l h p = row_after s k (c.at a) j p (f.flat j l h ∙ sym (first n))

      last : i ≢ 0 → i ≢ d → ⊥
      last n h = never d n (omega arith) (omega arith) (g.perm.last a f.real)

      -- vertex d of a facet without vertex 0 is in the middle where k < d
      middle : i ≡ 0 → k ≢ d → ⊥
      middle z q = omega (arith, sides_odd s, f.flat d (omega arith) (omega arith), row_past k (c.at a) (c.near a) (c.far a) d (g.perm.last a f.real) (omega arith))

      go : {m : Move} → Moved d k i (own k c) m → Stuck N d c m
      go (is_left e z q r) = absurd (middle z q)
      go (is_trade e z q r) = absurd (middle z q)
      go (is_edge e z q r) = absurd (last z e)
      go (is_right e z q r) = absurd (last z e)
      go (is_swap e z q) = absurd (last z e)
      go (is_near e) = end (subst (Wall N) at_wall f.is_wall)
        where
          at_end : c.at a ≡ d
          at_end = pick (dec_le d (c.at a))
            where
              pick : Dec (d ≤ c.at a) → c.at a ≡ d
              pick (yes h) = omega (arith, g.perm.last a f.real)
              pick (no h) = absurd (never (d - 1) (omega arith) (omega arith) (omega arith) (omega arith))

          at_wall : f.wall ≡ c.near (c.axis d)
          at_wall = omega (arith, first (omega arith)) ∙ ap c.near (at_axis g.perm a d f.real at_end)
      go (is_far e z q) = start (subst (Wall N) at_wall f.is_wall)
        where
          far_is : c.far a ≡ f.wall
          far_is = omega (arith, f.flat d (omega arith) (omega arith), row_in k (c.at a) (c.near a) (c.far a) d (g.perm.last a f.real) (omega arith))

          at_start : c.at a ≡ 1
          at_start = pick (dec_le 2 (c.at a))
            where
              pick : Dec (2 ≤ c.at a) → c.at a ≡ 1
              pick (yes h) = absurd (s.apart (omega (arith, far_is, f.flat 1 (omega arith) (omega arith), row_before k (c.at a) (c.near a) (c.far a) 1 h)))
              pick (no h) = omega (arith, g.perm.first a f.real)

          at_wall : f.wall ≡ c.far (c.axis 1)
          at_wall = sym far_is ∙ ap c.far (at_axis g.perm a 1 f.real at_start)
