-- Two frames of which the first's corners 1..k are the second's corners 0..k-1: the second is the first with its first
-- k + 1 entries turned left, and the first is the second with them turned right.
use Rattle.std.specs.Prelude.{◌≡◌, true, false, ◌≢◌}
use Rattle.std.proofs.Common.{sym, ◌∙◌, subst, arith}
use Prim.Native.Nat.{ℕ, suc, ◌%◌, ◌≤◌, ◌<◌}
use Rattle.std.proofs.Math.Decide.{dec_lt, ℕ_discrete}
use borrow.Author.Tests.{eq-eqb, ne_eqb}
use Rattle.bisection.proofs.Theorems.Crossing.Sums.{same_place}
use Rattle.bisection.proofs.Theorems.Crossing.Rows.{sides_odd}
use Rattle.bisection.specs.Theorems.Crossing.Frames.{Frame, GoodFrame}
use Rattle.bisection.specs.Theorems.Crossing.Shift.{Slid}
use Rattle.bisection.specs.Theorems.Crossing.Axes.{Turn, first, inner, edge, past}
use Rattle.bisection.proofs.Theorems.Crossing.Axes.{no_turn, turned}
use Rattle.bisection.specs.Theorems.Table.{left, right}
use Rattle.bisection.specs.Theorems.Crossing.Moves.{own}
use Rattle.bisection.proofs.Theorems.Crossing.Moves.{applies}
use Rattle.bisection.specs.Theorems.Crossing.Level.{LandsAt}
use Rattle.bisection.proofs.Theorems.Crossing.Level.{fits}
use Rattle.bisection.specs.Theorems.Crossing.Turning.{RolledAt, body, head, tail}

module _ {d k : ℕ} {c c' : Frame} (g : GoodFrame d k c) (g' : GoodFrame d k c') (k1 : 1 ≤ k) (kd : k ≤ d) (t : Slid d k c c') where
  th : ℕ
  th = c.axis 1

  td : th < d
  unfolding th
  td = g.perm.axis 1 (omega arith) (omega arith)

  ti : c.at th ≡ 1
  unfolding th
  ti = g.perm.back 1 (omega arith) (omega arith)

  pub not_whole : k < d
  not_whole = go (dec_lt k d)
    where
      go : Dec (k < d) → k < d
      go (yes q) = q
      go (no q) = absurd (no_turn (fits g th td) (fits g' th td) k1 (λ j l. t.corner j l th td) (omega arith) ti)

  turn_of : (a : ℕ) → a < d → Turn k (c.at a) (c.near a) (c.far a) (c'.at a) (c'.near a) (c'.far a)
  turn_of a l = turned (fits g a l) (fits g' a l) k1 (λ j q. t.corner j q a l) not_whole (λ j q r. t.other j q r a l)

  th_goes : c'.at th ≡ suc k
  th_goes = go (turn_of th td)
    where
      go : Turn k (c.at th) (c.near th) (c.far th) (c'.at th) (c'.near th) (c'.far th) → c'.at th ≡ suc k
      go (first u v w z) = v
      go (inner u v w z y) = absurd (omega (arith, ti))
      go (edge u v w z y) = absurd (omega (arith, ti))
      go (past u v w z) = absurd (omega (arith, ti))

  pub rolled : (a : ℕ) → a < d → RolledAt k c c' a
  rolled a l = go (turn_of a l)
    where
      go : Turn k (c.at a) (c.near a) (c.far a) (c'.at a) (c'.near a) (c'.far a) → RolledAt k c c' a
      go (first u v w z) = head u v w z
      go (inner u v w z y) = body u (omega arith) w z y
      go (past u v w z) = tail u v w z
      go (edge u v w z y) = pick (ℕ_discrete (c'.at a) (suc k))
        where
          pick : Dec (c'.at a ≡ suc k) → RolledAt k c c' a
          pick (yes q) = absurd (omega (arith, ti, subst (λ (b : ℕ). c.at b ≡ suc k) (same_place g'.perm a th l td (q ∙ sym th_goes)) u))
          pick (no q) = body (omega arith) (omega arith) (omega arith) z y

  -- the new entry at place k has the own sign; in c it stood at k + 1
  pub left_own : own k c ≡ true
  unfolding own
  left_own = eq-eqb (c.near b % 2) 0 (go (rolled b bd))
    where
      b : ℕ
      b = c.axis (suc k)

      bd : b < d
      bd = g.perm.axis (suc k) (omega arith) not_whole

      bk : c.at b ≡ suc k
      bk = g.perm.back (suc k) (omega arith) not_whole

      go : RolledAt k c c' b → c.near b % 2 ≡ 0
      go (head u v w z) = absurd (omega (arith, bk))
      go (body u v w z y) = rw z at (g'.even b bd (omega (arith, bk)))
      go (tail u v w z) = absurd (omega (arith, bk))

  pub lefts : (a : ℕ) → a < d → LandsAt d k left c c' a
  lefts a l = go (rolled a l)
    where
      go : RolledAt k c c' a → LandsAt d k left c c' a
      go (head u v w z) = simp applies (record { at = v; near = w; far = z })
      go (body u v w z y) = simp applies (record { at = omega arith; near = z; far = y })
      go (tail u v w z) = simp applies (record { at = v; near = w; far = z })

  -- back again: from c' to c
  pub rights : (a : ℕ) → a < d → LandsAt d k right c' c a
  rights a l = go (rolled a l)
    where
      go : RolledAt k c c' a → LandsAt d k right c' c a
      go (head u v w z) = simp applies (record { at = u; near = sym z; far = sym w })
      go (body u v w z y) = let q : c'.at a ≤ k = omega arith in simp applies (record { at = sym w; near = sym z; far = sym y })
      go (tail u v w z) = let q : suc k < c'.at a = omega arith in simp applies (record { at = sym v; near = sym w; far = sym z })

  pub right_own : own k c' ≡ false
  unfolding own
  right_own = ne_eqb (c'.near b % 2) 0 (go (rolled b bd))
    where
      b : ℕ
      b = c'.axis (suc k)

      bd : b < d
      bd = g'.perm.axis (suc k) (omega arith) not_whole

      bk : c'.at b ≡ suc k
      bk = g'.perm.back (suc k) (omega arith) not_whole

      go : RolledAt k c c' b → c'.near b % 2 ≢ 0
      go (head u v w z) q = omega (arith, sides_odd (g.sides b bd), g.even b bd (omega arith))
      go (body u v w z y) q = omega (arith, bk)
      go (tail u v w z) q = omega (arith, bk)
