-- The frame across, where no wall is in the way, is a good one: its sides are one apart, and its first k places have the
-- box's own sign.
use Rattle.std.specs.Prelude.{◌≡◌, true, false, ℕ, suc, ◌+◌, ◌-◌, ◌*◌, ◌%◌, ◌≤◌, ◌<◌}
use Rattle.std.proofs.Common.{sym, ap, ◌∙◌, arith, eqb→eq, eq-eqb}
use Rattle.std.proofs.Math.Path.{subst}
use Rattle.std.proofs.Math.Decide.{dec_lt, dec_le, ℕ_discrete}
use Rattle.std.proofs.Math.Dec.{T}
use Rattle.bisection.proofs.Theorems.Crossing.Sums.{at_axis}
use Rattle.bisection.specs.Theorems.Crossing.Rows.{Sides}
use Rattle.bisection.proofs.Theorems.Crossing.Rows.{sides_turn, sides_odd}
use Rattle.bisection.specs.Theorems.Crossing.Frames.{Frame, GoodFrame}
use Rattle.bisection.specs.Theorems.Crossing.Axes.{Fits}
use Rattle.bisection.specs.Theorems.Table.{Move, swap, nearer, farther, trade, left, right, move}
use Rattle.bisection.specs.Theorems.Crossing.Moves.{apply, own, Moved, is_near, is_far, is_left, is_trade, is_edge, is_right, is_swap}
use Rattle.bisection.proofs.Theorems.Crossing.Moves.{applies, view}
use Rattle.bisection.proofs.Theorems.Crossing.Level.{fits}
use Rattle.bisection.specs.Theorems.Crossing.Walls.{Wall, bottom, Stuck, end, start}
use Rattle.bisection.specs.Theorems.Crossing.Sound.{Allowed, a_swap, a_near, a_far, a_left, a_right, a_trade}
use Rattle.bisection.proofs.Theorems.Crossing.Sound.{allowed}
use Rattle.bisection.specs.Theorems.Crossing.Places.{cross}
use Rattle.bisection.proofs.Theorems.Crossing.Places.{cross_perm}
use Rattle.bisection.specs.Theorems.Crossing.Across.{Clear, Fine, c_far, c_left, c_near, c_right, c_swap, c_trade}

even_back : {x y : ℕ} → Sides x y → x % 2 ≡ 0 → (2 * y - x) % 2 ≡ 0
even_back {x} {y} s e = go (dec_lt x y)
  where
    go : Dec (x < y) → (2 * y - x) % 2 ≡ 0
    go (yes h) = let w : 2 * y - x ≡ x + 2 = omega arith in rw w (omega arith)
    go (no h) = let l : 2 ≤ x = omega arith in let w : 2 * y - x ≡ x - 2 = omega arith in let z : x ≡ x - 2 + 2 = omega arith in rw w (back (x - 2) (rw z at e))
      where
        back : (z : ℕ) → (z + 2) % 2 ≡ 0 → z % 2 ≡ 0
        back z h = omega arith

module _ {d k p x y : ℕ} (o : Fits d k p x y) (k1 : 1 ≤ k) where
  as_is : (q : ℕ) → (q ≤ k → x % 2 ≡ 0) → Fine k (record { at = q; near = x; far = y })
  as_is q e = record { sides = o.sides; even = e }

  turned : (q : ℕ) → (q ≤ k → y % 2 ≡ 0) → Fine k (record { at = q; near = y; far = x })
  turned q e = record { sides = sides_turn o.sides; even = e }

  pub axis_good : {m : Move} → Allowed d k m → Clear d k p x y m → Fine k (apply d k m p x y)
  axis_good (a_swap {i = i} i1 id) (c_swap f) = go (ℕ_discrete p i) (ℕ_discrete p (suc i)) (ℕ_discrete i k)
    where
      go : Dec (p ≡ i) → Dec (p ≡ suc i) → Dec (i ≡ k) → Fine k (apply d k (swap i) p x y)
      go (yes e) n q = simp applies (as_is (suc i) (λ h. o.even (omega arith)))
      go (no e) (yes n) (yes q) = simp applies (as_is i (λ h. f q (omega arith)))
      go (no e) (yes n) (no q) = simp applies (as_is i (λ h. o.even (omega arith)))
      go (no e) (no n) q = simp applies (as_is p o.even)
  axis_good a_near (c_near f) = go (ℕ_discrete p d)
    where
      go : Dec (p ≡ d) → Fine k (apply d k nearer p x y)
      go (yes e) = simp applies (record {
        sides = record { down = omega (arith, f e, o.sides); up = omega (arith, f e, o.sides); apart = omega (arith, f e, o.sides) };
        even = o.even;
      })
      go (no e) = simp applies (as_is p o.even)
  axis_good (a_far q) (c_far f) = go (ℕ_discrete p 1)
    where
      go : Dec (p ≡ 1) → Fine k (apply d k farther p x y)
      go (yes e) = simp applies (record {
        sides = record { down = omega (arith, f e, o.sides); up = omega (arith, f e, o.sides); apart = omega (arith, f e, o.sides) };
        even = λ h. even_back o.sides (o.even h);
      })
      go (no e) = simp applies (as_is p o.even)
  axis_good (a_left kd) (c_left f) = go (ℕ_discrete p 1) (dec_le p (suc k)) (ℕ_discrete p (suc k))
    where
      go : Dec (p ≡ 1) → Dec (p ≤ suc k) → Dec (p ≡ suc k) → Fine k (apply d k left p x y)
      go (yes e) n q = simp applies (turned (suc k) (λ h. absurd (omega arith)))
      go (no e) (yes n) (yes q) = let h : 2 ≤ p = omega (arith, o.first) in simp applies (as_is (p - 1) (λ h. f q))
      go (no e) (yes n) (no q) = let h : 2 ≤ p = omega (arith, o.first) in simp applies (as_is (p - 1) (λ h. o.even (omega arith)))
      go (no e) (no n) q = let h : suc k < p = omega arith in simp applies (as_is p o.even)
  axis_good (a_right kd) (c_right f) = go (ℕ_discrete p (suc k)) (dec_le p k)
    where
      go : Dec (p ≡ suc k) → Dec (p ≤ k) → Fine k (apply d k right p x y)
      go (yes e) n = simp applies (turned 1 (λ h. f e))
      go (no e) (yes n) = simp applies (as_is (suc p) (λ h. o.even n))
      go (no e) (no n) = let h : suc k < p = omega arith in simp applies (as_is p o.even)
  axis_good (a_trade kd) (c_trade f) = go (ℕ_discrete p 1) (ℕ_discrete p (suc k))
    where
      go : Dec (p ≡ 1) → Dec (p ≡ suc k) → Fine k (apply d k trade p x y)
      go (yes e) n = simp applies (turned (suc k) (λ h. absurd (omega arith)))
      go (no e) (yes n) = simp applies (turned 1 (λ h. f n))
      go (no e) (no n) = simp applies (as_is p o.even)

module _ {d k : ℕ} {c : Frame} (g : GoodFrame d k c) (kd : k < d) where
  own_yes : own k c ≡ true → (a : ℕ) → a < d → c.at a ≡ suc k → c.near a % 2 ≡ 0
  unfolding own
  own_yes e a l q = subst (λ (b : ℕ). c.near b % 2 ≡ 0) (sym (at_axis g.perm a (suc k) l q)) (eqb→eq (c.near (c.axis (suc k)) % 2) 0 (subst T (sym e) tt))

  own_no : own k c ≡ false → (a : ℕ) → a < d → c.at a ≡ suc k → c.far a % 2 ≡ 0
  unfolding own
  own_no e a l q = go (ℕ_discrete (c.near a % 2) 0)
    where
      w : a ≡ c.axis (suc k)
      w = at_axis g.perm a (suc k) l q

      go : Dec (c.near a % 2 ≡ 0) → c.far a % 2 ≡ 0
      go (yes z) = absurd (subst T (sym (eq-eqb (c.near (c.axis (suc k)) % 2) 0 (subst (λ (b : ℕ). c.near b % 2 ≡ 0) w z)) ∙ e) tt)
      go (no z) = omega (arith, sides_odd (g.sides a l))

module _ {N d k i : ℕ} {c : Frame} (k1 : 1 ≤ k) (kd : k ≤ d) (il : i ≤ d) (g : GoodFrame d k c) where
  clear : {m : Move} → Moved d k i (own k c) m → ¬ Stuck N d c m → (a : ℕ) → a < d → Clear d k (c.at a) (c.near a) (c.far a) m
  clear (is_near e) s a l = c_near (λ q z. s (end (subst (Wall N) (sym z ∙ ap c.near (at_axis g.perm a d l q)) bottom)))
  clear (is_far e z q) s a l = c_far (λ q z. s (start (subst (Wall N) (sym z ∙ ap c.far (at_axis g.perm a 1 l q)) bottom)))
  clear (is_left e z q r) s a l = c_left (own_yes g (omega arith) r a l)
  clear (is_trade e z q r) s a l = c_trade (own_no g (omega arith) r a l)
  clear (is_edge e z q r) s a l = let less : k < d = omega arith in c_swap (λ h. own_yes g less r a l)
  clear (is_right e z q r) s a l = c_right (own_no g (omega arith) r a l)
  clear (is_swap e z q) s a l = c_swap (λ h. absurd (q h))

  pub across_good : ¬ Stuck N d c (move d k i (own k c)) → GoodFrame d k (cross d k (move d k i (own k c)) c)
  unfolding cross
  across_good free = record { perm = cross_perm g k1 (allowed k1 kd il (view d k i (own k c))); sides = λ a l. (fine a l).sides; even = λ a l. (fine a l).even }
    where
      fine : (a : ℕ) → a < d → Fine k (apply d k (move d k i (own k c)) (c.at a) (c.near a) (c.far a))
      fine a l = axis_good (fits g a l) k1 (allowed k1 kd il (view d k i (own k c))) (clear (view d k i (own k c)) free a l)
