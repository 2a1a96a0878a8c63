-- What a row of the table does to the boxes: on the axis of the entry whose facet is crossed a carry moves the box to
-- the other side of near, or of far, and every other box stays. The carry runs out just where a wall of the cube is
-- in the way.
use Rattle.std.specs.Prelude.{◌≡◌, Bool, false, ◌≢◌, ℕ, suc, ◌-◌, ◌*◌, ◌^◌, ◌<◌, eqb, length, get_or}
use Rattle.std.proofs.Math.Path.{refl, ap}
use Rattle.std.proofs.Common.{sym, ◌∙◌, subst, arith, eq-eqb, ne_eqb}
use Rattle.std.proofs.Math.Bool.{true, cond, not}
use Rattle.std.proofs.Math.Decide.{ℕ_discrete}
use Rattle.std.proofs.Math.Dec.{T}
use Rattle.bisection.specs.Codes.{axis, minus, Name}
use Rattle.bisection.specs.Theorems.Entries.{Signed}
use Rattle.bisection.specs.Theorems.Drawn.{entry}
use Rattle.bisection.specs.Theorems.Table.{Move, swap, nearer, farther, left, right, trade, orthants_by, blocked_by, runs_out, carried}
use Rattle.bisection.specs.Theorems.Crossing.Moves.{place, negates, sides, apply, Lands}
use Rattle.bisection.specs.Theorems.Crossing.Walls.{Wall, bottom, top, Stuck, end, start}
use Rattle.bisection.specs.Theorems.Crossing.Sound.{Allowed, a_swap, a_near, a_far, a_left, a_right, a_trade}
use Rattle.bisection.specs.Theorems.Crossing.Boxes.{box_at, unit, Carried, out, on}
use Rattle.bisection.proofs.Theorems.Crossing.Boxes.{box_at_fits, carried_box, carried_other, carried_fits, carried_length}
use Rattle.bisection.specs.Theorems.Crossing.Named.{frame}
use Rattle.bisection.proofs.Theorems.Crossing.Named.{frame_near, frame_far, frame_axis}
use Rattle.bisection.specs.Theorems.Crossing.Carries.{BoxGoes, b_far, b_left, b_near, b_right, b_swap, b_trade}

unit_twice : (b : ℕ) (n : Bool) → unit b (not (not n)) ≡ unit b n
unit_twice b true = refl
unit_twice b false = refl

beyond : (b b' : ℕ) (n : Bool) → unit b' (not n) ≡ unit b n → unit b' n ≡ 2 * unit b n - unit b (not n)
beyond b b' true e = omega arith
beyond b b' false e = omega arith

negated_sides : (b : ℕ) (t n : Bool) → (unit b (cond t (not n) n) ≡ cond t (unit b (not n)) (unit b n)) × (unit b (not (cond t (not n) n)) ≡ cond t (unit b n) (unit b (not n)))
negated_sides b true true = (refl, refl)
negated_sides b true false = (refl, refl)
negated_sides b false n = (refl, refl)

module _ (d k p b : ℕ) (n : Bool) (b' : ℕ) where
  x : ℕ
  x = unit b n

  y : ℕ
  y = unit b (not n)

  kept : b' ≡ b → (t : Bool) → (unit b' (cond t (not n) n) ≡ cond t y x) × (unit b' (not (cond t (not n) n)) ≡ cond t x y)
  unfolding x y
  kept e t = rw e (negated_sides b t n)

  lands_box : {m : Move} → BoxGoes d p b n b' m
      → Lands (apply d k m p (unit b n) (unit b (not n))) (place d k m p) (unit b' (cond (negates d k m p) (not n) n)) (unit b' (not (cond (negates d k m p) (not n) n)))
  unfolding apply place sides negates x y
  lands_box (b_swap e) = record { at = refl; near = (kept e false).0; far = (kept e false).1 }
  lands_box (b_left e) = record { at = refl; near = (kept e (eqb p 1)).0; far = (kept e (eqb p 1)).1 }
  lands_box (b_right e) = record { at = refl; near = (kept e (eqb p (suc k))).0; far = (kept e (eqb p (suc k))).1 }
  lands_box (b_trade e) = record { at = refl; near = (kept e (cond (eqb p 1) true (eqb p (suc k)))).0; far = (kept e (cond (eqb p 1) true (eqb p (suc k)))).1 }
  lands_box (b_near e f) = go (ℕ_discrete p d)
    where
      go : Dec (p ≡ d) → Lands (record { at = p; near = x; far = cond (eqb p d) (2 * x - y) y }) p (unit b' (cond (eqb p d) (not n) n)) (unit b' (not (cond (eqb p d) (not n) n)))
      go (yes q) = rw (eq-eqb p d q) (record { at = refl; near = e q; far = unit_twice b' n ∙ beyond b b' n (e q) })
      go (no q) = rw (ne_eqb p d q, f q) (record { at = refl; near = refl; far = refl })
  lands_box (b_far e f) = go (ℕ_discrete p 1)
    where
      go : Dec (p ≡ 1) → Lands (record { at = p; near = cond (eqb p 1) (2 * y - x) x; far = y }) p (unit b' (cond (eqb p 1) (not n) n)) (unit b' (not (cond (eqb p 1) (not n) n)))
      go (yes q) = rw (eq-eqb p 1 q) (record { at = refl; near = beyond b b' (not n) (e q) ∙ ap (λ (u : ℕ). 2 * y - u) (unit_twice b n); far = e q })
      go (no q) = rw (ne_eqb p 1 q, f q) (record { at = refl; near = refl; far = refl })

  pub lands_to : {m : Move} (to : ℕ) (t : Bool) → place d k m p ≡ suc to → negates d k m p ≡ t → BoxGoes d p b n b' m
      → Lands (apply d k m p (unit b n) (unit b (not n))) (suc to) (unit b' (cond t (not n) n)) (unit b' (not (cond t (not n) n)))
  lands_to to t e f g = rw (← e, ← f) (lands_box g)

-- a carry that does not run out, and one that does
moved_on : {up : Bool} {N b b' : ℕ} {r : Bool} → r ≡ false → Carried up N b b' r → unit b' (not up) ≡ unit b up
moved_on e (on f) = f
moved_on e (out f h) = absurd (subst T e tt)

out_wall : {up : Bool} {N b b' : ℕ} {r : Bool} → r ≡ true → Carried up N b b' r → Wall N (unit b up)
out_wall {up} {N} e (out f h) = subst (Wall N) (sym f) (go up)
  where
    go : (up : Bool) → Wall N (cond up N 0)
    go true = top
    go false = bottom
out_wall e (on f) = absurd (subst T (sym e) tt)

inner : {N u b b' : ℕ} (up : Bool) → b < N → b' < N → unit b' (not up) ≡ unit b up → Wall N u → u ≡ unit b up → ⊥
inner true l l' f bottom e = omega arith
inner true l l' f top e = omega arith
inner false l l' f bottom e = omega arith
inner false l l' f top e = omega arith

wall_out : {up : Bool} {N b b' : ℕ} {r : Bool} → b < N → b' < N → Wall N (unit b up) → Carried up N b b' r → r ≡ true
wall_out l l' w (out f h) = refl
wall_out {up} {b = b} {b' = b'} l l' w (on f) = absurd (inner {b = b} {b' = b'} up l l' f w refl)

module _ (d k : ℕ) (m : Name) (g : Signed d m.entries) where
  abbrev b : ℕ → ℕ
  b q = box_at (axis (entry m q)) m.orthants

  -- the box that a carry on the axis of entry t moves
  carry_own : (up : ℕ → Bool) (t q : ℕ) → q ≡ t → runs_out (up t) (axis (entry m t)) m.orthants ≡ false
      → unit (box_at (axis (entry m q)) (carried (up t) (axis (entry m t)) m.orthants)) (not (up q)) ≡ unit (b q) (up q)
  carry_own up t q f e = rw f (moved_on e (carried_box (up t) (axis (entry m t)) m.orthants))

  carry_other : (up : Bool) (t : ℕ) → t < d → (q : ℕ) → q < d → q ≢ t → box_at (axis (entry m q)) (carried up (axis (entry m t)) m.orthants) ≡ b q
  carry_other up t l q h n = carried_other up (axis (entry m t)) (axis (entry m q)) (g.low t l) (g.low q h) (λ e. n (g.apart q t h l e)) m.orthants

  pub box_goes : {mv : Move} → Allowed d k mv → blocked_by d mv m ≡ false → (q : ℕ) → q < d → BoxGoes d (suc q) (box_at (axis (entry m q)) m.orthants) (minus (entry m q)) (box_at (axis (entry m q)) (orthants_by d mv m)) mv
  unfolding blocked_by orthants_by
  box_goes (a_swap i1 id) e q l = b_swap refl
  box_goes a_near e q l = b_near (λ h. carry_own (λ t. minus (entry m t)) (d - 1) q (omega arith) e) (λ h. carry_other (minus (entry m (d - 1))) (d - 1) (omega arith) q l (omega arith))
  box_goes (a_far w) e q l = b_far (λ h. carry_own (λ t. not (minus (entry m t))) 0 q (omega arith) e) (λ h. carry_other (not (minus (entry m 0))) 0 (omega arith) q l (omega arith))
  box_goes (a_left w) e q l = b_left refl
  box_goes (a_right w) e q l = b_right refl
  box_goes (a_trade w) e q l = b_trade refl

  -- the row is blocked just where a wall is in the way
  N : ℕ
  N = 2 ^ length m.orthants

  carried_in : (up : Bool) (a : ℕ) → box_at a (carried up a m.orthants) < N
  unfolding N
  carried_in up a = rw (carried_length up a m.orthants) at (box_at_fits a (carried up a m.orthants))

  last_near : 0 < d → (frame m).near ((frame m).axis d) ≡ unit (b (d - 1)) (minus (entry m (d - 1)))
  last_near d0 = let e : d ≡ suc (d - 1) = omega arith in ap (λ (t : ℕ). (frame m).near ((frame m).axis t)) e ∙ rw (frame_axis m g (d - 1)) (frame_near m g (d - 1) (omega arith))

  first_far : 0 < d → (frame m).far ((frame m).axis 1) ≡ unit (b 0) (not (minus (entry m 0)))
  first_far d0 = rw (frame_axis m g 0) (frame_far m g 0 d0)

  pub blocked_stuck : 0 < d → (mv : Move) → blocked_by d mv m ≡ true → Stuck (2 ^ length m.orthants) d (frame m) mv
  unfolding blocked_by
  blocked_stuck d0 nearer e = end (rw (last_near d0) (out_wall e (carried_box (minus (entry m (d - 1))) (axis (entry m (d - 1))) m.orthants)))
  blocked_stuck d0 farther e = start (rw (first_far d0) (out_wall e (carried_box (not (minus (entry m 0))) (axis (entry m 0)) m.orthants)))
  blocked_stuck d0 (swap i) e = absurd (subst T (sym e) tt)
  blocked_stuck d0 left e = absurd (subst T (sym e) tt)
  blocked_stuck d0 right e = absurd (subst T (sym e) tt)
  blocked_stuck d0 trade e = absurd (subst T (sym e) tt)

  pub stuck_blocked : 0 < d → {mv : Move} → Stuck (2 ^ length m.orthants) d (frame m) mv → blocked_by d mv m ≡ true
  unfolding blocked_by N
  stuck_blocked d0 (end w) = wall_out (box_at_fits (axis (entry m (d - 1))) m.orthants) (carried_in (minus (entry m (d - 1))) (axis (entry m (d - 1)))) (rw (last_near d0) at w) (carried_box (minus (entry m (d - 1))) (axis (entry m (d - 1))) m.orthants)
  stuck_blocked d0 (start w) = wall_out (box_at_fits (axis (entry m 0)) m.orthants) (carried_in (not (minus (entry m 0))) (axis (entry m 0))) (rw (first_far d0) at w) (carried_box (not (minus (entry m 0))) (axis (entry m 0)) m.orthants)

  -- the orthants stay as many, and fit
  pub orthants_count : (mv : Move) → length (orthants_by d mv m) ≡ length m.orthants
  unfolding orthants_by
  orthants_count (swap i) = refl
  orthants_count nearer = carried_length (minus (entry m (d - 1))) (axis (entry m (d - 1))) m.orthants
  orthants_count farther = carried_length (not (minus (entry m 0))) (axis (entry m 0)) m.orthants
  orthants_count left = refl
  orthants_count right = refl
  orthants_count trade = refl

  pub orthants_fit : 0 < d → ((t : ℕ) → t < length m.orthants → get_or m.orthants t 0 < 2 ^ d) → (mv : Move) (t : ℕ) → t < length m.orthants → get_or (orthants_by d mv m) t 0 < 2 ^ d
  unfolding orthants_by
  orthants_fit d0 h (swap i) = h
  orthants_fit d0 h nearer = carried_fits (minus (entry m (d - 1))) (axis (entry m (d - 1))) d (g.low (d - 1) (omega arith)) (g.high (d - 1) (omega arith)) m.orthants h
  orthants_fit d0 h farther = carried_fits (not (minus (entry m 0))) (axis (entry m 0)) d (g.low 0 d0) (g.high 0 d0) m.orthants h
  orthants_fit d0 h left = h
  orthants_fit d0 h right = h
  orthants_fit d0 h trade = h
