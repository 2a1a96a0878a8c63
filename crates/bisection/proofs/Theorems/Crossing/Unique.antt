-- A frame that has all vertices of facet i of another is that frame, or lies where the table's row puts it.
use Rattle.std.specs.Prelude.{◌≡◌, ◌≢◌, ℕ, ◌≤◌, T}
use Rattle.std.proofs.Common.{sym, ap, ◌∙◌, subst, arith}
use Rattle.bisection.specs.Theorems.Crossing.Frames.{Frame, GoodFrame, Meets}
use Rattle.bisection.specs.Theorems.Crossing.Shift.{HasFacet, Shift, level, slid_left, slid_right}
use Rattle.bisection.proofs.Theorems.Crossing.Shift.{shift}
use Rattle.bisection.specs.Theorems.Table.{Move, swap, farther, trade, left, right, move}
use Rattle.bisection.specs.Theorems.Crossing.Moves.{own, Moved, is_near, is_far, is_left, is_trade, is_edge, is_right, is_swap}
use Rattle.bisection.proofs.Theorems.Crossing.Moves.{move_left, move_right, view}
use Rattle.bisection.specs.Theorems.Crossing.Level.{Outcome, same, crossed}
use Rattle.bisection.proofs.Theorems.Crossing.Level.{inside, ending, starting, opening, swap_own, trade_own}
use Rattle.bisection.proofs.Theorems.Crossing.Turning.{not_whole, left_own, lefts, right_own, rights}

-- k = d, put in place of d
opening_at : {d k : ℕ} {c c' : Frame} → k ≡ d → 1 ≤ d → GoodFrame d k c → GoodFrame d k c' → ((j : ℕ) → j ≤ d → j ≢ 0 → Meets d k c j c' j) → Outcome d k farther c c'
opening_at {d} {k} {c} {c'} q d1 = subst (λ (m : ℕ). GoodFrame d m c → GoodFrame d m c' → ((j : ℕ) → j ≤ d → j ≢ 0 → Meets d m c j c' j) → Outcome d m farther c c') (sym q) (λ g g' w. opening g g' d1 w)

-- the theorem
module _ {d k i : ℕ} {c c' : Frame} (k1 : 1 ≤ k) (kd : k ≤ d) (il : i ≤ d) (g : GoodFrame d k c) (g' : GoodFrame d k c') (sh : HasFacet d k i c c') where
  pub unique : Outcome d k (move d k i (own k c)) c c'
  unique = go (shift g g' k1 kd sh)
    where
      -- the same places: the row is the one of the view, or the frames are the same
      flat : ((j : ℕ) → j ≤ d → j ≢ i → Meets d k c j c' j) → {m : Move} → Moved d k i (own k c) m → Outcome d k m c c'
      flat w (is_near e) = ending g g' (omega arith) (λ j l n. w j l (λ u. n (u ∙ e)))
      flat w (is_far e z q) = opening_at q (omega arith) g g' (λ j l n. w j l (λ u. n (u ∙ z)))
      flat w (is_trade e z q r) = starting g g' k1 (omega arith) (λ j l n. w j l (λ u. n (u ∙ z)))
      flat w (is_left e z q r) = pick (starting g g' k1 (omega arith) (λ j l n. w j l (λ u. n (u ∙ z))))
        where
          pick : Outcome d k trade c c' → Outcome d k left c c'
          pick (same u) = same u
          pick (crossed u) = absurd (subst T (sym r ∙ trade_own g g' k1 (omega arith) u) tt)
      flat w (is_edge e z q r) = subst (λ (n : ℕ). Outcome d k (swap n) c c') q (inside g g' (omega arith) (omega arith) w)
      flat w (is_right e z q r) = pick (subst (λ (n : ℕ). Outcome d k (swap n) c c') q (inside g g' (omega arith) (omega arith) w))
        where
          pick : Outcome d k (swap k) c c' → Outcome d k right c c'
          pick (same u) = same u
          pick (crossed u) = absurd (subst T (sym (swap_own g g' k1 (omega arith) u) ∙ r) tt)
      flat w (is_swap e z q) = inside g g' (omega arith) (omega arith) w

      by : {m : Move} → move d k i (own k c) ≡ m → Outcome d k m c c' → Outcome d k (move d k i (own k c)) c c'
      by e o = subst (λ (n : Move). Outcome d k n c c') (sym e) o

      go : Shift d k i c c' → Outcome d k (move d k i (own k c)) c c'
      go (level w) = flat w (view d k i (own k c))
      go (slid_left e t) = by (ap (move d k i) (left_own g g' k1 kd t) ∙ move_left d k i (omega arith) e (omega (arith, not_whole g g' k1 kd t))) (crossed (lefts g g' k1 kd t))
      go (slid_right e t) = by (ap (move d k i) (right_own g' g k1 kd t) ∙ move_right d k i (omega (arith, not_whole g' g k1 kd t)) (omega arith) e) (crossed (rights g' g k1 kd t))
