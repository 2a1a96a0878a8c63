-- A frame that has all vertices of facet i of another: the shared vertices keep their places, or the corners 0..k move
-- by one place, and that only where i is 0 or k.
use Rattle.std.specs.Prelude.{◌≡◌, ◌≢◌, ℕ, suc, ◌+◌, ◌-◌, ◌≤◌, ◌<◌}
use Rattle.std.proofs.Common.{sym, subst, arith}
use Rattle.std.proofs.Math.Decide.{dec_lt, dec_le, ℕ_discrete}
use Rattle.bisection.specs.Theorems.Crossing.Frames.{Frame, GoodFrame, Meets, rank}
use Rattle.bisection.proofs.Theorems.Crossing.Frames.{meet_high, meet_low}
use Rattle.bisection.specs.Theorems.Crossing.Shift.{Among, HasFacet, Shift, level, slid_left, slid_right}

module _ {d k i : ℕ} {c c' : Frame} (g : GoodFrame d k c) (g' : GoodFrame d k c') (k1 : 1 ≤ k) (kd : k ≤ d) (sh : HasFacet d k i c c') where
  high : (j : ℕ) → k < j → j ≤ d → j ≢ i → Meets d k c j c' j
  high j h l n =
      let s : Among d k c j c' = sh j l n in
      subst (λ (t : ℕ). Meets d k c j c' t) (meet_high g g' kd j s.place s.within s.meets h l) s.meets

  low : (j t : ℕ) → j ≤ k → j ≢ i → rank d k c + j ≡ rank d k c' + t → Meets d k c j c' t
  low j t h n e =
      let s : Among d k c j c' = sh j (omega arith) n in
      let w : s.place ≡ t = omega (arith, (meet_low g g' kd j s.place s.within s.meets h).1) in
      subst (λ (t : ℕ). Meets d k c j c' t) w s.meets

  at : (j : ℕ) → j ≤ k → j ≢ i → (t : ℕ) × (t ≤ k) × (rank d k c + j ≡ rank d k c' + t)
  at j h n =
      let s : Among d k c j c' = sh j (omega arith) n in
      let w : (s.place ≤ k) × (rank d k c + j ≡ rank d k c' + s.place) = meet_low g g' kd j s.place s.within s.meets h in
      (s.place, w.0, w.1)

  pub shift : Shift d k i c c'
  shift = go (dec_lt (rank d k c) (rank d k c')) (dec_lt (rank d k c') (rank d k c)) (ℕ_discrete i 0) (ℕ_discrete i k)
    where
      go : Dec (rank d k c < rank d k c') → Dec (rank d k c' < rank d k c) → Dec (i ≡ 0) → Dec (i ≡ k) → Shift d k i c c'
      go (yes a) b (no z) w = absurd (omega (arith, (at 0 (omega arith) (omega arith)).2))
      go (yes a) b (yes z) w = slid_left z (record {
        corner = λ j l. low (suc j) j (omega arith) (omega arith) (omega (arith, (at 1 k1 (omega arith)).2));
        other = λ j h l. high j h l (omega arith);
      })
      go (no a) (yes b) z (no w) =
          let q : (t : ℕ) × (t ≤ k) × (rank d k c + k ≡ rank d k c' + t) = at k (omega arith) (omega arith) in
          absurd (omega (arith, q.1, q.2))
      go (no a) (yes b) z (yes w) =
          let q : (t : ℕ) × (t ≤ k) × (rank d k c + (k - 1) ≡ rank d k c' + t) = at (k - 1) (omega arith) (omega arith) in
          slid_right w (record {
            corner = λ j l n h. sym (low j (suc j) (omega arith) (omega arith) (omega (arith, q.1, q.2)) n h);
            other = λ j h l n e. sym (high j h l (omega arith) n e);
          })
      go (no a) (no b) z w = level both
        where
          both : (j : ℕ) → j ≤ d → j ≢ i → Meets d k c j c' j
          both j l n = pick (dec_le j k)
            where
              pick : Dec (j ≤ k) → Meets d k c j c' j
              pick (yes h) = low j j h n (omega arith)
              pick (no h) = high j (omega arith) l n
