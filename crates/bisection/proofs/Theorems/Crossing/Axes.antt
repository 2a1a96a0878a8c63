-- One axis of two frames that share a facet's vertices: where it stands in the second, and which sides it has there,
-- told by the first vertex at which it leaves its near side.
use Rattle.std.specs.Prelude.{◌≡◌, ◌≢◌, ℕ, suc, ◌+◌, ◌-◌, ◌≤◌, ◌<◌}
use Rattle.std.proofs.Common.{sym, arith}
use Rattle.std.proofs.Math.Decide.{dec_lt, dec_le, ℕ_discrete}
use Rattle.bisection.specs.Theorems.Crossing.Rows.{row}
use Rattle.bisection.proofs.Theorems.Crossing.Rows.{row_before, row_in, row_past, sides_odd, go_before, go_after, far_same, was_after}
use Rattle.bisection.specs.Theorems.Crossing.Axes.{Exchange, Fits, Turn, down, edge, first, inner, past, stay, up}

module _ {d k p x y p' x' y' : ℕ} (o : Fits d k p x y) (o' : Fits d k p' x' y') where
  module _ {i : ℕ} (i1 : 1 ≤ i) (agree : (j : ℕ) → j ≤ d → j ≢ i → row k p x y j ≡ row k p' x' y' j) where
    pub near_kept : x' ≡ x
    near_kept = omega (arith, agree 0 (omega arith) (omega arith), row_before k p x y 0 o.first, row_before k p' x' y' 0 o'.first)

    after : (j : ℕ) → j ≤ d → j ≢ i → p ≤ j → p' ≤ j
    after j l n = go_after o.sides o'.sides (sym near_kept) k p p' j j (agree j l n)

    after' : (j : ℕ) → j ≤ d → j ≢ i → p' ≤ j → p ≤ j
    after' j l n = go_after o'.sides o.sides near_kept k p' p j j (sym (agree j l n))

    -- a facet that has vertex 0, the same places
    pub kept : Exchange i (suc i) p p' (x' ≡ x) (x' ≡ x)
    kept = go (dec_lt p p') (dec_lt p' p) (ℕ_discrete p i) (ℕ_discrete p' i)
      where
        go : Dec (p < p') → Dec (p' < p) → Dec (p ≡ i) → Dec (p' ≡ i) → Exchange i (suc i) p p' (x' ≡ x) (x' ≡ x)
        go (no a) (no b) u v = stay (omega arith) near_kept
        go (yes a) b (no u) v = absurd (omega (arith, after p o.last u (omega arith)))
        go (yes a) b (yes u) v = up u (omega (arith, after (suc p) (omega arith) (omega arith) (omega arith))) near_kept
        go (no a) (yes b) u (no v) = absurd (omega (arith, after' p' o'.last v (omega arith)))
        go (no a) (yes b) u (yes v) = down (omega (arith, after' (suc p') (omega arith) (omega arith) (omega arith))) v near_kept

    pub kept_past : d ≤ i → p' ≡ p
    kept_past h = go kept
      where
        go : Exchange i (suc i) p p' (x' ≡ x) (x' ≡ x) → p' ≡ p
        go (stay e w) = e
        go (up e q w) = absurd (omega (arith, o'.last))
        go (down e q w) = absurd (omega (arith, o.last))

    pub far_kept : (j : ℕ) → j ≤ d → j ≢ i → p ≤ j → p' ≤ j → y' ≡ y
    far_kept j l n h h' = sym (far_same (sym near_kept) k p p' j (agree j l n) h h')

  -- an axis that stood first, and now has its far side for near
  pub flipped : p ≡ 1 → 1 ≤ k → k < d → x' ≡ y → row k p x y d ≡ row k p' x' y' d → row k p x y (suc k) ≡ row k p' x' y' (suc k) → (p' ≡ suc k) × (y' ≡ x)
  flipped e k1 kd w at_d at_k = (go (dec_le p' k), omega (arith, at_d, row_past k p x y d o.last kd, row_past k p' x' y' d o'.last kd))
    where
      top : p' ≤ suc k
      top = was_after o'.sides k p' (suc k) (λ r. o.sides.apart (omega (arith, row_past k p x y (suc k) (omega arith) (omega arith))))

      go : Dec (p' ≤ k) → p' ≡ suc k
      go (yes h) = absurd (omega (arith, sides_odd o.sides, o.even (omega arith), o'.even h))
      go (no h) = omega (arith, top)

module _ {d k p x y p' x' y' : ℕ} (o : Fits d k p x y) (o' : Fits d k p' x' y') (k1 : 1 ≤ k) (kd : k < d) (agree : (j : ℕ) → j ≤ d → j ≢ 0 → row k p x y j ≡ row k p' x' y' j) where
  -- a facet without vertex 0, the same places, inside a level
  Traded : Type 0
  Traded = Exchange 1 (suc k) p p' ((x' ≡ x) × (y' ≡ y)) ((x' ≡ y) × (y' ≡ x))

  pub swapped : Exchange 1 (suc k) p p' ((x' ≡ x) × (y' ≡ y)) ((x' ≡ y) × (y' ≡ x))
  unfolding Traded
  swapped = go (ℕ_discrete p 1) (ℕ_discrete p' 1)
    where
      one : row k p x y 1 ≡ row k p' x' y' 1
      one = agree 1 (omega arith) (omega arith)

      last : row k p x y d ≡ row k p' x' y' d
      last = agree d (omega arith) (omega arith)

      mid : row k p x y (suc k) ≡ row k p' x' y' (suc k)
      mid = agree (suc k) (omega arith) (omega arith)

      total : x + y ≡ x' + y'
      total = omega (arith, last, row_past k p x y d o.last kd, row_past k p' x' y' d o'.last kd)

      go : Dec (p ≡ 1) → Dec (p' ≡ 1) → Traded
      go (yes a) (yes b) =
          let w : y' ≡ y = omega (arith, one, row_in k p x y 1 (omega arith) k1, row_in k p' x' y' 1 (omega arith) k1) in
          stay (omega arith) (omega (arith, total), w)
      go (yes a) (no b) =
          let w : x' ≡ y = omega (arith, one, row_in k p x y 1 (omega arith) k1, row_before k p' x' y' 1 (omega (arith, o'.first))) in
          let f : (p' ≡ suc k) × (y' ≡ x) = flipped o o' a k1 kd w last mid in
          up a f.0 (w, f.1)
      go (no a) (yes b) =
          let w : x ≡ y' = omega (arith, one, row_in k p' x' y' 1 (omega arith) k1, row_before k p x y 1 (omega (arith, o.first))) in
          let f : (p ≡ suc k) × (y ≡ x') = flipped o' o b k1 kd w (sym last) (sym mid) in
          down f.0 b (sym f.1, sym w)
      go (no a) (no b) = stay (order (dec_lt p p') (dec_lt p' p)) (sym w, omega (arith, total, w))
        where
          w : x ≡ x'
          w = omega (arith, one, row_before k p x y 1 (omega (arith, o.first)), row_before k p' x' y' 1 (omega (arith, o'.first)))

          order : Dec (p < p') → Dec (p' < p) → p' ≡ p
          order (yes c) e = absurd (omega (arith, go_after o.sides o'.sides w k p p' p p (agree p o.last (omega arith)) (omega arith)))
          order (no c) (yes e) = absurd (omega (arith, go_after o'.sides o.sides (sym w) k p' p p' p' (sym (agree p' o'.last (omega arith))) (omega arith)))
          order (no c) (no e) = omega arith

-- the same at the start of a level, k = d
module _ {d p x y p' x' y' : ℕ} (o : Fits d d p x y) (o' : Fits d d p' x' y') (agree : (j : ℕ) → j ≤ d → j ≢ 0 → row d p x y j ≡ row d p' x' y' j) where
  pub whole_far : y' ≡ y
  whole_far = omega (arith, agree d (omega arith) (omega arith), row_in d p x y d o.last (omega arith), row_in d p' x' y' d o'.last (omega arith))

  pub whole_at : p' ≡ p
  whole_at = order (dec_lt p p') (dec_lt p' p)
    where
      order : Dec (p < p') → Dec (p' < p) → p' ≡ p
      order (yes c) e = absurd (omega (arith, whole_far, agree p o.last (omega arith), row_in d p x y p (omega arith) o.last, row_before d p' x' y' p c, sides_odd o'.sides, o'.even o'.last, sides_odd o.sides, o.even o.last))
      order (no c) (yes e) = absurd (omega (arith, whole_far, agree p' o'.last (omega arith), row_in d p' x' y' p' (omega arith) o'.last, row_before d p x y p' e, sides_odd o'.sides, o'.even o'.last, sides_odd o.sides, o.even o.last))
      order (no c) (no e) = omega arith

  pub whole_near : 2 ≤ p → x' ≡ x
  whole_near h = omega (arith, agree 1 (omega (arith, o.last)) (omega arith), row_before d p x y 1 h, row_before d p' x' y' 1 (omega (arith, whole_at)))

module _ {d k p x y p' x' y' : ℕ} (o : Fits d k p x y) (o' : Fits d k p' x' y') (k1 : 1 ≤ k) (corner : (j : ℕ) → j < k → row k p x y (suc j) ≡ row k p' x' y' j) where
  turn_first : p ≡ 1 → x' ≡ y
  turn_first e = omega (arith, corner 0 k1, row_in k p x y 1 (omega arith) k1, row_before k p' x' y' 0 o'.first)

  pub no_turn : d ≤ k → p ≢ 1
  no_turn dk e = omega (arith, turn_first e, sides_odd o.sides, o.even (omega arith), o'.even (omega (arith, o'.last)))

  module _ (kd : k < d) (other : (j : ℕ) → k < j → j ≤ d → row k p x y j ≡ row k p' x' y' j) where
    pub turned : Turn k p x y p' x' y'
    turned = go (ℕ_discrete p 1)
      where
        last : row k p x y d ≡ row k p' x' y' d
        last = other d kd (omega arith)

        mid : row k p x y (suc k) ≡ row k p' x' y' (suc k)
        mid = other (suc k) (omega arith) (omega arith)

        total : x + y ≡ x' + y'
        total = omega (arith, last, row_past k p x y d o.last kd, row_past k p' x' y' d o'.last kd)

        go : Dec (p ≡ 1) → Turn k p x y p' x' y'
        go (yes a) = let f : (p' ≡ suc k) × (y' ≡ x) = flipped o o' a k1 kd (turn_first a) last mid in first a f.0 (turn_first a) f.1
        go (no a) = rest (dec_le p k) (ℕ_discrete p (suc k))
          where
            w : x ≡ x'
            w = omega (arith, corner 0 k1, row_before k p x y 1 (omega (arith, o.first)), row_before k p' x' y' 0 o'.first)

            v : y' ≡ y
            v = omega (arith, total, w)

            after : (i j : ℕ) → row k p x y i ≡ row k p' x' y' j → p ≤ i → p' ≤ j
            after i j = go_after o.sides o'.sides w k p p' i j

            before : (i j : ℕ) → row k p x y i ≡ row k p' x' y' j → i < p → j < p'
            before i j = go_before o.sides o'.sides w k p p' i j

            rest : Dec (p ≤ k) → Dec (p ≡ suc k) → Turn k p x y p' x' y'
            rest (yes b) c = inner (omega (arith, o.first)) b
                (omega (arith, after (suc (p - 1)) (p - 1) (corner (p - 1) (omega arith)) (omega arith), before (suc (p - 2)) (p - 2) (corner (p - 2) (omega arith)) (omega (arith, o.first)), o.first)) (sym w) v
            rest (no b) (yes c) = edge c (omega (arith, before (suc (k - 1)) (k - 1) (corner (k - 1) (omega arith)) (omega arith))) (after (suc k) (suc k) mid (omega arith)) (sym w) v
            rest (no b) (no c) = past (omega arith) (omega (arith, after p p (other p (omega arith) o.last) (omega arith), before (p - 1) (p - 1) (other (p - 1) (omega arith) (omega (arith, o.last))) (omega arith))) (sym w) v
