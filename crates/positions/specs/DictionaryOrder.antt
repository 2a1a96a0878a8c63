-- The roots of dimension d stand in dictionary order of their permutations, for every d. Of two arrangements of a list
-- that rises, the one with the smaller number is earlier: it picks the smaller element first, or the same one and then
-- arranges the rest earlier.
use Rattle.std.specs.Prelude.{◌≡◌, refl, List, [], ◌∷◌, ℕ, suc, ◌+◌, ◌*◌, ◌≤◌, ◌<◌, length, get_or}
use Rattle.std.proofs.Common.{sym, ap, ◌∙◌, subst, arith, mul-le-mul_right}
use Rattle.std.proofs.Math.Decide.{dec_le, dec_lt}
use Rattle.dimension.specs.Sizes.{root_count}
use Rattle.bisection.specs.Roots.{Earlier, smaller, same_step, axes_from, roots}
use Rattle.positions.specs.Arrangements.{Picked, here, there, place, picked_length, Arranged, none, next, arranged_length, rank, rank_under}
use Rattle.positions.specs.Rising.{Rising, ends, goes_on, picked_over, picked_rising, rank_is}
use Rattle.positions.specs.RootNumbers.{number_is, axes_rise, permutation_arranged, roots_length, roots_permutation, roots_number}

-- of two picks from a list that rises, the one at the earlier place is the smaller
place_rises : {a x y : ℕ} {xs rest rest' : List ℕ} → Rising a xs → (p : Picked x xs rest) (q : Picked y xs rest') → place p < place q → x < y
unfolding place
place_rises (goes_on l r) here here h = absurd (omega arith)
place_rises (goes_on l r) here (there q) h = picked_over r q
place_rises (goes_on l r) (there p) here h = absurd (omega arith)
place_rises (goes_on l r) (there p) (there q) h = place_rises r p q (omega arith)
place_rises ends p q h = elim p [ ]

-- two picks at one place are the same
place_one : {x y : ℕ} {xs rest rest' : List ℕ} (p : Picked x xs rest) (q : Picked y xs rest') → place p ≡ place q → (x ≡ y) × (rest ≡ rest')
unfolding place
place_one here here e = (refl, refl)
place_one here (there q) e = absurd (omega arith)
place_one (there p) here e = absurd (omega arith)
place_one (there {y = z} p) (there q) e = let o = place_one p q (omega arith) in (o.0, ap (λ (l : List ℕ). z ∷ l) o.1)

-- of two numbers in places of m, the smaller has no greater place, and at the same place the smaller rest
place_first : (p q m r s : ℕ) → p * m + r < q * m + s → s < m → p ≤ q
place_first p q m r s h l = go (dec_le p q)
  where
    go : Dec (p ≤ q) → p ≤ q
    go (yes k) = k
    go (no k) = absurd (omega (arith, mul-le-mul_right {m = suc q} {n = p} m (omega arith)))

rest_first : (p q m r s : ℕ) → p * m + r < q * m + s → p ≡ q → r < s
rest_first p q m r s h e = omega (arith, ap (λ (k : ℕ). k * m) e)

-- of two arrangements the one with the smaller number is earlier
rank_rises : {a : ℕ} {xs ws vs : List ℕ} → Rising a xs → (r : Arranged xs ws) (s : Arranged xs vs) → rank r < rank s → Earlier ws vs
unfolding rank
rank_rises u none none h = absurd (omega arith)
rank_rises u none (next q s) h = elim q [ ]
rank_rises u (next p r) none h = elim p [ ]
rank_rises u (next {x} {xs} {rest} {ws} p r) (next {x = y} {ws = vs} q s) h = go (dec_lt (place p) (place q)) (λ t. rank_rises (picked_rising u p) r t)
  where
    m : ℕ
    m = root_count (length ws)

    size : length vs ≡ length ws
    size = omega (arith, picked_length p, picked_length q, arranged_length r, arranged_length s)

    less : place p * m + rank r < place q * m + rank s
    less = rw size at h

    go : Dec (place p < place q) → ((t : Arranged rest vs) → rank r < rank t → Earlier ws vs) → Earlier (x ∷ ws) (y ∷ vs)
    go (yes k) on = smaller (place_rises u p q k)
    go (no k) on =
        let e : place p ≡ place q = omega (arith, place_first (place p) (place q) m (rank r) (rank s) less (rw size at (rank_under s))) in
        let o = place_one p q e in
        let moved = subst (λ (l : List ℕ). (t : Arranged l vs) → rank r < rank t → Earlier ws vs) o.1 on in
        subst (λ (z : ℕ). Earlier (x ∷ ws) (z ∷ vs)) o.0 (same_step (moved s (rest_first (place p) (place q) m (rank r) (rank s) less e)))

-- root i is an arrangement of the axes, and its number is i
module _ (d i : ℕ) (h : i < length (roots d)) where
  root_arranged : Arranged (axes_from 1 d) (get_or (roots d) i [])
  root_arranged = rw (roots_length d i h) at (permutation_arranged (get_or (roots d) i []) (roots_permutation d i h))

  root_rank : rank root_arranged ≡ i
  root_rank = rank_is (axes_rise 1 d) root_arranged ∙ sym (number_is (get_or (roots d) i [])) ∙ rw (roots_length d i h) (roots_number d i h)

-- where i < j, root i is before root j in dictionary order
pub roots_rise : (d i j : ℕ) → i < j → j < length (roots d) → Earlier (get_or (roots d) i []) (get_or (roots d) j [])
roots_rise d i j h l = rank_rises (axes_rise 1 d) (root_arranged d i below) (root_arranged d j l) (omega (arith, root_rank d i below, root_rank d j l))
  where
    below : i < length (roots d)
    below = omega arith
