-- One axis of a cell, counted in halves of the box's side: an axis at place p, with its near side x box sides and its
-- far side y box sides from the cube's low side, has 2x at the vertices before p, 2y from p to k, and x + y past k.
use Rattle.std.specs.Prelude.{◌≡◌, ◌≢◌, ℕ, suc, ◌+◌, ◌*◌, ◌%◌, ◌≤◌, ◌<◌}
use Rattle.std.proofs.Common.{sym, arith}
use Rattle.std.proofs.Math.Decide.{dec_lt, dec_le}
use borrow.Author.Tests.{lt-ltb, le-ltb, le-leb, lt-leb}
use Rattle.bisection.specs.Theorems.Crossing.Rows.{Sides, row}

module _ (k p x y j : ℕ) where
  pub row_before : j < p → row k p x y j ≡ 2 * x
  unfolding row
  row_before q = simp (lt-ltb j p q)

  pub row_in : p ≤ j → j ≤ k → row k p x y j ≡ 2 * y
  unfolding row
  row_in q r = simp (le-ltb j p q, le-leb j k r)

  pub row_past : p ≤ j → k < j → row k p x y j ≡ x + y
  unfolding row
  row_past q r = simp (le-ltb j p q, lt-leb j k r)

pub sides_turn : {x y : ℕ} → Sides x y → Sides y x
sides_turn s = record { down = s.up; up = s.down; apart = λ q. s.apart (sym q) }

pub sides_odd : {x y : ℕ} → Sides x y → (x + y) % 2 ≡ 1
sides_odd {x} {y} s = go (dec_lt x y)
  where
    go : Dec (x < y) → (x + y) % 2 ≡ 1
    go (yes h) = let e : y ≡ suc x = omega arith in rw e (omega arith)
    go (no h) = let e : x ≡ suc y = omega arith in rw e (omega arith)

module _ {x y : ℕ} (s : Sides x y) (k p j : ℕ) where
  -- away from near is never near
  pub row_after : p ≤ j → row k p x y j ≢ 2 * x
  row_after h e = go (dec_le j k)
    where
      go : Dec (j ≤ k) → ⊥
      go (yes c) = omega (arith, row_in k p x y j h c)
      go (no c) = omega (arith, row_past k p x y j h (omega arith))

  pub was_before : row k p x y j ≡ 2 * x → j < p
  was_before e = go (dec_lt j p)
    where
      go : Dec (j < p) → j < p
      go (yes c) = c
      go (no c) = absurd (row_after (omega arith) e)

  pub was_after : row k p x y j ≢ 2 * x → p ≤ j
  was_after e = go (dec_lt j p)
    where
      go : Dec (j < p) → p ≤ j
      go (yes c) = absurd (e (row_before k p x y j c))
      go (no c) = omega arith

-- two rows with the same near: equal values are before or after together
module _ {x y x' y' : ℕ} (s : Sides x y) (t : Sides x' y') (w : x ≡ x') (k p q i j : ℕ) (e : row k p x y i ≡ row k q x' y' j) where
  pub go_before : i < p → j < q
  go_before h = was_before t k q j (omega (arith, row_before k p x y i h))

  pub go_after : p ≤ i → q ≤ j
  go_after h = was_after t k q j (λ r. row_after s k p i h (omega arith))

-- values past both places tell far
pub far_same : {x y x' y' : ℕ} (w : x ≡ x') (k p q j : ℕ) → row k p x y j ≡ row k q x' y' j → p ≤ j → q ≤ j → y ≡ y'
far_same {x} {y} {x'} {y'} w k p q j e h h' = go (dec_le j k)
  where
    go : Dec (j ≤ k) → y ≡ y'
    go (yes c) = omega (arith, row_in k p x y j h c, row_in k q x' y' j h' c)
    go (no c) = omega (arith, row_past k p x y j h (omega arith), row_past k q x' y' j h' (omega arith))
