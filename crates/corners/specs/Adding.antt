-- What the entries add to a point: x t on the axis of entry t. On each axis that is what its one entry adds, and nothing on an axis that has none.
use Rattle.std.specs.Prelude.{◌≡◌, ◌≢◌, List, eqb, get_or}
use Rattle.std.proofs.Math.Path.{refl, ap}
use Rattle.std.proofs.Common.{sym, ◌∙◌, arith, add-zero, zero-add, eq-eqb, ne_eqb}
use Rattle.std.proofs.Math.Bool.{cond}
use Prim.Native.Nat.{ℕ, zero, suc, ◌+◌, ◌≤◌, ◌<◌}
use Rattle.std.proofs.Math.Decide.{dec_lt, dec_le, ℕ_discrete}
use Rattle.std.proofs.Math.ListN.{get_or-eq_default}
use Rattle.bisection.specs.Codes.{axis}
use Rattle.bisection.specs.Theorems.Entries.{Signed, Stands}
use Rattle.bisection.proofs.Theorems.Entries.{stands}
use Rattle.entries.specs.Masks.{axis_none}
use Rattle.corners.specs.PointWords.{on_axis}

-- so far t entries
unfoldable pub up : List ℕ → (ℕ → ℕ) → ℕ → ℕ → ℕ
up es x zero a = 0
up es x (suc t) a = up es x t a + on_axis (axis (get_or es t 0)) (x t) a

module _ (es : List ℕ) (x : ℕ → ℕ) (a : ℕ) where
  up_none : (n : ℕ) → ((t : ℕ) → t < n → axis (get_or es t 0) ≢ a) → up es x n a ≡ 0
  unfolding up on_axis
  up_none zero h = refl
  up_none (suc n) h = rw (ne_eqb a (axis (get_or es n 0)) (λ e. h n (omega arith) (sym e)), up_none n (λ t l. h t (omega arith))) refl

  -- one entry has the axis
  module _ (s : ℕ) (is : axis (get_or es s 0) ≡ a) (only : (t : ℕ) → axis (get_or es t 0) ≡ a → t ≡ s) where
    up_before : (n : ℕ) → n ≤ s → up es x n a ≡ 0
    up_before n h = up_none n (λ t l e. omega (arith, only t e))

    up_after : (n : ℕ) → s < n → up es x n a ≡ x s
    unfolding up on_axis
    up_after zero h = absurd (omega arith)
    up_after (suc n) h = go (ℕ_discrete n s) (λ l. up_after n l)
      where
        go : Dec (n ≡ s) → (s < n → up es x n a ≡ x s) → up es x n a + cond (eqb a (axis (get_or es n 0))) (x n) 0 ≡ x s
        go (yes e) i = rw (eq-eqb a (axis (get_or es n 0)) (sym is ∙ ap (λ (t : ℕ). axis (get_or es t 0)) (sym e)), up_before n (omega arith), e) (zero-add (x s))
        go (no e) i = rw (ne_eqb a (axis (get_or es n 0)) (λ q. e (only n (sym q))), i (omega arith)) (add-zero (x s))

-- of a signed permutation, on each axis that it has, and on one that it lacks
module _ {d : ℕ} {es : List ℕ} (g : Signed d es) (x : ℕ → ℕ) (a : ℕ) (low : 1 ≤ a) where
  within : (t : ℕ) → axis (get_or es t 0) ≡ a → t < d
  within t e = go (dec_lt t d)
    where
      go : Dec (t < d) → t < d
      go (yes h) = h
      go (no h) = absurd (omega (arith, low, sym e ∙ ap axis (get_or-eq_default es 0 {n = t} (omega (arith, g.size))) ∙ axis_none))

  pub up_lacks : d < a → (n : ℕ) → up es x n a ≡ 0
  up_lacks h n = up_none es x a n (λ t l e. omega (arith, g.high t (within t e), e))

  module _ (h : a ≤ d) where
    pub there : Stands es a d
    there = stands g a low h

    only : (t : ℕ) → axis (get_or es t 0) ≡ a → t ≡ there.place
    only t e = g.apart t there.place (within t e) there.below (e ∙ sym there.is)

    pub up_has : (n : ℕ) → there.place < n → up es x n a ≡ x there.place
    up_has n l = up_after es x a there.place there.is only n l

    up_early : (n : ℕ) → n ≤ there.place → up es x n a ≡ 0
    up_early n l = up_before es x a there.place there.is only n l

  pub up_most : (s : ℕ) → ((t : ℕ) → x t ≤ s) → (n : ℕ) → up es x n a ≤ s
  up_most s m n = go (dec_le a d)
    where
      first : (h : a ≤ d) → Dec ((there h).place < n) → up es x n a ≤ s
      first h (yes l) = rw (up_has h n l) (m (there h).place)
      first h (no l) = rw (up_early h n (omega arith)) (omega arith)

      go : Dec (a ≤ d) → up es x n a ≤ s
      go (yes h) = first h (dec_lt (there h).place n)
      go (no h) = rw (up_lacks (omega arith) n) (omega arith)
