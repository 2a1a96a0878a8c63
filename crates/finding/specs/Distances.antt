-- Distances on the line, in whole stretches and a part of one: compared, subtracted, added up.
use Rattle.std.specs.Prelude.{◌≡◌, Bool, true, false, Option, Some, ℕ, suc, ◌+◌, ◌-◌, ◌*◌, ◌^◌, ◌≤◌, ◌<◌}
use Rattle.std.proofs.Common.{ap, arith, add-mul, mul-le-mul_right}
use Rattle.std.specs.declared.cmp.Ordering.{Ordering}
use Rattle.std.specs.Ordering.{partial_ordering_then, nat_cmp, partial_le, partial_gt}
use Rattle.std.proofs.lemmas.Bool.Decides.{nat_tests}
use Rattle.std.proofs.Math.Decide.{dec_lt}
use Rattle.finding.specs.declared.Ahead.{Ahead}
use Rattle.finding.specs.Finding.{distance}

abbrev pub ahead_by : ℕ → ℕ → Ahead
ahead_by stretches part = record { stretches = stretches; part = part }

-- one is no greater than the other
pub data NoLater (a b : Ahead) : Type 0 where
  lower : a.stretches < b.stretches → NoLater a b
  level : a.stretches ≡ b.stretches → a.part ≤ b.part → NoLater a b

-- as the order of their fields tells it
abbrev order : Ahead → Ahead → Option Ordering
order a b = partial_ordering_then (Some (nat_cmp a.stretches b.stretches)) (Some (nat_cmp a.part b.part))

abbrev pub no_later : Ahead → Ahead → Bool
no_later = partial_le order

abbrev pub later : Ahead → Ahead → Bool
later = partial_gt order

pub no_later_is : (a b : Ahead) {r : Bool} → r ≡ no_later a b → r ≡ true → NoLater a b
no_later_is a b e t = grind (arith, nat_tests)

pub later_is : (a b : Ahead) {r : Bool} → r ≡ later a b → (r ≡ true → NoLater a b → ⊥) × (r ≡ false → NoLater a b)
later_is a b e = grind (arith, nat_tests)

-- as distances, for parts of a stretch; the first may be a whole one
pub no_later_far : {a b : Ahead} (S : ℕ) → a.part ≤ S → NoLater a b → distance S a ≤ distance S b
no_later_far {a} {b} S h (lower l) = omega (arith, mul-le-mul_right {m = suc a.stretches} {n = b.stretches} S l)
no_later_far {a} {b} S h (level e l) = omega (arith, ap (λ (n : ℕ). n * S) e)

pub later_far : {a b : Ahead} (S : ℕ) → b.part < S → (NoLater a b → ⊥) → distance S b < distance S a
later_far {a} {b} S h n = go (dec_lt a.stretches b.stretches) (dec_lt b.stretches a.stretches) (dec_lt b.part a.part)
  where
    go : Dec (a.stretches < b.stretches) → Dec (b.stretches < a.stretches) → Dec (b.part < a.part) → distance S b < distance S a
    go (yes l) k p = absurd (n (lower l))
    go (no l) (yes k) p = omega (arith, mul-le-mul_right {m = suc b.stretches} {n = a.stretches} S k)
    go (no l) (no k) (yes p) = let e : a.stretches ≡ b.stretches = omega arith in omega (arith, ap (λ (n : ℕ). n * S) e)
    go (no l) (no k) (no p) = absurd (n (level (omega arith) (omega arith)))

-- the front is no later than any place
pub front_first : {a b : Ahead} (S : ℕ) → 0 < S → distance S a ≡ 0 → NoLater a b
front_first {a} {b} S h e = go (dec_lt 0 a.stretches) (dec_lt 0 b.stretches)
  where
    go : Dec (0 < a.stretches) → Dec (0 < b.stretches) → NoLater a b
    go (yes l) k = absurd (omega (arith, mul-le-mul_right {m = 1} {n = a.stretches} S l))
    go (no l) (yes k) = lower (omega arith)
    go (no l) (no k) = level (omega arith) (omega arith)

-- the difference
pub record BetweenReady (from to : Ahead) (stretch : ℕ) : Type 0 where
  pub order : NoLater from to
  pub from_small : from.part ≤ stretch
  pub to_small : to.part < stretch
  pub fits : 2 * stretch < 2 ^ 64

pub record BetweenIs (from to : Ahead) (stretch : ℕ) (r : Ahead) : Type 0 where
  pub sum : distance stretch r + distance stretch from ≡ distance stretch to
  pub part_small : r.part < stretch

module _ {from to : Ahead} {stretch : ℕ} (ready : BetweenReady from to stretch) where
  between_order : NoLater from to → from.stretches ≤ to.stretches
  between_order (lower l) = omega arith
  between_order (level e l) = omega arith

  pub between_some : from.stretches ≤ to.stretches
  between_some = between_order ready.order

  between_lower : to.part < from.part → NoLater from to → 1 ≤ to.stretches - from.stretches
  between_lower h (lower l) = omega arith
  between_lower h (level e l) = absurd (omega arith)

  pub between_more : to.part < from.part → 1 ≤ to.stretches - from.stretches
  between_more h = between_lower h ready.order

module _ {s p t q stretch : ℕ} (ready : BetweenReady (ahead_by s p) (ahead_by t q) stretch) where
  pub between_back : q < p → BetweenIs (ahead_by s p) (ahead_by t q) stretch (ahead_by (t - s - 1) (q + (stretch - p)))
  between_back h = record { sum = by (t - s - 1) (omega (arith, between_more ready h)); part_small = omega (arith, ready.from_small) }
    where
      by : (k : ℕ) → t ≡ suc k + s → k * stretch + (q + (stretch - p)) + (s * stretch + p) ≡ t * stretch + q
      by k e = rw (e, add-mul (suc k) s stretch) (omega (arith, ready.from_small))

  pub between_on : p ≤ q → BetweenIs (ahead_by s p) (ahead_by t q) stretch (ahead_by (t - s) (q - p))
  between_on h = record { sum = by (t - s) (omega (arith, between_some ready)); part_small = omega (arith, ready.to_small) }
    where
      by : (k : ℕ) → t ≡ k + s → k * stretch + (q - p) + (s * stretch + p) ≡ t * stretch + q
      by k e = rw (e, add-mul k s stretch) (omega arith)

-- the sum with a part
pub record JoinReady (a : Ahead) (size stretch : ℕ) : Type 0 where
  pub part_small : a.part < stretch
  pub size_small : size ≤ stretch
  pub fits : 2 * stretch < 2 ^ 64
  pub few : a.stretches + 1 < 2 ^ 64

pub record JoinedIs (a : Ahead) (size stretch : ℕ) (r : Ahead) : Type 0 where
  pub sum : distance stretch r ≡ distance stretch a + size
  pub part_small : r.part < stretch
