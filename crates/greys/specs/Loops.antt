-- What the loops of `sample` and `grey_sum` keep.
use Rattle.std.specs.Prelude.{◌≡◌, refl, List, [], ◌∷◌, ◌++◌, ℕ, suc, ◌+◌, ◌*◌, ◌^◌, ◌≤◌, ◌<◌, length, take, drop}
use Rattle.std.proofs.Common.{sym, ◌∙◌, arith, add-one, append_assoc, length-append, length-take, length-take-le, get_or-drop, get_or-append-add, mul-le-mul_right}
use Rattle.std.proofs.lemmas.List.{append-nil, nil_from_length}
use Rattle.std.proofs.Math.Path.{ap}
use Rattle.std.proofs.Math.Nat.{mul-le-mul_left, pow-succ', pow-le-pow_right}
use Rattle.std.proofs.Math.Decide.{dec_lt}
use Rattle.std.proofs.Math.ListN.{get_or, get_or-eq_default}
use Rattle.std.proofs.Math.Seq.{get_or-take}
use Rattle.bisection.specs.Weights.{sum_to, total}
use Rattle.bisection.proofs.Theorems.Weights.Sums.{sum_rises}
use Rattle.greys.specs.Samples.{low_first, sample_at, grey_sum, Weighable}

-- ---- a sample: the bytes that are left, and behind them those that are read

-- a part of some bytes
part_small : (samples : List ℕ) (first width : ℕ) → ((k : ℕ) → get_or samples k 0 < 256) → (k : ℕ) → get_or (take width (drop first samples)) k 0 < 256
part_small samples first width small k = go (dec_lt k width)
  where
    go : Dec (k < width) → get_or (take width (drop first samples)) k 0 < 256
    go (yes l) = rw (get_or-take width (drop first samples) k 0 l, get_or-drop first samples k 0) (small (first + k))
    go (no l) = rw (get_or-eq_default (take width (drop first samples)) 0 {n = k} (omega (arith, length-take width (drop first samples)))) (omega arith)

pub record Reading (sample left : List ℕ) (n : ℕ) : Type 0 where
  pub few : length sample ≤ 3
  pub small : (k : ℕ) → get_or sample k 0 < 256
  pub read : List ℕ
  pub whole : left ++ read ≡ sample
  pub is : n ≡ low_first read
  pub under : n < 256 ^ length read

pub reading_start : (samples : List ℕ) (first width : ℕ) {left : List ℕ} → width ≤ 3 → ((k : ℕ) → get_or samples k 0 < 256) → left ≡ take width (drop first samples) → Reading (take width (drop first samples)) left 0
unfolding low_first
reading_start samples first width {left} few small e = record {
  few = omega (arith, length-take width (drop first samples));
  small = part_small samples first width small;
  read = [];
  whole = append-nil left ∙ e;
  is = refl;
  under = omega arith;
}

module _ {sample left : List ℕ} {n : ℕ} (g : Reading sample left n) where
  pub reading_small : n < 2 ^ 24
  reading_small = omega (arith, g.under, pow-le-pow_right {n = 256} (omega arith) {i = length g.read} {j = 3} (omega (arith, g.few, ap length g.whole, length-append left g.read)))

  pub reading_next : {rest : List ℕ} (b : ℕ) → left ≡ rest ++ (b ∷ []) → Reading sample rest (256 * n + b)
  unfolding low_first
  reading_next {rest} b e = record {
    few = g.few;
    small = g.small;
    read = b ∷ g.read;
    whole = whole;
    is = omega (arith, g.is);
    under = omega (arith, g.under, byte, pow-succ' 256 (length g.read));
  }
    where
      whole : rest ++ (b ∷ g.read) ≡ sample
      whole = sym (append_assoc rest (b ∷ []) g.read) ∙ rw e at g.whole

      byte : b < 256
      byte = rw (get_or-append-add rest (b ∷ g.read) 0 0) at (rw (← whole) at g.small (length rest + 0))

  pub reading_end : length left ≡ 0 → n ≡ low_first sample
  reading_end z = g.is ∙ ap low_first (rw (nil_from_length left z) at g.whole)

-- ---- the sum: the first j samples are weighed, each below 2^24

pub record Summing (width : ℕ) (ws samples : List ℕ) (j sum : ℕ) : Type 0 where
  pub room : width * length ws ≤ length samples
  pub narrow : width ≤ 3
  pub light : total ws ≤ 2 ^ 15
  pub inside : j ≤ length ws
  pub is : sum ≡ sum_to j (λ i. get_or ws i 0 * sample_at width samples i)
  pub under : sum ≤ sum_to j (λ i. get_or ws i 0) * 2 ^ 24

pub summing_start : {width d n : ℕ} {ws samples : List ℕ} → Weighable width d ws samples → n ≡ d → suc d ≤ length ws → Summing width (take (n + 1) ws) samples 0 0
unfolding sum_to
summing_start {d = d} {ws = ws} r e some = rw (e, add-one d) (record {
  room = rw (length-take-le (suc d) ws some) r.room;
  narrow = r.narrow;
  light = r.light;
  inside = omega arith;
  is = refl;
  under = omega arith;
})

module _ {width : ℕ} {ws samples : List ℕ} {j sum : ℕ} (g : Summing width ws samples j sum) where
  -- it stays small for weights of sum at most 2^15
  small : sum ≤ 2 ^ 39
  unfolding total
  small = omega (arith, g.under, mul-le-mul_right (2 ^ 24) (sum_rises (λ i. get_or ws i 0) j (length ws) g.inside), mul-le-mul_right (2 ^ 24) g.light)

  -- sample j is there, and is the next one weighed; b is the width as the code has it
  module _ {b : ℕ} (e : b ≡ width) (l : j < length ws) where
    pub summing_room : (b ≤ 3) × (b * suc j ≤ length samples)
    summing_room = rw e (g.narrow, omega (arith, g.room, mul-le-mul_left {m = suc j} {n = length ws} width (omega arith)))

    pub summing_next : {n : ℕ} → (n ≡ sample_at b samples j) × (n < 2 ^ 24) → Summing width ws samples (j + 1) (sum + get_or ws j 0 * n)
    unfolding sum_to
    summing_next {n} s = rw (add-one j) (record {
      room = g.room;
      narrow = g.narrow;
      light = g.light;
      inside = l;
      is = omega (arith, g.is, ap (λ (z : ℕ). get_or ws j 0 * z) (rw e at s.0));
      under = omega (arith, g.under, mul-le-mul_left {m = n} {n = 2 ^ 24} (get_or ws j 0) (omega (arith, s.1)));
    })

  pub summing_end : length ws ≤ j → (sum ≡ grey_sum width ws samples) × (sum < 2 ^ 53)
  unfolding grey_sum
  summing_end l = let e : length ws ≡ j = omega (arith, g.inside) in (rw e g.is, omega (arith, small))

pub summing_fits : {width b j sum n : ℕ} {ws samples : List ℕ} → Summing width ws samples j sum → b ≡ width → j < length ws → (n ≡ sample_at b samples j) × (n < 2 ^ 24) → sum + get_or ws j 0 * n < 2 ^ 64
summing_fits g e l s = omega (arith, small (summing_next g e l s))
