-- Four orthants as a word: which of them stop the carry, how many it passes from the last one back, and their flips.
use Rattle.std.specs.Prelude.{◌≡◌, Bool, not, cond, List, ℕ, zero, suc, ◌+◌, ◌-◌, ◌*◌, ◌/◌, ◌%◌, ◌^◌, ◌≤◌, ◌<◌, eqb, ltb, length, get_or}
use Rattle.std.proofs.Math.Path.{refl}
use Rattle.std.proofs.Common.{sym, ap, ◌∙◌, arith, mod-lt, mul_comm, pow_pos, eqb-true, lt-ltb, le-ltb}
use Rattle.std.proofs.Math.Bool.{true, false}
use Rattle.std.proofs.Math.Nat.{div-div-eq-div-mul}
use Rattle.std.proofs.Math.Decide.{dec_lt, ℕ_discrete}
use Rattle.std.specs.Int.Bits.{bit_and, bit_xor, xor_step, xor_zero_r}
use Rattle.std.proofs.lemmas.Nat.{and_mask, and_le_r, xor_block}
use Rattle.std.specs.Int.Count.{count_leading_zeros, leading_unique}
use Rattle.std.proofs.Math.Pow.{field, mod-mod-pow}
use Rattle.bisection.specs.Codes.{high}
use Rattle.bisection.specs.Refusals.{each, same_sign}
use Rattle.bisection.proofs.Theorems.Checked.{each_at}
use Rattle.bisection.specs.Theorems.Table.{flipped}
use Rattle.bisection.specs.Theorems.Crossing.Flips.{Parts, digit}
use Rattle.bisection.proofs.Theorems.Crossing.Flips.{parts}
use Rattle.entries.specs.Masks.{shifted_bit}
use Rattle.entries.specs.Words.{bytes_of, byte_at, and_byte, xor_byte, WordAt, word_byte, Puts, bytes_sum}
use Rattle.moves.specs.Carrying.{passes, Flips}

-- the lowest bit of each byte
abbrev ones : ℕ
ones = 16843009

-- ---- the orthants that stop the carry

-- 1 where the orthant at place m of the word stops it
abbrev stops : Bool → ℕ → ℕ → ℕ → ℕ
stops up a w m = cond (passes up a (get_or (bytes_of w) m 0)) 0 1

pub record Stopping (up : Bool) (a w r : ℕ) : Type 0 where
  pub is : r ≡ stops up a w 0 + 256 * stops up a w 1 + 65536 * stops up a w 2 + 16777216 * stops up a w 3

-- the bit at place a of byte m
abbrev bit : ℕ → ℕ → ℕ → ℕ
bit w a m = get_or (bytes_of w) m 0 / 2 ^ a % 2

bit_small : (w a m : ℕ) → bit w a m < 2
bit_small w a m = mod-lt (get_or (bytes_of w) m 0 / 2 ^ a) (omega arith)

-- a bit of a byte is one of the word
bit_under : (x k : ℕ) → k < 8 → x / 2 ^ k % 256 % 2 ≡ x % 256 / 2 ^ k % 2
bit_under x k h = low (x / 2 ^ k) ∙ sym (ap (λ (e : ℕ). x % 2 ^ e / 2 ^ k % 2) whole ∙ ap (λ (y : ℕ). y % 2) (field x (7 - k + 1) k) ∙ mod-mod-pow (x / 2 ^ k) (7 - k) 1)
  where
    low : (y : ℕ) → y % 256 % 2 ≡ y % 2
    low y = omega arith

    whole : 8 ≡ 7 - k + 1 + k
    whole = omega arith

-- the shifted word has it at the foot of the byte
module _ (w a : ℕ) (few : a < 8) where
  foot : (m : ℕ) → m < 4 → get_or (bytes_of (bit_and (w / 2 ^ a) ones)) m 0 ≡ bit w a m
  foot m h = and_byte (w / 2 ^ a) ones m h ∙ ap (bit_and (get_or (bytes_of (w / 2 ^ a)) m 0)) (one m h) ∙ and_mask (get_or (bytes_of (w / 2 ^ a)) m 0) 1
      ∙ ap (λ (x : ℕ). x % 2) (sym (byte_at (w / 2 ^ a) m h)) ∙ ap (λ (x : ℕ). x % 256 % 2) (turn (8 * m)) ∙ bit_under (w / 2 ^ (8 * m)) a few
      ∙ ap (λ (x : ℕ). x / 2 ^ a % 2) (byte_at w m h)
    where
      one : (m : ℕ) → m < 4 → get_or (bytes_of ones) m 0 ≡ 1
      one zero h = refl
      one (suc zero) h = refl
      one (suc (suc zero)) h = refl
      one (suc (suc (suc zero))) h = refl
      one (suc (suc (suc (suc m)))) h = absurd (omega arith)

      turn : (n : ℕ) → w / 2 ^ a / 2 ^ n ≡ w / 2 ^ n / 2 ^ a
      turn n = div-div-eq-div-mul w (2 ^ a) (2 ^ n) ∙ ap (λ (x : ℕ). w / x) (mul_comm (2 ^ a) (2 ^ n)) ∙ sym (div-div-eq-div-mul w (2 ^ n) (2 ^ a))

  feet : bit_and (w / 2 ^ a) ones ≡ bit w a 0 + 256 * bit w a 1 + 65536 * bit w a 2 + 16777216 * bit w a 3
  feet = bytes_sum (bit_and (w / 2 ^ a) ones) (omega (arith, and_le_r (w / 2 ^ a) ones)) (foot 0 (omega arith)) (foot 1 (omega arith)) (foot 2 (omega arith)) (foot 3 (omega arith))

-- a sign and a bit
stop_plus : (b : ℕ) → b < 2 → b ≡ cond (same_sign false (eqb b 1)) 0 1
stop_plus zero h = refl
stop_plus (suc zero) h = refl
stop_plus (suc (suc b)) h = absurd (omega arith)

stop_minus : (b : ℕ) → b < 2 → 1 - b ≡ cond (same_sign true (eqb b 1)) 0 1
stop_minus zero h = refl
stop_minus (suc zero) h = refl
stop_minus (suc (suc b)) h = absurd (omega arith)

-- as the code finds them, of an entry with a plus and of one with a minus
module _ (w : ℕ) {a x : ℕ} (low : 1 ≤ a) (few : a ≤ 8) (is : x ≡ a) where
  b : ℕ → ℕ
  b = bit w (a - 1)

  small : (m : ℕ) → b m < 2
  unfolding b
  small = bit_small w (a - 1)

  read : bit_and (w / 2 ^ (x - 1)) ones ≡ b 0 + 256 * b 1 + 65536 * b 2 + 16777216 * b 3
  unfolding b
  read = rw is (feet w (a - 1) (omega arith))

  plus_is : (m : ℕ) → b m ≡ stops false a w m
  unfolding b high
  plus_is m = stop_plus (b m) (small m)

  minus_is : (m : ℕ) → 1 - b m ≡ stops true a w m
  unfolding b high
  minus_is m = stop_minus (b m) (small m)

  pub stopping_plus : {up t : Bool} → t ≡ up → t ≡ false → Stopping up a w (bit_and (w / 2 ^ (x - 1)) ones)
  stopping_plus e f = rw (sym e ∙ f) (record { is = read ∙ omega (arith, plus_is 0, plus_is 1, plus_is 2, plus_is 3) })

  pub stopping_minus : {up t : Bool} → t ≡ up → t ≡ true → Stopping up a w (ones - bit_and (w / 2 ^ (x - 1)) ones)
  stopping_minus e f = rw (sym e ∙ f) (record { is = omega (arith, read, small 0, small 1, small 2, small 3, minus_is 0, minus_is 1, minus_is 2, minus_is 3) })

-- ---- how many it passes

pub record Passed (up : Bool) (a w r : ℕ) : Type 0 where
  pub few : r ≤ 4
  pub passed : (m : ℕ) → 4 ≤ m + r → m < 4 → passes up a (get_or (bytes_of w) m 0) ≡ true
  pub stopped : r < 4 → passes up a (get_or (bytes_of w) (3 - r) 0) ≡ false

-- the first 1 from the top tells it
module _ {up : Bool} {a w r : ℕ} (s : Stopping up a w r) where
  p : ℕ → Bool
  p m = passes up a (get_or (bytes_of w) m 0)

  lead : (z k : ℕ) → z + k ≡ 32 → r < 2 ^ k → 2 ^ k ≤ 2 * r + 1 → count_leading_zeros 32 r / 8 ≡ z / 8
  lead z k e h l = ap (λ (x : ℕ). x / 8) (sym (leading_unique 32 r z k e h l))

  digits : {b0 b1 b2 b3 : Bool} → p 0 ≡ b0 → p 1 ≡ b1 → p 2 ≡ b2 → p 3 ≡ b3 → r ≡ cond b0 0 1 + 256 * cond b1 0 1 + 65536 * cond b2 0 1 + 16777216 * cond b3 0 1
  unfolding p
  digits e f g h = s.is ∙ rw (e, f, g, h) refl

  bit_of : (b : Bool) → cond b 0 1 < 2
  bit_of true = omega arith
  bit_of false = omega arith

  -- the carry passes n orthants, from the last one back
  record Back (n : ℕ) : Type 0 where
    at : (i : ℕ) → i < n → p (3 - i) ≡ true

  none : Back 0
  none = record { at = λ i l. absurd (omega arith) }

  more : {n : ℕ} → Back n → p (3 - n) ≡ true → Back (suc n)
  more {n} f q = record { at = λ i l. go i l (ℕ_discrete i n) }
    where
      go : (i : ℕ) → i < suc n → Dec (i ≡ n) → p (3 - i) ≡ true
      go i l (yes e) = ap (λ (x : ℕ). p (3 - x)) e ∙ q
      go i l (no e) = f.at i (omega arith)

  back : {n : ℕ} → Back n → (m : ℕ) → 4 ≤ m + n → m < 4 → p m ≡ true
  back f m l u = ap p there ∙ f.at (3 - m) (omega arith)
    where
      there : m ≡ 3 - (3 - m)
      there = omega arith

  pub passed_is : Passed up a w (count_leading_zeros 32 r / 8)
  unfolding p
  passed_is = go (p 3) (p 2) (p 1) (p 0) refl refl refl refl
    where
      go : (b3 b2 b1 b0 : Bool) → p 3 ≡ b3 → p 2 ≡ b2 → p 1 ≡ b1 → p 0 ≡ b0 → Passed up a w (count_leading_zeros 32 r / 8)
      go false b2 b1 b0 h g f e = rw (lead 7 25 refl (omega (arith, digits e f g h, bit_of b0, bit_of b1, bit_of b2)) (omega (arith, digits e f g h)))
          (record { few = omega arith; passed = back none; stopped = λ l. h })
      go true false b1 b0 h g f e = rw (lead 15 17 refl (omega (arith, digits e f g h, bit_of b0, bit_of b1)) (omega (arith, digits e f g h)))
          (record { few = omega arith; passed = back (more none h); stopped = λ l. g })
      go true true false b0 h g f e = rw (lead 23 9 refl (omega (arith, digits e f g h, bit_of b0)) (omega (arith, digits e f g h)))
          (record { few = omega arith; passed = back (more (more none h) g); stopped = λ l. f })
      go true true true false h g f e = rw (lead 31 1 refl (omega (arith, digits e f g h)) (omega (arith, digits e f g h)))
          (record { few = omega arith; passed = back (more (more (more none h) g) f); stopped = λ l. e })
      go true true true true h g f e = rw (lead 32 0 refl (omega (arith, digits e f g h)) (omega (arith, digits e f g h)))
          (record { few = omega arith; passed = back (more (more (more (more none h) g) f) e); stopped = λ l. absurd (omega arith) })

-- ---- the flips

-- a byte with one bit flipped, as xor makes it
bit_flipped : (u : ℕ) (t : Bool) → bit_xor (2 * u + digit t) 1 ≡ 2 * u + digit (not t)
bit_flipped u true = xor_step (2 * u + 1) 1 ∙ rw (half, odd, xor_zero_r u) (omega arith)
  where
    half : (2 * u + 1) / 2 ≡ u
    half = omega arith

    odd : (2 * u + 1) % 2 ≡ 1
    odd = omega arith
bit_flipped u false = xor_step (2 * u + 0) 1 ∙ rw (half, even, xor_zero_r u) (omega arith)
  where
    half : (2 * u + 0) / 2 ≡ u
    half = omega arith

    even : (2 * u + 0) % 2 ≡ 0
    even = omega arith

power_flipped : (o a : ℕ) → bit_xor o (2 ^ (a - 1)) ≡ flipped a o
power_flipped o a = ap (λ (x : ℕ). bit_xor x (2 ^ (a - 1))) p.byte ∙ ap (bit_xor whole) one
    ∙ xor_block (a - 1) (2 * p.above + digit p.bit) 1 p.below 0 p.low (pow_pos (a - 1))
    ∙ rw (bit_flipped p.above p.bit, xor_zero_r p.below) (sym p.flip)
  where
    p : Parts a o
    p = parts a o

    whole : ℕ
    whole = (2 * p.above + digit p.bit) * 2 ^ (a - 1) + p.below

    one : 2 ^ (a - 1) ≡ 1 * 2 ^ (a - 1) + 0
    one = omega arith

pub flipped_as : (o a : ℕ) → 1 ≤ a → a ≤ 8 → bit_xor o (1 * 2 ^ (a - 1) % 2 ^ 8) ≡ flipped a o
flipped_as o a h l = rw (shifted_bit 8 (a - 1) (omega arith)) (power_flipped o a)

-- the orthants of a word from number `first` on have their bit of axis a flipped
pub record FlippedFrom (first a w r : ℕ) : Type 0 where
  pub before : (m : ℕ) → m < first → m < 4 → get_or (bytes_of r) m 0 ≡ get_or (bytes_of w) m 0
  pub flips : (m : ℕ) → first ≤ m → m < 4 → get_or (bytes_of r) m 0 ≡ flipped a (get_or (bytes_of w) m 0)

-- the word of those bits
abbrev mask : ℕ → ℕ → ℕ
mask first a = ones * 2 ^ (8 * first) % 2 ^ 32 * 2 ^ a % 2 ^ 32

mask_table : each 4 (λ first. each 8 (λ a. each 4 (λ m. eqb (get_or (bytes_of (mask first a)) m 0) (cond (ltb m first) 0 (2 ^ a))))) ≡ true
unfolding each
mask_table = refl

mask_at : (first a m : ℕ) → first < 4 → a < 8 → m < 4 → get_or (bytes_of (mask first a)) m 0 ≡ cond (ltb m first) 0 (2 ^ a)
mask_at first a m f h l = eqb-true (get_or (bytes_of (mask first a)) m 0) (cond (ltb m first) 0 (2 ^ a))
    (each_at 4 (λ m. eqb (get_or (bytes_of (mask first a)) m 0) (cond (ltb m first) 0 (2 ^ a)))
    (each_at 8 (λ a. each 4 (λ m. eqb (get_or (bytes_of (mask first a)) m 0) (cond (ltb m first) 0 (2 ^ a))))
    (each_at 4 (λ first. each 8 (λ a. each 4 (λ m. eqb (get_or (bytes_of (mask first a)) m 0) (cond (ltb m first) 0 (2 ^ a))))) mask_table first f) a h) m l)

pub flipped_from : (w first a : ℕ) → first < 4 → 1 ≤ a → a ≤ 8 → FlippedFrom first a w (bit_xor w (mask first (a - 1)))
flipped_from w first a f low few = record {
  before = λ m l h. xor_byte w (mask first (a - 1)) m h ∙ rw (mask_at first (a - 1) m f (omega arith) h, lt-ltb m first l) (xor_zero_r (get_or (bytes_of w) m 0));
  flips = λ m l h. xor_byte w (mask first (a - 1)) m h ∙ rw (mask_at first (a - 1) m f (omega arith) h, le-ltb m first l) (power_flipped (get_or (bytes_of w) m 0) a);
}

-- the last four orthants of a buffer, written as one word
pub flips_word : {start n a w v p : ℕ} {l r : List ℕ} → n ≤ start + 4 → 4 ≤ n → start < n → n ≤ length l → p ≡ n - 4
    → WordAt l p w → FlippedFrom (start - p) a w v → Puts p (bytes_of v) l r → Flips start n a l r
flips_word {start} {n} {a} {w} {v} {p} {l} {r} near four some room is read f put = record { size = put.size; before = before; flips = flips; past = λ j h. put.past j (omega arith) }
  where
    there : (j : ℕ) → p ≤ j → j ≡ p + (j - p)
    there j h = omega arith

    written : (j : ℕ) → p ≤ j → j < n → get_or r j 0 ≡ get_or (bytes_of v) (j - p) 0
    written j h u = ap (λ (x : ℕ). get_or r x 0) (there j h) ∙ put.put (j - p) (omega arith)

    byte_of : (j : ℕ) → p ≤ j → j < n → get_or (bytes_of w) (j - p) 0 ≡ get_or l j 0
    byte_of j h u = word_byte read j h (omega arith)

    before : (j : ℕ) → j < start → get_or r j 0 ≡ get_or l j 0
    before j h = go (dec_lt j p)
      where
        go : Dec (j < p) → get_or r j 0 ≡ get_or l j 0
        go (yes q) = put.before j q
        go (no q) = written j (omega arith) (omega arith) ∙ f.before (j - p) (omega arith) (omega arith) ∙ byte_of j (omega arith) (omega arith)

    flips : (j : ℕ) → start ≤ j → j < n → get_or r j 0 ≡ flipped a (get_or l j 0)
    flips j h u = written j (omega arith) u ∙ f.flips (j - p) (omega arith) (omega arith) ∙ ap (flipped a) (byte_of j (omega arith) u)
