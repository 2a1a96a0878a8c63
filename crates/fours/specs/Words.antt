-- Entries as one word, the first in its lowest byte.
use Rattle.std.specs.Prelude.{◌≡◌, refl, Bool, true, false, cond, List, ◌∷◌, ◌++◌, length, get_or, take}
use Rattle.std.proofs.Common.{◌∙◌, arith, mod-lt, mod-eq_of_lt, pow_pos, Fits}
use Rattle.std.proofs.Math.Path.{ap}
use Prim.Native.Nat.{ℕ, zero, suc, ◌+◌, ◌-◌, ◌*◌, ◌/◌, ◌%◌, ◌^◌, ◌≤◌, ◌<◌}
use Rattle.std.proofs.Math.ListN.{drop}
use Rattle.std.proofs.Math.Seq.{paste}
use Rattle.std.specs.Int.{w8}
use Rattle.bisection.specs.Codes.{axis, minus, high, negated}
use Rattle.bisection.specs.Refusals.{same_sign}
use Rattle.bisection.specs.Theorems.Entries.{unturned}
use Rattle.bisection.specs.Theorems.Passing.{unstepped}
use Rattle.entries.specs.Words.{word_of, bytes_of, four_from, bytes_same, bytes_of_sum, byte_small}
use Rattle.fours.specs.declared.Four.{Four}
use Rattle.fours.specs.Fours.{four, no_entries, BackIs}
use Rattle.fours.specs.Laws.{entries_are}

pub record WordIs (e : Four) (w : ℕ) : Type 0 where
  pub is : w ≡ word_of (four e)
  pub bytes : four e ≡ bytes_of w

-- the entries of a code, from the four bytes that end with the last of them
module _ (l : List ℕ) (known : (i : ℕ) → Fits w8 (get_or l i 0)) where
  near : (i : ℕ) → (get_or l i 0 < 256) × (get_or l (1 + i) 0 < 256) × (get_or l (2 + i) 0 < 256) × (get_or l (3 + i) 0 < 256)
  near i = (omega (arith, (known i).fits), omega (arith, (known (1 + i)).fits), omega (arith, (known (2 + i)).fits), omega (arith, (known (3 + i)).fits))

  pub entries_within : (d : ℕ) → 2 ≤ d → d ≤ 4 → 2 + d ≤ length l → {v : ℕ} → v ≡ word_of (four_from l (d - 2))
      → bytes_of (v / 2 ^ (8 * (4 - d))) ≡ paste no_entries 0 (drop 2 l) d
  unfolding word_of
  entries_within zero two few room e = absurd (omega arith)
  entries_within (suc zero) two few room e = absurd (omega arith)
  entries_within (suc (suc zero)) two few room e = bytes_same (omega (arith, near 0)) (omega (arith, near 0)) (omega (arith, near 0)) (omega (arith, near 0)) ∙ entries_are l 2 2 two few room
  entries_within (suc (suc (suc zero))) two few room e = bytes_same (omega (arith, near 1)) (omega (arith, near 1)) (omega (arith, near 1)) (omega (arith, near 1)) ∙ entries_are l 2 3 two few room
  entries_within (suc (suc (suc (suc zero)))) two few room e = bytes_same (omega (arith, near 2)) (omega (arith, near 2)) (omega (arith, near 2)) (omega (arith, near 2)) ∙ entries_are l 2 4 two few room
  entries_within (suc (suc (suc (suc (suc d))))) two few room e = absurd (omega arith)

-- the first n + 1 entries of a word turned right: those above them stay, the last of them comes to the first place
abbrev pub above_in : ℕ → ℕ → ℕ
above_in n w = w / 2 ^ (8 * n) / 2 ^ 8 * 2 ^ 8 % 2 ^ 32 * 2 ^ (8 * n) % 2 ^ 32

abbrev pub last_in : ℕ → ℕ → ℕ
last_in n w = (w - above_in n w) / 2 ^ (8 * n)

abbrev pub rest_in : ℕ → ℕ → ℕ
rest_in n w = (w - above_in n w) * 2 ^ 8 % 2 ^ 32 - last_in n w * 2 ^ (8 * n) % 2 ^ 32 * 2 ^ 8 % 2 ^ 32

-- an entry and what stands below it, one place on: a word has no fifth place
rest_of : (n l low : ℕ) → n < 4 → l < 256 → low < 2 ^ (8 * n) → (l * 2 ^ (8 * n) + low) * 2 ^ 8 % 2 ^ 32 ≡ l * 2 ^ (8 * n) % 2 ^ 32 * 2 ^ 8 % 2 ^ 32 + 256 * low
rest_of zero l low h p q = rw (mod-eq_of_lt {n = l * 1} {m = 2 ^ 32} (omega arith), mod-eq_of_lt {n = l * 1 * 2 ^ 8} {m = 2 ^ 32} (omega arith), mod-eq_of_lt {n = (l * 1 + low) * 2 ^ 8} {m = 2 ^ 32} (omega arith)) (omega arith)
rest_of (suc zero) l low h p q = rw (mod-eq_of_lt {n = l * 2 ^ 8} {m = 2 ^ 32} (omega arith), mod-eq_of_lt {n = l * 2 ^ 8 * 2 ^ 8} {m = 2 ^ 32} (omega arith), mod-eq_of_lt {n = (l * 2 ^ 8 + low) * 2 ^ 8} {m = 2 ^ 32} (omega arith)) (omega arith)
rest_of (suc (suc zero)) l low h p q = rw (mod-eq_of_lt {n = l * 2 ^ 16} {m = 2 ^ 32} (omega arith), mod-eq_of_lt {n = l * 2 ^ 16 * 2 ^ 8} {m = 2 ^ 32} (omega arith), mod-eq_of_lt {n = (l * 2 ^ 16 + low) * 2 ^ 8} {m = 2 ^ 32} (omega arith)) (omega arith)
rest_of (suc (suc (suc zero))) l low h p q = rw (mod-eq_of_lt {n = l * 2 ^ 24} {m = 2 ^ 32} (omega arith)) (omega (arith, none, all))
  where
    none : l * 2 ^ 24 * 2 ^ 8 % 2 ^ 32 ≡ 0
    none = omega arith

    all : (l * 2 ^ 24 + low) * 2 ^ 8 % 2 ^ 32 ≡ 256 * low
    all = omega arith
rest_of (suc (suc (suc (suc n)))) l low h p q = absurd (omega arith)

-- by cases of n, in which all powers are numbers
module _ (w : ℕ) (h : w < 2 ^ 32) where
  -- the front of n + 1 entries: the last of them, and those before it
  front_parts : (n : ℕ) → n < 4 → w % 2 ^ (8 * n + 8) ≡ get_or (bytes_of w) n 0 * 2 ^ (8 * n) + w % 2 ^ (8 * n)
  front_parts zero l = omega arith
  front_parts (suc zero) l = omega arith
  front_parts (suc (suc zero)) l = omega arith
  front_parts (suc (suc (suc zero))) l = omega arith
  front_parts (suc (suc (suc (suc n)))) l = absurd (omega arith)

  low_small : (n : ℕ) → w % 2 ^ (8 * n) < 2 ^ (8 * n)
  low_small n = mod-lt w (pow_pos (8 * n))

  above_is : (n : ℕ) → n < 4 → above_in n w + w % 2 ^ (8 * n + 8) ≡ w
  above_is zero l = omega arith
  above_is (suc zero) l = omega arith
  above_is (suc (suc zero)) l = omega arith
  above_is (suc (suc (suc zero))) l = omega arith
  above_is (suc (suc (suc (suc n)))) l = absurd (omega arith)

  pub above_under : (n : ℕ) → n < 4 → above_in n w ≤ w
  above_under n l = omega (arith, above_is n l)

  front_is : (n : ℕ) → n < 4 → w - above_in n w ≡ get_or (bytes_of w) n 0 * 2 ^ (8 * n) + w % 2 ^ (8 * n)
  front_is n l = omega (arith, above_is n l, front_parts n l)

  last_in_at : (n : ℕ) → n < 4 → last_in n w ≡ get_or (bytes_of w) n 0
  last_in_at n l = ap (λ (x : ℕ). x / 2 ^ (8 * n)) (front_is n l) ∙ by n l (get_or (bytes_of w) n 0) (w % 2 ^ (8 * n)) (low_small n)
    where
      by : (n : ℕ) → n < 4 → (x y : ℕ) → y < 2 ^ (8 * n) → (x * 2 ^ (8 * n) + y) / 2 ^ (8 * n) ≡ x
      by zero l x y k = omega arith
      by (suc zero) l x y k = omega arith
      by (suc (suc zero)) l x y k = omega arith
      by (suc (suc (suc zero))) l x y k = omega arith
      by (suc (suc (suc (suc n)))) l x y k = absurd (omega arith)

  last_is : (n : ℕ) → n < 4 → last_in n w % 256 ≡ get_or (bytes_of w) n 0
  last_is n l = rw (last_in_at n l) (mod-eq_of_lt (byte_small w n l))

  rest_in_is : (n : ℕ) → n < 4 → (w - above_in n w) * 2 ^ 8 % 2 ^ 32 ≡ last_in n w * 2 ^ (8 * n) % 2 ^ 32 * 2 ^ 8 % 2 ^ 32 + 256 * (w % 2 ^ (8 * n))
  rest_in_is n l = rw (last_in_at n l, front_is n l) (rest_of n (get_or (bytes_of w) n 0) (w % 2 ^ (8 * n)) l (byte_small w n l) (low_small n))

  pub last_under : (n : ℕ) → n < 4 → last_in n w * 2 ^ (8 * n) % 2 ^ 32 * 2 ^ 8 % 2 ^ 32 ≤ (w - above_in n w) * 2 ^ 8 % 2 ^ 32
  last_under n l = omega (arith, rest_in_is n l)

  abbrev first : ℕ
  first = w / 2 ^ 0 % 256

  abbrev second : ℕ
  second = w / 2 ^ 8 % 256

  abbrev third : ℕ
  third = w / 2 ^ 16 % 256

  abbrev fourth : ℕ
  fourth = w / 2 ^ 24 % 256

  low_none : w % 2 ^ (8 * 0) ≡ 0
  low_none = omega arith

  low_one : w % 2 ^ 8 ≡ first
  low_one = omega (arith, front_parts 0 (omega arith), low_none)

  low_two : w % 2 ^ 16 ≡ first + 256 * second
  low_two = omega (arith, front_parts 1 (omega arith), low_one)

  low_three : w % 2 ^ 24 ≡ first + 256 * second + 65536 * third
  low_three = omega (arith, front_parts 2 (omega arith), low_two)

  parts : w ≡ first + 256 * second + 65536 * third + 16777216 * fourth
  parts = omega (arith, mod-eq_of_lt {n = w} {m = 2 ^ 32} h, front_parts 3 (omega arith), low_three)

  module _ (m : ℕ) (small : m < 256) where
    -- those above stay, the others go one place on, and m comes to the first place
    turned_by : (n : ℕ) → n < 4 → above_in n w + rest_in n w + m ≡ above_in n w + 256 * (w % 2 ^ (8 * n)) + m
    turned_by n l = omega (arith, rest_in_is n l)

    -- the sums, in plain variables
    sum_one : (up front low a b c e x : ℕ) → up + front ≡ x → front ≡ a → low ≡ 0 → x ≡ a + 256 * b + 65536 * c + 16777216 * e → up + 256 * low + m ≡ m + 256 * b + 65536 * c + 16777216 * e
    sum_one up front low a b c e x f g k l = omega arith

    sum_two : (up front low a b c e x : ℕ) → up + front ≡ x → front ≡ a + 256 * b → low ≡ a → x ≡ a + 256 * b + 65536 * c + 16777216 * e → up + 256 * low + m ≡ m + 256 * a + 65536 * c + 16777216 * e
    sum_two up front low a b c e x f g k l = omega arith

    sum_three : (up front low a b c e x : ℕ) → up + front ≡ x → front ≡ a + 256 * b + 65536 * c → low ≡ a + 256 * b → x ≡ a + 256 * b + 65536 * c + 16777216 * e → up + 256 * low + m ≡ m + 256 * a + 65536 * b + 16777216 * e
    sum_three up front low a b c e x f g k l = omega arith

    sum_four : (up front low a b c e x : ℕ) → up + front ≡ x → front ≡ x → low ≡ a + 256 * b + 65536 * c → x ≡ a + 256 * b + 65536 * c + 16777216 * e → up + 256 * low + m ≡ m + 256 * a + 65536 * b + 16777216 * c
    sum_four up front low a b c e x f g k l = omega arith

    bytes_by : (n : ℕ) → n < 4 → bytes_of (above_in n w + 256 * (w % 2 ^ (8 * n)) + m) ≡ m ∷ (take n (bytes_of w) ++ drop (suc n) (bytes_of w))
    bytes_by zero l = ap bytes_of (sum_one (above_in 0 w) (w % 2 ^ 8) (w % 2 ^ (8 * 0)) first second third fourth w (above_is 0 l) low_one low_none parts)
        ∙ bytes_of_sum m second third fourth small (byte_small w 1 (omega arith)) (byte_small w 2 (omega arith)) (byte_small w 3 (omega arith))
    bytes_by (suc zero) l = ap bytes_of (sum_two (above_in 1 w) (w % 2 ^ 16) (w % 2 ^ 8) first second third fourth w (above_is 1 l) low_two low_one parts)
        ∙ bytes_of_sum m first third fourth small (byte_small w 0 (omega arith)) (byte_small w 2 (omega arith)) (byte_small w 3 (omega arith))
    bytes_by (suc (suc zero)) l = ap bytes_of (sum_three (above_in 2 w) (w % 2 ^ 24) (w % 2 ^ 16) first second third fourth w (above_is 2 l) low_three low_two parts)
        ∙ bytes_of_sum m first second fourth small (byte_small w 0 (omega arith)) (byte_small w 1 (omega arith)) (byte_small w 3 (omega arith))
    bytes_by (suc (suc (suc zero))) l = ap bytes_of (sum_four (above_in 3 w) (w % 2 ^ 32) (w % 2 ^ 24) first second third fourth w (above_is 3 l) (mod-eq_of_lt h) low_three parts)
        ∙ bytes_of_sum m first second third small (byte_small w 0 (omega arith)) (byte_small w 1 (omega arith)) (byte_small w 2 (omega arith))
    bytes_by (suc (suc (suc (suc n)))) l = absurd (omega arith)

    fits_by : (n : ℕ) → n < 4 → above_in n w + 256 * (w % 2 ^ (8 * n)) + m < 2 ^ 32
    fits_by zero l = omega (arith, above_is 0 l)
    fits_by (suc zero) l = omega (arith, above_is 1 l)
    fits_by (suc (suc zero)) l = omega (arith, above_is 2 l)
    fits_by (suc (suc (suc zero))) l = omega (arith, above_is 3 l)
    fits_by (suc (suc (suc (suc n)))) l = absurd (omega arith)

    pub turned_fits : (n : ℕ) → n < 4 → above_in n w + rest_in n w + m < 2 ^ 32
    turned_fits n l = omega (arith, turned_by n l, fits_by n l)

    pub turned_is : (n : ℕ) → n < 4 → m ≡ negated (last_in n w % 256) → bytes_of (above_in n w + rest_in n w + m) ≡ unturned n (bytes_of w)
    unfolding unturned
    turned_is n l e = ap bytes_of (turned_by n l) ∙ bytes_by n l ∙ ap (λ (x : ℕ). x ∷ (take n (bytes_of w) ++ drop (suc n) (bytes_of w))) (e ∙ ap negated (last_is n l))

  pub rest_fits : (n : ℕ) → n < 4 → above_in n w + rest_in n w < 2 ^ 32
  rest_fits n l = omega (arith, turned_fits 0 (omega arith) n l)

-- one step up: the entries as they are where the sign is the box's own, turned back where it is not
pub unstep_is : (w t n own : ℕ) (same : Bool) → same ≡ same_sign (minus (get_or (bytes_of w) n 0)) (high own (axis (get_or (bytes_of w) n 0))) → bytes_of t ≡ unturned n (bytes_of w)
    → BackIs n own (bytes_of w) (cond same 0 1) (bytes_of (cond same w t))
unfolding unstepped
unstep_is w t n own true s q = record { step = ap (λ (b : Bool). cond b 0 1) s; entries = refl }
unstep_is w t n own false s q = record { step = ap (λ (b : Bool). cond b 0 1) s; entries = q }
