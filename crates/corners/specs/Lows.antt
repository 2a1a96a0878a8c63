-- The low sides of a box as one point: the orthants are their binary digits, read four at a time.
use Rattle.std.specs.Prelude.{◌≡◌, Bool, true, false, List, [], ◌∷◌, drop}
use Rattle.std.proofs.Math.Path.{refl, ap}
use Rattle.std.proofs.Common.{sym, ◌∙◌, add-zero, zero-add, add-suc, suc-add, mul_comm, mul_left_comm, div-add-mod', mod-lt, length-drop, pow_pos, pow_mono, get_or-drop}
use Rattle.std.proofs.Math.Bool.{cond}
use Prim.Native.Nat.{ℕ, zero, suc, ◌+◌, ◌-◌, ◌*◌, ◌/◌, ◌%◌, ◌^◌, ◌≤◌, ◌<◌}
use native.Mathlib.Omega.{arith}
use Rattle.std.proofs.Math.Nat.{lt_of_lt_of_le, mod-eq_of_lt}
use Rattle.std.proofs.Math.Arith.{digits_mod}
use Rattle.std.specs.Int.Bits.{bit_and}
use Rattle.std.proofs.Math.ListN.{length, get_or}
use Rattle.dimension.specs.Sizes.{halvings, side_after}
use Rattle.dimension.specs.Laws.{side_half, side_first, cube_two_bytes, halvings_few}
use Rattle.bisection.specs.Codes.{high}
use Rattle.bisection.specs.Theorems.Drawn.{box_low}
use Rattle.bisection.specs.Theorems.Crossing.Boxes.{box_at}
use Rattle.bisection.proofs.Theorems.Crossing.Boxes.{box_low_box_at}
use Rattle.entries.specs.Words.{word_of, four_from}
use Rattle.corners.specs.PointWords.{in_word, ones, in_same, in_times, in_small, in_low}

-- the low sides of the box that the orthants give, as one point
abbrev pub lows_in : List ℕ → ℕ
lows_in os = in_word (λ a. box_low a 0 os)

-- 1 on each axis that the orthant is high on
unfoldable pub spread_of : ℕ → ℕ
unfolding in_word high
spread_of o = in_word (λ a. cond (high o a) 1 0)

-- a point twice with four digits more, those of four orthants in a word
unfoldable pub four_more : ℕ → ℕ → ℕ
four_more p w = 2 * (2 * (2 * (2 * p + spread_of (w % 16)) + spread_of (w / 2 ^ 8 % 16)) + spread_of (w / 2 ^ 16 % 16)) + spread_of (w / 2 ^ 24 % 16)

-- an orthant of four bits that is none of the others is high on every axis
abbrev NoneOf : ℕ → ℕ → Type 0
NoneOf zero o = Unit
NoneOf (suc n) o = NoneOf n o × (o ≡ n → ⊥)

at_last : (n o : ℕ) → NoneOf n o → n ≤ o
at_last zero o f = omega arith
at_last (suc n) o f = omega (arith, at_last n o f.0, f.1)

pub spread_last : {o : ℕ} → o < 16 → NoneOf 15 o → ones ≡ spread_of o
unfolding spread_of in_word high
spread_last {o} h f = let e : o ≡ 15 = omega (arith, at_last 15 o f) in rw e refl

-- the box lies in the cube
pub low_inside : (a M : ℕ) (os : List ℕ) → box_low a M os + side_after (M + length os) ≤ side_after M
unfolding box_low
low_inside a M [] = rw (add-zero M) (omega arith)
low_inside a M (o ∷ os) = rw (add-suc M (length os), ← suc-add M (length os)) (omega (arith, under (high o a) (side_after (suc M)), low_inside a (suc M) os, side_half M))
  where
    under : (t : Bool) (s : ℕ) → cond t s 0 ≤ s
    under true s = omega arith
    under false s = omega arith

-- ---- the digits

-- a code long enough, and short enough, whose orthants have four bits, with the side of its box
pub record OrthantsReady (code : List ℕ) (d side : ℕ) : Type 0 where
  pub two : 2 ≤ d
  pub few : d ≤ 8
  pub room : 2 + d ≤ length code
  pub most : length code ≤ 2 + d + halvings
  pub fit : (t : ℕ) → get_or (drop (2 + d) code) t 0 < 16
  pub is : side ≡ side_after (length code - 2 - d)

-- the first i of a row of orthants as the digits of a number, on axis a
unfoldable pub digits : (ℕ → ℕ) → ℕ → ℕ → ℕ
digits o zero a = 0
digits o (suc i) a = 2 * digits o i a + cond (high (o i) a) 1 0

bit_most : (t : Bool) → cond t 1 0 ≤ 1
bit_most true = omega arith
bit_most false = omega arith

digits_small : (o : ℕ → ℕ) (i a : ℕ) → digits o i a < 2 ^ i
unfolding digits
digits_small o zero a = omega arith
digits_small o (suc i) a = omega (arith, digits_small o i a, bit_most (high (o i) a))

-- the last n of them, where they are those of another row
digits_last : (o p : ℕ → ℕ) (a m n : ℕ) → ((t : ℕ) → t < n → o (m + t) ≡ p t) → digits o (m + n) a % 2 ^ n ≡ digits p n a
unfolding digits
digits_last o p a m zero e = omega arith
digits_last o p a m (suc n) e = ap (λ (i : ℕ). digits o i a % 2 ^ suc n) (add-suc m n)
    ∙ rw (e n (omega arith)) (omega (arith, parts, digits_last o p a m n (λ t l. e t (omega arith)), bit_most (high (p n) a)))
  where
    x : ℕ
    x = digits o (m + n) a

    double : x / 2 ^ n * 2 ^ suc n ≡ 2 * (x / 2 ^ n * 2 ^ n)
    double = let t : 2 ^ suc n ≡ 2 * 2 ^ n = omega arith in ap (λ (k : ℕ). x / 2 ^ n * k) t ∙ mul_left_comm (x / 2 ^ n) 2 (2 ^ n)

    parts : (2 * x + cond (high (p n) a) 1 0) % 2 ^ suc n ≡ 2 * (x % 2 ^ n) + cond (high (p n) a) 1 0
    parts = ap (λ (k : ℕ). k % 2 ^ suc n) (omega (arith, div-add-mod' x (2 ^ n), double))
        ∙ (let small : 2 * (x % 2 ^ n) + cond (high (p n) a) 1 0 < 2 ^ suc n = omega (arith, mod-lt x (pow_pos n), bit_most (high (p n) a)) in digits_mod (x / 2 ^ n) small)

-- all orthants of a list: the number of the box on the axis, counted in sides of it
one_more : (t : Bool) (p q x b : ℕ) → q ≡ 2 * p → 2 * (cond t p 0 + x) + b ≡ cond t q 0 + (2 * x + b)
one_more true p q x b e = omega arith
one_more false p q x b e = omega arith

digits_front : (o : ℕ → ℕ) (a n : ℕ) → digits o (suc n) a ≡ cond (high (o 0) a) (2 ^ n) 0 + digits (λ t. o (suc t)) n a
unfolding digits
digits_front o a zero = omega arith
digits_front o a (suc n) = rw (digits_front o a n) (one_more (high (o 0) a) (2 ^ n) (2 ^ suc n) (digits (λ t. o (suc t)) n a) (cond (high (o (suc n)) a) 1 0) (omega arith))

digits_box : (a : ℕ) (os : List ℕ) → digits (λ t. get_or os t 0) (length os) a ≡ box_at a os
unfolding digits box_at
digits_box a [] = refl
digits_box a (o ∷ os) = digits_front (λ t. get_or (o ∷ os) t 0) a (length os) ∙ ap (λ (x : ℕ). cond (high o a) (2 ^ length os) 0 + x) (digits_box a os)

digits_low : (a : ℕ) (os : List ℕ) → length os ≤ halvings → digits (λ t. get_or os t 0) (length os) a * side_after (length os) ≡ box_low a 0 os
digits_low a os few = rw (digits_box a os, mul_comm (box_at a os) (side_after (length os)), box_low_box_at a 0 os (omega arith)) (ap (λ (n : ℕ). side_after n * box_at a os) (sym (zero-add (length os))))

-- the mask of the lowest n digits of each coordinate
unfoldable pub lowest_of : ℕ → ℕ
lowest_of n = (2 ^ n - 1) * ones

-- ---- the bytes read

-- byte m of those that are read, four at a time from `all` bytes before the end on; a code that has fewer is read from its front
unfoldable pub window : ℕ → List ℕ → ℕ → ℕ
window all code m = get_or code (length code - (all - (m - m % 4)) + m % 4) 0 % 16

-- the walk: the first i of them are read
pub record LowsSoFar (all : ℕ) (code : List ℕ) (i w : ℕ) : Type 0 where
  pub most : all ≤ 16
  pub fours : (all % 4 ≡ 0) × (i % 4 ≡ 0)
  pub some : i ≤ all
  pub is : w ≡ in_word (digits (window all code) i)

pub lows_none : (all : ℕ) (code : List ℕ) → all ≤ 16 → all % 4 ≡ 0 → LowsSoFar all code 0 0
unfolding in_word digits
lows_none all code h e = record { most = h; fours = (e, refl); some = omega arith; is = refl }

module _ {all : ℕ} {code : List ℕ} {i w : ℕ} (t : LowsSoFar all code i w) where
  -- four more
  module _ (h : i < all) (small : (j : ℕ) → get_or code j 0 < 256) {v : ℕ} (e : v ≡ word_of (four_from code (length code - (all - i)))) where
    read : (r : ℕ) → r < 4 → window all code (i + r) ≡ get_or code (length code - (all - i) + r) 0 % 16
    unfolding window
    read r l = rw (low, start) refl
      where
        low : (i + r) % 4 ≡ r
        low = omega (arith, t.fours)

        start : i + r - r ≡ i
        start = omega arith

    four_digits : four_more w v ≡ in_word (digits (window all code) (i + 4))
    unfolding four_more spread_of word_of
    four_digits = rw (o0, o1, o2, o3, t.is)
        (omega (
          arith,
          digit i (i + 1) 0 (omega arith) (omega arith) (omega arith),
          digit (i + 1) (i + 2) 1 refl (omega arith) (omega arith),
          digit (i + 2) (i + 3) 2 refl (omega arith) (omega arith),
          digit (i + 3) (i + 4) 3 refl (omega arith) (omega arith),
        ))
      where
        digit : (n m r : ℕ) → n ≡ i + r → r < 4 → m ≡ suc n
            → 2 * in_word (digits (window all code) n) + in_word (λ a. cond (high (get_or code (length code - (all - i) + r) 0 % 16) a) 1 0) ≡ in_word (digits (window all code) m)
        digit n m r q l f = rw (f, ← read r l, ← q) (unfold in_word digits in omega arith)

        o0 : v % 16 ≡ get_or code (length code - (all - i) + 0) 0 % 16
        o0 = let z : length code - (all - i) + 0 ≡ length code - (all - i) = omega arith in rw z (omega (arith, e))

        o1 : v / 2 ^ 8 % 16 ≡ get_or code (length code - (all - i) + 1) 0 % 16
        o1 = omega (arith, e, small (length code - (all - i)))

        o2 : v / 2 ^ 16 % 16 ≡ get_or code (length code - (all - i) + 2) 0 % 16
        o2 = omega (arith, e, small (length code - (all - i)), small (length code - (all - i) + 1))

        o3 : v / 2 ^ 24 % 16 ≡ get_or code (length code - (all - i) + 3) 0 % 16
        o3 = omega (arith, e, small (length code - (all - i)), small (length code - (all - i) + 1), small (length code - (all - i) + 2))

    pub lows_fit : four_more w v < 2 ^ 64
    lows_fit = rw four_digits (in_small (digits (window all code) (i + 4))
        (λ a l u. lt_of_lt_of_le (digits_small (window all code) (i + 4) a) (pow_mono {i = i + 4} {j = 16} (omega (arith, t.most, t.fours)))))

    pub lows_next : {r : ℕ} → r ≡ four_more w v → LowsSoFar all code (i + 4) r
    lows_next f = record { most = t.most; fours = (t.fours.0, omega (arith, t.fours)); some = omega (arith, t.fours); is = f ∙ four_digits }

pub lows_boxes : {code : List ℕ} {d side : ℕ} → OrthantsReady code d side → (2 ≤ length code) × (d ≤ length code - 2) × (length code - 2 - d ≤ 15)
lows_boxes r = (omega (arith, r.room), omega (arith, r.room), omega (arith, r.most, halvings_few))

-- all are read: what stands before the orthants is masked out
module _ {all : ℕ} {code : List ℕ} {d side i w : ℕ} (r : OrthantsReady code d side) (room : halvings ≤ all) (t : LowsSoFar all code i w) (end : all ≤ i) where
  abbrev os : List ℕ
  os = drop (2 + d) code

  count : length (drop (2 + d) code) ≡ length code - 2 - d
  count = length-drop (2 + d) code ∙ omega arith

  few : length code - 2 - d ≤ halvings
  few = omega (arith, r.most)

  there : (m : ℕ) → m < length code - 2 - d → window all code (all - (length code - 2 - d) + m) ≡ get_or (drop (2 + d) code) m 0
  unfolding window
  there m l = ap (λ (p : ℕ). get_or code p 0 % 16) place ∙ ap (λ (x : ℕ). x % 16) (sym (get_or-drop (2 + d) code m 0)) ∙ mod-eq_of_lt (r.fit m)
    where
      place : length code - (all - (all - (length code - 2 - d) + m - (all - (length code - 2 - d) + m) % 4)) + (all - (length code - 2 - d) + m) % 4 ≡ 2 + d + m
      place = omega (arith, few, room, r.two, r.room, l)

  masked : bit_and w (lowest_of (length code - 2 - d)) ≡ in_word (digits (λ t. get_or (drop (2 + d) code) t 0) (length code - 2 - d))
  unfolding lowest_of
  masked = let whole : i ≡ all = omega (arith, t.some) in rw (t.is, whole) (in_low (digits (window all code) (all)) (length code - 2 - d) (omega (arith, few, room, t.most))
      (λ a l u. lt_of_lt_of_le (digits_small (window all code) (all) a) (pow_mono {i = all} {j = 16} (omega (arith, t.most))))
      ∙ in_same (λ a. digits (window all code) (all) a % 2 ^ (length code - 2 - d)) (digits (λ t. get_or (drop (2 + d) code) t 0) (length code - 2 - d)) each)
    where
      each : (a : ℕ) → 1 ≤ a → a ≤ 4 → digits (window all code) (all) a % 2 ^ (length code - 2 - d) ≡ digits (λ t. get_or (drop (2 + d) code) t 0) (length code - 2 - d) a
      each a l u = ap (λ (i : ℕ). digits (window all code) i a % 2 ^ (length code - 2 - d)) (omega (arith, few, room))
          ∙ digits_last (window all code) (λ t. get_or (drop (2 + d) code) t 0) a (all - (length code - 2 - d)) (length code - 2 - d) there

  product : bit_and w (lowest_of (length code - 2 - d)) * side ≡ in_word (λ a. box_low a 0 (drop (2 + d) code))
  product = rw masked (in_times (digits (λ t. get_or (drop (2 + d) code) t 0) (length code - 2 - d)) side
      ∙ in_same (λ a. digits (λ t. get_or (drop (2 + d) code) t 0) (length code - 2 - d) a * side) (λ a. box_low a 0 (drop (2 + d) code))
      (λ a l u. rw (r.is, ← count) (digits_low a (drop (2 + d) code) (rw count few))))

  -- as the code has the mask
  pub lows_all : {m : ℕ} → m ≡ lowest_of (length code - 2 - d) → bit_and w m * side ≡ in_word (λ a. box_low a 0 (drop (2 + d) code))
  lows_all e = rw e product

  pub lows_whole : {m : ℕ} → m ≡ lowest_of (length code - 2 - d) → bit_and w m * side < 2 ^ 64
  lows_whole e = rw (lows_all e) (in_small (λ a. box_low a 0 (drop (2 + d) code)) (λ a l u. omega (arith, low_inside a 0 (drop (2 + d) code), side_first, cube_two_bytes)))
