-- Orthants as the digits of a number, base 16, the first one lowest: compared with bytes, and filled up from a place on.
use Rattle.std.specs.Prelude.{◌≡◌, Bool, true, false, List, [], ◌∷◌, ◌++◌, T, length, get_or, take, drop, replicate}
use Rattle.std.proofs.Math.Path.{refl}
use Rattle.std.proofs.Common.{sym, ap, ◌∙◌, subst, mul_assoc, add-mul, mul-one, zero-add, div-one, suc-add, mod-lt, length-take, length-drop, pow-add, shr-shr, drop-cons, get_or-take, get_or-drop, ext_get_or}
use Prim.Native.Nat.{ℕ, zero, suc, ◌+◌, ◌-◌, ◌*◌, ◌/◌, ◌%◌, ◌^◌, min, ◌≤◌, ◌<◌}
use native.Mathlib.Omega.{arith}
use Rattle.std.proofs.Math.Decide.{dec_lt}
use Rattle.std.proofs.Math.Nat.{mod-one}
use Rattle.std.proofs.Math.Pow.{high, low}
use Rattle.std.proofs.lemmas.Nat.{mod-pow-add}
use Rattle.std.proofs.lemmas.List.{drop-replicate}
use Rattle.dimension.specs.Sizes.{halvings}
use Rattle.entries.specs.Words.{word_of, bytes_of, four_from, WordAt, four_at, bytes_same, bytes_of_sum, word_sum}

unfoldable pub digits : ℕ → ℕ → List ℕ
digits zero w = []
digits (suc n) w = w % 16 ∷ digits n (w / 16)

pub record SameDigits (n : ℕ) (bs : List ℕ) (w : ℕ) (r : Bool) : Type 0 where
  pub equal : r ≡ true → bs ≡ digits n w
  pub told : bs ≡ digits n w → r ≡ true

-- the comparison under way: all n are the same exactly where those from place i on are
pub record Comparing (n at : ℕ) (bs : List ℕ) (w i left : ℕ) : Type 0 where
  pub few : i ≤ n
  pub on : take n (drop at bs) ≡ digits n w → take (n - i) (drop (at + i) bs) ≡ digits (n - i) left
  pub back : take (n - i) (drop (at + i) bs) ≡ digits (n - i) left → take n (drop at bs) ≡ digits n w

module _ {n at : ℕ} {bs : List ℕ} {w i left : ℕ} (c : Comparing n at bs w i left) where
  pub compared : n ≤ i → SameDigits n (take n (drop at bs)) w true
  unfolding digits
  compared h = let none : n - i ≡ 0 = omega arith in record { equal = λ e. c.back (rw none refl); told = λ e. refl }

  module _ (h : i < n) (room : at + n ≤ length bs) where
    split : take (n - i) (drop (at + i) bs) ≡ get_or bs (at + i) 0 ∷ take (n - (i + 1)) (drop (at + (i + 1)) bs)
    split = rw (more, drop-cons bs (at + i) 0 (omega arith), next) refl
      where
        more : n - i ≡ suc (n - (i + 1))
        more = omega arith

        next : at + (i + 1) ≡ suc (at + i)
        next = omega arith

    digits_split : digits (n - i) left ≡ left % 16 ∷ digits (n - (i + 1)) (left / 16)
    unfolding digits
    digits_split = let more : n - i ≡ suc (n - (i + 1)) = omega arith in rw more refl

    pub compared_not : {x low : ℕ} → x ≡ get_or bs (at + i) 0 → low ≡ left % 16 → (x ≡ low → ⊥) → SameDigits n (take n (drop at bs)) w false
    compared_not f l q = record { equal = λ e. absurd (subst T (sym e) tt); told = λ e. absurd (q (f ∙ ap (λ (l : List ℕ). get_or l 0 0) (sym split ∙ c.on e ∙ digits_split) ∙ sym l)) }

    pub comparing_on : {x low : ℕ} → x ≡ get_or bs (at + i) 0 → low ≡ left % 16 → x ≡ low → Comparing n at bs w (i + 1) (left / 16)
    comparing_on f l q = record {
      few = omega arith;
      on = λ e. ap (drop 1) (sym split ∙ c.on e ∙ digits_split);
      back = λ e. c.back (split ∙ rw (← f, q, l, e) (sym digits_split));
    }

-- digit j of a number, and four of them
abbrev pub digit_at : ℕ → ℕ → ℕ
digit_at w j = w / 2 ^ (4 * j) % 16

abbrev pub four_digits : ℕ → ℕ → List ℕ
four_digits w from = digit_at w from ∷ digit_at w (from + 1) ∷ digit_at w (from + 2) ∷ digit_at w (from + 3) ∷ []

pub digits_length : (n w : ℕ) → length (digits n w) ≡ n
unfolding digits
digits_length zero w = refl
digits_length (suc n) w = ap suc (digits_length n (w / 16))

digits_at : (n w j : ℕ) → j < n → get_or (digits n w) j 0 ≡ digit_at w j
unfolding digits
digits_at zero w j h = absurd (omega arith)
digits_at (suc n) w zero h = ap (λ (x : ℕ). x % 16) (sym (div-one w))
digits_at (suc n) w (suc j) h = digits_at n (w / 16) j (omega arith) ∙ ap (λ (x : ℕ). x % 16) (shr-shr w 4 (4 * j) ∙ ap (λ (m : ℕ). w / 2 ^ m) (omega arith))

-- four digits, as the code shifts them out
pub digits_sum : (w from : ℕ) {left p q r s : ℕ} → left ≡ w / 2 ^ (4 * from) → p ≡ left % 16 → q ≡ left / 16 % 16 → r ≡ left / 256 % 16 → s ≡ left / 4096 % 16
    → p + 256 * q + 65536 * r + 16777216 * s ≡ word_of (four_digits w from)
digits_sum w from e f g h k = word_sum (digit_at w from) (digit_at w (from + 1)) (digit_at w (from + 2)) (digit_at w (from + 3)) (f ∙ ap (λ (x : ℕ). x % 16) e) (g ∙ on 1 16 e refl) (h ∙ on 2 256 e refl) (k ∙ on 3 4096 e refl)
  where
    on : (j p : ℕ) {left : ℕ} → left ≡ w / 2 ^ (4 * from) → p ≡ 2 ^ (4 * j) → left / p % 16 ≡ digit_at w (from + j)
    on j p e q = rw (e, q) (ap (λ (x : ℕ). x % 16) (shr-shr w (4 * from) (4 * j) ∙ ap (λ (m : ℕ). w / 2 ^ m) (omega arith)))

-- compared four at a time: those before place i are the same
pub record SameTo (n at : ℕ) (bs : List ℕ) (w i : ℕ) : Type 0 where
  pub same : (j : ℕ) → j < i → j < n → get_or bs (at + j) 0 ≡ digit_at w j

module _ (n at : ℕ) (bs : List ℕ) (w : ℕ) (room : at + n ≤ length bs) where
  byte_in : (j : ℕ) → j < n → get_or (take n (drop at bs)) j 0 ≡ get_or bs (at + j) 0
  byte_in j h = get_or-take n (drop at bs) j 0 h ∙ get_or-drop at bs j 0

  -- they are the same where the lists are
  told_by : take n (drop at bs) ≡ digits n w → (j : ℕ) → j < n → get_or bs (at + j) 0 ≡ digit_at w j
  told_by e j h = sym (byte_in j h) ∙ ap (λ (l : List ℕ). get_or l j 0) e ∙ digits_at n w j h

  pub same_all : {i : ℕ} → SameTo n at bs w i → n ≤ i → SameDigits n (take n (drop at bs)) w true
  same_all s l = record {
    equal = λ e. ext_get_or 0 (take n (drop at bs)) (digits n w) (size ∙ sym (digits_length n w)) (λ j h. let m : j < n = omega (arith, h, size) in byte_in j m ∙ s.same j (omega arith) m ∙ sym (digits_at n w j m));
    told = λ e. refl;
  }
    where
      size : length (take n (drop at bs)) ≡ n
      size = simp (length-take, length-drop) (omega arith)

  module _ (i from : ℕ) (many : 4 ≤ n) (f : from ≡ min i (n - 4)) {x y : ℕ} (a : WordAt bs (at + from) x) (b : y ≡ word_of (four_digits w from)) where
    pub same_not : (x ≡ y → ⊥) → SameDigits n (take n (drop at bs)) w false
    same_not q = record { equal = λ e. absurd (subst T (sym e) tt); told = λ e. absurd (q (a.is ∙ ap word_of (list e) ∙ sym b)) }
      where
        there : take n (drop at bs) ≡ digits n w → (m p : ℕ) → m < 4 → p ≡ at + from + m → get_or bs p 0 ≡ digit_at w (from + m)
        there e m p l z = ap (λ (k : ℕ). get_or bs k 0) (omega arith) ∙ told_by e (from + m) (omega arith)

        list : take n (drop at bs) ≡ digits n w → four_from bs (at + from) ≡ four_digits w from
        list e = bytes_same (ap (λ (k : ℕ). get_or bs k 0) refl ∙ told_by e from (omega arith)) (there e 1 (at + from + 1) (omega arith) refl) (there e 2 (at + from + 2) (omega arith) refl) (there e 3 (at + from + 3) (omega arith) refl)

    pub same_next : SameTo n at bs w i → x ≡ y → SameTo n at bs w (i + 4)
    same_next s q = record { same = λ j l m. go j l m (dec_lt j i) }
      where
        little : (j : ℕ) → digit_at w j < 256
        little j = omega (arith, mod-lt (w / 2 ^ (4 * j)) {m = 16} (omega arith))

        lists : four_from bs (at + from) ≡ four_digits w from
        lists = sym a.bytes ∙ ap bytes_of (q ∙ b ∙ sym (word_sum (digit_at w from) (digit_at w (from + 1)) (digit_at w (from + 2)) (digit_at w (from + 3)) refl refl refl refl))
            ∙ bytes_of_sum (digit_at w from) (digit_at w (from + 1)) (digit_at w (from + 2)) (digit_at w (from + 3)) (little from) (little (from + 1)) (little (from + 2)) (little (from + 3))

        digit_at_is : (p m : ℕ) → m < 4 → get_or (four_digits w p) m 0 ≡ digit_at w (p + m)
        digit_at_is p zero h = ap (digit_at w) (omega arith)
        digit_at_is p (suc zero) h = refl
        digit_at_is p (suc (suc zero)) h = refl
        digit_at_is p (suc (suc (suc zero))) h = refl
        digit_at_is p (suc (suc (suc (suc m)))) h = absurd (omega arith)

        go : (j : ℕ) → j < i + 4 → j < n → Dec (j < i) → get_or bs (at + j) 0 ≡ digit_at w j
        go j l m (yes k) = s.same j k m
        go j l m (no k) = ap (λ (p : ℕ). get_or bs p 0) (omega arith) ∙ sym (four_at bs (at + from) (j - from) (omega arith)) ∙ ap (λ (l : List ℕ). get_or l (j - from) 0) lists ∙ digit_at_is from (j - from) (omega arith) ∙ ap (digit_at w) (omega arith)

pub digits_take : (m n w : ℕ) → m ≤ n → digits m w ≡ take m (digits n w)
unfolding digits
digits_take zero n w h = refl
digits_take (suc m) zero w h = absurd (omega arith)
digits_take (suc m) (suc n) w h = ap (λ (l : List ℕ). w % 16 ∷ l) (digits_take m n (w / 16) (omega arith))

pub digits_none : (n : ℕ) → digits n 0 ≡ replicate n 0
unfolding digits
digits_none zero = refl
digits_none (suc n) = ap (λ (l : List ℕ). 0 ∷ l) (digits_none n)

-- the number whose n digits are all 1, and all another digit
unfoldable ones : ℕ → ℕ
ones zero = 0
ones (suc n) = 16 * ones n + 1

-- ONES of the code: a digit 1 for each halving
abbrev pub all_ones : ℕ
all_ones = 0x111111111111

ones_are : all_ones ≡ ones halvings
unfolding ones halvings
ones_are = refl

head_digit : (n x y : ℕ) → y < 16 → digits (suc n) (x * 16 + y) ≡ y ∷ digits n x
unfolding digits
head_digit n x y h = rw (low x 4 h, high x 4 h) refl

digits_own : (n o : ℕ) → o < 16 → digits n (ones n * o) ≡ replicate n o
unfolding digits ones
digits_own zero o h = refl
digits_own (suc n) o h = ap (digits (suc n)) split ∙ head_digit n (ones n * o) o h ∙ ap (λ (l : List ℕ). o ∷ l) (digits_own n o h)
  where
    split : (16 * ones n + 1) * o ≡ (ones n * o) * 16 + o
    split = add-mul (16 * ones n) 1 o ∙ rw (mul_assoc 16 (ones n) o) (omega arith)

four_more : (f : ℕ) → 4 * suc f ≡ 4 * f + 4
four_more f = omega arith

-- the digits from place f on
digits_drop : (f n w : ℕ) → digits n (w / 2 ^ (4 * f)) ≡ drop f (digits (f + n) w)
unfolding digits
digits_drop zero n w = ap (digits n) (div-one w) ∙ ap (λ (m : ℕ). digits m w) (sym (zero-add n))
digits_drop (suc f) n w =
    ap (digits n) (ap (λ (m : ℕ). w / 2 ^ m) flip ∙ sym (shr-shr w 4 (4 * f)))
    ∙ digits_drop f n (w / 16)
    ∙ ap (λ (m : ℕ). drop (suc f) (digits m w)) (sym (suc-add f n))
  where
    flip : 4 * suc f ≡ 4 + 4 * f
    flip = omega arith

-- the first f digits of one number, and then those of another
digits_join : (f n x y : ℕ) → digits (f + n) (x % 2 ^ (4 * f) + y * 2 ^ (4 * f)) ≡ digits f x ++ digits n y
unfolding digits
digits_join zero n x y =
    let a : x % 1 + y * 1 ≡ y = rw (mod-one, mul-one) (zero-add y) in
    rw a (ap (λ (m : ℕ). digits m y) (zero-add n))
digits_join (suc f) n x y =
    ap (λ (m : ℕ). digits m (x % 2 ^ (4 * suc f) + y * 2 ^ (4 * suc f))) (suc-add f n)
    ∙ ap (digits (suc (f + n))) parts
    ∙ head_digit (f + n) (x / 16 % 2 ^ (4 * f) + y * 2 ^ (4 * f)) (x % 16) (mod-lt x (omega arith))
    ∙ ap (λ (l : List ℕ). x % 16 ∷ l) (digits_join f n (x / 16) y)
  where
    first : x % 2 ^ (4 * suc f) ≡ (x / 16 % 2 ^ (4 * f)) * 16 + x % 16
    first = ap (λ (m : ℕ). x % 2 ^ m) (four_more f) ∙ mod-pow-add x (4 * f) 4

    second : y * 2 ^ (4 * suc f) ≡ (y * 2 ^ (4 * f)) * 16
    second = ap (λ (m : ℕ). y * 2 ^ m) (four_more f) ∙ ap (λ (m : ℕ). y * m) (pow-add 2 (4 * f) 4) ∙ sym (mul_assoc y (2 ^ (4 * f)) 16)

    parts : x % 2 ^ (4 * suc f) + y * 2 ^ (4 * suc f) ≡ (x / 16 % 2 ^ (4 * f) + y * 2 ^ (4 * f)) * 16 + x % 16
    parts = rw (first, second) (omega arith)

-- the law of `filled`
module _ (f o : ℕ) (h : f ≤ halvings) (small : o < 16) (p : ℕ) (p_is : p ≡ 2 ^ (4 * f)) where
  pub fill_is : (boxes : ℕ) → digits halvings (boxes % p + all_ones * o / p * p) ≡ take f (digits halvings boxes) ++ replicate (halvings - f) o
  fill_is boxes =
      rw (p_is, ones_are) refl
      ∙ ap (λ (m : ℕ). digits m (boxes % 2 ^ (4 * f) + ones halvings * o / 2 ^ (4 * f) * 2 ^ (4 * f))) (sym left)
      ∙ digits_join f (halvings - f) boxes (ones halvings * o / 2 ^ (4 * f))
      ∙ rw (digits_take f halvings boxes h, digits_drop f (halvings - f) (ones halvings * o), left, digits_own halvings o small) (ap (λ (l : List ℕ). take f (digits halvings boxes) ++ l) (drop-replicate f halvings o))
    where
      left : f + (halvings - f) ≡ halvings
      left = omega arith
