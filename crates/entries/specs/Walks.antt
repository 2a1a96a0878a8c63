-- What the walks over a code's bytes find, and one law for each way out of them.
use Rattle.std.specs.Prelude.{◌≡◌, refl, Bool, true, false, cond, ◌&&◌, List, ℕ, zero, suc, ◌+◌, ◌-◌, ◌/◌, ◌%◌, ◌^◌, ◌≤◌, ◌<◌, eqb, ltb, length, get_or, take, drop}
use Rattle.std.proofs.Math.Path.{sym}
use Rattle.std.proofs.Common.{ap, ◌∙◌, subst, arith, add-one, mod-lt, zero-add, length-drop, drop_of_length-le, get_or-drop, get_or-take}
use Rattle.std.proofs.Math.Bool.{not}
use Rattle.std.proofs.Math.Decide.{dec_lt}
use Rattle.std.proofs.Math.Dec.{leb}
use Rattle.std.specs.List.{AllWithin, HoldsAt}
use Rattle.std.specs.Bool.{MatchBool}
use Rattle.std.specs.Int.Bits.{bit_and}
use Rattle.std.proofs.lemmas.Nat.{and_mask}
use borrow.Author.Tests.{lt-ltb, le-ltb, lt-leb, le-leb}
use Rattle.bisection.specs.Codes.{axis, minus, high}
use Rattle.bisection.specs.Refusals.{each, fresh, permutes, own_minus, same_sign, signs_own, is_root}
use Rattle.bisection.proofs.Theorems.Checked.{and_both, at_each, each_fails}
use Rattle.entries.specs.Words.{four_from, four_at}

-- tests in a row: equal tests, one more, one that fails
pub each_same : (n : ℕ) (f g : ℕ → Bool) → ((i : ℕ) → i < n → f i ≡ g i) → each n f ≡ each n g
unfolding each
each_same zero f g e = refl
each_same (suc n) f g e = rw (e n (omega arith), each_same n f g (λ i l. e i (omega arith))) refl

pub each_more : (n : ℕ) (f : ℕ → Bool) → each n f ≡ true → f n ≡ true → each (n + 1) f ≡ true
unfolding each
each_more n f e h = rw (add-one n) (and_both (f n) (each n f) h e)

-- the permutation: what has been seen before place i
abbrev pub entry_fits : ℕ → List ℕ → ℕ → Bool
entry_fits d es i = leb 1 (axis (get_or es i 0)) && leb (axis (get_or es i 0)) d && fresh es (axis (get_or es i 0)) i

-- only the first d entries count
pub permutes_same : (d : ℕ) (l m : List ℕ) → ((i : ℕ) → i < d → get_or l i 0 ≡ get_or m i 0) → permutes d l ≡ permutes d m
unfolding permutes fresh
permutes_same d l m e = each_same d (entry_fits d l) (entry_fits d m) (λ i h. rw (e i h)
    (ap (λ (t : Bool). leb 1 (axis (get_or m i 0)) && leb (axis (get_or m i 0)) d && t)
    (each_same i (λ j. not (eqb (axis (get_or l j 0)) (axis (get_or m i 0)))) (λ j. not (eqb (axis (get_or m j 0)) (axis (get_or m i 0)))) (λ j k. rw (e j (omega arith)) refl))))

pub permutes_take : (d : ℕ) (l : List ℕ) → permutes d (take d l) ≡ permutes d l
permutes_take d l = permutes_same d (take d l) l (λ i h. get_or-take d l i 0 h)

-- the place of a read that takes no branch: i, or the first
abbrev pub place_in : ℕ → ℕ → ℕ
place_in i n = cond (ltb i n) i 0

pub place_under : (i n : ℕ) → i < n → place_in i n ≡ i
place_under i n h = rw (lt-ltb i n h) refl

pub place_past : (i n : ℕ) → n ≤ i → place_in i n ≡ 0
place_past i n h = rw (le-ltb i n h) refl

pub place_within : (i n : ℕ) → 0 < n → place_in i n < n
place_within i n p = go (dec_lt i n)
  where
    go : Dec (i < n) → place_in i n < n
    go (yes h) = subst (λ (m : ℕ). m < n) (sym (place_under i n h)) h
    go (no h) = subst (λ (m : ℕ). m < n) (sym (place_past i n (omega arith))) p

pub place_no_later : (i n : ℕ) → place_in i n ≤ n
place_no_later i n = go (dec_lt i n)
  where
    go : Dec (i < n) → place_in i n ≤ n
    go (yes h) = omega (arith, place_under i n h)
    go (no h) = omega (arith, place_past i n (omega arith))

-- the byte of the box's own signs
abbrev pub own_byte : List ℕ → ℕ
own_byte os = get_or os (length os - 1) 0

abbrev pub sign_test : List ℕ → ℕ → ℕ → Bool
sign_test es own i = same_sign (minus (get_or es i 0)) (high own (axis (get_or es i 0)))

unfoldable pub signs_by : ℕ → List ℕ → ℕ → Bool
signs_by k es own = each k (sign_test es own)

-- only the first k entries count
pub signs_by_is : (k : ℕ) (l m os : List ℕ) → ((i : ℕ) → i < k → get_or l i 0 ≡ get_or m i 0) → signs_by k l (own_byte os) ≡ signs_own k m os
unfolding signs_by signs_own own_minus
signs_by_is k l m os e = each_same k (sign_test l (own_byte os)) (λ i. same_sign (minus (get_or m i 0)) (high (own_byte os) (axis (get_or m i 0)))) (λ i q. rw (e i q) refl)

-- an entry of the d from a place
pub entry_at : (l : List ℕ) (at d i : ℕ) → i < d → get_or l (at + i) 0 ≡ get_or (take d (drop at l)) i 0
entry_at l at d i h = sym (get_or-take d (drop at l) i 0 h ∙ get_or-drop at l i 0)

-- the own byte: no orthants, or the last byte of the code
pub own_none : (l : List ℕ) (n : ℕ) → length l ≡ n → 0 ≡ own_byte (drop n l)
own_none l n e = let h : length l ≤ n = omega arith in ap (λ (os : List ℕ). own_byte os) (sym (drop_of_length-le l h))

pub own_last : (l : List ℕ) (n : ℕ) → n ≤ length l → (length l ≡ n → ⊥) → get_or l (length l - 1) 0 ≡ own_byte (drop n l)
own_last l n h e = sym (rw (length-drop n l) (get_or-drop n l (length l - n - 1) 0 ∙ ap (λ (i : ℕ). get_or l i 0) last))
  where
    last : n + (length l - n - 1) ≡ length l - 1
    last = omega arith

-- one sign test, as the code compares two bits
pub sign_bits : (e own : ℕ) {a : ℕ} → e < 256 → a ≡ axis e → eqb (bit_and (own / 2 ^ (a - 1)) 1) (e / 2 ^ 7) ≡ same_sign (minus e) (high own (axis e))
unfolding minus high
sign_bits e own {a} small is = rw (is, and_mask (own / 2 ^ (axis e - 1)) 1) (go (dec_lt e 128) (own / 2 ^ (axis e - 1) % 2) (mod-lt (own / 2 ^ (axis e - 1)) (omega arith)))
  where
    one_or_none : (x : ℕ) → x < 2 → eqb x 0 ≡ not (eqb x 1)
    one_or_none zero h = refl
    one_or_none (suc zero) h = refl
    one_or_none (suc (suc x)) h = absurd (omega arith)

    go : Dec (e < 128) → (x : ℕ) → x < 2 → eqb x (e / 2 ^ 7) ≡ same_sign (leb 128 e) (eqb x 1)
    go (yes l) x h = let f : e / 2 ^ 7 ≡ 0 = omega arith in rw (lt-leb 128 e l, f) (one_or_none x h)
    go (no l) x h = let f : e / 2 ^ 7 ≡ 1 = omega arith in rw (le-leb 128 e (omega arith), f) refl

-- a test of each element of a list, as `all` answers
pub each_all : (test : ℕ → Bool) (l : List ℕ) {t : Bool} → MatchBool t (AllWithin (λ x. test x ≡ true) l 0 (length l)) ((k : ℕ) × (k < length l) × HoldsAt (λ x. test x ≡ false) l k)
    → t ≡ each (length l) (λ i. test (get_or l i 0))
each_all test l {t = true} h = sym (at_each (length l) (λ i. test (get_or l i 0)) (λ i q. h i 0 (omega arith) q))
each_all test l {t = false} h = sym (each_fails (length l) (λ i. test (get_or l i 0)) h.0 h.1 (h.2 0))

-- a root's bytes, as one word
root_word : (root es : List ℕ) → length root ≤ 4 → es ≡ four_from root 0 → permutes (length root) es ≡ permutes (length root) root
root_word root es few e = permutes_same (length root) es root (λ i h. ap (λ (l : List ℕ). get_or l i 0) e ∙ four_at root 0 i (omega arith) ∙ ap (λ (x : ℕ). get_or root x 0) (zero-add i))

module _ (root : List ℕ) {es : List ℕ} {t : Bool} (few : length root ≤ 4) (e : es ≡ four_from root 0) (told : t ≡ permutes (length root) es) where
  pub root_plain : {u : Bool} → t ≡ true → u ≡ each (length root) (λ i. not (minus (get_or root i 0))) → u ≡ is_root root
  unfolding is_root
  root_plain q f = sym (rw (sym (root_word root es few e) ∙ sym told ∙ q) (sym f))

  pub root_not : t ≡ false → t ≡ is_root root
  unfolding is_root
  root_not q = q ∙ sym (rw (sym (root_word root es few e) ∙ sym told ∙ q) refl)
