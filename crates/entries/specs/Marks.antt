-- The axes of four entries as one mask: their marks, or-ed. And the test of a permutation by it: d entries whose marks are those of
-- 1..d have every axis, so each of them just once; and d entries with the axes 1..d, none repeated, have every mark of 1..d and no other.
use Rattle.std.specs.Prelude.{◌≡◌, refl, All, Bool, true, false, cond, List, [], ◌∷◌, map, ℕ, zero, suc, ◌+◌, ◌-◌, ◌*◌, ◌/◌, ◌%◌, ◌^◌, ◌≤◌, ◌<◌, T, eqb, leb, length, get_or, take}
use Rattle.std.proofs.Math.Path.{sym, ap}
use Rattle.std.proofs.Common.{◌∙◌, subst, arith, pow_pos, get_or-take, length-take-le, eq-eqb, ne_eqb, le-leb}
use Rattle.std.proofs.Math.Nat.{zero-div}
use Rattle.std.proofs.Math.Decide.{dec_lt, dec_le, ℕ_discrete}
use Rattle.std.specs.Int.Bits.{bit_or, bit_and, or_zero_l}
use Rattle.std.proofs.lemmas.Nat.{and_le_r}
use Rattle.std.proofs.lemmas.Nat.Bits.{and_high}
use Rattle.std.proofs.Math.Pow.{pow-lt}
use Rattle.std.proofs.Math.ListN.{get_or-eq_default}
use Rattle.std.proofs.lemmas.Bool.{lt-leb}
use Rattle.std.proofs.lemmas.List.Elements.{All-from_get_or}
use Rattle.bisection.specs.Codes.{axis, minus, high}
use Rattle.bisection.specs.Refusals.{each, permutes, same_sign}
use Rattle.bisection.specs.Theorems.Onto.{Sought, found, none, Taken}
use Rattle.bisection.proofs.Theorems.Onto.{sought, onto}
use Rattle.bisection.specs.Theorems.Entries.{Signed, Stands}
use Rattle.bisection.proofs.Theorems.Entries.{stands}
use Rattle.bisection.proofs.Theorems.Orthants.{bits_same}
use Rattle.bisection.proofs.Theorems.Passing.{same_true}
use Rattle.bisection.proofs.Theorems.Checked.{each_at, permutes_signed, signed_permutes}
use Rattle.entries.specs.Masks.{mark_of, axis_none, marked_high, marked_byte, high_none, shifted_bit}
use Rattle.entries.specs.Walks.{permutes_take}
use Rattle.entries.specs.Words.{bytes_of, bytes_sum, NoneBehind, FirstOf, byte_at, byte_small, and_byte}

-- where every axis stands among d entries, each stands at one place
module _ (d : ℕ) (es : List ℕ) (size : length es ≡ d) (all : (a : ℕ) → 1 ≤ a → a ≤ d → Stands es a d) where
  f : ℕ → ℕ
  f j = axis (get_or es j 0)

  at : (v : ℕ) → Sought f (suc v) d → ℕ
  at v (found i l e) = i
  at v (none n) = 0

  at_is : (v : ℕ) (s : Sought f (suc v) d) → v < d → (at v s < d) × (f (at v s) ≡ suc v)
  unfolding at f
  at_is v (found i l e) h = (l, e)
  at_is v (none n) h = absurd (n t.place t.below t.is)
    where
      t : Stands es (suc v) d
      t = all (suc v) (omega arith) (omega arith)

  g : ℕ → ℕ
  g v = at v (sought f (suc v) d)

  g_is : (v : ℕ) → v < d → (g v < d) × (f (g v) ≡ suc v)
  unfolding g
  g_is v h = at_is v (sought f (suc v) d) h

  back : (j : ℕ) → j < d → Taken g j d
  back j l = onto d g (λ v h. (g_is v h).0) (λ v w h k e. omega (arith, (g_is v h).1, (g_is w k).1, ap f e)) j l

  axis_of_place : (j : ℕ) (l : j < d) → f j ≡ suc (back j l).place
  axis_of_place j l = ap f (sym (back j l).is) ∙ (g_is (back j l).place (back j l).below).1

  pub every_signed : Signed d es
  unfolding f
  every_signed = record {
    size = size;
    low = λ j l. omega (arith, axis_of_place j l);
    high = λ j l. omega (arith, axis_of_place j l, (back j l).below);
    apart = λ i j l m e. sym (back i l).is ∙ ap g (omega (arith, axis_of_place i l, axis_of_place j m, e)) ∙ (back j m).is;
  }

-- the marks of 1..d
marks_table : each 9 (λ d. each 8 (λ a. same_sign (high (2 ^ d - 1) (suc a)) (leb (suc a) d))) ≡ true
unfolding each high
marks_table = refl

full_high : (d a : ℕ) → d < 9 → 1 ≤ a → a ≤ 8 → high (2 ^ d - 1) a ≡ leb a d
full_high d zero h l u = absurd (omega arith)
full_high d (suc a) h l u = same_true (high (2 ^ d - 1) (suc a)) (leb (suc a) d)
    (each_at 8 (λ a. same_sign (high (2 ^ d - 1) (suc a)) (leb (suc a) d))
    (each_at 9 (λ d. each 8 (λ a. same_sign (high (2 ^ d - 1) (suc a)) (leb (suc a) d))) marks_table d h) a (omega arith))

-- the entries before place i are marked, and what is marked stands among them
pub record Marked (es : List ℕ) (i seen : ℕ) : Type 0 where
  pub byte : seen < 2 ^ 8
  pub marks : (j : ℕ) → j < i → 1 ≤ axis (get_or es j 0) → axis (get_or es j 0) ≤ 8 → high seen (axis (get_or es j 0)) ≡ true
  pub from : (a : ℕ) → 1 ≤ a → a ≤ 8 → high seen a ≡ true → Stands es a i

marked_none : (es : List ℕ) → Marked es 0 0
marked_none es = record { byte = pow_pos 8; marks = λ j l. absurd (omega arith); from = λ a l u h. absurd (subst T (sym h ∙ high_none a) tt) }

marked_next : {es : List ℕ} {i seen : ℕ} → Marked es i seen → (e : ℕ) → e ≡ get_or es i 0 → Marked es (i + 1) (bit_or seen (mark_of (axis e)))
marked_next {es} {i} {seen} m e is = record {
  byte = marked_byte seen (axis e) m.byte;
  marks = λ j l low up. marks j l low up (dec_lt j i);
  from = λ a l u h. from a l u h (ℕ_discrete a (axis e));
}
  where
    marks : (j : ℕ) → j < i + 1 → 1 ≤ axis (get_or es j 0) → axis (get_or es j 0) ≤ 8 → Dec (j < i) → high (bit_or seen (mark_of (axis e))) (axis (get_or es j 0)) ≡ true
    marks j l low up (yes q) = rw (marked_high seen (axis e) (axis (get_or es j 0)) low up, m.marks j q low up) (go (eqb (axis (get_or es j 0)) (axis e)))
      where
        go : (t : Bool) → cond t true true ≡ true
        go true = refl
        go false = refl
    marks j l low up (no q) = rw (marked_high seen (axis e) (axis (get_or es j 0)) low up, eq-eqb (axis (get_or es j 0)) (axis e) (ap axis (ap (λ (x : ℕ). get_or es x 0) here ∙ sym is))) refl
      where
        here : j ≡ i
        here = omega arith

    from : (a : ℕ) → 1 ≤ a → a ≤ 8 → high (bit_or seen (mark_of (axis e))) a ≡ true → Dec (a ≡ axis e) → Stands es a (i + 1)
    from a l u h (yes q) = record { place = i; below = omega arith; is = ap axis (sym is) ∙ sym q }
    from a l u h (no q) = record { place = t.place; below = omega (arith, t.below); is = t.is }
      where
        t : Stands es a i
        t = m.from a l u (sym (marked_high seen (axis e) a l u ∙ rw (ne_eqb a (axis e) q) refl) ∙ h)

-- what the four entries of a word mark
abbrev pub MarksOf : List ℕ → ℕ → Type 0
MarksOf es seen = Marked es 4 seen

-- what four bytes give, or-ed
pub record JoinOf (Gives : ℕ → ℕ → Type 0) (es : List ℕ) (r : ℕ) : Type 0 where
  pub first : ℕ
  pub second : ℕ
  pub third : ℕ
  pub fourth : ℕ
  pub gives_first : Gives (get_or es 0 0) first
  pub gives_second : Gives (get_or es 1 0) second
  pub gives_third : Gives (get_or es 2 0) third
  pub gives_fourth : Gives (get_or es 3 0) fourth
  pub is : r ≡ bit_or (bit_or (bit_or first second) third) fourth

-- the marks of what f makes of them
pub joined_marks : (f : ℕ → ℕ) {Gives : ℕ → ℕ → Type 0} {a b c e r : ℕ} → ((x y : ℕ) → Gives x y → y ≡ mark_of (axis (f x)))
    → JoinOf Gives (a ∷ b ∷ c ∷ e ∷ []) r → MarksOf (map f (a ∷ b ∷ c ∷ e ∷ [])) r
joined_marks f {Gives} {a} {b} {c} {e} told j =
    rw (j.is, told a j.first j.gives_first, told b j.second j.gives_second, told c j.third j.gives_third, told e j.fourth j.gives_fourth, ← or_zero_l (mark_of (axis (f a)))) fourth
  where
    es : List ℕ
    es = map f (a ∷ b ∷ c ∷ e ∷ [])

    fourth : MarksOf es (bit_or (bit_or (bit_or (bit_or 0 (mark_of (axis (f a)))) (mark_of (axis (f b)))) (mark_of (axis (f c)))) (mark_of (axis (f e))))
    fourth = marked_next (marked_next (marked_next (marked_next (marked_none es) (f a) refl) (f b) refl) (f c) refl) (f e) refl

-- a byte has a bit for every axis
pub record HaveBits (es : List ℕ) : Type 0 where
  pub few : (i : ℕ) → axis (get_or es i 0) ≤ 8

pub have_bits : {es : List ℕ} → HaveBits es → All (λ e. axis e ≤ 8) es
have_bits {es} h = All-from_get_or (λ e. axis e ≤ 8) es 0 (λ i l. h.few i)

-- the bits that are 0 where no axis is above 7, in a byte and in four
byte_past : (e : ℕ) → e < 256 → (bit_and e 120 ≡ 0 → axis e ≤ 7) × (axis e ≤ 7 → bit_and e 120 ≡ 0)
unfolding axis minus
byte_past e small = rw (and_high e 4 3) (go (dec_lt e 128))
  where
    with_plus : (x : ℕ) → x < 16 → x % 2 ^ 4 ≡ x
    with_plus x u = omega arith

    with_minus : (x : ℕ) → 16 ≤ x → x < 32 → x % 2 ^ 4 ≡ x - 16
    with_minus x l u = omega arith

    go : Dec (e < 128) → (e / 2 ^ 3 % 2 ^ 4 * 2 ^ 3 ≡ 0 → cond (leb 128 e) (e - 128) e ≤ 7) × (cond (leb 128 e) (e - 128) e ≤ 7 → e / 2 ^ 3 % 2 ^ 4 * 2 ^ 3 ≡ 0)
    go (yes h) = rw (lt-leb 128 e h, with_plus (e / 2 ^ 3) (omega arith)) (λ q. omega arith, λ q. omega arith)
    go (no h) = rw (le-leb 128 e (omega arith), with_minus (e / 2 ^ 3) (omega arith) (omega arith)) (λ q. omega arith, λ q. omega arith)

abbrev past_seven : ℕ
past_seven = 2021161080

module _ (w : ℕ) where
  past_byte : (i : ℕ) → i < 4 → get_or (bytes_of (bit_and w past_seven)) i 0 ≡ bit_and (get_or (bytes_of w) i 0) 120
  past_byte i h = and_byte w past_seven i h ∙ ap (bit_and (get_or (bytes_of w) i 0)) (each_past i h)
    where
      each_past : (i : ℕ) → i < 4 → get_or (bytes_of past_seven) i 0 ≡ 120
      each_past zero h = refl
      each_past (suc zero) h = refl
      each_past (suc (suc zero)) h = refl
      each_past (suc (suc (suc zero))) h = refl
      each_past (suc (suc (suc (suc i)))) h = absurd (omega arith)

  pub none_past : bit_and w past_seven ≡ 0 → HaveBits (bytes_of w)
  none_past q = record { few = λ i. go i (dec_lt i 4) }
    where
      go : (i : ℕ) → Dec (i < 4) → axis (get_or (bytes_of w) i 0) ≤ 8
      go i (yes h) = omega (arith, (byte_past (get_or (bytes_of w) i 0) (byte_small w i h)).0 (sym (past_byte i h) ∙ ap (λ (x : ℕ). get_or (bytes_of x) i 0) q ∙ zero_byte i h))
        where
          zero_byte : (i : ℕ) → i < 4 → get_or (bytes_of 0) i 0 ≡ 0
          zero_byte i h = sym (byte_at 0 i h) ∙ rw (zero-div (2 ^ (8 * i))) refl
      go i (no h) = omega (arith, ap axis (get_or-eq_default (bytes_of w) 0 {n = i} (omega arith)), axis_none)

  all_small : ((i : ℕ) → i < 4 → axis (get_or (bytes_of w) i 0) ≤ 7) → bit_and w past_seven ≡ 0
  all_small h = bytes_sum (bit_and w past_seven) (omega (arith, and_le_r w past_seven)) (none 0 (omega arith)) (none 1 (omega arith)) (none 2 (omega arith)) (none 3 (omega arith))
    where
      none : (i : ℕ) → i < 4 → get_or (bytes_of (bit_and w past_seven)) i 0 ≡ 0
      none i l = past_byte i l ∙ (byte_past (get_or (bytes_of w) i 0) (byte_small w i l)).1 (h i l)

-- where zeros stand behind the first k, what has an axis is one of the k
pub first_at : {k : ℕ} {es fs : List ℕ} → FirstOf k es fs → (a j : ℕ) → 1 ≤ a → axis (get_or fs j 0) ≡ a → (j < k) × (axis (get_or es j 0) ≡ a)
first_at {k} {es} first a j l q = go (dec_lt j k)
  where
    go : Dec (j < k) → (j < k) × (axis (get_or es j 0) ≡ a)
    go (yes h) = (h, ap axis (sym (first.kept j h)) ∙ q)
    go (no h) = absurd (omega (arith, ap axis (first.none j (omega arith)), axis_none))

-- entries with zeros behind them
module _ {d : ℕ} {es : List ℕ} (long : length es ≡ 4) (few : d ≤ 4) (behind : NoneBehind d es) where
  size : length (take d es) ≡ d
  size = length-take-le d es (omega arith)

  kept : (i : ℕ) → i < d → get_or (take d es) i 0 ≡ get_or es i 0
  kept i h = get_or-take d es i 0 h

  front : FirstOf d (take d es) es
  front = record { kept = λ i h. sym (kept i h); none = behind.none }

  one_of : {a : ℕ} → 1 ≤ a → Stands es a 4 → Stands (take d es) a d
  one_of {a} l t = record { place = t.place; below = at.0; is = at.1 }
    where
      at : (t.place < d) × (axis (get_or (take d es) t.place 0) ≡ a)
      at = first_at front a t.place l t.is

  module _ {seen : ℕ} (m : MarksOf es seen) where
    high_of : Signed d (take d es) → (a : ℕ) → 1 ≤ a → a ≤ 8 → Dec (a ≤ d) → high seen a ≡ leb a d
    high_of s a l u (yes q) = subst (λ (b : ℕ). high seen b ≡ true) is (m.marks t.place (omega (arith, t.below)) (omega (arith, is)) (omega (arith, is))) ∙ sym (le-leb a d q)
      where
        t : Stands (take d es) a d
        t = stands s a l q

        is : axis (get_or es t.place 0) ≡ a
        is = ap axis (sym (kept t.place t.below)) ∙ t.is
    high_of s a l u (no q) = none' (high seen a) refl ∙ sym (lt-leb a d (omega arith))
      where
        none' : (t : Bool) → high seen a ≡ t → t ≡ false
        none' false e = refl
        none' true e = absurd (omega (arith, s.high t.place t.below, t.is))
          where
            t : Stands (take d es) a d
            t = one_of l (m.from a l u e)

    marks_permute : eqb seen (2 ^ d - 1) ≡ permutes d (take d es)
    marks_permute = go (ℕ_discrete seen (2 ^ d - 1))
      where
        wrong : (seen ≡ 2 ^ d - 1 → ⊥) → (t : Bool) → permutes d (take d es) ≡ t → t ≡ false
        wrong n false e = refl
        wrong n true e = absurd (n (bits_same 8 seen (2 ^ d - 1) m.byte (omega (arith, pow-lt {i = d} {j = 8} (omega arith)))
            (λ a l u. high_of (permutes_signed d (take d es) size e) a l u (dec_le a d) ∙ sym (full_high d a (omega arith) l u))))

        go : Dec (seen ≡ 2 ^ d - 1) → eqb seen (2 ^ d - 1) ≡ permutes d (take d es)
        go (yes e) = eq-eqb seen (2 ^ d - 1) e ∙ sym
            (signed_permutes d (take d es) (every_signed d (take d es) size
            (λ a l u. one_of l (m.from a l (omega arith) (ap (λ (o : ℕ). high o a) e ∙ full_high d a (omega arith) l (omega arith) ∙ le-leb a d u)))))
        go (no n) = ne_eqb seen (2 ^ d - 1) n ∙ sym (wrong n (permutes d (take d es)) refl)

    pub permuted_all : eqb seen (1 * 2 ^ d % 2 ^ 32 - 1) ≡ permutes d es
    permuted_all = ap (λ (o : ℕ). eqb seen (o - 1)) (shifted_bit 32 d (omega arith)) ∙ marks_permute ∙ permutes_take d es

pub permuted_signed : {d : ℕ} (es : List ℕ) → permutes d es ≡ true → d ≤ length es → Signed d (take d es)
permuted_signed {d} es p room = permutes_signed d (take d es) (length-take-le d es room) (permutes_take d es ∙ p)

-- no axis of a permutation is above d, nor of what stands behind
pub permuted_few : {d : ℕ} {es : List ℕ} → permutes d es ≡ true → NoneBehind d es → d ≤ length es → (i : ℕ) → axis (get_or es i 0) ≤ d
permuted_few {d} {es} p behind room i = go (dec_lt i d)
  where
    go : Dec (i < d) → axis (get_or es i 0) ≤ d
    go (yes h) = subst (λ (e : ℕ). axis e ≤ d) (get_or-take d es i 0 h) ((permuted_signed es p room).high i h)
    go (no h) = omega (arith, ap axis (behind.none i (omega arith)), axis_none)

pub one_past : (w : ℕ) {d : ℕ} → d ≤ 4 → NoneBehind d (bytes_of w) → (bit_and w past_seven ≡ 0 → ⊥) → false ≡ permutes d (bytes_of w)
one_past w {d} few behind n = sym (go (permutes d (bytes_of w)) refl)
  where
    go : (t : Bool) → permutes d (bytes_of w) ≡ t → t ≡ false
    go false e = refl
    go true e = absurd (n (all_small w (λ i h. omega (arith, permuted_few e behind few i))))
