-- The orthants or-ed, four at a time: no byte of a word has a bit at d or above just where no orthant that is in it has one.
use Rattle.std.specs.Prelude.{◌≡◌, refl, true, false, List, eqb, length, drop}
use Rattle.std.proofs.Math.Path.{sym, ap, subst}
use Rattle.std.proofs.Common.{◌∙◌, div-add-mod', mod-lt, pow_pos, get_or-drop, Fits, lt-ltb, eq-eqb, ne_eqb, ltb-true}
use Rattle.std.proofs.Math.Bool.{Bool}
use Prim.Native.Nat.{ℕ, zero, suc, ◌+◌, ◌-◌, ◌*◌, ◌/◌, ◌^◌, min, ◌≤◌, ◌<◌}
use native.Mathlib.Omega.{arith}
use Rattle.std.proofs.Math.Nat.{div-eq_of_lt}
use Rattle.std.proofs.Math.Decide.{dec_lt}
use Rattle.std.proofs.Math.Dec.{ltb}
use Rattle.std.specs.Int.Bits.{bit_or}
use Rattle.std.proofs.lemmas.Nat.{or_lt, le_or_l, le_or_r}
use Rattle.std.proofs.Math.ListN.{get_or, length-drop, get_or-eq_default}
use Rattle.std.specs.Int.{w8, w32, to_le_bytes}
use Rattle.bisection.specs.Refusals.{each, orthants_fit}
use Rattle.bisection.proofs.Theorems.Checked.{each_at, at_each}
use Rattle.entries.specs.Words.{word_of, bytes_of, le_bytes, four_from, four_at, bytes_same, bytes_of_sum, or_byte}

-- four orthants as a word: those from a place on that is no later than i, and among them all from i to i + 3 that there are
pub record OrthantsFrom (os : List ℕ) (i r : ℕ) : Type 0 where
  pub from : ℕ
  pub start : from ≤ i
  pub near : (j : ℕ) → j < i + 4 → j < length os → j < from + 4
  pub bytes : bytes_of r ≡ four_from os from

-- as they are read: four bytes of the code, those before the orthants shifted out
module _ (code : List ℕ) (known : (i : ℕ) → Fits w8 (get_or code i 0)) (first i : ℕ) (four : 4 ≤ length code) (some : first < length code) where
  os : List ℕ
  os = drop first code

  abbrev n : ℕ
  n = length code

  small : (j : ℕ) → get_or code j 0 < 256
  small j = omega (arith, (known j).fits)

  -- where there are four or more
  many : (p w : ℕ) → first + 4 ≤ n → p ≡ min (first + i) (n - 4) → w ≡ word_of (four_from code p) → OrthantsFrom os i w
  unfolding word_of os
  many p w h e f = record {
    from = p - first;
    start = omega arith;
    near = λ j l m. omega (arith, length-drop first code);
    bytes = ap bytes_of (f ∙ omega arith) ∙ bytes_of_sum (get_or code p 0) (get_or code (p + 1) 0) (get_or code (p + 2) 0) (get_or code (p + 3) 0) (small p) (small (p + 1)) (small (p + 2)) (small (p + 3))
        ∙ bytes_same (there (p - first) p (omega arith)) (there (p - first + 1) (p + 1) (omega arith)) (there (p - first + 2) (p + 2) (omega arith)) (there (p - first + 3) (p + 3) (omega arith));
  }
    where
      there : (m q : ℕ) → first + m ≡ q → get_or code q 0 ≡ get_or (drop first code) m 0
      there m q g = sym (get_or-drop first code m 0 ∙ ap (λ (j : ℕ). get_or code j 0) g)

  -- where there are fewer
  module _ (w : ℕ) (f : w ≡ word_of (four_from code (n - 4))) where
    there : (m q : ℕ) → first + m ≡ q → get_or code q 0 ≡ get_or os m 0
    unfolding os
    there m q g = sym (get_or-drop first code m 0 ∙ ap (λ (j : ℕ). get_or code j 0) g)

    past : (m : ℕ) → n ≤ first + m → 0 ≡ get_or os m 0
    unfolding os
    past m h = sym (get_or-eq_default (drop first code) 0 {n = m} (rw (length-drop first code) (omega arith)))

    sum : w ≡ get_or code (n - 4) 0 + 256 * get_or code (n - 4 + 1) 0 + 65536 * get_or code (n - 4 + 2) 0 + 16777216 * get_or code (n - 4 + 3) 0
    unfolding word_of
    sum = f ∙ omega arith

    -- the bytes before the orthants shifted out of four
    shifted_one : (a b c e x : ℕ) → a < 256 → b < 256 → c < 256 → x ≡ a + 256 * b + 65536 * c + 16777216 * e → x / 2 ^ 24 ≡ e
    shifted_one a b c e x p q r h = omega arith

    shifted_two : (a b c e x : ℕ) → a < 256 → b < 256 → x ≡ a + 256 * b + 65536 * c + 16777216 * e → x / 2 ^ 16 ≡ c + 256 * e
    shifted_two a b c e x p q h = omega arith

    shifted_three : (a b c e x : ℕ) → a < 256 → x ≡ a + 256 * b + 65536 * c + 16777216 * e → x / 2 ^ 8 ≡ b + 256 * c + 65536 * e
    shifted_three a b c e x p h = omega arith

    few_bytes : (b : ℕ) → 1 ≤ b → b < 4 → n ≡ first + b → bytes_of (w / 2 ^ (8 * (4 - b))) ≡ four_from os 0
    few_bytes zero l u e = absurd (omega arith)
    few_bytes (suc zero) l u e =
        ap bytes_of (shifted_one (get_or code (n - 4) 0) (get_or code (n - 4 + 1) 0) (get_or code (n - 4 + 2) 0) (get_or code (n - 4 + 3) 0) w (small (n - 4)) (small (n - 4 + 1)) (small (n - 4 + 2)) sum ∙ omega arith)
        ∙ bytes_of_sum (get_or code (n - 4 + 3) 0) 0 0 0 (small (n - 4 + 3)) (omega arith) (omega arith) (omega arith)
        ∙ bytes_same (there 0 (n - 4 + 3) (omega arith)) (past 1 (omega arith)) (past 2 (omega arith)) (past 3 (omega arith))
    few_bytes (suc (suc zero)) l u e =
        ap bytes_of (shifted_two (get_or code (n - 4) 0) (get_or code (n - 4 + 1) 0) (get_or code (n - 4 + 2) 0) (get_or code (n - 4 + 3) 0) w (small (n - 4)) (small (n - 4 + 1)) sum ∙ omega arith)
        ∙ bytes_of_sum (get_or code (n - 4 + 2) 0) (get_or code (n - 4 + 3) 0) 0 0 (small (n - 4 + 2)) (small (n - 4 + 3)) (omega arith) (omega arith)
        ∙ bytes_same (there 0 (n - 4 + 2) (omega arith)) (there 1 (n - 4 + 3) (omega arith)) (past 2 (omega arith)) (past 3 (omega arith))
    few_bytes (suc (suc (suc zero))) l u e =
        ap bytes_of (shifted_three (get_or code (n - 4) 0) (get_or code (n - 4 + 1) 0) (get_or code (n - 4 + 2) 0) (get_or code (n - 4 + 3) 0) w (small (n - 4)) sum ∙ omega arith)
        ∙ bytes_of_sum (get_or code (n - 4 + 1) 0) (get_or code (n - 4 + 2) 0) (get_or code (n - 4 + 3) 0) 0 (small (n - 4 + 1)) (small (n - 4 + 2)) (small (n - 4 + 3)) (omega arith)
        ∙ bytes_same (there 0 (n - 4 + 1) (omega arith)) (there 1 (n - 4 + 2) (omega arith)) (there 2 (n - 4 + 3) (omega arith)) (past 3 (omega arith))
    few_bytes (suc (suc (suc (suc b)))) l u e = absurd (omega arith)

  pub orthants_read : {p q w : ℕ} → p ≡ min (first + i) (n - 4) → q ≡ min (n - first) 4 → w ≡ word_of (four_from code p) → OrthantsFrom (drop first code) i (w / 2 ^ (8 * (4 - q)))
  unfolding os
  orthants_read {p} {q} {w} e f g = go (dec_lt (n - first) 4)
    where
      go : Dec (n - first < 4) → OrthantsFrom (drop first code) i (w / 2 ^ (8 * (4 - q)))
      go (no l) = subst (OrthantsFrom (drop first code) i) whole (many p w (omega arith) e g)
        where
          whole : w ≡ w / 2 ^ (8 * (4 - q))
          whole = let h : q ≡ 4 = omega arith in rw h (omega arith)
      go (yes l) = record {
        from = 0;
        start = omega arith;
        near = λ j h m. omega (arith, length-drop first code);
        bytes = let h : q ≡ n - first = omega arith in rw h (few_bytes w (g ∙ ap (λ (x : ℕ). word_of (four_from code x)) (omega arith)) (n - first) (omega arith) l (omega arith));
      }

-- ---- the walk

-- the orthants before i are or-ed: those that there are
pub record FitSoFar (d : ℕ) (os : List ℕ) (i any : ℕ) : Type 0 where
  pub every : ((m : ℕ) → m < 4 → get_or (bytes_of any) m 0 < 2 ^ d) → (j : ℕ) → j < i → j < length os → get_or os j 0 < 2 ^ d
  pub fits : ((j : ℕ) → j < length os → get_or os j 0 < 2 ^ d) → (m : ℕ) → m < 4 → get_or (bytes_of any) m 0 < 2 ^ d

none_byte : (m : ℕ) → m < 4 → get_or (bytes_of 0) m 0 ≡ 0
none_byte zero h = refl
none_byte (suc zero) h = refl
none_byte (suc (suc zero)) h = refl
none_byte (suc (suc (suc zero))) h = refl
none_byte (suc (suc (suc (suc m)))) h = absurd (omega arith)

pub fit_none : (d : ℕ) (os : List ℕ) → FitSoFar d os 0 0
fit_none d os = record { every = λ h j l m. absurd (omega arith); fits = λ f m l. rw (none_byte m l) (pow_pos d) }

module _ {d : ℕ} {os : List ℕ} {i any : ℕ} (t : FitSoFar d os i any) where
  pub fit_next : {w : ℕ} → OrthantsFrom os i w → FitSoFar d os (i + 4) (bit_or any w)
  fit_next {w} o = record { every = λ h j l m. go h j l m (dec_lt j i); fits = λ f m l. rw (or_byte any w m l) (or_lt d (get_or (bytes_of any) m 0) (get_or (bytes_of w) m 0) (t.fits f m l) (rw (byte_is m l) (in_bounds f (o.from + m) (dec_lt (o.from + m) (length os))))) }
    where
      byte_is : (m : ℕ) → m < 4 → get_or (bytes_of w) m 0 ≡ get_or os (o.from + m) 0
      byte_is m l = ap (λ (b : List ℕ). get_or b m 0) o.bytes ∙ four_at os o.from m l

      in_bounds : ((j : ℕ) → j < length os → get_or os j 0 < 2 ^ d) → (j : ℕ) → Dec (j < length os) → get_or os j 0 < 2 ^ d
      in_bounds f j (yes l) = f j l
      in_bounds f j (no l) = rw (get_or-eq_default os 0 {n = j} (omega arith)) (pow_pos d)

      go : ((m : ℕ) → m < 4 → get_or (bytes_of (bit_or any w)) m 0 < 2 ^ d) → (j : ℕ) → j < i + 4 → j < length os → Dec (j < i) → get_or os j 0 < 2 ^ d
      go h j l m (yes q) = t.every (λ x y. omega (arith, h x y, or_byte any w x y, le_or_l (get_or (bytes_of any) x 0) (get_or (bytes_of w) x 0))) j q m
      go h j l m (no q) = omega (arith, here, h (j - o.from) in_four, or_byte any w (j - o.from) in_four, le_or_r (get_or (bytes_of any) (j - o.from) 0) (get_or (bytes_of w) (j - o.from) 0))
        where
          in_four : j - o.from < 4
          in_four = omega (arith, o.near j l m, o.start)

          here : get_or (bytes_of w) (j - o.from) 0 ≡ get_or os j 0
          here = byte_is (j - o.from) in_four ∙ ap (λ (x : ℕ). get_or os x 0) (omega (arith, o.start))

  -- the bytes of the word or-ed
  byte : ℕ → ℕ
  byte m = get_or (bytes_of any) m 0

  abbrev joined : ℕ
  joined = bit_or (bit_or (bit_or (byte 0) (byte 1)) (byte 2)) (byte 3)

  bytes_under : joined < 2 ^ d → (m : ℕ) → m < 4 → byte m < 2 ^ d
  bytes_under l zero u = omega (arith, le_or_l (byte 0) (byte 1), le_or_l (bit_or (byte 0) (byte 1)) (byte 2), le_or_l (bit_or (bit_or (byte 0) (byte 1)) (byte 2)) (byte 3))
  bytes_under l (suc zero) u = omega (arith, le_or_r (byte 0) (byte 1), le_or_l (bit_or (byte 0) (byte 1)) (byte 2), le_or_l (bit_or (bit_or (byte 0) (byte 1)) (byte 2)) (byte 3))
  bytes_under l (suc (suc zero)) u = omega (arith, le_or_r (bit_or (byte 0) (byte 1)) (byte 2), le_or_l (bit_or (bit_or (byte 0) (byte 1)) (byte 2)) (byte 3))
  bytes_under l (suc (suc (suc zero))) u = omega (arith, le_or_r (bit_or (bit_or (byte 0) (byte 1)) (byte 2)) (byte 3))
  bytes_under l (suc (suc (suc (suc m)))) u = absurd (omega arith)

  joined_under : ((m : ℕ) → m < 4 → byte m < 2 ^ d) → joined < 2 ^ d
  joined_under u = or_lt d (bit_or (bit_or (byte 0) (byte 1)) (byte 2)) (byte 3)
      (or_lt d (bit_or (byte 0) (byte 1)) (byte 2) (or_lt d (byte 0) (byte 1) (u 0 (omega arith)) (u 1 (omega arith))) (u 2 (omega arith))) (u 3 (omega arith))

  pub fit_all : {bs : List ℕ} → bs ≡ to_le_bytes w32 any → length os ≤ i
      → eqb (bit_or (bit_or (bit_or (get_or bs 0 0) (get_or bs 1 0)) (get_or bs 2 0)) (get_or bs 3 0) / 2 ^ d) 0 ≡ orthants_fit d os
  unfolding orthants_fit byte
  fit_all same all = rw (same ∙ le_bytes any) (go (dec_lt joined (2 ^ d)))
    where
      test : ℕ → Bool
      test j = ltb (get_or os j 0) (2 ^ d)

      go : Dec (joined < 2 ^ d) → eqb (joined / 2 ^ d) 0 ≡ each (length os) test
      go (yes l) = eq-eqb (joined / 2 ^ d) 0 (div-eq_of_lt l) ∙ sym (at_each (length os) test (λ j m. lt-ltb (get_or os j 0) (2 ^ d) (t.every (bytes_under l) j (omega arith) m)))
      go (no l) = ne_eqb (joined / 2 ^ d) 0 (λ q. l (low q)) ∙ sym (none (each (length os) test) refl)
        where
          low : joined / 2 ^ d ≡ 0 → joined < 2 ^ d
          low q = omega (arith, div-add-mod' joined (2 ^ d), ap (λ (u : ℕ). u * 2 ^ d) q, mod-lt joined (pow_pos d))

          none : (t' : Bool) → each (length os) test ≡ t' → t' ≡ false
          none false q = refl
          none true q = absurd (l (joined_under (t.fits (λ j m. ltb-true (get_or os j 0) (2 ^ d) (each_at (length os) test q j m)))))

pub fit_empty : (d : ℕ) (os : List ℕ) → length os ≡ 0 → true ≡ orthants_fit d os
unfolding orthants_fit each
fit_empty d os e = rw e refl
