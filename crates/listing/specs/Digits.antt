-- Numbers in decimal and bytes in hex: how long they are, and the digits that `io::decimal` makes.
use Rattle.std.specs.Prelude.{◌≡◌, refl, List, [], ◌∷◌, ◌++◌, ℕ, zero, suc, ◌+◌, ◌-◌, ◌*◌, ◌/◌, ◌%◌, ◌^◌, ◌≤◌, ◌<◌, length, get_or, drop, set}
use Rattle.std.proofs.Math.Path.{ap}
use Rattle.std.proofs.Common.{◌∙◌, subst, arith, add-one, pow-suc, length-append, drop_of_length-le, drop-cons, lt-ltb, le-ltb}
use Rattle.std.proofs.Math.Nat.{pow-zero}
use Rattle.std.proofs.Math.Decide.{dec_lt}
use Rattle.io.specs.Digits.{hex_digit_ascii, last_digits, IsDigitCount}
use Rattle.listing.specs.Texts.{digit, spelled, decimal, hex}
use Rattle.common.specs.Putting.{Putting, putting_start, putting_next, putting_end, put_two, Puts}

-- ten times a power
tenfold : (k : ℕ) → 10 ^ suc k ≡ 10 ^ k * 10
tenfold k = pow-suc 10 k

few : (k : ℕ) → k < 10 ^ k
few zero = omega (arith, pow-zero 10)
few (suc k) = omega (arith, few k, tenfold k)

at_least : (n k : ℕ) → IsDigitCount 10 1 n (suc (suc k)) → 10 ^ suc k ≤ n
at_least n k f = subst (λ (j : ℕ). 10 ^ j ≤ n) one_less (f.2 (omega arith))
  where
    one_less : suc (suc k) - 1 ≡ suc k
    one_less = omega arith

spelled_is : (fuel k n : ℕ) → k ≤ fuel → IsDigitCount 10 1 n k → last_digits 10 k n ≡ spelled fuel n
unfolding spelled digit
spelled_is fuel zero n h f = absurd (omega (arith, f.0))
spelled_is zero (suc k) n h f = absurd (omega arith)
spelled_is (suc fuel) (suc zero) n h f = rw (lt-ltb n 10 (omega (arith, f.1, tenfold 0, pow-zero 10))) refl
spelled_is (suc fuel) (suc (suc k)) n h f =
    rw (le-ltb n 10 (omega (arith, at_least n k f, tenfold k, few k))) (ap (λ (l : List ℕ). l ++ (hex_digit_ascii (n % 10) ∷ [])) (spelled_is fuel (suc k) (n / 10) (omega arith) (omega arith, omega (arith, f.1, tenfold (suc k)), λ q. omega (arith, at_least n k f, tenfold k, fewer))))
  where
    one_less : suc k - 1 ≡ k
    one_less = omega arith

    fewer : 10 ^ (suc k - 1) ≡ 10 ^ k
    fewer = ap (λ (j : ℕ). 10 ^ j) one_less

pub decimal_is : (n k : ℕ) → IsDigitCount 10 1 n k → last_digits 10 k n ≡ decimal n
unfolding decimal
decimal_is n k f = spelled_is (suc n) k n (go (dec_lt 1 k)) f
  where
    go : Dec (1 < k) → k ≤ suc n
    go (yes h) = omega (arith, f.2 h, few (k - 1))
    go (no h) = omega arith

spelled_short : (fuel k n : ℕ) → n < 10 ^ suc k → length (spelled fuel n) ≤ suc k
unfolding spelled
spelled_short zero k n h = omega arith
spelled_short (suc fuel) zero n h = rw (lt-ltb n 10 (omega (arith, tenfold 0, pow-zero 10))) (omega arith)
spelled_short (suc fuel) (suc k) n h = go (dec_lt n 10) (spelled_short fuel k (n / 10) (omega (arith, tenfold (suc k))))
  where
    go : Dec (n < 10) → length (spelled fuel (n / 10)) ≤ suc k → length (spelled (suc fuel) n) ≤ suc (suc k)
    go (yes q) l = rw (lt-ltb n 10 q) (omega arith)
    go (no q) l = rw (le-ltb n 10 (omega arith)) (omega (arith, length-append (spelled fuel (n / 10)) (digit (n % 10) ∷ [])))

-- as many digits as the power of ten that a number is below
pub decimal_short : (n k : ℕ) → n < 10 ^ suc k → length (decimal n) ≤ suc k
unfolding decimal
decimal_short n k h = spelled_short (suc n) k n h

pub hex_length : (bs : List ℕ) → length (hex bs) ≡ 2 * length bs
unfolding hex
hex_length [] = refl
hex_length (b ∷ bs) = omega (arith, hex_length bs)

-- the hex of bytes under way: those from i on are left
pub hexing_start : (at : ℕ) (bytes out : List ℕ) → at + 2 * length bytes ≤ length out → Putting at (hex bytes) out (at + 2 * 0) (hex bytes) out
hexing_start at bytes out h = subst (λ (n : ℕ). Putting at (hex bytes) out n (hex bytes) out) (omega arith) (putting_start at (hex bytes) out (omega (arith, hex_length bytes)))

module _ (at : ℕ) (bytes : List ℕ) (i : ℕ) {out₀ out : List ℕ} (on : Putting at (hex bytes) out₀ (at + 2 * i) (hex (drop i bytes)) out) where
  pub hexing_next : {x y : ℕ} → i < length bytes → x ≡ digit (get_or bytes i 0 / 16) → y ≡ digit (get_or bytes i 0 % 16)
      → Putting at (hex bytes) out₀ (at + 2 * (i + 1)) (hex (drop (i + 1) bytes)) (set (set out (at + 2 * i) x) (at + 2 * i + 1) y)
  unfolding hex
  hexing_next {x} {y} h e f = subst (λ (n : ℕ). Putting at (hex bytes) out₀ n (hex (drop (i + 1) bytes)) (set (set out (at + 2 * i) x) (at + 2 * i + 1) y)) (omega arith)
      (putting_next on (x ∷ y ∷ []) (hex (drop (i + 1) bytes)) left_is (put_two (at + 2 * i) x y out (omega (arith, on.fits, ap length left_is))))
    where
      left_is : hex (drop i bytes) ≡ (x ∷ y ∷ []) ++ hex (drop (i + 1) bytes)
      left_is = ap hex (drop-cons bytes i 0 h) ∙ rw (e, f, add-one i) refl

  pub hexing_end : i ≤ length bytes → length bytes ≤ i → Puts at (hex bytes) out₀ (at + 2 * length bytes) out
  unfolding hex
  hexing_end h l = subst (λ (n : ℕ). Puts at (hex bytes) out₀ (at + 2 * n) out) (omega arith) (putting_end on (ap hex (drop_of_length-le bytes l)))
