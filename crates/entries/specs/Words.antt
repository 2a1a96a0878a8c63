-- Bytes as one word, the first in its lowest byte.
use Rattle.std.specs.Prelude.{◌≡◌, refl, List, [], ◌∷◌, length}
use Rattle.std.proofs.Common.{◌∙◌, arith, mod-lt, lt_of_lt_of_le, pow_pos, pow_mono}
use Rattle.std.proofs.Math.Path.{ap}
use Prim.Native.Nat.{ℕ, zero, suc, ◌+◌, ◌-◌, ◌*◌, ◌/◌, ◌%◌, ◌^◌, ◌≤◌, ◌<◌}
use Rattle.std.proofs.Math.Nat.{div-eq_of_lt}
use Rattle.std.proofs.Math.Decide.{dec_lt}
use Rattle.std.specs.Int.Bits.{bit_and, bit_or, bit_xor}
use Rattle.std.proofs.lemmas.Nat.{and_shr, and_mod, or_shr, or_mod, xor_shr, xor_mod, shl-shr}
use Rattle.std.proofs.Math.Pow.{field, mod-mod-pow}
use Rattle.std.specs.Int.{w32, to_le_bytes, from_le_bytes}
use Rattle.std.proofs.Math.ListN.{get_or, get_or-eq_default}

unfoldable pub word_of : List ℕ → ℕ
word_of [] = 0
word_of (x ∷ xs) = x + 256 * word_of xs

abbrev pub bytes_of : ℕ → List ℕ
bytes_of w = w / 2 ^ 0 % 256 ∷ w / 2 ^ 8 % 256 ∷ w / 2 ^ 16 % 256 ∷ w / 2 ^ 24 % 256 ∷ []

-- the four from a place on
abbrev pub four_from : List ℕ → ℕ → List ℕ
four_from l at = get_or l at 0 ∷ get_or l (at + 1) 0 ∷ get_or l (at + 2) 0 ∷ get_or l (at + 3) 0 ∷ []

pub four_at : (l : List ℕ) (p m : ℕ) → m < 4 → get_or (four_from l p) m 0 ≡ get_or l (p + m) 0
four_at l p zero h = ap (λ (k : ℕ). get_or l k 0) (omega arith)
four_at l p (suc zero) h = refl
four_at l p (suc (suc zero)) h = refl
four_at l p (suc (suc (suc zero))) h = refl
four_at l p (suc (suc (suc (suc m)))) h = absurd (omega arith)

pub bytes_same : {p q r s p' q' r' s' : ℕ} → p ≡ p' → q ≡ q' → r ≡ r' → s ≡ s' → p ∷ q ∷ r ∷ s ∷ [] ≡ p' ∷ q' ∷ r' ∷ s' ∷ []
bytes_same f g h k = rw (f, g, h, k) refl

pub le_bytes : (w : ℕ) → to_le_bytes w32 w ≡ bytes_of w
le_bytes w = bytes_same (omega arith) refl refl refl

-- four bytes are those of their word
pub bytes_of_sum : (a b c e : ℕ) → a < 256 → b < 256 → c < 256 → e < 256 → bytes_of (a + 256 * b + 65536 * c + 16777216 * e) ≡ a ∷ b ∷ c ∷ e ∷ []
bytes_of_sum a b c e p q r s = bytes_same (omega arith) (omega arith) (omega arith) (omega arith)

pub word_sum : (a b c e : ℕ) {p q r s : ℕ} → p ≡ a → q ≡ b → r ≡ c → s ≡ e → p + 256 * q + 65536 * r + 16777216 * s ≡ word_of (a ∷ b ∷ c ∷ e ∷ [])
unfolding word_of
word_sum a b c e f g h k = omega arith

-- a word is the sum of its bytes
pub bytes_sum : (y : ℕ) {p q r s : ℕ} → y < 2 ^ 32 → y / 2 ^ 0 % 256 ≡ p → y / 2 ^ 8 % 256 ≡ q → y / 2 ^ 16 % 256 ≡ r → y / 2 ^ 24 % 256 ≡ s
    → y ≡ p + 256 * q + 65536 * r + 16777216 * s
bytes_sum y {p} {q} {r} {s} h e f g k = omega (arith, low, second, third, top)
  where
    low : y ≡ p + 256 * (y / 2 ^ 8)
    low = omega (arith, e)

    second : y / 2 ^ 8 ≡ q + 256 * (y / 2 ^ 16)
    second = omega (arith, f)

    third : y / 2 ^ 16 ≡ r + 256 * (y / 2 ^ 24)
    third = omega (arith, g)

    top : y / 2 ^ 24 ≡ s
    top = omega (arith, k, h)

-- the word of four bytes
pub record WordOf (a b c e w : ℕ) : Type 0 where
  pub is : w ≡ word_of (a ∷ b ∷ c ∷ e ∷ [])
  pub bytes : bytes_of w ≡ a ∷ b ∷ c ∷ e ∷ []

-- as the code makes it
pub word_of_bytes : {a b c e w : ℕ} → a < 256 → b < 256 → c < 256 → e < 256 → w ≡ from_le_bytes w32 (a ∷ b ∷ c ∷ e ∷ []) → WordOf a b c e w
unfolding word_of
word_of_bytes {a} {b} {c} {e} f g h k q = record {
  is = omega (arith, q);
  bytes = bytes_same (omega (arith, q)) (omega (arith, q)) (omega (arith, q)) (omega (arith, q));
}

-- zeros stand behind the first d
pub record NoneBehind (d : ℕ) (es : List ℕ) : Type 0 where
  pub none : (m : ℕ) → d ≤ m → get_or es m 0 ≡ 0

pub none_behind : (l : List ℕ) {es : List ℕ} → es ≡ four_from l 0 → NoneBehind (length l) es
none_behind l e = record { none = λ m h. ap (λ (x : List ℕ). get_or x m 0) e ∙ go m h (dec_lt m 4) }
  where
    go : (m : ℕ) → length l ≤ m → Dec (m < 4) → get_or (four_from l 0) m 0 ≡ 0
    go m h (yes q) = four_at l 0 m q ∙ get_or-eq_default l 0 {n = 0 + m} (omega arith)
    go m h (no q) = get_or-eq_default (four_from l 0) 0 {n = m} (omega arith)

-- the first k, and zeros behind them
pub record FirstOf (k : ℕ) (es fs : List ℕ) : Type 0 where
  pub kept : (i : ℕ) → i < k → get_or fs i 0 ≡ get_or es i 0
  pub none : (i : ℕ) → k ≤ i → get_or fs i 0 ≡ 0

-- the word of the four from a place on
pub record WordAt (l : List ℕ) (at w : ℕ) : Type 0 where
  pub is : w ≡ word_of (four_from l at)
  pub bytes : bytes_of w ≡ four_from l at

pub word_at : {l : List ℕ} {at p q r s w : ℕ} → p ≡ get_or l at 0 → q ≡ get_or l (at + 1) 0 → r ≡ get_or l (at + 2) 0 → s ≡ get_or l (at + 3) 0 → WordOf p q r s w → WordAt l at w
word_at e f g h t = record { is = t.is ∙ ap word_of (bytes_same e f g h); bytes = t.bytes ∙ bytes_same e f g h }

-- its bytes are those of the list
pub word_byte : {l : List ℕ} {at w : ℕ} → WordAt l at w → (j : ℕ) → at ≤ j → j < at + 4 → get_or (bytes_of w) (j - at) 0 ≡ get_or l j 0
word_byte {l} {at} t j h u = ap (λ (b : List ℕ). get_or b (j - at) 0) t.bytes ∙ four_at l at (j - at) (omega arith) ∙ ap (λ (x : ℕ). get_or l x 0) (omega arith)

pub byte_at : (w n : ℕ) → n < 4 → w / 2 ^ (8 * n) % 256 ≡ get_or (bytes_of w) n 0
byte_at w zero h = refl
byte_at w (suc zero) h = refl
byte_at w (suc (suc zero)) h = refl
byte_at w (suc (suc (suc zero))) h = refl
byte_at w (suc (suc (suc (suc n)))) h = absurd (omega arith)

pub byte_small : (w n : ℕ) → n < 4 → get_or (bytes_of w) n 0 < 256
byte_small w n h = rw (← byte_at w n h) (mod-lt (w / 2 ^ (8 * n)) (omega arith))

-- the first k as the code keeps them: those behind are shifted out, and the others back
pub first_of_is : (w : ℕ) {k : ℕ} → k ≤ 4 → FirstOf k (bytes_of w) (bytes_of (w * 2 ^ (8 * (4 - k)) % 2 ^ 32 / 2 ^ (8 * (4 - k))))
first_of_is w {k} few = rw low (record { kept = kept; none = λ i h. none i h (dec_lt i 4) })
  where
    low : w * 2 ^ (8 * (4 - k)) % 2 ^ 32 / 2 ^ (8 * (4 - k)) ≡ w % 2 ^ (8 * k)
    low = let all : 32 ≡ 8 * k + 8 * (4 - k) = omega arith in ap (λ (n : ℕ). w * 2 ^ (8 * (4 - k)) % 2 ^ n / 2 ^ (8 * (4 - k))) all ∙ field (w * 2 ^ (8 * (4 - k))) (8 * k) (8 * (4 - k)) ∙ ap (λ (x : ℕ). x % 2 ^ (8 * k)) (shl-shr w (8 * (4 - k)))

    kept : (i : ℕ) → i < k → get_or (bytes_of (w % 2 ^ (8 * k))) i 0 ≡ get_or (bytes_of w) i 0
    kept i h = let all : 8 * k ≡ 8 * (k - i - 1) + 8 + 8 * i = omega arith in rw (← byte_at (w % 2 ^ (8 * k)) i (omega arith), ← byte_at w i (omega arith))
        (ap (λ (n : ℕ). w % 2 ^ n / 2 ^ (8 * i) % 256) all ∙ ap (λ (x : ℕ). x % 256) (field w (8 * (k - i - 1) + 8) (8 * i)) ∙ mod-mod-pow (w / 2 ^ (8 * i)) (8 * (k - i - 1)) 8)

    none : (i : ℕ) → k ≤ i → Dec (i < 4) → get_or (bytes_of (w % 2 ^ (8 * k))) i 0 ≡ 0
    none i h (yes q) = rw (← byte_at (w % 2 ^ (8 * k)) i q) (ap (λ (x : ℕ). x % 256) (div-eq_of_lt (lt_of_lt_of_le (mod-lt w (pow_pos (8 * k))) (pow_mono {i = 8 * k} {j = 8 * i} (omega arith)))))
    none i h (no q) = get_or-eq_default (bytes_of (w % 2 ^ (8 * k))) 0 {n = i} (omega arith)

-- the bytes of two words and-ed, or-ed, xor-ed
pub and_byte : (x y m : ℕ) → m < 4 → get_or (bytes_of (bit_and x y)) m 0 ≡ bit_and (get_or (bytes_of x) m 0) (get_or (bytes_of y) m 0)
and_byte x y m h = rw (← byte_at (bit_and x y) m h, ← byte_at x m h, ← byte_at y m h) (ap (λ (z : ℕ). z % 256) (and_shr x y (8 * m)) ∙ and_mod (x / 2 ^ (8 * m)) (y / 2 ^ (8 * m)) 8)

pub xor_byte : (x y m : ℕ) → m < 4 → get_or (bytes_of (bit_xor x y)) m 0 ≡ bit_xor (get_or (bytes_of x) m 0) (get_or (bytes_of y) m 0)
xor_byte x y m h = rw (← byte_at (bit_xor x y) m h, ← byte_at x m h, ← byte_at y m h) (ap (λ (z : ℕ). z % 256) (xor_shr x y (8 * m)) ∙ xor_mod (x / 2 ^ (8 * m)) (y / 2 ^ (8 * m)) 8)

pub or_byte : (x y m : ℕ) → m < 4 → get_or (bytes_of (bit_or x y)) m 0 ≡ bit_or (get_or (bytes_of x) m 0) (get_or (bytes_of y) m 0)
or_byte x y m h = rw (← byte_at (bit_or x y) m h, ← byte_at x m h, ← byte_at y m h) (ap (λ (z : ℕ). z % 256) (or_shr x y (8 * m)) ∙ or_mod (x / 2 ^ (8 * m)) (y / 2 ^ (8 * m)) 8)

-- four bytes put from a place on, and the others stay
pub record Puts (at : ℕ) (vs l r : List ℕ) : Type 0 where
  pub size : length r ≡ length l
  pub before : (j : ℕ) → j < at → get_or r j 0 ≡ get_or l j 0
  pub put : (m : ℕ) → m < 4 → get_or r (at + m) 0 ≡ get_or vs m 0
  pub past : (j : ℕ) → at + 4 ≤ j → get_or r j 0 ≡ get_or l j 0
