-- A point as one word: its coordinates, 16 bits for each axis, axis 1 lowest. Such words are added axis by axis, written as bytes, and
-- hold a point of up to four axes.
use Rattle.std.specs.Prelude.{◌≡◌, refl, cond, List, [], ◌∷◌, ℕ, zero, suc, ◌+◌, ◌-◌, ◌*◌, ◌/◌, ◌%◌, ◌^◌, ◌≤◌, ◌<◌, eqb, length, get_or}
use Rattle.std.proofs.Common.{ap, ◌∙◌, arith, add-mul, mul_assoc, div-add-mod', pow_pos, pow_mono}
use Rattle.std.specs.Int.Bits.{bit_and}
use Rattle.std.proofs.lemmas.Nat.{and_shr, and_mod, and_mask}
use Rattle.bisection.specs.Cells.{Point, coordinate, point_bytes}

unfoldable pub point_word : Point → ℕ
point_word [] = 0
point_word (x ∷ v) = x + 65536 * point_word v

-- the word with f a on axis a, for the four axes that it has room for
unfoldable pub in_word : (ℕ → ℕ) → ℕ
in_word f = f 1 + 65536 * f 2 + 4294967296 * f 3 + 281474976710656 * f 4

-- 1 on each axis
abbrev pub ones : ℕ
ones = 281479271743489

-- x on axis a, and 0 on the others
unfoldable pub on_axis : ℕ → ℕ → ℕ → ℕ
on_axis a x b = cond (eqb b a) x 0

-- its first d coordinates, two bytes each, the low byte first
unfoldable pub coordinate_bytes : ℕ → ℕ → List ℕ
coordinate_bytes zero w = []
coordinate_bytes (suc d) w = w % 256 ∷ w / 256 % 256 ∷ coordinate_bytes d (w / 65536)

-- axis by axis
pub in_same : (f g : ℕ → ℕ) → ((a : ℕ) → 1 ≤ a → a ≤ 4 → f a ≡ g a) → in_word f ≡ in_word g
unfolding in_word
in_same f g e = omega (arith, e 1 (omega arith) (omega arith), e 2 (omega arith) (omega arith), e 3 (omega arith) (omega arith), e 4 (omega arith) (omega arith))

pub in_add : (f g : ℕ → ℕ) → in_word f + in_word g ≡ in_word (λ a. f a + g a)
unfolding in_word
in_add f g = omega arith

pub in_times : (f : ℕ → ℕ) (s : ℕ) → in_word f * s ≡ in_word (λ a. f a * s)
unfolding in_word
in_times f s = add-mul (f 1 + 65536 * f 2 + 4294967296 * f 3) (281474976710656 * f 4) s
    ∙ omega (arith, add-mul (f 1 + 65536 * f 2) (4294967296 * f 3) s, add-mul (f 1) (65536 * f 2) s, mul_assoc 65536 (f 2) s, mul_assoc 4294967296 (f 3) s, mul_assoc 281474976710656 (f 4) s)

-- it fits where each coordinate does
pub in_small : (f : ℕ → ℕ) → ((a : ℕ) → 1 ≤ a → a ≤ 4 → f a < 65536) → in_word f < 2 ^ 64
unfolding in_word
in_small f h = omega (arith, h 1 (omega arith) (omega arith), h 2 (omega arith) (omega arith), h 3 (omega arith) (omega arith), h 4 (omega arith) (omega arith))

-- and-ed axis by axis
and_parts : (x X y Y : ℕ) → x < 65536 → y < 65536 → bit_and (x + 65536 * X) (y + 65536 * Y) ≡ bit_and x y + 65536 * bit_and X Y
and_parts x X y Y h l = omega (arith, low, high, div-add-mod' (bit_and (x + 65536 * X) (y + 65536 * Y)) 65536)
  where
    low : bit_and (x + 65536 * X) (y + 65536 * Y) % 65536 ≡ bit_and x y
    low = let p : (x + 65536 * X) % 65536 ≡ x = omega arith in let q : (y + 65536 * Y) % 65536 ≡ y = omega arith in and_mod (x + 65536 * X) (y + 65536 * Y) 16 ∙ rw (p, q) refl

    high : bit_and (x + 65536 * X) (y + 65536 * Y) / 65536 ≡ bit_and X Y
    high = let p : (x + 65536 * X) / 65536 ≡ X = omega arith in let q : (y + 65536 * Y) / 65536 ≡ Y = omega arith in and_shr (x + 65536 * X) (y + 65536 * Y) 16 ∙ rw (p, q) refl

-- the lowest n digits of each coordinate
pub in_low : (f : ℕ → ℕ) (n : ℕ) → n ≤ 16 → ((a : ℕ) → 1 ≤ a → a ≤ 4 → f a < 65536) → bit_and (in_word f) ((2 ^ n - 1) * ones) ≡ in_word (λ a. f a % 2 ^ n)
unfolding in_word
in_low f n few h = rw (one, two) (and_parts (f 1) (f 2 + 65536 * (f 3 + 65536 * f 4)) m (m + 65536 * (m + 65536 * m)) (h 1 (omega arith) (omega arith)) small
    ∙ ap (λ (x : ℕ). bit_and (f 1) m + 65536 * x) (and_parts (f 2) (f 3 + 65536 * f 4) m (m + 65536 * m) (h 2 (omega arith) (omega arith)) small)
    ∙ ap (λ (x : ℕ). bit_and (f 1) m + 65536 * (bit_and (f 2) m + 65536 * x)) (and_parts (f 3) (f 4) m m (h 3 (omega arith) (omega arith)) small)
    ∙ omega (arith, and_mask (f 1) n, and_mask (f 2) n, and_mask (f 3) n, and_mask (f 4) n))
  where
    m : ℕ
    m = 2 ^ n - 1

    small : 2 ^ n - 1 < 65536
    small = omega (arith, pow_mono {i = n} {j = 16} few, pow_pos n)

    one : f 1 + 65536 * f 2 + 4294967296 * f 3 + 281474976710656 * f 4 ≡ f 1 + 65536 * (f 2 + 65536 * (f 3 + 65536 * f 4))
    one = omega arith

    two : (2 ^ n - 1) * ones ≡ (2 ^ n - 1) + 65536 * ((2 ^ n - 1) + 65536 * ((2 ^ n - 1) + 65536 * (2 ^ n - 1)))
    two = omega arith

-- x shifted to an axis: the last one for 0, where x is 0
pub on_axis_is : (a x : ℕ) → x < 65536 → a ≤ 4 → (a ≡ 0 → x ≡ 0) → x * 2 ^ (16 * ((a + 3) % 4)) % 2 ^ 64 ≡ in_word (on_axis a x)
unfolding in_word on_axis
on_axis_is zero x h l z = rw (z refl) refl
on_axis_is (suc zero) x h l z = omega arith
on_axis_is (suc (suc zero)) x h l z = omega arith
on_axis_is (suc (suc (suc zero))) x h l z = omega arith
on_axis_is (suc (suc (suc (suc zero)))) x h l z = omega arith
on_axis_is (suc (suc (suc (suc (suc a))))) x h l z = absurd (omega arith)

-- as the code reads the axis, as a byte and as a size
pub on_axis_by : {a b n x : ℕ} → b ≡ a → n ≡ b → (x < 65536) × (a ≤ 4) × (a ≡ 0 → x ≡ 0) → x * 2 ^ (16 * ((n + 3) % 4)) % 2 ^ 64 ≡ in_word (on_axis a x)
on_axis_by {a} {b} {n} {x} e f r = rw (f ∙ e) (on_axis_is a x r.0 r.1 r.2)

-- a point of up to four axes: the others have 0
pub in_point : (v : Point) → length v ≤ 4 → in_word (coordinate v) ≡ point_word v
unfolding in_word point_word
in_point [] h = refl
in_point (x ∷ []) h = omega arith
in_point (x ∷ y ∷ []) h = omega arith
in_point (x ∷ y ∷ z ∷ []) h = omega arith
in_point (x ∷ y ∷ z ∷ u ∷ []) h = omega arith
in_point (x ∷ y ∷ z ∷ u ∷ t ∷ v) h = absurd (omega arith)

-- its coordinates' bytes
pub word_bytes : (v : Point) → ((n : ℕ) → get_or v n 0 < 65536) → coordinate_bytes (length v) (point_word v) ≡ point_bytes v
unfolding point_word coordinate_bytes point_bytes
word_bytes [] h = refl
word_bytes (x ∷ v) h = rw (low, high, rest) (ap (λ (l : List ℕ). x % 256 ∷ x / 256 ∷ l) (word_bytes v (λ n. h (suc n))))
  where
    small : x < 65536
    small = h 0

    low : (x + 65536 * point_word v) % 256 ≡ x % 256
    low = omega arith

    high : (x + 65536 * point_word v) / 256 % 256 ≡ x / 256
    high = omega (arith, small)

    rest : (x + 65536 * point_word v) / 65536 ≡ point_word v
    rest = omega (arith, small)

pub bytes_length : (d w : ℕ) → length (coordinate_bytes d w) ≡ 2 * d
unfolding coordinate_bytes
bytes_length zero w = refl
bytes_length (suc d) w = omega (arith, bytes_length d (w / 65536))
