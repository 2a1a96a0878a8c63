-- The weights as they are written: those of the cube's side, halved as often as the box was, two bytes each.
use Rattle.std.specs.Prelude.{◌≡◌, List, [], ◌∷◌, ◌++◌, map, ℕ, suc, ◌+◌, ◌-◌, ◌*◌, ◌/◌, ◌%◌, ◌^◌, ◌≤◌, ◌<◌, length, take, drop}
use Rattle.std.proofs.Math.Path.{refl, ap, subst}
use Rattle.std.proofs.Common.{◌∙◌, arith, div-le_self, drop_of_length-le, drop-cons, get_or-take}
use Rattle.std.proofs.Math.Nat.{zero-div}
use Rattle.std.proofs.lemmas.Slice.{put_mid-paste}
use Rattle.std.specs.Int.{w16, byte_at, to_le_bytes}
use borrow.Rule.Slice.PartMut.{put_mid}
use Rattle.std.proofs.Math.ListN.{get_or, length-map, get_or-map}
use Rattle.std.proofs.Math.Seq.{length-take-le}
use Rattle.common.specs.Putting.{put, Puts, put_copy, Putting, putting_start, putting_next, putting_end}
use Rattle.bisection.specs.Cells.{point_bytes}
use Rattle.bisection.proofs.Theorems.Lists.{point_size}

-- the first d + 1 weights, halved
unfoldable pub halved : ℕ → ℕ → List ℕ → List ℕ
halved d boxes w = map (λ x. x / 2 ^ boxes) (take (suc d) w)

unfoldable pub weight_bytes : ℕ → ℕ → List ℕ → List ℕ
weight_bytes d boxes w = point_bytes (halved d boxes w)

-- five weights of two bytes, and room for d + 1
pub record WeightsReady (d boxes : ℕ) (w out : List ℕ) : Type 0 where
  pub five : length w ≡ 5
  pub axes : d ≤ 4
  pub few : boxes < 64
  pub small : (n : ℕ) → n ≤ d → get_or w n 0 < 2 ^ 16
  pub room : 2 * suc d ≤ length out

-- in the loop: the weights from number n on are still to be put
pub record Writing (d boxes : ℕ) (w out₀ : List ℕ) (n : ℕ) (out : List ℕ) : Type 0 where
  pub ready : WeightsReady d boxes w out₀
  pub inside : n ≤ suc d
  pub putting : Putting 0 (weight_bytes d boxes w) out₀ (2 * n) (point_bytes (drop n (halved d boxes w))) out

module _ {d boxes : ℕ} {w out : List ℕ} (r : WeightsReady d boxes w out) where
  pub halved_length : length (halved d boxes w) ≡ suc d
  unfolding halved
  halved_length = length-map (take (suc d) w) (λ x. x / 2 ^ boxes) ∙ length-take-le (suc d) w (omega (arith, r.five, r.axes))

  pub halved_at : (n : ℕ) → n ≤ d → get_or (halved d boxes w) n 0 ≡ get_or w n 0 / 2 ^ boxes
  unfolding halved
  halved_at n l = subst (λ (z : ℕ). get_or (map (λ x. x / 2 ^ boxes) (take (suc d) w)) n z ≡ get_or w n 0 / 2 ^ boxes) (zero-div (2 ^ boxes)) (get_or-map (λ x. x / 2 ^ boxes) (take (suc d) w) n 0 ∙ ap (λ (x : ℕ). x / 2 ^ boxes) (get_or-take (suc d) w n 0 (omega arith)))

  pub weights_length_is : length (weight_bytes d boxes w) ≡ 2 * suc d
  unfolding weight_bytes
  weights_length_is = point_size (halved d boxes w) ∙ ap (λ (n : ℕ). 2 * n) halved_length

  pub writing_start : Writing d boxes w out 0 out
  unfolding weight_bytes
  writing_start = record { ready = r; inside = omega arith; putting = putting_start 0 (point_bytes (halved d boxes w)) out (omega (arith, weights_length_is, r.room)) }

-- a number's two bytes
two_bytes : (x : ℕ) → x < 2 ^ 16 → to_le_bytes w16 x ≡ x % 256 ∷ x / 256 ∷ []
two_bytes x l = let low : byte_at 0 x ≡ x % 256 = omega arith in let high : byte_at 1 x ≡ x / 256 = omega arith in λ i. low i ∷ high i ∷ []

module _ {d boxes : ℕ} {w out₀ : List ℕ} {n : ℕ} {out : List ℕ} (s : Writing d boxes w out₀ n out) where
  module _ (l : n ≤ d) where
    pub writing_small : get_or w n 0 / 2 ^ boxes < 2 ^ 16
    writing_small = omega (arith, div-le_self (get_or w n 0) (2 ^ boxes), s.ready.small n l)

    abbrev two : List ℕ
    two = get_or w n 0 / 2 ^ boxes % 256 ∷ get_or w n 0 / 2 ^ boxes / 256 ∷ []

    next_bytes : point_bytes (drop n (halved d boxes w)) ≡ two ++ point_bytes (drop (suc n) (halved d boxes w))
    unfolding point_bytes
    next_bytes = ap point_bytes (drop-cons (halved d boxes w) n 0 (omega (arith, halved_length s.ready))) ∙ ap (λ (x : ℕ). x % 256 ∷ x / 256 ∷ point_bytes (drop (suc n) (halved d boxes w))) (halved_at s.ready n l)

    puts : {bytes : List ℕ} → bytes ≡ to_le_bytes w16 (get_or w n 0 / 2 ^ boxes) → Puts (2 * n) two out (2 * n + 2) (put_mid (2 * n) (2 * n + 2 - 2 * n) out bytes)
    puts {bytes} e = record {
      next = refl;
      is = put_mid-paste (2 * n) (2 * n + 2 - 2 * n) out bytes two 2 (e ∙ two_bytes _ writing_small) (omega arith) refl ∙ put_copy (2 * n) 2 two out refl;
    }

    pub writing_next : {bytes : List ℕ} → bytes ≡ to_le_bytes w16 (get_or w n 0 / 2 ^ boxes) → Writing d boxes w out₀ (n + 1) (put_mid (2 * n) (2 * n + 2 - 2 * n) out bytes)
    writing_next {bytes} e = record {
      ready = s.ready;
      inside = omega arith;
      putting = subst (λ (k : ℕ). Putting 0 (weight_bytes d boxes w) out₀ k (point_bytes (drop (n + 1) (halved d boxes w))) (put_mid (2 * n) (2 * n + 2 - 2 * n) out bytes)) at
          (subst (λ (m : ℕ). Putting 0 (weight_bytes d boxes w) out₀ (2 * n + 2) (point_bytes (drop m (halved d boxes w))) (put_mid (2 * n) (2 * n + 2 - 2 * n) out bytes)) (one n) (putting_next s.putting two (point_bytes (drop (suc n) (halved d boxes w))) next_bytes (puts e)));
    }
      where
        one : (n : ℕ) → suc n ≡ n + 1
        one n = omega arith

        at : 2 * n + 2 ≡ 2 * (n + 1)
        at = omega arith

  pub writing_end : d < n → out ≡ put 0 (weight_bytes d boxes w) out₀
  writing_end l = (putting_end s.putting none_left).is
    where
      none_left : point_bytes (drop n (halved d boxes w)) ≡ []
      none_left = ap point_bytes (drop_of_length-le (halved d boxes w) {i = n} (omega (arith, halved_length s.ready))) ∙ unfold point_bytes in refl
