-- The laws of the sizes.
use Rattle.std.specs.Prelude.{◌≡◌, refl, true, false, cond, ◌⊎◌, T, eqb}
use Rattle.std.proofs.Common.{sym, ◌∙◌, subst, inl, inr, arith, add-one, mul_comm, div-lt_iff_lt-mul, mul-lt-mul_of_pos_right, mul-le-mul, le-div_iff_mul-le, div-mul-le_self, mul_assoc, lt_of_mul-lt-mul_right, mul-le-mul_right, pow-add, pow_pos, lit<, lit≤, eq-eqb, ne_eqb}
use Rattle.std.proofs.Math.Path.{ap}
use Prim.Native.Nat.{ℕ, zero, suc, ◌+◌, ◌*◌, ◌/◌, ◌%◌, ◌-◌, ◌^◌, ◌≤◌, ◌<◌}
use Rattle.std.proofs.Math.Nat.{add-mul, div-add-mod', mod-lt, div-div-eq-div-mul, mul-div_right, zero-div, zero-mod, eq_of_mul-eq-mul_left, mul-le-mul_left, mod-eq-sub-mul-div, mul-div-le}
use Rattle.std.proofs.Math.Decide.{dec_lt, ℕ_discrete}
use Rattle.std.proofs.Math.Arith.{digits_div, digits_mod}
use Rattle.std.proofs.Math.Pow.{pow-lt}
use Rattle.std.proofs.Math.Dec.{eqb-suc-zero}
use Rattle.dimension.specs.declared.Dim.{Dim}
use Rattle.dimension.specs.declared.Dim.TheVariants.{Two, Three, Four}
use Rattle.dimension.specs.Sizes.{is_dimension, axes_of, halvings, cube_side, greatest_depth, box_depth, level, split_place, side_after, box_side}
use Rattle.dimension.specs.Sizes.{code_length, longest_code, most_axes, longest_of_all, points_length, root_count}

-- the three dimensions: at least two axes, and few enough that an axis and its sign fit a byte
pub record Dimension (d : ℕ) : Type 0 where
  pub two : 2 ≤ d
  pub few : d ≤ 4

pub dimension : (d : ℕ) → is_dimension d ≡ true → Dimension d
unfolding is_dimension
dimension d e = go (ℕ_discrete d 2) (ℕ_discrete d 3) (ℕ_discrete d 4)
  where
    go : Dec (d ≡ 2) → Dec (d ≡ 3) → Dec (d ≡ 4) → Dimension d
    go (yes a) b c = record { two = omega arith; few = omega arith }
    go (no a) (yes b) c = record { two = omega arith; few = omega arith }
    go (no a) (no b) (yes c) = record { two = omega arith; few = omega arith }
    go (no a) (no b) (no c) = absurd (subst T (sym (simp (ne_eqb d 2 a, ne_eqb d 3 b, ne_eqb d 4 c) at e)) tt)

pub axes_dimension : (d : Dim) → is_dimension (axes_of d) ≡ true
unfolding is_dimension
axes_dimension Two = refl
axes_dimension Three = refl
axes_dimension Four = refl

pub axes_range : (d : Dim) → Dimension (axes_of d)
axes_range d = dimension (axes_of d) (axes_dimension d)

pub no_dimension : (d : ℕ) → (d ≡ 2 → ⊥) → (d ≡ 3 → ⊥) → (d ≡ 4 → ⊥) → is_dimension d ≡ false
unfolding is_dimension
no_dimension d a b c = simp (ne_eqb d 2 a, ne_eqb d 3 b, ne_eqb d 4 c)

-- sides: 2^L of them make the cube's
pub side_whole : (L : ℕ) → L ≤ halvings → 2 ^ L * side_after L ≡ cube_side
unfolding side_after cube_side
side_whole L h = rw (← parts, pow-add 2 L (halvings - L), mul-div_right (2 ^ (halvings - L)) (pow_pos L)) refl
  where
    parts : L + (halvings - L) ≡ halvings
    parts = omega arith

pub side_first : side_after 0 ≡ cube_side
unfolding side_after cube_side halvings
side_first = refl

pub side_pos : (L : ℕ) → L ≤ halvings → 0 < side_after L
unfolding cube_side
side_pos L h = go (side_after L) (side_whole L h)
  where
    go : (s : ℕ) → 2 ^ L * s ≡ cube_side → 0 < s
    go zero e = absurd (omega (arith, pow_pos halvings))
    go (suc s) e = omega arith

pub side_twice : (L : ℕ) → L < halvings → side_after L ≡ 2 * side_after (suc L)
side_twice L h = eq_of_mul-eq-mul_left (2 ^ L) (pow_pos L) (side_after L) (2 * side_after (suc L))
    (side_whole L (omega arith) ∙ sym (side_whole (suc L) h) ∙ ap (λ (u : ℕ). u * side_after (suc L)) two ∙ mul_assoc (2 ^ L) 2 (side_after (suc L)))
  where
    two : 2 ^ suc L ≡ 2 ^ L * 2
    two = omega arith

pub side_half : (L : ℕ) → side_after (suc L) ≡ side_after L / 2
unfolding side_after
side_half L = ap (λ (u : ℕ). cube_side / u) two ∙ sym (div-div-eq-div-mul cube_side (2 ^ L) 2)
  where
    two : 2 ^ suc L ≡ 2 ^ L * 2
    two = omega arith

pub side_even : (L : ℕ) → L < halvings → side_after L % 2 ≡ 0
side_even L h = omega (arith, side_twice L h)

pub side_same : (L M : ℕ) → L ≤ halvings → M ≤ halvings → side_after L ≡ side_after M → L ≡ M
side_same L M h l e = go (dec_lt L M) (dec_lt M L)
  where
    less : (L M : ℕ) → L < M → L ≤ halvings → M ≤ halvings → side_after L ≡ side_after M → ⊥
    less L M q h l e = omega (arith, mul-lt-mul_of_pos_right {m = 2 ^ L} {n = 2 ^ M} {k = side_after M} (pow-lt {i = L} {j = M} q) (side_pos M l), side_whole M l, rw e at (side_whole L h))

    go : Dec (L < M) → Dec (M < L) → L ≡ M
    go (yes q) r = absurd (less L M q h l e)
    go (no q) (yes r) = absurd (less M L r l h (sym e))
    go (no q) (no r) = omega arith

-- coordinates fit two bytes, a depth fits one
pub cube_two_bytes : cube_side < 2 ^ 16
unfolding cube_side halvings
cube_two_bytes = lit< tt

pub halvings_few : halvings ≤ 15
unfolding halvings
halvings_few = lit≤ tt

pub depth_small : (d : ℕ) → Dimension d → greatest_depth d ≤ 60
unfolding greatest_depth
depth_small d n = omega (arith, mul-le-mul halvings_few n.few)

-- depth D by its box depth and its level
module _ (d D : ℕ) (d0 : 0 < d) where
  pub split_range : (1 ≤ split_place d D) × (split_place d D ≤ d)
  unfolding split_place level
  split_range = omega (arith, mod-lt D d0)

  pub depth_parts : box_depth d D * d + (d - split_place d D) ≡ D
  unfolding split_place level box_depth
  depth_parts = omega (arith, div-add-mod' D d, mod-lt D d0)

  pub box_in : D ≤ greatest_depth d → box_depth d D ≤ halvings
  unfolding box_depth greatest_depth
  box_in h = omega (arith, (div-lt_iff_lt-mul {k = d} {x = D} {y = suc halvings} d0).1 (omega arith))

  pub box_under : D < greatest_depth d → box_depth d D < halvings
  unfolding box_depth greatest_depth
  box_under h = (div-lt_iff_lt-mul d0).1 h

-- no code is longer than the longest of all dimensions
pub longest_is : longest_of_all ≡ 2 + most_axes + halvings
unfolding longest_of_all longest_code code_length box_depth greatest_depth most_axes halvings
longest_is = refl

pub code_longest : (d D : ℕ) → Dimension d → D ≤ greatest_depth d → code_length d D ≤ longest_of_all
unfolding code_length most_axes
code_longest d D n h = omega (arith, n.few, box_in d D (omega (arith, n.two)) h, longest_is)

-- the length of a cell's points, as the code computes it
pub points_is : (d : ℕ) → 2 * d * (d + 1) ≡ points_length d
unfolding points_length
points_is d = mul_comm (2 * d) (d + 1) ∙ ap (λ (n : ℕ). n * (2 * d)) (add-one d)

pub points_few : (d : ℕ) → d ≤ 4 → 2 * d * (d + 1) < 2 ^ 16
points_few d h = omega (arith, mul-le-mul {n₁ = 2 * d} {m₁ = d + 1} {n₂ = 8} {m₂ = 5} (omega arith) (omega arith))

pub depth_same : (d D E : ℕ) → 0 < d → box_depth d D ≡ box_depth d E → split_place d D ≡ split_place d E → D ≡ E
depth_same d D E d0 e f = sym (depth_parts d D d0) ∙ rw (e, f) (depth_parts d E d0)

-- a box side is positive, and even where its cells are still split
pub record Side (d k s : ℕ) : Type 0 where
  pub some : 0 < s
  pub even : k < d → s % 2 ≡ 0

box_short : (d D : ℕ) → 0 < d → D ≤ greatest_depth d → split_place d D < d → box_depth d D < halvings
unfolding greatest_depth
box_short d D d0 h l = lt_of_mul-lt-mul_right d (omega (arith, depth_parts d D d0))

pub side_of : (d D : ℕ) → 0 < d → D ≤ greatest_depth d → Side d (split_place d D) (box_side d D)
unfolding box_side
side_of d D d0 h = record {
  some = side_pos (box_depth d D) (box_in d D d0 h);
  even = λ l. side_even (box_depth d D) (box_short d D d0 h l);
}

pub at_root : (d : ℕ) → 0 < d → (box_depth d 0 ≡ 0) × (split_place d 0 ≡ d)
unfolding box_depth split_place level
at_root d d0 = (zero-div d, rw (zero-mod d) (omega arith))

-- one step deeper: within the box, or into a new one
pub record Within (d D : ℕ) : Type 0 where
  pub room : 1 < split_place d D
  pub split : suc (split_place d (suc D)) ≡ split_place d D
  pub level : eqb (level d (suc D)) 0 ≡ false
  pub box : box_depth d (suc D) ≡ box_depth d D

pub record Turned (d D : ℕ) : Type 0 where
  pub last : split_place d D ≡ 1
  pub split : split_place d (suc D) ≡ d
  pub level : eqb (level d (suc D)) 0 ≡ true
  pub box : box_depth d (suc D) ≡ suc (box_depth d D)

pub deeper : (d D : ℕ) → 0 < d → Within d D ⊎ Turned d D
unfolding split_place level box_depth
deeper d D d0 = go (dec_lt (suc (D % d)) d)
  where
    sum : D / d * d + D % d ≡ D
    sum = div-add-mod' D d

    more : D / d * d + suc (D % d) ≡ suc D
    more = omega (arith, sum)

    go : Dec (suc (D % d) < d) → Within d D ⊎ Turned d D
    go (yes h) = inl (record { room = omega (arith, mod-lt D d0); split = rw l (omega arith); level = rw l (eqb-suc-zero (D % d)); box = rw (← more) (digits_div (D / d) h) })
      where
        l : suc D % d ≡ suc (D % d)
        l = rw (← more) (digits_mod (D / d) h)
    go (no h) = inr (record { last = omega (arith, mod-lt D d0); split = rw l (omega arith); level = rw l; box = rw (← up) (digits_div (suc (D / d)) d0) })
      where
        up : suc (D / d) * d + 0 ≡ suc D
        up = omega (arith, more, mod-lt D d0)

        l : suc D % d ≡ 0
        l = rw (← up) (digits_mod (suc (D / d)) d0)

-- the split place one step deeper, from this one
pub split_after : (d D k : ℕ) → 0 < d → k ≡ split_place d D → cond (eqb k 1) d (k - 1) ≡ split_place d (suc D)
split_after d D k d0 e = go (deeper d D d0)
  where
    go : Within d D ⊎ Turned d D → cond (eqb k 1) d (k - 1) ≡ split_place d (suc D)
    go (inl w) = rw (ne_eqb k 1 (λ q. absurd (omega (arith, w.room)))) (omega (arith, w.split))
    go (inr t) = rw (eq-eqb k 1 (e ∙ t.last)) (sym t.split)

pub div_le : (n d : ℕ) → 2 ≤ d → n / d ≤ n / 2
div_le n d h = (le-div_iff_mul-le {k = 2} {x = n / d} {y = n} (omega arith)).1 (omega (arith, mul-le-mul_left (n / d) h, div-mul-le_self n d))

-- d! is positive and grows with d
pub count_some : (d : ℕ) → 0 < root_count d
unfolding root_count
count_some zero = omega arith
count_some (suc d) = omega (arith, count_some d)

pub counts_rise : (d e : ℕ) → d ≤ e → root_count d ≤ root_count e
unfolding root_count
counts_rise zero e h = count_some e
counts_rise (suc d) zero h = absurd (omega arith)
counts_rise (suc d) (suc e) h = mul-le-mul h (counts_rise d e (omega arith))

-- the counts that the code has for d!
abbrev pub roots_of : Dim → ℕ
roots_of Two = 2
roots_of Three = 6
roots_of Four = 24

-- what the code computes of the sizes, case by case
pub boxes_few : (d D : ℕ) → Dimension d → D ≤ greatest_depth d → box_depth d D ≤ 15
boxes_few d D n h = omega (arith, box_in d D (omega (arith, n.two)) h, halvings_few)

pub box_small : (d D : ℕ) → Dimension d → box_depth d D ≤ D / 2
unfolding box_depth
box_small d D n = div_le D d n.two

-- the dimension that is neither 2 nor 3
pub four : {d : ℕ} → Dimension d → (d ≡ 2 → ⊥) → (d ≡ 3 → ⊥) → d ≡ 4
four n a b = omega (arith, n.two, n.few)

-- a quotient by the dimension, as one by 65,536 of an axis' share of it
module _ (d D p : ℕ) (n : Dimension d) (least : 65536 ≤ d * p) (most : d * p ≤ 65538) where
  share_least : 16384 ≤ p
  share_least = omega (arith, mul-le-mul_right p n.few, least)

  share_most : p ≤ 32769
  share_most = omega (arith, mul-le-mul_right p n.two, most)

  pub share_fits : D < 8192 → D * p < 2 ^ 64
  share_fits h = omega (arith, mul-le-mul {n₁ = D} {m₁ = p} {n₂ = 8191} {m₂ = 32769} (omega arith) share_most)

  pub box_depth_by : D < 8192 → D * p / 65536 ≡ box_depth d D
  unfolding box_depth
  box_depth_by h = omega (arith, product, mul-le-mul_left (D / d) least, mul-le-mul_left (D / d) most, rest, share_least, few, least, most)
    where
      -- D p is q (d p) and r p
      product : D * p ≡ D / d * (d * p) + D % d * p
      product = ap (λ (x : ℕ). x * p) (sym (div-add-mod' D d)) ∙ add-mul (D / d * d) (D % d) p ∙ ap (λ (x : ℕ). x + D % d * p) (mul_assoc (D / d) d p)

      -- r p and p are at most d p
      rest : suc (D % d) * p ≤ d * p
      rest = mul-le-mul_right p (mod-lt D {m = d} (omega (arith, n.two)))

      few : 2 * (D / d) ≤ D
      few = omega (arith, mul-div-le D d, mul-le-mul_right (D / d) n.two)

-- the split place from the quotient
module _ (d D x q : ℕ) (e : x ≡ d) (f : q ≡ box_depth d D) where
  pub split_sub : x * q ≤ D
  unfolding box_depth
  split_sub = rw (e, f) (mul-div-le D d)

  pub split_fits : D < 2 ^ 64 → x * q < 2 ^ 64
  split_fits h = omega (arith, split_sub)

  pub split_is : x - (D - x * q) ≡ split_place d D
  unfolding box_depth split_place level
  split_is = rw (e, f) (ap (λ (r : ℕ). d - r) (sym (mod-eq-sub-mul-div D d)))

pub split_rest : (d D x q : ℕ) → 0 < d → x ≡ d → q ≡ box_depth d D → D - x * q ≤ x
unfolding box_depth
split_rest d D x q d0 e f = rw (e, f) (omega (arith, mod-eq-sub-mul-div D d, mod-lt D d0))

pub root_count_is : (d : Dim) (n : ℕ) → n ≡ roots_of d → n ≡ root_count (axes_of d)
unfolding root_count
root_count_is Two n e = e
root_count_is Three n e = e
root_count_is Four n e = e
