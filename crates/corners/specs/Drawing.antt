-- A cell's vertices written one after the other, coordinate by coordinate, as bytes.
use Rattle.std.specs.Prelude.{◌≡◌}
use Rattle.std.proofs.Math.Path.{refl, ap}
use Rattle.std.proofs.lemmas.Slice.{put_mid-paste}
use borrow.Rule.Slice.PartMut.{put_mid}
use Rattle.std.proofs.Common.{sym, ◌∙◌, subst, zero-add, zero-mul, suc-mul, add-one, length-append, drop_of_length-le, drop-cons}
use mathlib.Core.List.{List, [], ◌∷◌, ◌++◌}
use Prim.Native.Nat.{ℕ, suc, ◌+◌, ◌-◌, ◌*◌, ◌/◌, ◌%◌, ◌≤◌, ◌<◌}
use native.Mathlib.Omega.{arith}
use Rattle.std.proofs.Math.ListN.{length, drop}
use Rattle.common.specs.Putting.{put, put_copy, Puts, Putting, putting_start, putting_next, putting_end}
use Rattle.dimension.specs.Sizes.{points_length}
use Rattle.bisection.specs.Cells.{Cell, vertex, point_bytes, cell_bytes}
use Rattle.bisection.specs.Codes.{dimension_of}
use Rattle.bisection.specs.Refusals.{done, code_refusal}
use Rattle.bisection.proofs.Theorems.Lists.{point_size}
use Rattle.corners.specs.PointWords.{coordinate_bytes, word_bytes, bytes_length}
use Rattle.corners.specs.Vertices.{cell_in, vertex_in, Frame, VertexOf, code_dimension, code_sized, vertex_small}

-- the cell of the code stands at the front
pub record CellWritten (code before after : List ℕ) : Type 0 where
  pub is : after ≡ cell_bytes (cell_in code) ++ drop (points_length (dimension_of code)) before

-- ---- coordinates written one after the other
pub record Coordinates (at d w : ℕ) (before : List ℕ) (left n : ℕ) (now : List ℕ) : Type 0 where
  pub few : d ≤ 4
  pub some : n ≤ d
  pub on : Putting at (coordinate_bytes d w) before (at + 2 * n) (coordinate_bytes (d - n) left) now

pub put_start : {at d w : ℕ} {l : List ℕ} → (d ≤ 4) × (at + 2 * d ≤ length l) → Coordinates at d w l w 0 l
put_start {at} {d} {w} {l} r = record {
  few = r.0;
  some = omega arith;
  on = let all : d - 0 ≡ d = omega arith in let here : at + 2 * 0 ≡ at = omega arith in
      rw (all, here) (putting_start at (coordinate_bytes d w) l (omega (arith, r.1, bytes_length d w)));
}

module _ {at d w : ℕ} {before : List ℕ} {left n : ℕ} {l : List ℕ} (c : Coordinates at d w before left n l) where
  pub put_end : d ≤ n → Puts at (coordinate_bytes d w) before (at + 2 * d) l
  unfolding coordinate_bytes
  put_end h = let end : at + 2 * d ≡ at + 2 * n = omega (arith, c.some) in let none : d - n ≡ 0 = omega arith in rw end (putting_end c.on (rw none refl))

  module _ (h : n < d) where
    -- the next one written as the code does
    pub put_next : {k : ℕ} {two : List ℕ} → k ≡ 2 → two ≡ left % 65536 % 256 ∷ left % 65536 / 256 % 256 ∷ []
        → Coordinates at d w before (left / 65536) (n + 1) (put_mid (at + 2 * n) k l two)
    unfolding coordinate_bytes
    put_next {k} {two} e f = record {
      few = c.few;
      some = omega arith;
      on = rw there (putting_next c.on (left % 256 ∷ left / 256 % 256 ∷ []) (coordinate_bytes (d - (n + 1)) (left / 65536)) (ap (λ (m : ℕ). coordinate_bytes m left) one)
          (record { next = refl; is = put_mid-paste (at + 2 * n) k l two (left % 256 ∷ left / 256 % 256 ∷ []) 2 (f ∙ rw (low, high) refl) (sym e) refl ∙ put_copy (at + 2 * n) 2 (left % 256 ∷ left / 256 % 256 ∷ []) l refl }));
    }
      where
        there : at + 2 * (n + 1) ≡ at + 2 * n + 2
        there = omega arith

        one : d - n ≡ suc (d - (n + 1))
        one = omega arith

        low : left % 65536 % 256 ≡ left % 256
        low = omega arith

        high : left % 65536 / 256 % 256 ≡ left / 256 % 256
        high = omega arith

-- ---- the cell's bytes
cell_size : (d : ℕ) (vs : Cell) → ((j : ℕ) → j < length vs → length (vertex vs j) ≡ d) → length (cell_bytes vs) ≡ length vs * (2 * d)
unfolding cell_bytes
cell_size d [] h = sym (zero-mul (2 * d))
cell_size d (v ∷ vs) h = simp length-append (omega (arith, suc-mul (length vs) (2 * d), point_size v, h 0 (omega arith), cell_size d vs (λ j l. h (suc j) (omega arith))))

-- the walk over the vertices: the first j of them are written
pub record Drawing (code : List ℕ) (d lows side entries split j at : ℕ) (before now : List ℕ) : Type 0 where
  pub frame : Frame code lows side entries split
  pub axes : d ≡ dimension_of code
  pub few : j ≤ d + 1
  pub on : Putting 0 (cell_bytes (cell_in code)) before at (cell_bytes (drop j (cell_in code))) now

pub cell_long : (code : List ℕ) → code_refusal code ≡ done → length (cell_bytes (cell_in code)) ≡ points_length (dimension_of code)
unfolding points_length
cell_long code e = let z = code_sized code e in cell_size (dimension_of code) (cell_in code) (λ j h. z.dims j (omega (arith, z.size))) ∙ ap (λ (n : ℕ). n * (2 * dimension_of code)) z.size

pub draw_start : {code l : List ℕ} {d lows side entries split : ℕ} → points_length (dimension_of code) ≤ length l → d ≡ dimension_of code → Frame code lows side entries split
    → Drawing code d lows side entries split 0 0 l l
draw_start {code} {l} r q o = record { frame = o; axes = q; few = omega arith; on = putting_start 0 (cell_bytes (cell_in code)) l (omega (arith, cell_long code o.passing, r)) }

module _ {code : List ℕ} {d lows side entries split j at : ℕ} {before l : List ℕ} (w : Drawing code d lows side entries split j at before l) where
  e : code_refusal code ≡ done
  e = w.frame.passing

  pub draw_few : d ≤ 4
  draw_few = omega (arith, w.axes, (code_dimension code e).few)

  pub draw_end : d < j → CellWritten code before l
  unfolding cell_bytes
  draw_end h = record { is = (putting_end w.on none).is ∙ unfold put in ap (λ (n : ℕ). cell_bytes (cell_in code) ++ drop n before) (zero-add (length (cell_bytes (cell_in code))) ∙ cell_long code e) }
    where
      none : cell_bytes (drop j (cell_in code)) ≡ []
      none = let past : length (cell_in code) ≤ j = omega (arith, (code_sized code e).size, w.axes) in rw (drop_of_length-le (cell_in code) past) refl

  module _ (h : j ≤ d) where
    place : j ≤ dimension_of code
    place = omega (arith, w.axes)

    head : cell_bytes (drop j (cell_in code)) ≡ point_bytes (vertex_in code j) ++ cell_bytes (drop (suc j) (cell_in code))
    unfolding cell_bytes
    head = ap cell_bytes (drop-cons (cell_in code) j [] (omega (arith, (code_sized code e).size, place)))

    long : length (point_bytes (vertex_in code j)) ≡ 2 * d
    long = point_size (vertex_in code j) ∙ ap (λ (n : ℕ). 2 * n) ((code_sized code e).dims j place ∙ sym w.axes)

    pub draw_room : (d ≤ 4) × (at + 2 * d ≤ length l)
    draw_room = (draw_few, omega (arith, w.on.fits, ap length head, length-append (point_bytes (vertex_in code j)) (cell_bytes (drop (suc j) (cell_in code))), long))

    pub draw_next : {x r : ℕ} {after : List ℕ} → VertexOf lows side entries split j x → Puts at (coordinate_bytes d x) l r after → Drawing code d lows side entries split (j + 1) r before after
    draw_next {x} {r} {after} v p = record {
      frame = w.frame;
      axes = w.axes;
      few = omega arith;
      on = rw (add-one j) (putting_next w.on (point_bytes (vertex_in code j)) (cell_bytes (drop (suc j) (cell_in code))) head (subst (λ (t : List ℕ). Puts at t l r after) written p));
    }
      where
        written : coordinate_bytes d x ≡ point_bytes (vertex_in code j)
        written = rw (v.is code w.frame place, w.axes, ← (code_sized code e).dims j place) (word_bytes (vertex_in code j) (vertex_small code e j place))
