-- The vertices of a code that passes: the numbers that its entries and orthants give, and vertex by vertex what those give.
use Rattle.std.specs.Prelude.{◌≡◌, false, cond, List, [], ◌∷◌, ℕ, suc, ◌+◌, ◌-◌, ◌/◌, ◌%◌, ◌^◌, ◌≤◌, ◌<◌, leb, length, get_or, drop}
use Rattle.std.proofs.Math.Path.{refl, sym, ap}
use Rattle.std.proofs.Common.{◌∙◌, subst, arith, add-zero, zero-add, lt_of_lt_of_le, length-drop, pow_pos, pow_mono, get_or-take}
use Rattle.std.proofs.Math.Nat.{div-eq_of_lt}
use Rattle.std.proofs.Math.Numerals.{add-one}
use Rattle.std.proofs.Math.Decide.{dec_lt, dec_le}
use Rattle.std.proofs.Math.Dec.{eqb}
use Rattle.std.proofs.Math.ListN.{get_or-eq_default}
use Rattle.std.proofs.Math.Seq.{paste}
use Rattle.dimension.specs.Sizes.{halvings, cube_side, box_depth, box_side, side_after, split_place, code_length}
use Rattle.dimension.specs.Laws.{Dimension, box_in, cube_two_bytes, side_first, side_of, halvings_few}
use Rattle.bisection.specs.Cells.{Point, Cell, coordinate, vertex, cell_of}
use Rattle.bisection.specs.Codes.{axis, minus, high, IsCodeOf, dimension_of, depth_of, entries_of, orthants_of, parts_of}
use Rattle.bisection.specs.Refusals.{done, code_refusal}
use Rattle.bisection.specs.Theorems.Axis.{closed}
use Rattle.bisection.proofs.Theorems.Axis.{closed_near}
use Rattle.bisection.specs.Theorems.Entries.{Signed, Stands}
use Rattle.bisection.specs.Theorems.CodePaths.{root_of, path_of}
use Rattle.bisection.proofs.Theorems.CodePaths.{code_path, dimension_of_code, depth_of_code, parts_of_code}
use Rattle.bisection.specs.Theorems.Drawn.{Drawn, Sized, box_low, along}
use Rattle.bisection.proofs.Theorems.Geometry.{closed_form}
use Rattle.entries.specs.Masks.{axis_none}
use Rattle.entries.specs.Words.{bytes_of}
use Rattle.entries.specs.Passed.{Checked, checked}
use Rattle.fours.specs.Fours.{no_entries}
use Rattle.fours.specs.Laws.{pasted_at, pasted_none}
use Rattle.corners.specs.PointWords.{point_word, in_word, on_axis, in_same, in_add, in_small, in_point}
use Rattle.corners.specs.Steps.{closed_above, closed_most, rise_picked, rise_closed}
use Rattle.corners.specs.Adding.{up, up_has, up_lacks, up_most, there}
use Rattle.corners.specs.Lows.{lows_in, OrthantsReady, low_inside}

-- vertex j of the cell of a code that passes
abbrev pub cell_in : List ℕ → Cell
cell_in code = cell_of (root_of code) (path_of code)

abbrev pub vertex_in : List ℕ → ℕ → Point
vertex_in code j = vertex (cell_in code) j

-- what the vertices of a code that passes are drawn by: the low sides of its box, as a point's word, and its side; its entries, as one
-- word; and the split place
pub record Frame (code : List ℕ) (lows side entries split : ℕ) : Type 0 where
  pub passing : code_refusal code ≡ done
  pub lows_are : lows ≡ lows_in (orthants_of code)
  pub side_is : side ≡ box_side (dimension_of code) (depth_of code)
  pub entries_are : (t : ℕ) → get_or (bytes_of entries) t 0 ≡ get_or (entries_of code) t 0
  pub split_is : split ≡ split_place (dimension_of code) (depth_of code)

-- those of some code, and the place of a vertex
pub record VertexReady (lows side entries split j : ℕ) : Type 0 where
  pub code : List ℕ
  pub frame : Frame code lows side entries split
  pub place : j ≤ dimension_of code

-- whatever code's they are
pub record VertexOf (lows side entries split j r : ℕ) : Type 0 where
  pub is : (code : List ℕ) → Frame code lows side entries split → j ≤ dimension_of code → r ≡ point_word (vertex_in code j)

-- ---- a code that passes

-- an orthant of d bits is high on no axis past d
low_lacks : (a M : ℕ) (os : List ℕ) → ((t : ℕ) → high (get_or os t 0) a ≡ false) → box_low a M os ≡ 0
unfolding box_low
low_lacks a M [] h = refl
low_lacks a M (o ∷ os) h = rw (h 0, low_lacks a (suc M) os (λ t. h (suc t))) refl

-- what vertex j has above the low side on the axis of entry t
abbrev pub rise_in : List ℕ → ℕ → ℕ → ℕ
rise_in code j t = closed 0 (box_side (dimension_of code) (depth_of code)) (minus (get_or (entries_of code) t 0)) t (split_place (dimension_of code) (depth_of code)) j

module _ (code : List ℕ) (e : code_refusal code ≡ done) where
  abbrev d : ℕ
  d = dimension_of code

  abbrev es : List ℕ
  es = entries_of code

  abbrev os : List ℕ
  os = orthants_of code

  k : Checked code
  k = checked code e

  the_code : IsCodeOf code (root_of code) (path_of code)
  the_code = code_path code e

  the_dimension : dimension_of code ≡ length (root_of code)
  the_dimension = ap dimension_of the_code.is ∙ dimension_of_code (root_of code) (path_of code)

  the_depth : depth_of code ≡ length (path_of code)
  the_depth = ap depth_of the_code.is ∙ depth_of_code (root_of code) (path_of code)

  -- the cell of the code's root and path is drawn by the code's own parts
  drawn_code : Drawn (dimension_of code) (depth_of code) (parts_of code) (cell_in code)
  drawn_code = rw (the_dimension, the_depth, ap parts_of the_code.is ∙ parts_of_code the_code.good_root (path_of code))
      (closed_form (root_of code) (path_of code) the_code.good_root the_code.good_path.depth)

  pub code_dimension : Dimension (dimension_of code)
  code_dimension = k.range

  pub code_sized : Sized (dimension_of code) (cell_in code)
  code_sized = drawn_code.sized

  pub code_signed : Signed (dimension_of code) (entries_of code)
  code_signed = unfold parts_of in k.good.passes.signed

  count : length os ≡ box_depth d (depth_of code)
  count = unfold parts_of in k.good.passes.boxes.count

  fits : (t : ℕ) → get_or os t 0 < 2 ^ d
  fits t = go (dec_lt t (box_depth d (depth_of code)))
    where
      go : Dec (t < box_depth d (depth_of code)) → get_or os t 0 < 2 ^ d
      go (yes h) = unfold parts_of in k.good.passes.boxes.fit t h
      go (no h) = rw (get_or-eq_default os 0 {n = t} (omega (arith, count))) (pow_pos d)

  pub code_orthants : (t : ℕ) → get_or (orthants_of code) t 0 < 16
  code_orthants t = lt_of_lt_of_le (fits t) (pow_mono {i = d} {j = 4} k.range.few)

  low_past : (a : ℕ) → d < a → box_low a 0 os ≡ 0
  low_past a h = low_lacks a 0 os (λ t. unfold high in ap (λ (x : ℕ). eqb (x % 2) 1) (div-eq_of_lt (lt_of_lt_of_le (fits t) (pow_mono {i = d} {j = a - 1} (omega arith)))))

  low_side : (a : ℕ) → box_low a 0 os + box_side d (depth_of code) ≤ cube_side
  low_side a = unfold box_side in rw (← count) (omega (arith, low_inside a 0 os, side_first, ap side_after (zero-add (length os))))

  pub side_small : box_side (dimension_of code) (depth_of code) < 65536
  side_small = omega (arith, low_side 1, cube_two_bytes)

  -- a cell that is still split in its box has a whole middle
  pub side_even : split_place (dimension_of code) (depth_of code) < dimension_of code → box_side (dimension_of code) (depth_of code) % 2 ≡ 0
  side_even = (side_of (dimension_of code) (depth_of code) (omega (arith, k.range.two)) k.good.depth).even

  module _ (j : ℕ) (h : j ≤ dimension_of code) where
    -- an axis that an entry has, and one past the dimension
    coordinate_is : (a : ℕ) → 1 ≤ a → box_low a 0 os + up es (rise_in code j) 4 a ≡ coordinate (vertex_in code j) a
    coordinate_is a l = go (dec_le a d)
      where
        has : (u : a ≤ d) → box_low a 0 os + up es (rise_in code j) 4 a ≡ coordinate (vertex_in code j) a
        has u = ap (λ (x : ℕ). box_low a 0 os + x) (up_has code_signed (rise_in code j) a l u 4 (omega (arith, t.below, k.range.few)))
            ∙ sym (closed_above (box_low a 0 os) (box_side d (depth_of code)) (minus (get_or es t.place 0)) t.place (split_place d (depth_of code)) j)
            ∙ sym (subst (λ (b : ℕ). along (cell_in code) b j ≡ closed (box_low b 0 os) (box_side d (depth_of code)) (minus (get_or es t.place 0)) t.place (split_place d (depth_of code)) j)
            t.is (unfold parts_of in drawn_code.reads t.place t.below j h))
          where
            t : Stands es a d
            t = there code_signed (rise_in code j) a l u

        go : Dec (a ≤ d) → box_low a 0 os + up es (rise_in code j) 4 a ≡ coordinate (vertex_in code j) a
        go (yes u) = has u
        go (no u) = rw (low_past a (omega arith), up_lacks code_signed (rise_in code j) a l (omega arith) 4)
            (sym (get_or-eq_default (vertex_in code j) 0 {n = a - 1} (omega (arith, code_sized.dims j h))))

    pub part_small : (t a : ℕ) → 1 ≤ a → box_low a 0 (orthants_of code) + up (entries_of code) (rise_in code j) t a < 65536
    part_small t a l = omega (
      arith,
      low_side a,
      cube_two_bytes,
      up_most code_signed (rise_in code j) a l (box_side d (depth_of code)) (λ t. closed_most (box_side d (depth_of code)) (minus (get_or es t 0)) t (split_place d (depth_of code)) j) t,
    )

    pub vertex_is : in_word (λ a. box_low a 0 (orthants_of code) + up (entries_of code) (rise_in code j) 4 a) ≡ point_word (vertex_in code j)
    vertex_is = in_same (λ a. box_low a 0 os + up es (rise_in code j) 4 a) (coordinate (vertex_in code j)) (λ a l u. coordinate_is a l)
        ∙ in_point (vertex_in code j) (omega (arith, code_sized.dims j h, k.range.few))

    pub vertex_small : (n : ℕ) → get_or (vertex_in code j) n 0 < 65536
    vertex_small n = subst (λ (m : ℕ). get_or (vertex_in code j) m 0 < 65536) back (subst (λ (x : ℕ). x < 65536) (coordinate_is (suc n) (omega arith)) (part_small 4 (suc n) (omega arith)))
      where
        back : suc n - 1 ≡ n
        back = omega arith

  -- where the parts stand
  pub code_room : 2 + dimension_of code ≤ length code
  unfolding code_length
  code_room = omega (arith, k.size)

  pub code_boxes : length code - 2 - dimension_of code ≡ box_depth (dimension_of code) (depth_of code)
  unfolding code_length
  code_boxes = omega (arith, k.size)

  pub code_few : box_depth (dimension_of code) (depth_of code) ≤ halvings
  code_few = box_in d (depth_of code) (omega (arith, k.range.two)) k.good.depth

  pub code_entry : (t : ℕ) → t < dimension_of code → get_or (drop 2 code) t 0 ≡ get_or (entries_of code) t 0
  code_entry t h = unfold entries_of in sym (get_or-take (dimension_of code) (drop 2 code) t 0 h)

-- ---- the frame, as the code reads it; n is the dimension
module _ (code : List ℕ) (e : code_refusal code ≡ done) {n : ℕ} (q : n ≡ dimension_of code) where
  pub frame_split : (1 ≤ n) × (length code ≡ code_length n (depth_of code))
  frame_split = (omega (arith, q, (code_dimension code e).two), rw q (checked code e).size)

  pub frame_entries : (2 ≤ n) × (n ≤ 4) × (2 + n ≤ length code)
  frame_entries = (omega (arith, q, (code_dimension code e).two), omega (arith, q, (code_dimension code e).few), omega (arith, q, code_room code e))

  pub frame_boxes : (2 ≤ length code) × (n ≤ length code - 2) × (length code - 2 - n < 64)
  frame_boxes = (omega (arith, code_room code e), omega (arith, q, code_room code e), omega (arith, q, code_boxes code e, code_few code e, halvings_few))

  pub frame_side : cube_side / 2 ^ (length code - 2 - n) ≡ box_side (dimension_of code) (depth_of code)
  frame_side = unfold box_side side_after in rw (q, code_boxes code e) refl

  pub frame_orthants : {side : ℕ} → side ≡ box_side (dimension_of code) (depth_of code) → OrthantsReady code n side
  frame_orthants f = record {
    two = omega (arith, q, (code_dimension code e).two);
    few = omega (arith, q, (code_dimension code e).few);
    room = omega (arith, q, code_room code e);
    most = omega (arith, q, code_boxes code e, code_few code e);
    fit = rw q (unfold orthants_of in code_orthants code e);
    is = f ∙ unfold box_side in rw (q, code_boxes code e) refl;
  }

  pub frame_lows : {lows : ℕ} → lows ≡ lows_in (drop (2 + n) code) → lows ≡ lows_in (orthants_of code)
  frame_lows f = f ∙ unfold orthants_of in rw q refl

  pub frame_made : {lows side entries split : ℕ} → lows ≡ lows_in (orthants_of code) → side ≡ box_side (dimension_of code) (depth_of code)
      → bytes_of entries ≡ paste no_entries 0 (drop 2 code) n → split ≡ split_place n (depth_of code) → Frame code lows side entries split
  frame_made {lows} {side} {entries} {split} f g h p = record {
    passing = e;
    lows_are = f;
    side_is = g;
    entries_are = λ t. each t (dec_lt t n);
    split_is = p ∙ ap (λ (m : ℕ). split_place m (depth_of code)) q;
  }
    where
      few : n ≤ 4
      few = omega (arith, q, (code_dimension code e).few)

      room : n ≤ length (drop 2 code)
      room = rw (length-drop 2 code) (omega (arith, q, code_room code e))

      each : (t : ℕ) → Dec (t < n) → get_or (bytes_of entries) t 0 ≡ get_or (entries_of code) t 0
      each t (yes l) = pasted_at (drop 2 code) few room h t l ∙ code_entry code e t (omega (arith, q))
      each t (no l) = (pasted_none (drop 2 code) few room h).none t (omega arith) ∙ sym (get_or-eq_default (entries_of code) 0 {n = t} (omega (arith, q, (code_signed code e).size)))

pub vertex_side : {lows side entries split j : ℕ} → VertexReady lows side entries split j → side < 65536
vertex_side r = omega (arith, r.frame.side_is, side_small r.code r.frame.passing)

-- coordinate a, once the first t entries have added theirs to the box's low side
abbrev pub risen : List ℕ → ℕ → ℕ → ℕ → ℕ
risen code j t a = box_low a 0 (orthants_of code) + up (entries_of code) (rise_in code j) t a

-- ---- the walk over the entries: what the first t of them add, whatever code's they are
pub record Rising (lows side entries split j reach far back t w : ℕ) : Type 0 where
  pub ready : VertexReady lows side entries split j
  pub reaches : reach ≡ cond (leb j split) side (side / 2)
  pub far_is : far ≡ reach
  pub back_is : back ≡ side - reach
  pub few : t ≤ 4
  pub is : (code : List ℕ) → Frame code lows side entries split → j ≤ dimension_of code → w ≡ in_word (risen code j t)

pub rise_start : {lows side entries split j reach far back : ℕ} → VertexReady lows side entries split j → reach ≡ cond (leb j split) side (side / 2) → far ≡ reach → back ≡ side - reach
    → Rising lows side entries split j reach far back 0 lows
unfolding up
rise_start r f g h = record {
  ready = r;
  reaches = f;
  far_is = g;
  back_is = h;
  few = omega arith;
  is = λ code o h. o.lows_are ∙ in_same (λ a. box_low a 0 (orthants_of code)) (λ a. box_low a 0 (orthants_of code) + 0) (λ a l u. sym (add-zero (box_low a 0 (orthants_of code))));
}

module _ {lows side entries split j reach far back t w : ℕ} (on : Rising lows side entries split j reach far back t w) where
  pub rise_end : 4 ≤ t → VertexOf lows side entries split j w
  rise_end h = record {
    is = λ code o l. on.is code o l ∙ ap (λ (n : ℕ). in_word (risen code j n)) (omega (arith, on.few)) ∙ vertex_is code o.passing j l;
  }

  -- entry t, as the code reads it, and what it adds
  module _ (h : t < 4) {e : ℕ} (b : e ≡ get_or (bytes_of entries) t 0) {x : ℕ} (q : x ≡ cond (minus e) (cond (leb j t) side back) (cond (leb j t) 0 far)) where
    abbrev code : List ℕ
    code = on.ready.code

    o : Frame code lows side entries split
    o = on.ready.frame

    entry_is : (code : List ℕ) → Frame code lows side entries split → e ≡ get_or (entries_of code) t 0
    entry_is code o = b ∙ o.entries_are t

    above : (code : List ℕ) → Frame code lows side entries split → j ≤ dimension_of code → x ≡ closed 0 side (minus e) t split j
    above code o l = rise_picked side reach (minus e) t j on.far_is on.back_is q
        ∙ rise_closed side split (minus e) t j on.reaches (λ u. rw o.side_is (side_even code o.passing (omega (arith, u, l, o.split_is))))

    adds : (code : List ℕ) → Frame code lows side entries split → j ≤ dimension_of code → x ≡ rise_in code j t
    adds code o l = above code o l ∙ rw (o.side_is, o.split_is, entry_is code o) refl

    signed : Signed (dimension_of code) (entries_of code)
    signed = code_signed code o.passing

    pub rise_ready : (x < 65536) × (axis e ≤ 4) × (axis e ≡ 0 → x ≡ 0)
    rise_ready = (
      omega (arith, above code o on.ready.place, closed_most side (minus e) t split j, vertex_side on.ready),
      (go (dec_lt t (dimension_of code))).0,
      (go (dec_lt t (dimension_of code))).1,
    )
      where
        go : Dec (t < dimension_of code) → (axis e ≤ 4) × (axis e ≡ 0 → x ≡ 0)
        go (yes l) = rw (entry_is code o) (omega (arith, signed.high t l, (code_dimension code o.passing).few), λ z. absurd (omega (arith, z, signed.low t l)))
        go (no l) = (
          rw (none, axis_none) (omega arith),
          λ z. above code o on.ready.place ∙ rw none (closed_near 0 side (minus 0) t split j (omega (arith, on.ready.place)) ∙ unfold minus in refl),
        )
          where
            none : e ≡ 0
            none = entry_is code o ∙ get_or-eq_default (entries_of code) 0 {n = t} (omega (arith, signed.size))

    module _ {r : ℕ} (p : r ≡ in_word (on_axis (axis e) x)) where
      next : (code : List ℕ) → Frame code lows side entries split → j ≤ dimension_of code → w + r ≡ in_word (risen code j (t + 1))
      unfolding up
      next code o l = rw (on.is code o l, p, entry_is code o, adds code o l, add-one t)
          (in_add (risen code j t) (on_axis (axis (get_or (entries_of code) t 0)) (rise_in code j t))
          ∙ in_same (λ a. risen code j t a + on_axis (axis (get_or (entries_of code) t 0)) (rise_in code j t) a)
          (λ a. box_low a 0 (orthants_of code) + (up (entries_of code) (rise_in code j) t a + on_axis (axis (get_or (entries_of code) t 0)) (rise_in code j t) a)) (λ a l u. omega arith))

      pub rise_fits : w + r < 2 ^ 64
      rise_fits = rw (next code o on.ready.place) (in_small (risen code j (t + 1)) (λ a l u. part_small code o.passing j on.ready.place (t + 1) a l))

      pub rise_next : Rising lows side entries split j reach far back (t + 1) (w + r)
      rise_next = record { ready = on.ready; reaches = on.reaches; far_is = on.far_is; back_is = on.back_is; few = omega arith; is = next }
