-- The frame of a name: an axis stands where its entry does, its near and far sides are those of the box that the
-- orthants give, by the entry's sign. A name that is a cell's has a good frame within the cube, and the cell that the
-- name draws is the one that its frame draws.
use Rattle.std.specs.Prelude.{◌≡◌, Bool, true, false, not, List, [], ◌∷◌, eqb, length, get_or}
use Rattle.std.proofs.Math.Path.{refl}
use Rattle.std.proofs.Common.{sym, ap, ◌∙◌, subst, zero-add, eq-eqb, ne_eqb, eqb-true}
use Prim.Native.Nat.{ℕ, zero, suc, ◌+◌, ◌-◌, ◌*◌, ◌/◌, ◌%◌, ◌^◌, ◌≤◌, ◌<◌}
use native.Mathlib.Omega.{arith}
use Rattle.std.proofs.Math.Decide.{dec_le, ℕ_discrete}
use Rattle.dimension.specs.Sizes.{greatest_depth, split_place, box_depth, box_side}
use Rattle.dimension.specs.Laws.{Side, side_of, box_in}
use Rattle.bisection.specs.Cells.{Cell, vertex}
use Rattle.bisection.specs.Codes.{axis, minus, minus_on, Name}
use Rattle.bisection.specs.Refusals.{same_sign}
use Rattle.bisection.specs.Theorems.Axis.{closed, near}
use Rattle.bisection.proofs.Theorems.Axis.{closed_near, closed_far, closed_middle}
use Rattle.bisection.specs.Theorems.Entries.{Signed, Stands}
use Rattle.bisection.proofs.Theorems.Entries.{stands, minus_on_entry}
use Rattle.bisection.specs.Theorems.Passing.{Passes}
use Rattle.bisection.proofs.Theorems.Passing.{same_true, same_is}
use Rattle.bisection.specs.Theorems.Drawn.{Drawn, box_low, along, entry}
use Rattle.bisection.specs.Theorems.Table.{next_own}
use Rattle.bisection.specs.Theorems.Crossing.Sums.{Perm}
use Rattle.bisection.specs.Theorems.Crossing.Rows.{row, Sides}
use Rattle.bisection.proofs.Theorems.Crossing.Rows.{row_before, row_in, row_past}
use Rattle.bisection.specs.Theorems.Crossing.Frames.{vert, GoodFrame}
use Rattle.bisection.specs.Theorems.Crossing.Moves.{own}
use Rattle.bisection.specs.Theorems.Crossing.Walls.{InCube}
use Rattle.bisection.specs.Theorems.Crossing.Boxes.{box_at, unit}
use Rattle.bisection.proofs.Theorems.Crossing.Boxes.{box_at_fits, box_low_box_at, own_box_at}
use Rattle.bisection.specs.Theorems.Crossing.Points.{Scaled}
use Rattle.bisection.specs.Theorems.Crossing.Named.{frame, place_of}

place_first : (es : List ℕ) (i : ℕ) → i < length es → ((j : ℕ) → j < i → axis (get_or es j 0) ≡ axis (get_or es i 0) → ⊥) → place_of es (axis (get_or es i 0)) ≡ i
unfolding place_of
place_first [] i h n = absurd (omega arith)
place_first (e ∷ es) zero h n = rw (eq-eqb (axis e) (axis e) refl)
place_first (e ∷ es) (suc i) h n = rw (ne_eqb (axis e) (axis (get_or es i 0)) (n 0 (omega arith))) (ap suc (place_first es i (omega arith) (λ j q. n (suc j) (omega arith))))

-- the axis of entry q
module _ {d : ℕ} (m : Name) (g : Signed d m.entries) where
  up : (q : ℕ) → q < d → suc (axis (entry m q) - 1) ≡ axis (entry m q)
  up q l = omega (arith, g.low q l)

  pub frame_at : (q : ℕ) → q < d → (frame m).at (axis (entry m q) - 1) ≡ suc q
  unfolding frame
  frame_at q l = rw (up q l) (ap suc (place_first m.entries q (omega (arith, g.size)) (λ j h e. omega (arith, g.apart j q (omega arith) l e))))

  pub frame_near : (q : ℕ) → q < d → (frame m).near (axis (entry m q) - 1) ≡ unit (box_at (axis (entry m q)) m.orthants) (minus (entry m q))
  unfolding frame
  frame_near q l = rw (up q l, minus_on_entry g q l) refl

  pub frame_far : (q : ℕ) → q < d → (frame m).far (axis (entry m q) - 1) ≡ unit (box_at (axis (entry m q)) m.orthants) (not (minus (entry m q)))
  unfolding frame
  frame_far q l = rw (up q l, minus_on_entry g q l) refl

  pub frame_axis : (q : ℕ) → (frame m).axis (suc q) ≡ axis (entry m q) - 1
  unfolding frame
  frame_axis q = let e : suc q - 1 ≡ q = omega arith in rw e refl

  -- every axis is an entry's
  pub by_entry : (P : ℕ → Type 0) → ((q : ℕ) → q < d → P (axis (entry m q) - 1)) → (a : ℕ) → a < d → P a
  by_entry P h a l = subst P e (h t.place t.below)
    where
      t : Stands m.entries (suc a) d
      t = stands g (suc a) (omega arith) l

      e : axis (entry m t.place) - 1 ≡ a
      e = omega (arith, t.is)

  pub frame_perm : Perm d (frame m).at (frame m).axis
  frame_perm = record {
    first = by_entry (λ a. 1 ≤ (frame m).at a) (λ q l. rw (frame_at q l) (omega arith));
    last = by_entry (λ a. (frame m).at a ≤ d) (λ q l. rw (frame_at q l) l);
    axis = λ t h l. rw (axis_at t h) (omega (arith, g.low (t - 1) (omega arith), g.high (t - 1) (omega arith)));
    back = λ t h l. rw (axis_at t h, frame_at (t - 1) (omega arith)) (omega arith);
    again = by_entry (λ a. (frame m).axis ((frame m).at a) ≡ a) (λ q l. rw (frame_at q l) (frame_axis q));
  }
    where
      axis_at : (t : ℕ) → 1 ≤ t → (frame m).axis t ≡ axis (entry m (t - 1)) - 1
      axis_at t h = unfold frame in refl

-- near and far
unit_sides : (b : ℕ) (n : Bool) → Sides (unit b n) (unit b (not n))
unit_sides b true = record { down = omega arith; up = omega arith; apart = omega arith }
unit_sides b false = record { down = omega arith; up = omega arith; apart = omega arith }

unit_in : (N b : ℕ) (n : Bool) → b < N → unit b n ≤ N
unit_in N b true h = omega arith
unit_in N b false h = omega arith

-- near is even just where the sign is the box's own
pub own_even : (b : ℕ) (n : Bool) → same_sign n (eqb (b % 2) 1) ≡ eqb (unit b n % 2) 0
own_even b n = go n (ℕ_discrete (b % 2) 1)
  where
    go : (n : Bool) → Dec (b % 2 ≡ 1) → same_sign n (eqb (b % 2) 1) ≡ eqb (unit b n % 2) 0
    go true (yes h) = rw (eq-eqb (b % 2) 1 h) (sym (eq-eqb (suc b % 2) 0 (omega arith)))
    go true (no h) = rw (ne_eqb (b % 2) 1 h) (sym (ne_eqb (suc b % 2) 0 (omega arith)))
    go false (yes h) = rw (eq-eqb (b % 2) 1 h) (sym (ne_eqb (b % 2) 0 (omega arith)))
    go false (no h) = rw (ne_eqb (b % 2) 1 h) (sym (eq-eqb (b % 2) 0 (omega arith)))

pub even_own : (b : ℕ) (n : Bool) → unit b n % 2 ≡ 0 → n ≡ eqb (b % 2) 1
even_own b n e = same_true n (eqb (b % 2) 1) (own_even b n ∙ eq-eqb (unit b n % 2) 0 e)

-- one axis of the closed form, in halves
twice_near : (s b : ℕ) (n : Bool) → 2 * near (s * b) s n ≡ s * (2 * unit b n)
twice_near s b true = omega arith
twice_near s b false = omega arith

twice_middle : (s b : ℕ) (n : Bool) → s % 2 ≡ 0 → 2 * (s * b + s / 2) ≡ s * (unit b n + unit b (not n))
twice_middle s b true e = let h : 2 * (s / 2) ≡ s = omega arith in omega arith
twice_middle s b false e = let h : 2 * (s / 2) ≡ s = omega arith in omega arith

twice_closed : {d k s : ℕ} (w : Side d k s) (b : ℕ) (n : Bool) (q j : ℕ) → j ≤ d → 2 * closed (s * b) s n q k j ≡ s * row k (suc q) (unit b n) (unit b (not n)) j
twice_closed {d} {k} {s} w b n q j l = go (dec_le j q) (dec_le j k)
  where
    x : ℕ
    x = unit b n

    y : ℕ
    y = unit b (not n)

    go : Dec (j ≤ q) → Dec (j ≤ k) → 2 * closed (s * b) s n q k j ≡ s * row k (suc q) x y j
    go (yes u) v = rw (closed_near (s * b) s n q k j u, row_before k (suc q) x y j (omega arith)) (twice_near s b n)
    go (no u) (yes v) = let h : q < j = omega arith in rw (closed_far (s * b) s n q k j h v, row_in k (suc q) x y j h v) (twice_near s b (not n))
    go (no u) (no v) = let h : q < j = omega arith in let t : k < j = omega arith in
        rw (closed_middle (s * b) s n q k j h t, row_past k (suc q) x y j h t) (twice_middle s b n (w.even (omega arith)))

module _ (d D : ℕ) (m : Name) (p : Passes d D m) where
  pub frame_good : GoodFrame d (split_place d D) (frame m)
  frame_good = record {
    perm = frame_perm m p.signed;
    sides = λ a l. unfold frame in unit_sides (box_at (suc a) m.orthants) (minus_on m.entries (suc a));
    even = by_entry m p.signed (λ a. (frame m).at a ≤ split_place d D → (frame m).near a % 2 ≡ 0)
        (λ q l h. rw (frame_near m p.signed q l) (eqb-true (unit (box_at (axis (entry m q)) m.orthants) (minus (entry m q)) % 2) 0
        (sym (own_even (box_at (axis (entry m q)) m.orthants) (minus (entry m q))) ∙ same_is (minus (entry m q)) (eqb (box_at (axis (entry m q)) m.orthants % 2) 1)
        (p.own.sign q (rw (frame_at m p.signed q l) at h) ∙ own_box_at (axis (entry m q)) m.orthants))));
  }

  pub frame_cube : InCube (2 ^ box_depth d D) d (frame m)
  frame_cube = record {
    near = λ a l. unfold frame in unit_in (2 ^ box_depth d D) (box_at (suc a) m.orthants) (minus_on m.entries (suc a)) (fits a);
    far = λ a l. unfold frame in unit_in (2 ^ box_depth d D) (box_at (suc a) m.orthants) (not (minus_on m.entries (suc a))) (fits a);
  }
    where
      fits : (a : ℕ) → box_at (suc a) m.orthants < 2 ^ box_depth d D
      fits a = rw p.boxes.count at (box_at_fits (suc a) m.orthants)

  -- the table's test of entry k + 1 is the frame's
  pub frame_own : split_place d D < d → next_own (split_place d D) m ≡ own (split_place d D) (frame m)
  unfolding next_own own
  frame_own h = rw (frame_axis m p.signed k, frame_near m p.signed k h, own_box_at (axis (entry m k)) m.orthants) (own_even (box_at (axis (entry m k)) m.orthants) (minus (entry m k)))
    where
      k : ℕ
      k = split_place d D

  pub frame_scaled : 0 < d → D ≤ greatest_depth d → {vs : Cell} → Drawn d D m vs → Scaled d (split_place d D) (box_side d D) vs (frame m)
  frame_scaled d0 deep {vs} r = record { sized = r.sized; reads = λ j a l. by_entry m p.signed (λ a. 2 * get_or (vertex vs j) a 0 ≡ box_side d D * vert (split_place d D) (frame m) j a) (λ q h. one j l q h) a }
    where
      k : ℕ
      k = split_place d D

      s : ℕ
      s = box_side d D

      b : ℕ → ℕ
      b q = box_at (axis (entry m q)) m.orthants

      low : (q : ℕ) → box_low (axis (entry m q)) 0 m.orthants ≡ s * b q
      low q = box_low_box_at (axis (entry m q)) 0 m.orthants (omega (arith, p.boxes.count, box_in d D d0 deep)) ∙ (unfold box_side in rw (zero-add (length m.orthants), p.boxes.count) refl)

      one : (j : ℕ) → j ≤ d → (q : ℕ) → q < d → 2 * along vs (axis (entry m q)) j ≡ s * vert k (frame m) j (axis (entry m q) - 1)
      one j l q h = rw (r.reads q h j l, low q, frame_at m p.signed q h, frame_near m p.signed q h, frame_far m p.signed q h) (twice_closed (side_of d D d0 deep) (b q) (minus (entry m q)) q j l)
