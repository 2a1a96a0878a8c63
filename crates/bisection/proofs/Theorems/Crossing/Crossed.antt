-- The table on names is the table on frames: where no carry runs out, the frame of the name across is the one that
-- the row gives on every axis, and so the name is a cell's again.
use Rattle.std.specs.Prelude.{◌≡◌, refl, Bool, false, cond, not, ◌≢◌, ℕ, suc, ◌-◌, ◌%◌, ◌^◌, ◌≤◌, ◌<◌, eqb, get_or}
use Rattle.std.proofs.Common.{sym, ◌∙◌, arith, eq-eqb, ne_eqb}
use Rattle.std.proofs.Math.Path.{ap, subst}
use Rattle.std.proofs.Math.Decide.{ℕ_discrete}
use Rattle.std.proofs.Math.Dec.{T}
use Rattle.std.proofs.Math.ListN.{length}
use Rattle.dimension.specs.Sizes.{split_place, box_depth}
use Rattle.dimension.specs.Laws.{split_range}
use Rattle.bisection.specs.Codes.{axis, minus, Name}
use Rattle.bisection.specs.Refusals.{own_minus}
use Rattle.bisection.specs.Theorems.Entries.{Signed}
use Rattle.bisection.specs.Theorems.Passing.{Passes}
use Rattle.bisection.specs.Theorems.Drawn.{entry}
use Rattle.bisection.specs.Theorems.Table.{Move, swap, nearer, farther, right, move, next_own, move_of, blocked, across_name}
use Rattle.bisection.specs.Theorems.Crossing.Frames.{GoodFrame}
use Rattle.bisection.specs.Theorems.Crossing.Moves.{apply, own}
use Rattle.bisection.proofs.Theorems.Crossing.Moves.{view}
use Rattle.bisection.specs.Theorems.Crossing.Level.{LandsAt}
use Rattle.bisection.specs.Theorems.Crossing.Walls.{Stuck}
use Rattle.bisection.specs.Theorems.Crossing.Sound.{Allowed}
use Rattle.bisection.proofs.Theorems.Crossing.Sound.{allowed}
use Rattle.bisection.specs.Theorems.Crossing.Places.{cross}
use Rattle.bisection.proofs.Theorems.Crossing.Across.{across_good}
use Rattle.bisection.specs.Theorems.Crossing.Boxes.{box_at, unit}
use Rattle.bisection.proofs.Theorems.Crossing.Boxes.{own_box_at}
use Rattle.bisection.specs.Theorems.Crossing.Named.{frame}
use Rattle.bisection.proofs.Theorems.Crossing.Named.{frame_at, frame_near, frame_far, frame_good, frame_own, by_entry, even_own}
use Rattle.bisection.specs.Theorems.Crossing.Rearranged.{EntryGoes}
use Rattle.bisection.proofs.Theorems.Crossing.Rearranged.{entry_goes, goes_axis, goes_sign, goes_in, signed_by}
use Rattle.bisection.specs.Theorems.Crossing.Carries.{BoxGoes}
use Rattle.bisection.proofs.Theorems.Crossing.Carries.{lands_to, box_goes, stuck_blocked, orthants_count, orthants_fit}

move_whole : (d k i : ℕ) (t u : Bool) → k ≡ d → move d k i t ≡ move d k i u
unfolding move
move_whole d k i t u e = rw (eq-eqb k d e) (go (ℕ_discrete i d))
  where
    go : Dec (i ≡ d) → cond (eqb i d) nearer (cond (eqb i 0) farther (cond (eqb i k) (cond t (swap k) right) (swap i))) ≡ cond (eqb i d) nearer (cond (eqb i 0) farther (cond (eqb i k) (cond u (swap k) right) (swap i)))
    go (yes q) = rw (eq-eqb i d q) refl
    go (no q) = let n : i ≢ k = λ r. q (r ∙ e) in rw (ne_eqb i k n) refl

module _ (d D : ℕ) (d0 : 0 < d) (small : d < 128) (m : Name) (p : Passes d D m) (i : ℕ) (il : i ≤ d) where
  k : ℕ
  k = split_place d D

  k1 : 1 ≤ k
  unfolding k
  k1 = (split_range d D d0).0

  kd : k ≤ d
  unfolding k
  kd = (split_range d D d0).1

  mv : Move
  mv = move_of d D i m

  m' : Name
  m' = across_name d D i m

  -- the table's row is the frame's
  pub row_is : move_of d D i m ≡ move d (split_place d D) i (own (split_place d D) (frame m))
  unfolding move_of
  row_is = go (ℕ_discrete (split_place d D) d)
    where
      go : Dec (split_place d D ≡ d) → move d (split_place d D) i (next_own (split_place d D) m) ≡ move d (split_place d D) i (own (split_place d D) (frame m))
      go (yes e) = move_whole d (split_place d D) i (next_own (split_place d D) m) (own (split_place d D) (frame m)) e
      go (no e) = ap (move d (split_place d D) i) (frame_own d D m p (omega (arith, (split_range d D d0).1)))

  ok : Allowed d k mv
  unfolding k mv move_of
  ok = allowed (split_range d D d0).0 (split_range d D d0).1 il (view d (split_place d D) i (next_own (split_place d D) m))

  signed' : Signed d m'.entries
  unfolding m' mv k across_name
  signed' = signed_by p.signed small k1 ok

  module _ (free : blocked d D i m ≡ false) where
    at_entry : (q : ℕ) → q < d → LandsAt d k mv (frame m) (frame m') (axis (entry m q) - 1)
    at_entry q l = rw (frame_at m g q l, frame_near m g q l, frame_far m g q l, there_at, there_near, there_far) (lands_to d k (suc q) b n b' e.to e.turn e.place_is e.turn_is goes)
      where
        g : Signed d m.entries
        g = p.signed

        n : Bool
        n = minus (entry m q)

        b : ℕ
        b = box_at (axis (entry m q)) m.orthants

        b' : ℕ
        b' = box_at (axis (entry m q)) m'.orthants

        e : EntryGoes d k mv m.entries q
        e = entry_goes m.entries g.size k1 q l ok

        to_in : e.to < d
        to_in = goes_in g small k1 ok q l e

        goes : BoxGoes d (suc q) b n b' mv
        goes = unfold m' mv across_name in box_goes d k m g ok (unfold blocked in free) q l

        there : axis (entry m' e.to) ≡ axis (entry m q)
        there = unfold m' mv k across_name in goes_axis g small k1 ok q l e

        sign : minus (entry m' e.to) ≡ cond e.turn (not n) n
        sign = unfold m' mv k across_name in goes_sign g small k1 ok q l e

        there_at : (frame m').at (axis (entry m q) - 1) ≡ suc e.to
        there_at = subst (λ (a : ℕ). (frame m').at (a - 1) ≡ suc e.to) there (frame_at m' signed' e.to to_in)

        there_near : (frame m').near (axis (entry m q) - 1) ≡ unit b' (cond e.turn (not n) n)
        there_near = subst (λ (a : ℕ). (frame m').near (a - 1) ≡ unit (box_at a m'.orthants) (cond e.turn (not n) n)) there
            (frame_near m' signed' e.to to_in ∙ ap (unit (box_at (axis (entry m' e.to)) m'.orthants)) sign)

        there_far : (frame m').far (axis (entry m q) - 1) ≡ unit b' (not (cond e.turn (not n) n))
        there_far = subst (λ (a : ℕ). (frame m').far (a - 1) ≡ unit (box_at a m'.orthants) (not (cond e.turn (not n) n))) there
            (frame_far m' signed' e.to to_in ∙ ap (λ (t : Bool). unit (box_at (axis (entry m' e.to)) m'.orthants) (not t)) sign)

    pub lands : (a : ℕ) → a < d → LandsAt d (split_place d D) (move_of d D i m) (frame m) (frame (across_name d D i m)) a
    unfolding k mv m'
    lands = by_entry m p.signed (λ a. LandsAt d k mv (frame m) (frame m') a) at_entry

    -- no wall is in the way
    pub not_stuck : ¬ Stuck (2 ^ box_depth d D) d (frame m) (move_of d D i m)
    unfolding blocked
    not_stuck t = subst T (sym (stuck_blocked d (split_place d D) m p.signed d0 (subst (λ (L : ℕ). Stuck (2 ^ L) d (frame m) (move_of d D i m)) (sym p.boxes.count) t)) ∙ free) tt

    good' : GoodFrame d k (cross d k mv (frame m))
    good' = unfold mv k in rw row_is (across_good (split_range d D d0).0 (split_range d D d0).1 il (frame_good d D m p) (rw row_is at not_stuck))

    own_sign : (q : ℕ) → q < k → minus (entry m' q) ≡ own_minus m'.orthants (axis (entry m' q))
    own_sign q l = even_own b n (rw (← frame_near m' signed' q h, lands'.near) (even lands'.at)) ∙ sym (own_box_at (axis (entry m' q)) m'.orthants)
      where
        h : q < d
        h = omega (arith, kd)

        a : ℕ
        a = axis (entry m' q) - 1

        al : a < d
        al = omega (arith, signed'.low q h, signed'.high q h)

        b : ℕ
        b = box_at (axis (entry m' q)) m'.orthants

        n : Bool
        n = minus (entry m' q)

        lands' : LandsAt d k mv (frame m) (frame m') a
        lands' = unfold k mv m' in lands a al

        even : (frame m').at a ≡ (apply d k mv ((frame m).at a) ((frame m).near a) ((frame m).far a)).at → (apply d k mv ((frame m).at a) ((frame m).near a) ((frame m).far a)).near % 2 ≡ 0
        even e = unfold cross in good'.even a al (rw (← e, frame_at m' signed' q h) l)

    pub across_passes : Passes d D (across_name d D i m)
    unfolding m' mv k
    across_passes = record {
      signed = signed';
      boxes = record { count = count ∙ p.boxes.count; fit = λ t l. fit t (omega (arith, p.boxes.count)) };
      own = record { sign = own_sign };
    }
      where
        count : length m'.orthants ≡ length m.orthants
        count = unfold m' across_name in orthants_count d k m p.signed (move_of d D i m)

        fit : (t : ℕ) → t < length m.orthants → get_or m'.orthants t 0 < 2 ^ d
        fit = unfold m' across_name in orthants_fit d k m p.signed d0 (λ t l. p.boxes.fit t (omega (arith, p.boxes.count))) (move_of d D i m)
