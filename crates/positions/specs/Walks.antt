-- The walk up from a code: the steps come out deepest first, each with the weight of its depth.
use Rattle.std.specs.Prelude.{◌≡◌, refl, Bool, true, false, cond, List, ◌∷◌, ℕ, zero, suc, ◌+◌, ◌-◌, ◌*◌, ◌^◌, ◌≤◌, ◌<◌, length, get_or, take, drop, set, replicate}
use Rattle.std.proofs.Common.{sym, ap, ◌∙◌, subst, arith, pow_pos}
use Rattle.std.proofs.lemmas.List.{length-replicate}
use Rattle.std.proofs.Math.Pow.{pow-lt}
use Rattle.dimension.specs.Sizes.{greatest_depth, split_place, box_depth}
use Rattle.bisection.specs.Codes.{axis, minus, high}
use Rattle.bisection.specs.Refusals.{same_sign}
use Rattle.entries.specs.Walks.{own_byte}
use Rattle.fours.specs.Fours.{BackIs}
use Rattle.steps.specs.Above.{boxes_above, place_above}
use Rattle.steps.specs.Climbs.{ClimbReady, Climbed, Rising, path_on, rise_none, rise_next}
use Rattle.positions.specs.Positions.{start_of}

-- the walk's path is in no buffer: it stands as so many zeros before
pub record WalkReady (d D : ℕ) (code root : List ℕ) (size : ℕ) : Type 0 where
  pub climb : ClimbReady d D code root (replicate D 0)
  pub depth : D ≤ greatest_depth d
  pub small : greatest_depth d ≤ 60
  pub size_is : size ≡ 2 ^ (greatest_depth d - D)

-- a loop on the way up: the steps taken back are a path's end, and start is where it leads
pub record Walked (d D : ℕ) (code root : List ℕ) (t k boxes : ℕ) (root' : List ℕ) (start half : ℕ) : Type 0 where
  pub path : List ℕ
  pub rising : Rising d D code root (replicate D 0) t k boxes root' path
  pub depth : D ≤ greatest_depth d
  pub small : greatest_depth d ≤ 60
  pub start_is : start ≡ start_of (greatest_depth d - t) (take (D - t) (drop t path))
  pub half_is : half ≡ 2 ^ (greatest_depth d - t)
  pub inside : start + 1 ≤ half

-- its end: the whole path
pub record Reached (d D : ℕ) (code root root' : List ℕ) (start : ℕ) : Type 0 where
  pub path : List ℕ
  pub climbed : Climbed d D code 0 root (replicate D 0) root' path
  pub start_is : start ≡ start_of (greatest_depth d) (take D path)

pub walk_none : {d n D size k boxes : ℕ} {code root : List ℕ} → WalkReady d D code root size → n ≡ d → k ≡ split_place d D → boxes ≡ box_depth d D → Walked n D code root D k boxes root 0 size
unfolding start_of
walk_none {d} {n} {D} {size} {k} {boxes} {code} {root} r e f g = subst (λ (j : ℕ). Walked j D code root D k boxes root 0 size) (sym e) (record {
  path = replicate D 0;
  rising = rise_none r.climb f g;
  depth = r.depth;
  small = r.small;
  start_is = rw none refl;
  half_is = r.size_is;
  inside = rw r.size_is (omega (arith, pow_pos (greatest_depth d - D)));
})
  where
    none : D - D ≡ 0
    none = omega arith

-- a step is 0 or 1
step_small : {n own b : ℕ} {es r : List ℕ} → BackIs n own es b r → b ≤ 1
step_small {n} {own} {es = es} s = rw s.step (zero_or_one (same_sign (minus (get_or es n 0)) (high own (axis (get_or es n 0)))))
  where
    zero_or_one : (x : Bool) → cond x 0 1 ≤ 1
    zero_or_one true = omega arith
    zero_or_one false = omega arith

times_one : (b half : ℕ) → b ≤ 1 → b * half ≤ half
times_one zero half h = omega arith
times_one (suc zero) half h = omega arith
times_one (suc (suc b)) half h = absurd (omega arith)

module _ {d D : ℕ} {code root : List ℕ} {t k boxes : ℕ} {root' : List ℕ} {start half : ℕ} (w : Walked d D code root t k boxes root' start half) (pos : 0 < t) where
  half_small : half < 2 ^ 60
  half_small = rw w.half_is (pow-lt {i = greatest_depth d - t} {j = 60} (omega (arith, w.small)))

  pub walk_double : half * 2 < 2 ^ 64
  walk_double = omega (arith, half_small)

  -- x is the step as a word
  module _ {n own b x : ℕ} {r : List ℕ} (s : BackIs n own root' b r) (e : x ≡ b) where
    weighed : x * half ≤ half
    weighed = times_one x half (omega (arith, step_small s))

    pub walk_start : start + x * half < 2 ^ 64
    walk_start = omega (arith, weighed, half_small, w.inside)

  module _ {j : ℕ} (v : j ≡ place_above k d) {q own b x : ℕ} {r : List ℕ} (u : q ≡ boxes_above boxes k d) (o : own ≡ own_byte (take q (drop (2 + d) code)))
      (s : BackIs (j - 1) own root' b r) (e : x ≡ b) where
    path_is : take (D - (t - 1)) (drop (t - 1) (set w.path (t - 1) b)) ≡ b ∷ take (D - t) (drop t w.path)
    path_is = path_on D (t - 1) b w.path (omega (arith, w.rising.deep)) long ∙ ap (λ (j : ℕ). b ∷ take (D - j) (drop j w.path)) back
      where
        long : t - 1 < length w.path
        long = omega (arith, w.rising.climbed.path_size, length-replicate {A = ℕ} D 0, w.rising.deep)

        back : suc (t - 1) ≡ t
        back = omega arith

    up : greatest_depth d - (t - 1) ≡ suc (greatest_depth d - t)
    up = omega (arith, w.depth, w.rising.deep)

    pub walk_next : Walked d D code root (t - 1) j q r (start + x * half) (half * 2)
    walk_next = record {
      path = set w.path (t - 1) b;
      rising = rise_next w.rising pos v u o s;
      depth = w.depth;
      small = w.small;
      start_is = sym (ap (start_of (greatest_depth d - (t - 1))) path_is ∙ rw up lead);
      half_is = rw (up, w.half_is) (omega arith);
      inside = omega (arith, w.inside, weighed s e);
    }
      where
        one : suc (greatest_depth d - t) - 1 ≡ greatest_depth d - t
        one = omega arith

        lead : start_of (suc (greatest_depth d - t)) (b ∷ take (D - t) (drop t w.path)) ≡ start + x * half
        lead = unfold start_of in rw (one, ← w.start_is, ← w.half_is, ← e) (omega arith)
