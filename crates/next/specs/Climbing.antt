-- The way up: the 1s at a path's end are dropped, one by one, and the entries turned back.
use Rattle.std.specs.Prelude.{◌≡◌, Bool, List, ℕ, suc, ◌-◌, ◌*◌, ◌/◌, ◌%◌, ◌≤◌, ◌<◌, length}
use Rattle.std.proofs.Math.Path.{refl, ap}
use Rattle.std.proofs.Common.{sym, ◌∙◌, subst, arith}
use Rattle.dimension.specs.Sizes.{split_place, box_depth}
use Rattle.dimension.specs.Laws.{split_range, split_is}
use Rattle.bisection.specs.Codes.{turned, step, stepped}
use Rattle.bisection.specs.Theorems.Entries.{unturned}
use Rattle.bisection.proofs.Theorems.Entries.{unturned_turned}
use Rattle.steps.specs.Above.{place_above, boxes_above, BoxesReady, above_ready, go_place, go_boxes}
use Rattle.fours.specs.declared.Four.{Four}
use Rattle.fours.specs.Fours.{four, Holds}
use Rattle.fours.specs.Laws.{held_few, held_unturned}
use Rattle.next.specs.Paths.{stripped, One, one_last, none_last}
use Rattle.next.specs.Names.{name_at, rooted_some, name_passes_at}
use Rattle.next.specs.Nexts.{Cell, ClimbReady, UpIs}

-- one step up
module _ {d : ℕ} {e : Four} {n t : ℕ} {root : List ℕ} {p : List Bool} (c : Cell d e n t root p) (odd : n % 2 ≡ 1) where
  pub one : One p
  one = one_last p (ap (λ (m : ℕ). m % 2) (sym c.path_is) ∙ odd)

  abbrev rest : List Bool
  rest = one.rest

  pub up_some : 0 < t
  up_some = omega (arith, c.depth_is, ap length one.is)

  below : t - 1 ≡ length rest
  below = omega (arith, c.depth_is, ap length one.is)

  d0 : 0 < d
  d0 = rooted_some c.rooted

  module _ (j : ℕ) (j_is : j ≡ split_place d (t - 1)) where
    range : (1 ≤ j) × (j ≤ d)
    range = rw j_is (split_range d (t - 1) d0)

    pub up_turn : j - 1 < 4
    up_turn = omega (arith, range, held_few c.held)

    place_is : split_place d (length rest) ≡ suc (j - 1)
    place_is = ap (split_place d) (sym below) ∙ sym j_is ∙ omega (arith, range)

    pub up_cell : (r : Four) → four r ≡ unturned (j - 1) (four e) → Cell d r (n / 2) (t - 1) root rest
    up_cell r q = record {
      rooted = c.rooted;
      held = subst (Holds d r) (ap (unturned (j - 1)) was ∙ unturned_turned (name_passes_at c.rooted rest).signed (j - 1) (omega (arith, range)) (omega (arith, held_few c.held)))
          (held_unturned c.held r (j - 1) (omega (arith, range)) q);
      path_is = ap (λ (m : ℕ). m / 2) c.path_is ∙ one.half;
      depth_is = below;
    }
      where
        was : (name_at d root p).entries ≡ turned (suc (j - 1)) (name_at d root rest).entries
        was = ap (λ (q : List Bool). (name_at d root q).entries) one.is ∙ unfold name_at step stepped in ap (λ (k : ℕ). turned k (name_at d root rest).entries) place_is

    pub up_stripped : stripped p ≡ stripped rest
    up_stripped = ap stripped one.is ∙ unfold stripped in refl

-- on the way: the 1s left to drop lead to the same cell
pub record Climbing (d : ℕ) (e : Four) (n t : ℕ) (root : List ℕ) (p : List Bool) : Type 0 where
  pub at : List Bool
  pub cell : Cell d e n t root at
  pub same : stripped p ≡ stripped at

-- what the loop keeps
pub record Loop (d : ℕ) (e₀ : Four) (n₀ t₀ : ℕ) (e : Four) (n t k boxes : ℕ) : Type 0 where
  pub place : k ≡ split_place d t
  pub count : boxes ≡ box_depth d t
  pub here : ClimbReady d e n t
  pub way : (root : List ℕ) (p : List Bool) → Cell d e₀ n₀ t₀ root p → Climbing d e n t root p

pub loop_start : {a d : ℕ} {e : Four} {n t boxes : ℕ} → a ≡ d → ClimbReady d e n t → boxes ≡ box_depth d t → Loop a e n t e n t (a - (t - a * boxes)) boxes
loop_start {a} {d} {e} {n} {t} {boxes} q r h = subst (λ (x : ℕ). Loop x e n t e n t (x - (t - x * boxes)) boxes) (sym q)
    (record { place = split_is d t d boxes refl h; count = h; here = r; way = λ root p c. record { at = p; cell = c; same = refl } })

module _ {d : ℕ} {e₀ : Four} {n₀ t₀ : ℕ} {e : Four} {n t k boxes : ℕ} (l : Loop d e₀ n₀ t₀ e n t k boxes) where
  pub loop_end : {a : ℕ} → d ≡ a → (n % 2 ≡ 1 → ⊥) → UpIs a e₀ n₀ t₀ (record { entries = e; path = n; depth = t; place = k; boxes = boxes })
  loop_end q even = subst (λ (x : ℕ). UpIs x e₀ n₀ t₀ (record { entries = e; path = n; depth = t; place = k; boxes = boxes })) q (record {
    place_is = l.place;
    boxes_are = l.count;
    up = λ root p c. let w = l.way root p c in subst (Cell d e n t root)
        (sym (w.same ∙ none_last w.at (λ h. even (ap (λ (m : ℕ). m % 2) w.cell.path_is ∙ h)))) w.cell;
  })

  pub loop_small : k ≤ 8
  loop_small = omega (arith, l.place, split_range d t (rooted_some l.here.cell.rooted), held_few l.here.cell.held)

  module _ (odd : n % 2 ≡ 1) where
    pub loop_some : 0 < t
    loop_some = up_some l.here.cell odd

    pub loop_boxes : BoxesReady boxes k d
    loop_boxes = above_ready (rooted_some l.here.cell.rooted) loop_some l.place l.count

    module _ {j : ℕ} (j_is : j ≡ place_above k d) where
      j_at : j ≡ split_place d (t - 1)
      j_at = go_place {boxes = boxes} (rooted_some l.here.cell.rooted) loop_some l.place l.count j_is

      pub loop_turn : j - 1 < 4
      loop_turn = up_turn l.here.cell odd j j_at

      pub loop_more : {m : ℕ} {b : Four} → m ≡ boxes_above boxes k d → four b ≡ unturned (j - 1) (four e) → Loop d e₀ n₀ t₀ b (n / 2) (t - 1) j m
      loop_more {m} {b} v q = record {
        place = j_at;
        count = go_boxes (rooted_some l.here.cell.rooted) loop_some l.place l.count v;
        here = record { root = l.here.root; path = rest l.here.cell odd; cell = up_cell l.here.cell odd j j_at b q };
        way = λ root p c. let w = l.way root p c in record { at = rest w.cell odd; cell = up_cell w.cell odd j j_at b q; same = w.same ∙ up_stripped w.cell odd j j_at };
      }
