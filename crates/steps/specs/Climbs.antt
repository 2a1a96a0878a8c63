-- A path walked up with the entries by value, the deepest step first.
use Rattle.std.specs.Prelude.{◌≡◌, length, get_or, drop, set}
use Rattle.std.proofs.Math.Path.{refl, sym, ap}
use Rattle.std.proofs.Common.{◌∙◌, subst, arith, length-set, drop-cons, get_or-set_same}
use mathlib.Core.List.{List, [], ◌∷◌, ◌++◌, append_assoc}
use Prim.Native.Nat.{ℕ, suc, ◌+◌, ◌-◌, ◌≤◌, ◌<◌}
use Rattle.std.proofs.Math.ListN.{take}
use Rattle.std.proofs.Math.Seq.{take-take, drop-set-lt}
use Rattle.dimension.specs.Sizes.{code_length, split_place, box_depth}
use Rattle.dimension.specs.Laws.{Dimension, split_range}
use Rattle.bisection.specs.Codes.{axis, Name}
use Rattle.bisection.specs.Theorems.Passing.{Passes, fewer, last_step, parent_name}
use Rattle.bisection.proofs.Theorems.Passing.{parent_passes}
use Rattle.bisection.specs.Theorems.Paths.{path_to, root_to}
use Rattle.bisection.proofs.Theorems.Paths.{path_suc}
use Rattle.entries.specs.Walks.{own_byte}
use Rattle.fours.specs.Fours.{BackIs}
use Rattle.steps.specs.Relatives.{box_grows, length_mono}
use Rattle.steps.specs.Parents.{told_ready, told_step, told_size, told_entries}
use Rattle.steps.specs.Above.{BoxesReady, boxes_above, place_above, above_ready, go_boxes, go_place, own_by, boxes_room}

-- the name at depth t: the first d of the entries, orthants from the code
unfoldable pub name_above : ℕ → ℕ → List ℕ → List ℕ → Name
name_above d t code root = record { entries = take d root; orthants = take (box_depth d t) (drop (2 + d) code) }

pub record ClimbReady (d D : ℕ) (code root path : List ℕ) : Type 0 where
  pub range : Dimension d
  pub size : code_length d D ≤ length code
  pub axes : d ≤ length root
  pub depth : D ≤ length path
  pub passes : Passes d D (name_above d D code root)

-- at depth t on the way up from depth D: the rest of the way gives the same root, and the same path with the steps
-- already written; what is past the path is as it was
pub record Climbed (d D : ℕ) (code : List ℕ) (t : ℕ) (root path root' path' : List ℕ) : Type 0 where
  pub root_size : length root' ≡ length root
  pub path_size : length path' ≡ length path
  pub passes : Passes d t (name_above d t code root')
  pub the_root : root_to d t (name_above d t code root') ≡ root_to d D (name_above d D code root)
  pub the_path : path_to d t (name_above d t code root') ++ take (D - t) (drop t path') ≡ path_to d D (name_above d D code root)
  pub path_rest : drop D path' ≡ drop D path

climb_none : {d D : ℕ} {code root path : List ℕ} → ClimbReady d D code root path → Climbed d D code D root path root path
climb_none {d} {D} {code} {root} k = record {
  root_size = refl;
  path_size = refl;
  passes = k.passes;
  the_root = refl;
  the_path = rw less (append_nil (path_to d D (name_above d D code root)));
  path_rest = refl;
}
  where
    less : D - D ≡ 0
    less = omega arith

    append_nil : (l : List ℕ) → l ++ [] ≡ l
    append_nil [] = refl
    append_nil (x ∷ l) = ap (λ (r : List ℕ). x ∷ r) (append_nil l)

-- a step written before those that stand
pub path_on : (D t b : ℕ) (path : List ℕ) → t < D → t < length path → take (D - t) (drop t (set path t b)) ≡ b ∷ take (D - suc t) (drop (suc t) path)
path_on D t b path h l = rw (drop-cons (set path t b) t 0 (rw (length-set path t b) l), get_or-set_same path t b 0 l, drop-set-lt (suc t) path t b (omega arith), less) refl
  where
    less : D - t ≡ suc (D - suc t)
    less = omega arith

-- one step up
module _ {d D : ℕ} {code root path : List ℕ} (k : ClimbReady d D code root path) {t : ℕ} {root' path' : List ℕ} (c : Climbed d D code (suc t) root path root' path') (deep : suc t ≤ D)
    {n : ℕ} (e : n ≡ split_place d t - 1) where
  d0 : 0 < d
  d0 = omega (arith, k.range.two)

  m : Name
  m = name_above d (suc t) code root'

  long : d ≤ length root'
  long = omega (arith, k.axes, c.root_size)

  first : take d root' ≡ m.entries
  unfolding m name_above
  first = refl

  passes : Passes d (suc t) m
  unfolding m
  passes = c.passes

  climb_ready : (n < length root') × (1 ≤ axis (get_or root' n 0)) × (axis (get_or root' n 0) ≤ 8)
  climb_ready = told_ready d0 k.range.few m passes root' first long e

  module _ {own b : ℕ} {r : List ℕ} (o : own ≡ own_byte (take (box_depth d t) (drop (2 + d) code))) (s : BackIs n own root' b r) where
    fewer_is : fewer d t m.orthants ≡ take (box_depth d t) (drop (2 + d) code)
    unfolding fewer m name_above
    fewer_is = take-take (box_depth d t) (box_depth d (suc t)) (drop (2 + d) code) (box_grows d t d0)

    own_is : own ≡ own_byte (fewer d t m.orthants)
    own_is = rw fewer_is o

    step_is : b ≡ last_step d t m
    step_is = told_step d0 k.range.few m passes root' first long e own_is s

    name_is : name_above d t code r ≡ parent_name d t m
    unfolding name_above
    name_is = λ i. record { entries = told_entries d0 k.range.few m passes root' first long e own_is s i; orthants = second i }
      where
        second : take (box_depth d t) (drop (2 + d) code) ≡ (parent_name d t m).orthants
        second = unfold parent_name in sym fewer_is

    climb_next : Climbed d D code t root path r (set path' t b)
    climb_next = record {
      root_size = told_size d0 k.range.few m passes root' first long e own_is s ∙ c.root_size;
      path_size = length-set path' t b ∙ c.path_size;
      passes = rw name_is (parent_passes d t d0 (omega (arith, k.range.few)) m passes);
      the_root = unfold root_to in (ap (root_to d t) name_is ∙ unfold m in c.the_root);
      the_path = rw (name_is, path_on D t b path' deep (omega (arith, c.path_size, k.depth))) (sym (append_assoc (path_to d t (parent_name d t m)) (b ∷ []) (take (D - suc t) (drop (suc t) path')))
          ∙ ap (λ (l : List ℕ). l ++ take (D - suc t) (drop (suc t) path')) (ap (λ (x : ℕ). path_to d t (parent_name d t m) ++ x ∷ []) step_is ∙ sym (path_suc d t m)) ∙ unfold m in c.the_path);
      path_rest = drop-set-lt D path' t b (omega arith) ∙ c.path_rest;
    }

-- a loop on the way up, with the split place and the boxes of its depth
pub record Rising (d D : ℕ) (code root path : List ℕ) (t k boxes : ℕ) (root' path' : List ℕ) : Type 0 where
  pub ready : ClimbReady d D code root path
  pub deep : t ≤ D
  pub place : k ≡ split_place d t
  pub count : boxes ≡ box_depth d t
  pub climbed : Climbed d D code t root path root' path'

pub rise_none : {d D k boxes : ℕ} {code root path : List ℕ} → ClimbReady d D code root path → k ≡ split_place d D → boxes ≡ box_depth d D → Rising d D code root path D k boxes root path
rise_none r e f = record { ready = r; deep = omega arith; place = e; count = f; climbed = climb_none r }

-- what its calls ask, and the next turn
module _ {d D : ℕ} {code root path : List ℕ} {t k boxes : ℕ} {root' path' : List ℕ} (i : Rising d D code root path t k boxes root' path') (pos : 0 < t) where
  some : 0 < d
  some = omega (arith, i.ready.range.two)

  under : Climbed d D code (suc (t - 1)) root path root' path'
  under = subst (λ (j : ℕ). Climbed d D code j root path root' path') more i.climbed
    where
      more : t ≡ suc (t - 1)
      more = omega arith

  pub rise_boxes : BoxesReady boxes k d
  rise_boxes = above_ready some pos i.place i.count

  pub rise_place : k ≤ 8
  rise_place = omega (arith, i.place, split_range d t some, i.ready.range.few)

  pub rise_write : t - 1 < length path'
  rise_write = omega (arith, i.deep, i.ready.depth, i.climbed.path_size)

  pub rise_room : {q : ℕ} → q ≡ boxes_above boxes k d → 2 + d + q ≤ length code
  rise_room u = omega (arith, boxes_room d (t - 1) code (omega (arith, i.ready.size, length_mono d some (t - 1) D (omega (arith, i.deep)))), go_boxes some pos i.place i.count u)

  module _ {j : ℕ} (v : j ≡ place_above k d) where
    above : j ≡ split_place d (t - 1)
    above = go_place some pos i.place i.count v

    pub rise_some : 1 ≤ j
    rise_some = omega (arith, above, split_range d (t - 1) some)

    pub rise_ready : (j - 1 < length root') × (1 ≤ axis (get_or root' (j - 1) 0)) × (axis (get_or root' (j - 1) 0) ≤ 8)
    rise_ready = climb_ready i.ready under (omega (arith, i.deep)) (ap (λ (x : ℕ). x - 1) above)

    pub rise_next : {q own b : ℕ} {r : List ℕ} → q ≡ boxes_above boxes k d → own ≡ own_byte (take q (drop (2 + d) code)) → BackIs (j - 1) own root' b r
        → Rising d D code root path (t - 1) j q r (set path' (t - 1) b)
    rise_next {q} u o s = record {
      ready = i.ready;
      deep = omega (arith, i.deep);
      place = above;
      count = boxed;
      climbed = climb_next i.ready under (omega (arith, i.deep)) (ap (λ (x : ℕ). x - 1) above) (own_by code d q (box_depth d (t - 1)) boxed o) s;
    }
      where
        boxed : q ≡ box_depth d (t - 1)
        boxed = go_boxes some pos i.place i.count u

pub rise_done : {d D t k boxes : ℕ} {code root path root' path' : List ℕ} → Rising d D code root path t k boxes root' path' → t ≤ 0 → Climbed d D code 0 root path root' path'
rise_done {d} {D} {t} {code = code} {root = root} {path = path} {root' = root'} {path' = path'} i z = subst (λ (x : ℕ). Climbed d D code x root path root' path') none i.climbed
  where
    none : t ≡ 0
    none = omega arith
