-- The root and the path of a code that passes, as they are written: the way up from its entries.
use Rattle.std.specs.Prelude.{◌≡◌, List, ◌++◌, ℕ, ◌+◌, ◌-◌, ◌≤◌, length}
use Rattle.std.proofs.Math.Path.{refl, ap}
use Rattle.std.proofs.Common.{sym, ◌∙◌, arith, zero-add, length-drop, take-append-drop}
use Rattle.std.proofs.Math.ListN.{take, drop}
use Rattle.std.proofs.Math.Seq.{paste, take_all}
use Rattle.dimension.specs.Sizes.{code_length, split_place, box_depth}
use Rattle.bisection.specs.Codes.{dimension_of, depth_of, orthants_of, parts_of}
use Rattle.bisection.specs.Refusals.{done, code_refusal}
use Rattle.bisection.specs.Theorems.Paths.{path_to, root_to}
use Rattle.bisection.specs.Theorems.CodePaths.{root_of, path_of}
use Rattle.entries.specs.Passed.{checked}
use Rattle.fours.specs.declared.Four.{Four}
use Rattle.fours.specs.Fours.{four, no_entries}
use Rattle.fours.specs.Laws.{held_front}
use Rattle.steps.specs.Relatives.{code_passes, code_size, code_axes, code_held}
use Rattle.steps.specs.Climbs.{name_above, ClimbReady, Climbed, Rising, rise_none, rise_done}

-- what they are written from, and what stands in the buffers then
pub record PathReady (code : List ℕ) (d D : ℕ) (root path : List ℕ) : Type 0 where
  pub passes : code_refusal code ≡ done
  pub axes : d ≡ dimension_of code
  pub depth : D ≡ depth_of code
  pub root_room : d ≤ length root
  pub path_room : D ≤ length path

pub record PathStands (code : List ℕ) (d D : ℕ) (root path root' path' : List ℕ) : Type 0 where
  pub root_written : root' ≡ root_of code ++ drop d root
  pub path_written : path' ≡ path_of code ++ drop D path

-- as a code that passes is read: the bytes that are lent, the dimension and the depth
pub path_from : {code bytes root path : List ℕ} {d D : ℕ} → bytes ≡ code → code_refusal code ≡ done → d ≡ dimension_of code → D ≡ depth_of code
    → (dimension_of code ≤ length root) × (depth_of code ≤ length path) → PathReady bytes d D root path
path_from b p ax dp room = rw (b, ax, dp) (record { passes = p; axes = refl; depth = refl; root_room = room.0; path_room = room.1 })

-- the way up from the entries of a code that passes
module _ (code : List ℕ) {d D : ℕ} (p : code_refusal code ≡ done) (ax : d ≡ dimension_of code) (dp : D ≡ depth_of code) {from : Four} (f : four from ≡ paste no_entries 0 (drop 2 code) d) where
  range : (2 ≤ d) × (d ≤ 4) × (2 + d ≤ length code)
  range = code_axes code p ax dp refl

  name_is : name_above d D code (four from) ≡ parts_of code
  unfolding name_above parts_of orthants_of
  name_is = λ i. record { entries = held_front (code_held code p ax dp refl f) i; orthants = second i }
    where
      second : take (box_depth d D) (drop (2 + d) code) ≡ drop (2 + dimension_of code) code
      second = take_all (box_depth d D) (drop (2 + d) code) (rw (length-drop (2 + d) code) (unfold code_length in omega (arith, code_size code p ax dp)))
          ∙ ap (λ (n : ℕ). drop (2 + n) code) ax

  pub up_ready : (path : List ℕ) → D ≤ length path → ClimbReady d D code (four from) path
  up_ready path room = record {
    range = rw ax (checked code p).range;
    size = omega (arith, code_size code p ax dp);
    axes = range.1;
    depth = room;
    passes = rw name_is (code_passes code p ax dp);
  }

  module _ {path root' path' : List ℕ} (w : Climbed d D code 0 (four from) path root' path') where
    pub up_root : take d root' ≡ root_of code
    unfolding root_to name_above root_of
    up_root = w.the_root ∙ rw (name_is, ax, dp) refl

    pub up_path : path' ≡ path_of code ++ drop D path
    up_path = sym (take-append-drop D path') ∙ rw (second, w.path_rest) refl
      where
        whole : D - 0 ≡ D
        whole = omega arith

        second : take D path' ≡ path_of code
        second = ap (λ (n : ℕ). take n path') (sym whole) ∙ unfold path_to name_above path_of in (w.the_path ∙ rw (name_is, ax, dp) refl)

-- as it is written: n is the number of axes as the code has it
module _ {code : List ℕ} {d D : ℕ} {root path : List ℕ} (r : PathReady code d D root path) {n : ℕ} (e : n ≡ d) where
  pub path_entries : (2 ≤ n) × (n ≤ 4) × (2 + n ≤ length code)
  path_entries = code_axes code r.passes r.axes r.depth e

  pub path_room : (2 ≤ n) × (n ≤ 4) × (0 + n ≤ length root)
  path_room = (path_entries.0, path_entries.1, omega (arith, r.root_room))

  module _ {from : Four} (f : four from ≡ paste no_entries 0 (drop 2 code) n) where
    pub path_rises : {k boxes : ℕ} → k ≡ split_place d D → boxes ≡ box_depth d D → Rising n D code (four from) path D k boxes (four from) path
    path_rises g h = rise_none (up_ready code r.passes (e ∙ r.axes) r.depth f path r.path_room) (rw e g) (rw e h)

    pub path_stands : {t k boxes : ℕ} {root' path' es out : List ℕ} → Rising n D code (four from) path t k boxes root' path' → t ≤ 0 → es ≡ root' → out ≡ paste root 0 es n → PathStands code d D root path out path'
    path_stands i z j w = record {
      root_written = w ∙ ap (λ (es : List ℕ). paste root 0 es n) j ∙ rw (zero-add n, up_root code r.passes (e ∙ r.axes) r.depth f (rise_done i z), e) refl;
      path_written = up_path code r.passes (e ∙ r.axes) r.depth f (rise_done i z);
    }
