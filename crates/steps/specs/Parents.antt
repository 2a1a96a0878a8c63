-- The step that a name's entries tell, taken back by value; and the parent as the code writes it: the front of the code with the
-- entries one step up.
use Rattle.std.specs.Prelude.{◌≡◌, get_or, take, drop, set}
use Rattle.std.proofs.Math.Path.{refl, ap}
use Rattle.std.proofs.Common.{sym, ◌∙◌, arith, take-append-drop, get_or-take}
use mathlib.Core.List.{List, ◌∷◌, ◌++◌, append_assoc}
use Prim.Native.Nat.{ℕ, zero, suc, ◌+◌, ◌-◌, ◌*◌, ◌≤◌, ◌<◌}
use Rattle.std.proofs.Math.ListN.{length}
use Rattle.std.proofs.Math.Seq.{paste, take_at, take-append-add}
use Rattle.dimension.specs.Sizes.{code_length, longest_of_all, split_place, box_depth}
use Rattle.dimension.specs.Laws.{split_range, split_is}
use Rattle.bisection.specs.Codes.{axis, Name, bytes, depth_of, orthants_of, parts_of}
use Rattle.bisection.specs.Refusals.{own_minus}
use Rattle.bisection.proofs.Theorems.Entries.{unturned_append, unturned_length}
use Rattle.bisection.specs.Theorems.Passing.{Passes, fewer, last_step, unstepped, parent_name}
use Rattle.bisection.specs.Theorems.CodePaths.{parent_code}
use Rattle.entries.specs.Walks.{own_byte}
use Rattle.entries.specs.Passed.{code_few, checked}
use Rattle.fours.specs.declared.Four.{Four}
use Rattle.fours.specs.Fours.{four, no_entries, Holds, BackIs}
use Rattle.fours.specs.Laws.{held_front}
use Rattle.steps.specs.Steps.{entries_over}
use Rattle.steps.specs.Relatives.{ParentReady, length_grows, code_passes, code_size, code_is, code_axes, code_held}

-- a turn back of the first entries goes no further
pub unstepped_append : (b n : ℕ) (es rest : List ℕ) → n < length es → unstepped b n (es ++ rest) ≡ unstepped b n es ++ rest
unfolding unstepped
unstepped_append zero n es rest h = refl
unstepped_append (suc b) n es rest h = unturned_append n es rest h

unstepped_length : (b n : ℕ) (es : List ℕ) → n < length es → length (unstepped b n es) ≡ length es
unfolding unstepped
unstepped_length zero n es h = refl
unstepped_length (suc b) n es h = unturned_length n es h

-- the first d of the entries are those of a name that passes one step below depth t
module _ {d t : ℕ} (d0 : 0 < d) (few : d ≤ 4) (m : Name) (p : Passes d (suc t) m) (es : List ℕ) (first : take d es ≡ m.entries) (long : d ≤ length es) {n : ℕ} (e : n ≡ split_place d t - 1) where
  inside : n < d
  inside = omega (arith, split_range d t d0)

  at : get_or es n 0 ≡ get_or m.entries (split_place d t - 1) 0
  at = sym (get_or-take d es n 0 inside) ∙ rw (first, e) refl

  pub told_ready : (n < length es) × (1 ≤ axis (get_or es n 0)) × (axis (get_or es n 0) ≤ 8)
  told_ready = (omega (arith, inside), rw at (p.signed.low (split_place d t - 1) (omega (arith, inside))), rw at (omega (arith, p.signed.high (split_place d t - 1) (omega (arith, inside)))))

  module _ {own b : ℕ} {r : List ℕ} (o : own ≡ own_byte (fewer d t m.orthants)) (s : BackIs n own es b r) where
    pub told_step : b ≡ last_step d t m
    unfolding last_step own_minus
    told_step = s.step ∙ rw (at, o) refl

    pub told_size : length r ≡ length es
    told_size = ap length s.entries ∙ unstepped_length b n es (omega (arith, inside))

    pub told_entries : take d r ≡ (parent_name d t m).entries
    unfolding parent_name
    told_entries = ap (take d) (s.entries ∙ ap (unstepped b n) (sym (take-append-drop d es)) ∙ unstepped_append b n (take d es) (drop d es) size)
        ∙ take_at (unstepped b n (take d es)) (drop d es) d (unstepped_length b n (take d es) size ∙ front)
        ∙ rw (first, told_step, e) refl
      where
        front : length (take d es) ≡ d
        front = ap length first ∙ p.signed.size

        size : n < length (take d es)
        size = omega (arith, front, inside)

-- the parent, written over a copy of the front
module _ {code out : List ℕ} {d D : ℕ} (r : ParentReady code d D out) where
  m : Name
  m = parts_of code

  range : (2 ≤ d) × (d ≤ 4) × (2 + d ≤ length code)
  range = code_axes code r.passes r.axes r.depth refl

  passes : Passes d (suc D) m
  unfolding m
  passes = code_passes code r.passes r.axes r.depth

  whole : code_length d D ≤ length code
  whole = omega (arith, code_size code r.passes r.axes r.depth, length_grows d D (omega (arith, range)))

  pub parent_byte : 1 ≤ get_or code 1 0
  unfolding depth_of
  parent_byte = omega (arith, r.depth)

  -- the number of axes and the boxes, as the code has them
  module _ {n q : ℕ} (e : n ≡ d) (f : q ≡ box_depth d D) where
    counted : 2 + n + q ≡ code_length d D
    unfolding code_length
    counted = rw (e, f) refl

    pub parent_own : 2 + n + q ≤ length code
    parent_own = omega (arith, counted, whole)

    pub parent_front : (4 ≤ 2 + n + q) × (2 + n + q ≤ longest_of_all) × (2 + n + q ≤ length code) × (2 + n + q ≤ length out)
    parent_front = (omega (arith, range), omega (arith, counted, whole, code_few (checked code r.passes)), parent_own, omega (arith, counted, r.room))

    pub parent_entries : (2 ≤ n) × (n ≤ 4) × (2 + n ≤ length code)
    parent_entries = code_axes code r.passes r.axes r.depth e

    pub parent_over : {x : ℕ} → x ≡ length out → (2 ≤ n) × (n ≤ 4) × (2 + n ≤ x)
    parent_over h = (omega (arith, range), omega (arith, range), omega (arith, counted, r.room))

    pub parent_some : 1 ≤ n - (D - n * q)
    parent_some = rw (split_is d D n q e f) (split_range d D (omega (arith, range))).0

    module _ {from : Four} (h : four from ≡ paste no_entries 0 (drop 2 code) n) where
      held : Holds d from m.entries
      unfolding m
      held = code_held code r.passes r.axes r.depth e h

      place : n - (D - n * q) - 1 ≡ split_place d D - 1
      place = ap (λ (k : ℕ). k - 1) (split_is d D n q e f)

      pub parent_ready : (n - (D - n * q) - 1 < 4) × (1 ≤ axis (get_or (four from) (n - (D - n * q) - 1) 0)) × (axis (get_or (four from) (n - (D - n * q) - 1) 0) ≤ 8)
      parent_ready = told_ready (omega (arith, range)) range.1 m passes (four from) (held_front held) range.1 place

      cut : take (code_length d D) code ≡ d ∷ suc D ∷ (m.entries ++ fewer d D m.orthants)
      unfolding code_length fewer m
      cut = ap (take (2 + d + box_depth d D)) (code_is code r.passes r.axes r.depth)
          ∙ rw there (ap (λ (l : List ℕ). d ∷ suc D ∷ l) (take-append-add (parts_of code).entries (parts_of code).orthants (box_depth d D)))
        where
          there : 2 + d + box_depth d D ≡ suc (suc (length (parts_of code).entries + box_depth d D))
          there = omega (arith, (code_passes code r.passes r.axes r.depth).signed.size)

      pub parent_written : {own b v : ℕ} {back : Four} {c a es : List ℕ} → own ≡ own_byte (take q (drop (2 + n) code)) → BackIs (n - (D - n * q) - 1) own (four from) b (four back)
          → c ≡ take (2 + n + q) code ++ drop (2 + n + q) out → v ≡ get_or code 1 0 - 1 → es ≡ four back → a ≡ paste (set c 1 v) 2 es n → a ≡ parent_code code ++ drop (code_length d D) out
      parent_written {own} {b} {v} {back} {c} {a} o s g w j i = i ∙ ap (λ (es : List ℕ). paste (set c 1 v) 2 es n) j
          ∙ rw (copied, e) (entries_over d d D m.entries (four back) (parent_name d D m).entries (fewer d D m.orthants ++ rest) passes.signed.size up)
          ∙ sym (append_assoc (d ∷ D ∷ (parent_name d D m).entries) (fewer d D m.orthants) rest) ∙ named
        where
          rest : List ℕ
          rest = drop (code_length d D) out

          byte : v ≡ D
          byte = unfold depth_of in omega (arith, r.depth)

          front : take (2 + n + q) code ++ drop (2 + n + q) out ≡ (d ∷ suc D ∷ (m.entries ++ fewer d D m.orthants)) ++ rest
          front = rw (counted, cut) refl

          copied : set c 1 v ≡ d ∷ D ∷ (m.entries ++ (fewer d D m.orthants ++ rest))
          copied = ap (λ (l : List ℕ). set l 1 v) (g ∙ front) ∙ rw byte (ap (λ (l : List ℕ). d ∷ D ∷ l) (append_assoc m.entries (fewer d D m.orthants) rest))

          box : own ≡ own_byte (fewer d D m.orthants)
          box = o ∙ unfold fewer m parts_of orthants_of in rw (f, e, r.axes) refl

          up : take d (four back) ≡ (parent_name d D m).entries
          up = told_entries (omega (arith, range)) range.1 m passes (four from) (held_front held) range.1 place box s

          less : D ≡ depth_of code - 1
          less = omega (arith, r.depth)

          named : ((d ∷ D ∷ (parent_name d D m).entries) ++ fewer d D m.orthants) ++ rest ≡ parent_code code ++ rest
          named = unfold parent_code bytes parent_name m in rw (← r.axes, ← less) refl
