-- Child and parent as the code writes them: what they are written from, and the child.
use Rattle.std.specs.Prelude.{◌≡◌, length, get_or, take}
use Rattle.std.proofs.Math.Path.{refl, ap, subst}
use Rattle.std.proofs.Common.{sym, ◌∙◌, ⊎_elim, arith, take_all}
use mathlib.Core.List.{List, ◌∷◌, ◌++◌, append_assoc}
use Prim.Native.Nat.{ℕ, zero, suc, ◌+◌, ◌-◌, ◌≤◌, ◌<◌}
use Rattle.std.proofs.Math.Decide.{dec_le}
use Rattle.std.proofs.Math.ListN.{drop, set}
use Rattle.std.proofs.Math.Seq.{paste}
use Rattle.dimension.specs.Sizes.{code_length, longest_of_all, split_place, box_depth}
use Rattle.dimension.specs.Laws.{depth_small, Within, Turned, deeper, split_range}
use Rattle.bisection.specs.Codes.{stepped, Name, step, bytes, dimension_of, depth_of, entries_of, parts_of}
use Rattle.bisection.specs.Refusals.{done, code_refusal}
use Rattle.bisection.specs.Theorems.CodePaths.{child_code}
use Rattle.bisection.specs.Theorems.Passing.{Passes}
use Rattle.entries.specs.Passed.{Checked, checked, code_few}
use Rattle.fours.specs.declared.Four.{Four}
use Rattle.fours.specs.Fours.{four, no_entries, Holds}
use Rattle.fours.specs.Laws.{pasted, held_front, held_stepped}
use Rattle.steps.specs.Steps.{RoomForBox, BoxPut, box_room, box_on, entries_over}

-- what the child is written from
pub record ChildReady (code : List ℕ) (d D : ℕ) (out : List ℕ) : Type 0 where
  pub passes : code_refusal code ≡ done
  pub axes : d ≡ dimension_of code
  pub depth : D ≡ depth_of code
  pub room : code_length d (suc D) ≤ length out

pub record ParentReady (code : List ℕ) (d D : ℕ) (out : List ℕ) : Type 0 where
  pub passes : code_refusal code ≡ done
  pub axes : d ≡ dimension_of code
  pub depth : suc D ≡ depth_of code
  pub room : code_length d D ≤ length out

-- as a code that passes is read: the bytes that are lent, the dimension and the depth
pub child_from : {code bytes out : List ℕ} {d D : ℕ} → bytes ≡ code → code_refusal code ≡ done → d ≡ dimension_of code → D ≡ depth_of code
    → code_length (dimension_of code) (suc (depth_of code)) ≤ length out → ChildReady bytes d D out
child_from b p ax dp room = rw (b, ax, dp) (record { passes = p; axes = refl; depth = refl; room = room })

pub parent_from : {code bytes out : List ℕ} {d D : ℕ} → bytes ≡ code → code_refusal code ≡ done → d ≡ dimension_of code → D ≡ depth_of code
    → (0 < depth_of code) × (code_length (dimension_of code) (depth_of code - 1) ≤ length out) → ParentReady bytes d (D - 1) out
parent_from b p ax dp room = rw (b, ax, dp) (record { passes = p; axes = refl; depth = omega (arith, room.0); room = room.1 })

pub box_grows : (d D : ℕ) → 0 < d → box_depth d D ≤ box_depth d (suc D)
box_grows d D d0 = ⊎_elim (λ (w : Within d D). omega (arith, w.box)) (λ (w : Turned d D). omega (arith, w.box)) (deeper d D d0)

pub length_grows : (d D : ℕ) → 0 < d → code_length d D ≤ code_length d (suc D)
unfolding code_length
length_grows d D d0 = omega (arith, box_grows d D d0)

pub length_mono : (d : ℕ) → 0 < d → (t u : ℕ) → t ≤ u → code_length d t ≤ code_length d u
length_mono d d0 t zero h = let e : t ≡ 0 = omega arith in rw e (omega arith)
length_mono d d0 t (suc u) h = go (dec_le t u) (length_mono d d0 t u)
  where
    go : Dec (t ≤ u) → (t ≤ u → code_length d t ≤ code_length d u) → code_length d t ≤ code_length d (suc u)
    go (yes q) ih = omega (arith, ih q, length_grows d u d0)
    go (no q) ih = let e : t ≡ suc u = omega arith in rw e (omega arith)

-- what is read off a code that passes, at the dimension and the depth that it has
module _ (code : List ℕ) {d D : ℕ} (p : code_refusal code ≡ done) (ax : d ≡ dimension_of code) (dp : D ≡ depth_of code) where
  k : Checked code
  k = checked code p

  pub code_passes : Passes d D (parts_of code)
  code_passes = rw (ax, dp) k.good.passes

  pub code_size : length code ≡ code_length d D
  code_size = rw (ax, dp) k.size

  pub code_is : code ≡ d ∷ D ∷ ((parts_of code).entries ++ (parts_of code).orthants)
  unfolding bytes
  code_is = k.good.is ∙ rw (ax, dp) refl

  -- n is the number of axes as the code has it
  pub code_axes : {n : ℕ} → n ≡ d → (2 ≤ n) × (n ≤ 4) × (2 + n ≤ length code)
  unfolding code_length
  code_axes e = (omega (arith, k.range.two), omega (arith, k.range.few), omega (arith, code_size))

  pub code_held : {n : ℕ} {from : Four} → n ≡ d → four from ≡ paste no_entries 0 (drop 2 code) n → Holds d from (parts_of code).entries
  unfolding parts_of entries_of
  code_held {n} e f = record { signed = code_passes.signed; is = f ∙ pasted (drop 2 code) n ∙ rw (e, ax) refl }

-- the child, written over a copy of the code
module _ {code out : List ℕ} {d D : ℕ} (r : ChildReady code d D out) where
  m : Name
  m = parts_of code

  range : (2 ≤ d) × (d ≤ 4) × (2 + d ≤ length code)
  range = code_axes code r.passes r.axes r.depth refl

  size : length code ≡ code_length d D
  size = code_size code r.passes r.axes r.depth

  grown : code_length d D ≤ code_length d (suc D)
  grown = length_grows d D (omega (arith, range))

  pub child_front : (4 ≤ length code) × (length code ≤ longest_of_all) × (length code ≤ length code) × (length code ≤ length out)
  child_front = (omega (arith, range), code_few (checked code r.passes), omega arith, omega (arith, size, r.room, grown))

  pub child_byte : get_or code 1 0 + 1 < 256
  unfolding depth_of
  child_byte = omega (arith, (checked code r.passes).good.depth, depth_small (dimension_of code) (checked code r.passes).range)

  pub child_entries : {n : ℕ} → n ≡ d → (2 ≤ n) × (n ≤ 4) × (2 + n ≤ length code)
  child_entries = code_axes code r.passes r.axes r.depth

  pub child_over : {n x : ℕ} → n ≡ d → x ≡ length out → (2 ≤ n) × (n ≤ 4) × (2 + n ≤ x)
  child_over e q = (omega (arith, range), omega (arith, range), omega (arith, range, size, r.room, grown))

  pub child_some : {j : ℕ} → j ≡ split_place d D → 1 ≤ j
  child_some p = rw p (split_range d D (omega (arith, range))).0

  -- the copy with one more depth
  copied : (v : ℕ) → v ≡ get_or code 1 0 + 1 → set (take (length code) code ++ drop (length code) out) 1 v ≡ d ∷ suc D ∷ (m.entries ++ (m.orthants ++ drop (code_length d D) out))
  unfolding m depth_of
  copied v e = ap (λ (l : List ℕ). set (l ++ drop (length code) out) 1 v) (take_all (length code) code (omega arith) ∙ code_is code r.passes r.axes r.depth)
      ∙ ap (λ (j : ℕ). d ∷ v ∷ (((parts_of code).entries ++ (parts_of code).orthants) ++ drop j out)) size
      ∙ ap (λ (j : ℕ). d ∷ j ∷ (((parts_of code).entries ++ (parts_of code).orthants) ++ drop (code_length d D) out)) (e ∙ omega (arith, r.depth))
      ∙ ap (λ (l : List ℕ). d ∷ suc D ∷ l) (append_assoc (parts_of code).entries (parts_of code).orthants (drop (code_length d D) out))

  module _ {n j : ℕ} {from : Four} (e : n ≡ d) (p : j ≡ split_place d D) (f : four from ≡ paste no_entries 0 (drop 2 code) n) where
    some : (1 ≤ j) × (j ≤ d)
    some = rw p (split_range d D (omega (arith, range)))

    held : Holds d from m.entries
    unfolding m
    held = code_held code r.passes r.axes r.depth e f

    pub child_few : j - 1 < 4
    child_few = omega (arith, some, range)

    pub child_box : (l : List ℕ) → length l ≡ length out → RoomForBox j (length code) l
    child_box l h = box_room d D (omega (arith, range)) p size (omega (arith, r.room))

    module _ (b : ℕ) {next : Four} (s : four next ≡ stepped b (suc (j - 1)) (four from)) where
      now : Holds d next (step d D b m).entries
      unfolding step
      now = subst (λ (i : ℕ). Holds d next (stepped b i m.entries)) (back ∙ p) (held_stepped held next (j - 1) (omega (arith, some)) b s)
        where
          back : suc (j - 1) ≡ j
          back = omega (arith, some)

      module _ {c l : List ℕ} {v : ℕ} (g : c ≡ take (length code) code ++ drop (length code) out) (q : v ≡ get_or code 1 0 + 1) (w : l ≡ paste (set c 1 v) 2 (four next) n) where
        over : l ≡ ((d ∷ suc D ∷ (step d D b m).entries) ++ m.orthants) ++ drop (code_length d D) out
        over = w ∙ rw (g, copied v q, e) (entries_over d d (suc D) m.entries (four next) (step d D b m).entries (m.orthants ++ drop (code_length d D) out) held.signed.size (held_front now))
            ∙ sym (append_assoc (d ∷ suc D ∷ (step d D b m).entries) m.orthants (drop (code_length d D) out))

        pub child_written : {a : List ℕ} {x : ℕ} → BoxPut next j (length code) l a x → a ≡ child_code b code ++ drop (code_length d (suc D)) out
        child_written {a} t = put ∙ named
          where
            front : length (d ∷ suc D ∷ (step d D b m).entries) ≡ 2 + d
            front = omega (arith, now.signed.size)

            count : length m.orthants ≡ box_depth d D
            count = unfold m in (code_passes code r.passes r.axes r.depth).boxes.count

            put : a ≡ ((d ∷ suc D ∷ (step d D b m).entries) ++ (step d D b m).orthants) ++ drop (code_length d (suc D)) out
            put = unfold step in box_on d D (omega (arith, range)) p size t (d ∷ suc D ∷ (step d D b m).entries) m.orthants out front count r.room now over

            named : ((d ∷ suc D ∷ (step d D b m).entries) ++ (step d D b m).orthants) ++ drop (code_length d (suc D)) out ≡ child_code b code ++ drop (code_length d (suc D)) out
            named = unfold child_code bytes m in rw (← r.axes, ← r.depth) refl
