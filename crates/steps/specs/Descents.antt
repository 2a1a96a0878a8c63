-- A path walked down with the entries by value, step by step, and the code of a root and a path as it is written: two bytes, an
-- orthant at each new box, then the entries.
use Rattle.std.specs.Prelude.{◌≡◌, cond, List, [], ◌∷◌, ◌++◌, eqb, get_or, take, drop, set}
use Rattle.std.proofs.Math.Path.{refl, ap, subst}
use Rattle.std.proofs.Common.{sym, ◌∙◌, append_assoc, arith, zero-add, add-one, length-set, take-append-drop, take-suc}
use Prim.Native.Nat.{ℕ, suc, ◌+◌, ◌-◌, ◌%◌, ◌≤◌, ◌<◌}
use Rattle.std.proofs.Math.ListN.{length, length-take, length-drop, length-append}
use Rattle.std.proofs.Math.Seq.{paste, take_all, drop-set-lt}
use Rattle.dimension.specs.Sizes.{greatest_depth, code_length, split_place, box_depth}
use Rattle.dimension.specs.Laws.{Dimension, dimension, at_root, depth_small, split_range, split_after}
use Rattle.bisection.specs.Roots.{GoodRoot}
use Rattle.bisection.specs.Codes.{stepped, Name, step, root_name, name_below, name_of, bytes, code_of}
use Rattle.bisection.specs.Theorems.Passing.{Passes}
use Rattle.bisection.proofs.Theorems.Paths.{below_passes, below_snoc, root_passes}
use Rattle.fours.specs.declared.Four.{Four}
use Rattle.fours.specs.Fours.{four, no_entries, Holds}
use Rattle.fours.specs.Laws.{pasted, held_front, held_stepped}
use Rattle.steps.specs.Steps.{RoomForBox, BoxPut, box_room, box_next, box_on, entries_over}
use Rattle.steps.specs.Relatives.{length_mono}

-- what the code is written from
pub record CodeReady (d : ℕ) (root path code : List ℕ) : Type 0 where
  pub axes : d ≡ length root
  pub good_root : GoodRoot root
  pub depth : length path ≤ greatest_depth d
  pub room : code_length d (length path) ≤ length code

-- the name after the first t steps
unfoldable pub name_at : (d : ℕ) (root path : List ℕ) (t : ℕ) → Name
name_at d root path t = name_below d 0 (root_name root) (take t path)

-- a loop on the way down, with the split place of its depth and the place of the next orthant
pub record Falling (d : ℕ) (root path code : List ℕ) (t k at : ℕ) (e : Four) (code' : List ℕ) : Type 0 where
  pub ready : CodeReady d root path code
  pub deep : t ≤ length path
  pub place : k ≡ split_place d t
  pub next : at ≡ code_length d t
  pub held : Holds d e (name_at d root path t).entries
  pub written : code' ≡ (take (2 + d) code ++ (name_at d root path t).orthants) ++ drop (code_length d t) code

module _ {d : ℕ} {root path code : List ℕ} (k : CodeReady d root path code) where
  range : Dimension d
  range = rw k.axes (dimension (length root) k.good_root.dimension)

  some : 0 < d
  some = omega (arith, range.two)

  small : d < 128
  small = omega (arith, range.few)

  rooted : Passes d 0 (root_name root)
  rooted = rw k.axes (root_passes root (omega (arith, some, k.axes)) (omega (arith, small, k.axes)) k.good_root.permutation)

  name_passes : (t : ℕ) → t ≤ length path → Passes d t (name_at d root path t)
  unfolding name_at
  name_passes t h = subst (λ (j : ℕ). Passes d j (name_below d 0 (root_name root) (take t path))) (zero-add (length (take t path)) ∙ walked)
      (below_passes d some small (take t path) 0 (root_name root) rooted)
    where
      walked : length (take t path) ≡ t
      walked = simp length-take (omega arith)

  name_next : (t : ℕ) → t < length path → name_at d root path (suc t) ≡ step d t (get_or path t 0) (name_at d root path t)
  unfolding name_at
  name_next t h = ap (name_below d 0 (root_name root)) (take-suc path t 0 h) ∙ below_snoc d some small (take t path) 0 (root_name root) (get_or path t 0)
      ∙ ap (λ (j : ℕ). step d j (get_or path t 0) (name_below d 0 (root_name root) (take t path))) (zero-add (length (take t path)) ∙ walked)
    where
      walked : length (take t path) ≡ t
      walked = simp length-take (omega arith)

  pub code_byte : d % 256 ≡ d
  code_byte = omega (arith, range.few)

  pub code_depth : length path % 256 ≡ length path
  code_depth = omega (arith, k.depth, depth_small d range)

  pub code_two : 2 + d ≤ length code
  unfolding code_length
  code_two = omega (arith, k.room)

  -- the same with the two bytes in place, for the number of axes as the code has it
  module _ {n : ℕ} (e : n ≡ d) where
    pub code_entries : (2 ≤ n) × (n ≤ 4) × (0 + n ≤ length root)
    code_entries = (omega (arith, range.two), omega (arith, range.few), omega (arith, k.axes))

    pub code_headed : CodeReady n root path (set (set code 0 (n % 256)) 1 (length path % 256))
    code_headed = record { axes = e ∙ k.axes; good_root = k.good_root; depth = rw e k.depth; room = simp length-set (rw e k.room) }

pub fall_none : {d : ℕ} {root path code : List ℕ} {from : Four} → CodeReady d root path code → four from ≡ paste no_entries 0 (drop 0 root) d → Falling d root path code 0 d (2 + d) from code
unfolding name_at name_below code_length
fall_none {d} {root} {path} {code} k f = record {
  ready = k;
  deep = omega arith;
  place = sym (at_root d (some k)).1;
  next = omega (arith, (at_root d (some k)).0);
  held = record { signed = (rooted k).signed; is = f ∙ pasted root d ∙ ap (λ (l : List ℕ). l ++ drop d no_entries) (take_all d root (omega (arith, k.axes))) };
  written = sym (ap (λ (l : List ℕ). l ++ drop (2 + d + box_depth d 0) code) (append_nil (take (2 + d) code)) ∙ rw ((at_root d (some k)).0, none) (take-append-drop (2 + d) code));
}
  where
    none : 2 + d + 0 ≡ 2 + d
    none = omega arith

    append_nil : (l : List ℕ) → l ++ [] ≡ l
    append_nil [] = refl
    append_nil (x ∷ l) = ap (λ (r : List ℕ). x ∷ r) (append_nil l)

-- what its calls ask, and the next turn
module _ {d : ℕ} {root path code : List ℕ} {t k at : ℕ} {e : Four} {code' : List ℕ} (i : Falling d root path code t k at e code') where
  front_size : length (take (2 + d) code) ≡ 2 + d
  front_size = simp length-take (omega (arith, code_two i.ready))

  count : length (name_at d root path t).orthants ≡ box_depth d t
  count = (name_passes i.ready t i.deep).boxes.count

  pub fall_size : length code' ≡ length code
  unfolding code_length
  fall_size = ap length i.written ∙ length-append (take (2 + d) code ++ (name_at d root path t).orthants) (drop (2 + d + box_depth d t) code)
      ∙ rw (length-append (take (2 + d) code) (name_at d root path t).orthants, front_size, count, length-drop (2 + d + box_depth d t) code)
      (omega (arith, i.ready.room, length_mono d (some i.ready) t (length path) i.deep))

  module _ (h : t < length path) where
    fits : code_length d (suc t) ≤ length code
    fits = omega (arith, i.ready.room, length_mono d (some i.ready) (suc t) (length path) h)

    in_range : (1 ≤ k) × (k ≤ d)
    in_range = rw i.place (split_range d t (some i.ready))

    pub fall_some : 1 ≤ k
    fall_some = in_range.0

    pub fall_few : k - 1 < 4
    fall_few = omega (arith, in_range, (range i.ready).few)

    pub fall_room : RoomForBox k at code'
    fall_room = box_room d t (some i.ready) i.place i.next (omega (arith, fits, fall_size))

    pub fall_next : {next : Four} {at' k' : ℕ} {code'' : List ℕ} → four next ≡ stepped (get_or path t 0) (suc (k - 1)) (four e) → BoxPut next k at code' code'' at' → k' ≡ cond (eqb k 1) d (k - 1)
        → Falling d root path code (t + 1) k' at' next code''
    fall_next {next} {at'} {k'} {code''} s b q = rw (add-one t) (record {
      ready = i.ready;
      deep = h;
      place = q ∙ split_after d t k (some i.ready) i.place;
      next = box_next d t (some i.ready) i.place i.next b;
      held = rw (name_next i.ready t h) now;
      written = rw (name_next i.ready t h) (unfold step in
          box_on d t (some i.ready) i.place i.next b (take (2 + d) code) (name_at d root path t).orthants code front_size count fits now i.written);
    })
      where
        back : suc (k - 1) ≡ k
        back = omega (arith, in_range)

        now : Holds d next (step d t (get_or path t 0) (name_at d root path t)).entries
        now = unfold step in subst (λ (j : ℕ). Holds d next (stepped (get_or path t 0) j (name_at d root path t).entries)) (back ∙ i.place)
            (held_stepped i.held next (k - 1) (omega (arith, in_range)) (get_or path t 0) s)

-- two bytes at the front
set_two : (l : List ℕ) (x y : ℕ) → 2 ≤ length l → set (set l 0 x) 1 y ≡ x ∷ y ∷ drop 2 l
set_two [] x y h = absurd (omega arith)
set_two (a ∷ []) x y h = absurd (omega arith)
set_two (a ∷ b ∷ l) x y h = refl

-- the code is written when the path is at its end and the entries stand in their places
module _ {d : ℕ} {root path code : List ℕ} (c : CodeReady d root path code) {n : ℕ} (q : n ≡ d) {t k at : ℕ} {e : Four} {code' : List ℕ}
    (i : Falling n root path (set (set code 0 (n % 256)) 1 (length path % 256)) t k at e code') (over : length path ≤ t) where
  pub code_over : (2 ≤ n) × (n ≤ 4) × (2 + n ≤ length code')
  code_over = (omega (arith, (range c).two), omega (arith, (range c).few), rw (fall_size i) (simp length-set (omega (arith, code_two c))))

  m : Name
  m = name_of root path

  end : t ≡ length path
  end = omega (arith, i.deep)

  name_is : name_at n root path t ≡ m
  unfolding name_at m name_of
  name_is = rw (end, q, c.axes, take_all (length path) path (omega arith)) refl

  head_is : set (set code 0 (n % 256)) 1 (length path % 256) ≡ d ∷ length path ∷ drop 2 code
  head_is = rw (q, code_byte c, code_depth c) (set_two code d (length path) (omega (arith, code_two c)))

  behind : drop (code_length d (length path)) (d ∷ length path ∷ drop 2 code) ≡ drop (code_length d (length path)) code
  behind = ap (drop (code_length d (length path))) (sym (set_two code d (length path) (omega (arith, code_two c))))
      ∙ drop-set-lt (code_length d (length path)) (set code 0 d) 1 (length path) (unfold code_length in omega arith)
      ∙ drop-set-lt (code_length d (length path)) code 0 d (unfold code_length in omega arith)

  front_is : take (2 + d) (d ∷ length path ∷ drop 2 code) ≡ d ∷ length path ∷ take d (drop 2 code)
  front_is = ap (λ (j : ℕ). take j (d ∷ length path ∷ drop 2 code)) two
    where
      two : 2 + d ≡ suc (suc d)
      two = omega arith

  stood : code' ≡ d ∷ length path ∷ (take d (drop 2 code) ++ (m.orthants ++ drop (code_length d (length path)) code))
  stood = i.written ∙ shape n t _ (name_at n root path t) q end head_is name_is
    where
      shape : (j s : ℕ) (h : List ℕ) (x : Name) → j ≡ d → s ≡ length path → h ≡ d ∷ length path ∷ drop 2 code → x ≡ m
          → (take (2 + j) h ++ x.orthants) ++ drop (code_length j s) h ≡ d ∷ length path ∷ (take d (drop 2 code) ++ (m.orthants ++ drop (code_length d (length path)) code))
      shape j s h x a b g f = rw (a, b, g, f, behind, front_is) (ap (λ (l : List ℕ). d ∷ length path ∷ l) (append_assoc (take d (drop 2 code)) m.orthants (drop (code_length d (length path)) code)))

  pub code_written : {out : List ℕ} → out ≡ paste code' 2 (four e) n → out ≡ code_of root path ++ drop (code_length d (length path)) code
  code_written w = w ∙ ap (λ (l : List ℕ). paste l 2 (four e) n) stood ∙ ap (paste (d ∷ length path ∷ (take d (drop 2 code) ++ (m.orthants ++ rest))) 2 (four e)) q
      ∙ entries_over d d (length path) (take d (drop 2 code)) (four e) m.entries (m.orthants ++ rest) size held_is
      ∙ sym (append_assoc (d ∷ length path ∷ m.entries) m.orthants rest) ∙ named
    where
      rest : List ℕ
      rest = drop (code_length d (length path)) code

      size : length (take d (drop 2 code)) ≡ d
      size = simp (length-take, length-drop) (omega (arith, code_two c))

      held_is : take d (four e) ≡ m.entries
      held_is = ap (λ (j : ℕ). take j (four e)) (sym q) ∙ held_front i.held ∙ ap (λ (x : Name). x.entries) name_is

      named : ((d ∷ length path ∷ m.entries) ++ m.orthants) ++ rest ≡ code_of root path ++ rest
      named = unfold code_of bytes m in rw c.axes refl
