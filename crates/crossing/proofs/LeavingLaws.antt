-- A crossing that leaves the box: facet d, and facet 0 at the start of a level. One entry changes its sign, the box
-- moves against an entry, and the new vertex stands where the old one did.
use Rattle.std.specs.Prelude.{◌≡◌, Bool, true, false, Err, not, cond, ◌≢◌, eqb, length, get_or, take}
use Rattle.std.proofs.Math.Path.{refl, sym, ap}
use Rattle.std.proofs.Common.{◌∙◌, subst}
use mathlib.Core.List.{List, ◌∷◌, ◌++◌, append_assoc}
use Prim.Native.Nat.{ℕ, suc, ◌+◌, ◌-◌, ◌≤◌, ◌<◌}
use native.Mathlib.Omega.{arith}
use Rattle.std.proofs.Math.Decide.{ℕ_discrete}
use Rattle.std.proofs.Math.ListN.{drop, set}
use Rattle.std.proofs.lemmas.List.{set-append_left}
use Rattle.std.proofs.Math.Seq.{take_at}
use borrow.Author.Tests.{eq-eqb, ne_eqb}
use Rattle.dimension.specs.Sizes.{code_length, longest_of_all, split_place}
use Rattle.bisection.specs.Codes.{axis, minus, negated, Name, bytes, dimension_of, depth_of, entries_of, orthants_of, parts_of}
use Rattle.bisection.specs.Refusals.{done, code_refusal}
use Rattle.bisection.proofs.Theorems.Entries.{axis_negated, minus_negated}
use Rattle.bisection.specs.Theorems.Table.{nearer, farther, move, move_of, new_at, new_place, next_own, negated_at, entries_by, orthants_by, blocked_by, blocked, across_name, runs_out, carried}
use Rattle.bisection.specs.Theorems.Neighbour.{is_blocked, table_code}
use Rattle.entries.specs.Walks.{entry_at}
use Rattle.entries.specs.Passed.{code_few, Checked, checked}
use Rattle.steps.specs.Copying.{whole_front}
use Rattle.moves.specs.Carrying.{Ends, Flips, ends_out, ends_stopped, flips_carried}
use Rattle.crossing.proofs.AnswerLaws.{cross_face, cross_short}
use Rattle.bisection.specs.declared.Refusal.TheVariants.{Face, Short}
use Rattle.crossing.specs.Forms.{crossed}
use Rattle.crossing.specs.Outcome.{Crosses}
use Rattle.crossing.specs.Landing.{Landed}
use Rattle.crossing.proofs.LandingLaws.{landed}
use Rattle.crossing.specs.Leaving.{Leaving}

-- the two rows
module _ (code : List ℕ) (p : code_refusal code ≡ done) where
  d : ℕ
  d = dimension_of code

  k : Checked code
  k = checked code p

  es : List ℕ
  es = entries_of code

  entry_of : (t : ℕ) → t < d → get_or code (2 + t) 0 ≡ get_or es t 0
  unfolding d es entries_of
  entry_of t h = entry_at code 2 (dimension_of code) t h

  entry_low : (t : ℕ) → t < d → 1 ≤ axis (get_or code (2 + t) 0)
  unfolding d es parts_of
  entry_low t h = rw (entry_of t h) (k.good.passes.signed.low t h)

  entry_high : (t : ℕ) → t < d → axis (get_or code (2 + t) 0) ≤ 8
  unfolding d es parts_of
  entry_high t h = rw (entry_of t h) (omega (arith, k.good.passes.signed.high t h, k.range.few))

  long : 2 + dimension_of code ≤ length code
  unfolding code_length
  long = omega (arith, k.size)

  some : 0 < dimension_of code
  some = omega (arith, k.range.two)

  pub leaving_near : (i e : ℕ) → i ≡ dimension_of code → e ≡ get_or code (2 + (dimension_of code - 1)) 0 → Leaving code (dimension_of code) (dimension_of code - 1) e i
  unfolding d es blocked across_name new_place move_of parts_of
  leaving_near i e q f = rw (f, entry_of (dimension_of code - 1) (omega (arith, some))) (record {
    passes = p;
    axes = refl;
    facet = omega arith;
    place = omega (arith, some);
    low = rw (← entry_of (dimension_of code - 1) (omega (arith, some))) (entry_low (dimension_of code - 1) (omega (arith, some)));
    high = rw (← entry_of (dimension_of code - 1) (omega (arith, some))) (entry_high (dimension_of code - 1) (omega (arith, some)));
    wall = rw row (unfold blocked_by in refl);
    entries = rw row (unfold entries_by in refl);
    orthants = rw row (unfold orthants_by in refl);
    new = rw row (unfold new_at in sym q);
  })
    where
      row : move (dimension_of code) (split_place (dimension_of code) (depth_of code)) i
          (next_own (split_place (dimension_of code) (depth_of code)) (record { entries = entries_of code; orthants = orthants_of code })) ≡ nearer
      row = unfold move in rw (eq-eqb i (dimension_of code) q) refl

  pub leaving_far : (i e : ℕ) → i ≡ 0 → split_place (dimension_of code) (depth_of code) ≡ dimension_of code → e ≡ negated (get_or code (2 + 0) 0) → Leaving code (dimension_of code) 0 e i
  unfolding d es blocked across_name new_place move_of parts_of
  leaving_far i e q s f = rw (f, entry_of 0 some) (record {
    passes = p;
    axes = refl;
    facet = omega arith;
    place = some;
    low = rw same (omega (arith, signed_low));
    high = rw same (omega (arith, signed_high, k.range.few));
    wall = rw (row, same, turns) (unfold blocked_by in refl);
    entries = rw row (unfold entries_by in refl);
    orthants = rw (row, same, turns) (unfold orthants_by in refl);
    new = rw row (unfold new_at in sym q);
  })
    where
      signed_low : 1 ≤ axis (get_or (entries_of code) 0 0)
      signed_low = k.good.passes.signed.low 0 some

      signed_high : axis (get_or (entries_of code) 0 0) ≤ dimension_of code
      signed_high = k.good.passes.signed.high 0 some

      small : axis (get_or (entries_of code) 0 0) < 128
      small = omega (arith, signed_high, k.range.few)

      same : axis (negated (get_or (entries_of code) 0 0)) ≡ axis (get_or (entries_of code) 0 0)
      same = axis_negated (get_or (entries_of code) 0 0) small

      turns : minus (negated (get_or (entries_of code) 0 0)) ≡ not (minus (get_or (entries_of code) 0 0))
      turns = minus_negated (get_or (entries_of code) 0 0) small

      row : move (dimension_of code) (split_place (dimension_of code) (depth_of code)) i
          (next_own (split_place (dimension_of code) (depth_of code)) (record { entries = entries_of code; orthants = orthants_of code })) ≡ farther
      row = unfold move in rw (ne_eqb i (dimension_of code) (omega (arith, some)), eq-eqb i 0 q, eq-eqb (split_place (dimension_of code) (depth_of code)) (dimension_of code) s) refl

-- the same as the code has the code's refusal, its dimension and the facet
module _ (code : List ℕ) {x n : ℕ} (e : x ≡ code_refusal code) (z : x ≡ done) (axes : n ≡ dimension_of code) where
  p : code_refusal code ≡ done
  p = sym e ∙ z

  pub facing_some : 1 ≤ n
  facing_some = omega (arith, some code p, axes)

  pub facing_whole : length code ≡ code_length n (depth_of code)
  facing_whole = rw axes (checked code p).size

  -- as the code has the facet, the split place and that the crossing leaves
  module _ {i j k t : ℕ} (f : j ≡ i) (split : k ≡ split_place n (depth_of code)) (l : t ≡ cond (eqb j 0) k j) (q : t ≡ n)
      {at : ℕ} (there : at ≡ cond (eqb j 0) 0 (n - 1)) where
    at_first : j ≡ 0 → at ≡ 0
    at_first z = there ∙ subst (λ (b : Bool). cond b 0 (n - 1) ≡ 0) (sym (eq-eqb j 0 z)) refl

    at_last : j ≢ 0 → at ≡ n - 1
    at_last z = there ∙ subst (λ (b : Bool). cond b 0 (n - 1) ≡ n - 1) (sym (ne_eqb j 0 z)) refl

    place : at < n
    place = go (ℕ_discrete j 0)
      where
        go : Dec (j ≡ 0) → at < n
        go (yes z) = omega (arith, at_first z, facing_some)
        go (no z) = omega (arith, at_last z, facing_some)

    pub facing_few : 2 + at ≤ 5
    facing_few = omega (arith, place, axes, (checked code p).range.few)

    pub facing_at : 2 + at < length code
    facing_at = omega (arith, place, long code p, axes)

    module _ {o : ℕ} (v : o ≡ get_or code (2 + at) 0) where
      pub leaving : {y b : ℕ} → y ≡ negated o → b ≡ cond (eqb j 0) y o → Leaving code n at b i
      leaving {y} {b} w u = go (ℕ_discrete j 0)
        where
          first : j ≡ 0 → b ≡ negated (get_or code (2 + 0) 0)
          first z = u ∙ subst (λ (c : Bool). cond c y o ≡ y) (sym (eq-eqb j 0 z)) refl ∙ w ∙ ap negated (v ∙ ap (λ (h : ℕ). get_or code (2 + h) 0) (at_first z))

          last : j ≢ 0 → b ≡ get_or code (2 + (dimension_of code - 1)) 0
          last z = u ∙ subst (λ (c : Bool). cond c y o ≡ o) (sym (ne_eqb j 0 z)) refl ∙ v ∙ ap (λ (h : ℕ). get_or code (2 + h) 0) (at_last z ∙ ap (λ (h : ℕ). h - 1) axes)

          start : j ≡ 0 → split_place (dimension_of code) (depth_of code) ≡ dimension_of code
          start z = ap (λ (d : ℕ). split_place d (depth_of code)) (sym axes) ∙ sym split ∙ subst (λ (c : Bool). cond c k j ≡ n) (eq-eqb j 0 z) (sym l ∙ q) ∙ axes

          go : Dec (j ≡ 0) → Leaving code n at b i
          go (yes z) = rw (axes, at_first z) (leaving_far code p i b (sym f ∙ z) (start z) (first z))
          go (no z) = rw (at_last z, axes) (leaving_near code p i b (sym f ∙ subst (λ (c : Bool). cond c k j ≡ n) (ne_eqb j 0 z) (sym l ∙ q) ∙ axes) (last z))

module _ {code : List ℕ} {d at e i : ℕ} (r : Leaving code d at e i) where
  k' : Checked code
  k' = checked code r.passes

  pub leaving_room : 2 + d ≤ length code
  unfolding code_length
  leaving_room = omega (arith, k'.size, r.axes)

  pub leaving_long : 4 ≤ length code
  leaving_long = omega (arith, leaving_room, r.axes, k'.range.two)

  pub leaving_most : length code ≤ longest_of_all
  leaving_most = code_few k'

  pub leaving_at : 2 + at < length code
  leaving_at = omega (arith, leaving_room, r.place)

  pub leaving_few : d ≤ 4
  leaving_few = omega (arith, k'.range.few, r.axes)

  pub leaving_facet : i ≤ dimension_of code
  leaving_facet = omega (arith, r.facet, r.axes)

  -- the carry runs out of the orthants just where the facet lies in a face of the cube
  module _ {end : ℕ} (c : Ends (minus e) (axis e) code (2 + d) end) where
    wall : {t : Bool} → runs_out (minus e) (axis e) (drop (2 + d) code) ≡ t → is_blocked code i ≡ t
    unfolding orthants_of
    wall q = r.wall ∙ sym (ap (λ (x : ℕ). runs_out (minus e) (axis e) (drop (2 + x) code)) r.axes) ∙ q

    pub leaving_face : (before : List ℕ) → end ≡ 2 + d → Crosses code i before (crossed (Err Face)) before
    leaving_face before q = cross_face code before i r.passes leaving_facet (wall (ends_out (minus e) (axis e) c q))

    module _ (goes : end ≡ 2 + d → ⊥) where
      open_there : is_blocked code i ≡ false
      open_there = wall (ends_stopped (minus e) (axis e) c goes)

      pub leaving_some : 2 + d < end
      leaving_some = omega (arith, goes, c.low)

      pub leaving_short : (before : List ℕ) → length before < length code → Crosses code i before (crossed (Err Short)) before
      leaving_short before l = cross_short code before i r.passes leaving_facet open_there l

      -- the buffer: the code copied, the carry, then the sign changed
      module _ (before : List ℕ) where
        rest : List ℕ
        rest = drop (length code) before

        es' : List ℕ
        es' = (parts_of code).entries

        moved : List ℕ
        moved = carried (minus e) (axis e) (orthants_of code)

        sized : length es' ≡ dimension_of code
        unfolding es'
        sized = k'.good.passes.signed.size

        head : take (2 + d) code ≡ dimension_of code ∷ depth_of code ∷ es'
        unfolding es' bytes
        head = ap (take (2 + d)) k'.good.is ∙ take_at (dimension_of code ∷ depth_of code ∷ (parts_of code).entries) (parts_of code).orthants (2 + d) (omega (arith, sized, r.axes))

        behind : drop (2 + d) code ≡ orthants_of code
        unfolding orthants_of
        behind = ap (λ (x : ℕ). drop (2 + x) code) r.axes

        carried_there : {buf after : List ℕ} → buf ≡ take (length code) code ++ rest → Flips (end - 1) (length code) (axis e) buf after
            → after ≡ (dimension_of code ∷ depth_of code ∷ es') ++ (moved ++ rest)
        unfolding moved rest
        carried_there {after = after} q f = flips_carried (minus e) (axis e) c rest leaving_room leaving_some
            (subst (λ (l : List ℕ). Flips (end - 1) (length code) (axis e) l after) (q ∙ whole_front code before) f)
            ∙ ap (λ (l : List ℕ). l ++ (carried (minus e) (axis e) (drop (2 + d) code) ++ rest)) head
            ∙ ap (λ (l : List ℕ). (dimension_of code ∷ depth_of code ∷ es') ++ (carried (minus e) (axis e) l ++ rest)) behind

        -- the sign changed
        turned : {v : ℕ} → v ≡ negated (get_or code (2 + at) 0) → set ((dimension_of code ∷ depth_of code ∷ es') ++ (moved ++ rest)) (2 + at) v
            ≡ (dimension_of code ∷ depth_of code ∷ negated_at at es') ++ (moved ++ rest)
        unfolding es' negated_at parts_of entries_of
        turned {v} q = let there : 2 + at ≡ suc (suc at) = omega arith in rw there
            (ap (λ (l : List ℕ). dimension_of code ∷ depth_of code ∷ l)
            (set-append_left es' (moved ++ rest) at v (omega (arith, sized, r.place, r.axes))
            ∙ ap (λ (x : ℕ). set es' at x ++ (moved ++ rest)) (q ∙ ap negated (entry_at code 2 (dimension_of code) at (omega (arith, r.place, r.axes))))))

        table : (dimension_of code ∷ depth_of code ∷ negated_at at es') ++ (moved ++ rest) ≡ table_code code i ++ rest
        unfolding es' moved bytes parts_of
        table = sym (append_assoc (dimension_of code ∷ depth_of code ∷ negated_at at es') moved rest) ∙ ap (λ (l : List ℕ). (dimension_of code ∷ depth_of code ∷ l) ++ rest) (sym both)
          where
            n : Name
            n = across_name (dimension_of code) (depth_of code) i (parts_of code)

            both : n.entries ++ n.orthants ≡ negated_at at (entries_of code) ++ carried (minus e) (axis e) (orthants_of code)
            both = ap (λ (l : List ℕ). l ++ n.orthants) r.entries ∙ ap (λ (l : List ℕ). negated_at at (entries_of code) ++ l) r.orthants

        pub leaving_done : {buf after : List ℕ} {v x : ℕ} → length code ≤ length before → v ≡ negated (get_or code (2 + at) 0)
            → buf ≡ take (length code) code ++ drop (length code) before → x ≡ axis e → Flips (end - 1) (length code) x buf after
            → Landed code i before (record { place = i; beside = true }) (set after (2 + at) v)
        unfolding rest
        leaving_done {buf} {after} {v} l q b h f = landed code before i r.passes leaving_facet open_there l (record { place = i; beside = true }) (sym r.new) (λ u. absurd (cc))
            (ap (λ (x : List ℕ). set x (2 + at) v) (carried_there b (subst (λ (a : ℕ). Flips (end - 1) (length code) a buf after) h f)) ∙ turned q ∙ table)
