-- What a row of the table does to the entries: each goes where the row puts its place, negated or not, and so a
-- signed permutation stays one.
use Rattle.std.specs.Prelude.{◌≡◌, refl, Bool, true, false, cond, not, ◌≢◌, length, get_or, set}
use Rattle.std.proofs.Common.{sym, ◌∙◌}
use Rattle.std.proofs.Math.Path.{ap}
use mathlib.Core.List.{List}
use Prim.Native.Nat.{ℕ, suc, ◌-◌, ◌≤◌, ◌<◌}
use native.Mathlib.Omega.{arith}
use Rattle.std.proofs.Math.Decide.{dec_le, ℕ_discrete}
use Rattle.std.proofs.Math.ListN.{length-set}
use Rattle.std.proofs.Math.Seq.{get_or-set_same, get_or-set_other}
use borrow.Author.Tests.{eq-eqb, ne_eqb}
use Rattle.bisection.specs.Codes.{axis, minus, negated}
use Rattle.bisection.specs.Theorems.Entries.{Signed, unturned}
use Rattle.bisection.proofs.Theorems.Entries.{axis_negated, minus_negated, turned_before, turned_at, turned_past, turned_length, unturned_moved, unturned_past, unturned_length, signed_along}
use Rattle.bisection.specs.Theorems.Table.{Move, swap, nearer, farther, left, right, trade, exchanged, negated_at, entries_by}
use Rattle.bisection.specs.Theorems.Crossing.Sound.{Allowed, a_swap, a_near, a_far, a_left, a_right, a_trade}
use Rattle.bisection.specs.Theorems.Crossing.Moves.{place, negates}
use Rattle.bisection.proofs.Theorems.Crossing.Moves.{places}
use Rattle.bisection.specs.Theorems.Crossing.Places.{opp}
use Rattle.bisection.proofs.Theorems.Crossing.Places.{place_range, place_back, allowed_opp, opp_opp}
use Rattle.bisection.specs.Theorems.Crossing.Rearranged.{EntryGoes}

-- two entries exchanged, one negated
module _ (t u : ℕ) (es : List ℕ) (lt : t < length es) (lu : u < length es) where
  first_set : List ℕ
  first_set = set es t (get_or es u 0)

  room : u < length first_set
  unfolding first_set
  room = rw (length-set es t (get_or es u 0)) lu

  pub exchanged_first : t ≢ u → get_or (exchanged t u es) t 0 ≡ get_or es u 0
  unfolding exchanged first_set
  exchanged_first n = get_or-set_other first_set u t (get_or es t 0) 0 n ∙ get_or-set_same es t (get_or es u 0) 0 lt

  pub exchanged_second : get_or (exchanged t u es) u 0 ≡ get_or es t 0
  unfolding exchanged first_set
  exchanged_second = get_or-set_same first_set u (get_or es t 0) 0 room

  pub exchanged_other : (q : ℕ) → q ≢ t → q ≢ u → get_or (exchanged t u es) q 0 ≡ get_or es q 0
  unfolding exchanged first_set
  exchanged_other q n n' = get_or-set_other first_set u q (get_or es t 0) 0 n' ∙ get_or-set_other es t q (get_or es u 0) 0 n

pub exchanged_length : (t u : ℕ) (es : List ℕ) → length (exchanged t u es) ≡ length es
unfolding exchanged
exchanged_length t u es = simp length-set

module _ (t : ℕ) (es : List ℕ) where
  pub negated_at_at : (q : ℕ) → q ≡ t → t < length es → get_or (negated_at t es) q 0 ≡ negated (get_or es q 0)
  unfolding negated_at
  negated_at_at q e l = rw e (get_or-set_same es t (negated (get_or es t 0)) 0 l)

  pub negated_at_other : (q : ℕ) → q ≢ t → get_or (negated_at t es) q 0 ≡ get_or es q 0
  unfolding negated_at
  negated_at_other q n = get_or-set_other es t q (negated (get_or es t 0)) 0 n

  pub negated_at_length : length (negated_at t es) ≡ length es
  unfolding negated_at
  negated_at_length = simp length-set

module _ {d k : ℕ} (es : List ℕ) (size : length es ≡ d) (k1 : 1 ≤ k) (q : ℕ) (l : q < d) where
  in_list : {t : ℕ} → t < d → t < length es
  in_list h = omega (arith, size)

  at_place : (l : List ℕ) {t u : ℕ} → t ≡ u → get_or l t 0 ≡ get_or l u 0
  at_place l e = ap (λ (t : ℕ). get_or l t 0) e

  pub entry_goes : {m : Move} → Allowed d k m → EntryGoes d k m es q
  unfolding entries_by negates
  entry_goes (a_swap {i = i} i1 id) = go (ℕ_discrete (suc q) i) (ℕ_discrete q i)
    where
      apart : i - 1 ≢ i
      apart = omega arith

      lo : i - 1 < length es
      lo = in_list (omega arith)

      hi : i < length es
      hi = in_list id

      go : Dec (suc q ≡ i) → Dec (q ≡ i) → EntryGoes d k (swap i) es q
      go (yes e) f = record { to = i; turn = false; place_is = simp places; turn_is = refl; entry_is = exchanged_second (i - 1) i es lo hi ∙ at_place es (omega arith) }
      go (no e) (yes f) = let h : suc q ≡ suc i = omega arith in
          record { to = i - 1; turn = false; place_is = simp places (omega arith); turn_is = refl; entry_is = exchanged_first (i - 1) i es lo hi apart ∙ at_place es (sym f) }
      go (no e) (no f) = let h : suc q ≢ suc i = omega arith in
          record { to = q; turn = false; place_is = simp places; turn_is = refl; entry_is = exchanged_other (i - 1) i es lo hi q (omega arith) f }
  entry_goes a_near = go (ℕ_discrete (suc q) d)
    where
      go : Dec (suc q ≡ d) → EntryGoes d k nearer es q
      go (yes e) = record { to = q; turn = true; place_is = simp places; turn_is = eq-eqb (suc q) d e; entry_is = negated_at_at (d - 1) es q (omega arith) (in_list (omega arith)) }
      go (no e) = record { to = q; turn = false; place_is = simp places; turn_is = ne_eqb (suc q) d e; entry_is = negated_at_other (d - 1) es q (omega arith) }
  entry_goes (a_far w) = go (ℕ_discrete q 0)
    where
      go : Dec (q ≡ 0) → EntryGoes d k farther es q
      go (yes e) = record { to = q; turn = true; place_is = simp places; turn_is = eq-eqb (suc q) 1 (omega arith); entry_is = negated_at_at 0 es q e (in_list (omega arith)) }
      go (no e) = record { to = q; turn = false; place_is = simp places; turn_is = ne_eqb (suc q) 1 (omega arith); entry_is = negated_at_other 0 es q e }
  entry_goes (a_left kd) = go (ℕ_discrete q 0) (dec_le q k)
    where
      go : Dec (q ≡ 0) → Dec (q ≤ k) → EntryGoes d k left es q
      go (yes e) f = let h : suc q ≡ 1 = omega arith in
          record { to = k; turn = true; place_is = simp places; turn_is = eq-eqb (suc q) 1 h; entry_is = turned_at k es (in_list kd) k refl ∙ ap negated (at_place es (sym e)) }
      go (no e) (yes f) = let h : 2 ≤ suc q = omega arith in let h' : suc q ≤ suc k = omega arith in
          record { to = q - 1; turn = false; place_is = simp places (omega arith); turn_is = ne_eqb (suc q) 1 (omega arith); entry_is = turned_before k es (in_list kd) (q - 1) (omega arith) ∙ at_place es (omega arith) }
      go (no e) (no f) = let h : suc k < suc q = omega arith in
          record { to = q; turn = false; place_is = simp places; turn_is = ne_eqb (suc q) 1 (omega arith); entry_is = turned_past k es (in_list kd) q (omega arith) }
  entry_goes (a_right kd) = go (ℕ_discrete q k) (dec_le (suc q) k)
    where
      go : Dec (q ≡ k) → Dec (suc q ≤ k) → EntryGoes d k right es q
      go (yes e) f = let h : suc q ≡ suc k = omega arith in
          record { to = 0; turn = true; place_is = simp places; turn_is = eq-eqb (suc q) (suc k) h; entry_is = unfold unturned in ap negated (at_place es (sym e)) }
      go (no e) (yes f) = record { to = suc q; turn = false; place_is = simp places; turn_is = ne_eqb (suc q) (suc k) (omega arith); entry_is = unturned_moved k es (in_list kd) q (omega arith) }
      go (no e) (no f) = let h : suc k < suc q = omega arith in
          record { to = q; turn = false; place_is = simp places; turn_is = ne_eqb (suc q) (suc k) (omega arith); entry_is = unturned_past k es (in_list kd) q (omega arith) }
  entry_goes (a_trade kd) = go (ℕ_discrete q 0) (ℕ_discrete q k)
    where
      es' : List ℕ
      es' = exchanged 0 k es

      some : 0 < length es
      some = in_list (omega arith)

      room_k : k < length es'
      room_k = rw (exchanged_length 0 k es) (in_list kd)

      room_0 : 0 < length (negated_at k es')
      room_0 = rw (negated_at_length k es', exchanged_length 0 k es) some

      go : Dec (q ≡ 0) → Dec (q ≡ k) → EntryGoes d k trade es q
      go (yes e) f = let h : suc q ≡ 1 = omega arith in
          record {
            to = k;
            turn = true;
            place_is = simp places;
            turn_is = rw (eq-eqb (suc q) 1 h) refl;
            entry_is = negated_at_other 0 (negated_at k es') k (omega arith) ∙ negated_at_at k es' k refl room_k ∙ ap negated (exchanged_second 0 k es some (in_list kd) ∙ at_place es (sym e));
          }
      go (no e) (yes f) = let h : suc q ≡ suc k = omega arith in let n : suc q ≢ 1 = omega arith in
          record {
            to = 0;
            turn = true;
            place_is = simp places;
            turn_is = rw (ne_eqb (suc q) 1 n, eq-eqb (suc q) (suc k) h) refl;
            entry_is = negated_at_at 0 (negated_at k es') 0 refl room_0 ∙ ap negated (negated_at_other k es' 0 (omega arith) ∙ exchanged_first 0 k es some (in_list kd) (omega arith) ∙ at_place es (sym f));
          }
      go (no e) (no f) = let h : suc q ≢ suc k = omega arith in let n : suc q ≢ 1 = omega arith in
          record {
            to = q;
            turn = false;
            place_is = simp places;
            turn_is = rw (ne_eqb (suc q) 1 n, ne_eqb (suc q) (suc k) h) refl;
            entry_is = negated_at_other 0 (negated_at k es') q e ∙ negated_at_other k es' q f ∙ exchanged_other 0 k es some (in_list kd) q e f;
          }

pub entries_length : {d k : ℕ} (es : List ℕ) → length es ≡ d → {m : Move} → Allowed d k m → length (entries_by d k m es) ≡ d
unfolding entries_by
entries_length es size (a_swap {i = i} i1 id) = exchanged_length (i - 1) i es ∙ size
entries_length {d} es size a_near = negated_at_length (d - 1) es ∙ size
entries_length es size (a_far q) = negated_at_length 0 es ∙ size
entries_length {d} {k} es size (a_left kd) = turned_length k es (omega arith) ∙ size
entries_length {d} {k} es size (a_right kd) = unturned_length k es (omega arith) ∙ size
entries_length {d} {k} es size (a_trade kd) = negated_at_length 0 (negated_at k (exchanged 0 k es)) ∙ negated_at_length k (exchanged 0 k es) ∙ exchanged_length 0 k es ∙ size

-- the axes keep, the sign turns with a negation
module _ {d k : ℕ} {es : List ℕ} (g : Signed d es) (small : d < 128) (k1 : 1 ≤ k) {m : Move} (ok : Allowed d k m) where
  pub goes_axis : (q : ℕ) → q < d → (e : EntryGoes d k m es q) → axis (get_or (entries_by d k m es) e.to 0) ≡ axis (get_or es q 0)
  goes_axis q l e = ap axis e.entry_is ∙ go e.turn
    where
      go : (t : Bool) → axis (cond t (negated (get_or es q 0)) (get_or es q 0)) ≡ axis (get_or es q 0)
      go true = axis_negated (get_or es q 0) (omega (arith, g.high q l))
      go false = refl

  pub goes_sign : (q : ℕ) → q < d → (e : EntryGoes d k m es q) → minus (get_or (entries_by d k m es) e.to 0) ≡ cond e.turn (not (minus (get_or es q 0))) (minus (get_or es q 0))
  goes_sign q l e = ap minus e.entry_is ∙ go e.turn
    where
      go : (t : Bool) → minus (cond t (negated (get_or es q 0)) (get_or es q 0)) ≡ cond t (not (minus (get_or es q 0))) (minus (get_or es q 0))
      go true = minus_negated (get_or es q 0) (omega (arith, g.high q l))
      go false = refl

  from : ℕ → ℕ
  from q = place d k (opp m) (suc q) - 1

  back : ℕ → ℕ
  back q = place d k m (suc q) - 1

  from_in : (q : ℕ) → q < d → from q < d
  unfolding from
  from_in q l = omega (arith, place_range {p = suc q} k1 (omega arith) l (allowed_opp ok))

  suc_from : (q : ℕ) → q < d → suc (from q) ≡ place d k (opp m) (suc q)
  unfolding from
  suc_from q l = omega (arith, (place_range {p = suc q} k1 (omega arith) l (allowed_opp ok)).0)

  place_from : (q : ℕ) → q < d → place d k m (suc (from q)) ≡ suc q
  place_from q l = rw (suc_from q l) (rw (opp_opp m) at (place_back {p = suc q} k1 (omega arith) l (allowed_opp ok)))

  pub signed_by : Signed d (entries_by d k m es)
  unfolding back
  signed_by = signed_along g (entries_by d k m es) (entries_length es g.size ok) from back from_in (λ q l. rw (place_from q l) (omega arith)) is
    where
      is : (q : ℕ) → q < d → axis (get_or (entries_by d k m es) q 0) ≡ axis (get_or es (from q) 0)
      is q l = ap (λ (t : ℕ). axis (get_or (entries_by d k m es) t 0)) to_q ∙ goes_axis (from q) (from_in q l) e
        where
          e : EntryGoes d k m es (from q)
          e = entry_goes es g.size k1 (from q) (from_in q l) ok

          to_q : q ≡ e.to
          to_q = omega (arith, e.place_is, place_from q l)

  pub goes_in : (q : ℕ) → q < d → (e : EntryGoes d k m es q) → e.to < d
  goes_in q l e = omega (arith, e.place_is, (place_range {p = suc q} k1 (omega arith) l ok).1)
