-- Demand 1 holds: each part from the contract of its entry.
use Rattle.std.specs.Prelude.{◌≡◌, refl, List, [], ◌∷◌, ◌≢◌, ℕ, ◌≤◌, ◌<◌, length, Float, Result, Ok, Err, IsErrAnd}
use Rattle.std.proofs.Common.{ap, ◌∙◌, subst, arith}
use Rattle.std.proofs.Math.Decide.{dec_lt, ℕ_discrete}
use Rattle.bisection.specs.Codes.{dimension_of}
use Rattle.bisection.specs.declared.Refused.{Refused}
use Rattle.bisection.specs.Refusals.{done, code_refusal, refused_point}
use Rattle.codes.specs.declared.Written.{Written}
use Rattle.codes.specs.declared.PathWritten.{PathWritten}
use Rattle.codes.specs.Outcomes.{Writes, CodeToPath}
use Rattle.crossing.specs.declared.Crossed.{Crossed}
use Rattle.crossing.specs.Outcome.{Refuses, Crosses, Meets, wall, short, crossed}
use Rattle.sheets.specs.Sheets.{Good, sheet_refused, sheet_good}
use Rattle.queries.specs.declared.LeafAnswer.{LeafAnswer}
use Rattle.queries.specs.Queries.{LeafIs, LeafOn, leaf_refused, leaf_found, leaf_told, Tells, ValueOn, value_refused, value_found, ValueIs, FlatValueIs}
use Rattle.greys.specs.declared.ValueAnswer.{ValueAnswer}
use Rattle.greys.specs.Fractions.{plus_zero}
use Rattle.greys.specs.Values.{flat_of}
use Rattle.queries.specs.SlopeQueries.{SlopeOn, slope_refused, slope_found, SlopeIs, FlatSlopeIs}
use Rattle.slopes.specs.declared.SlopeAnswer.{SlopeAnswer}
use Rattle.slopes.specs.declared.Slopes.{Slopes}
use Rattle.slopes.specs.Slopes.{no_slopes, flat_of as flat_slope}
use Rattle.compatible.specs.declared.CompatibleAnswer.{CompatibleAnswer}
use Rattle.compatible.specs.Compatible.{CompatibleIs, Judges, yes_all, not_all}
use Rattle.demands.specs.One.{Zero, Clean, OffsetOf, Demand1}
use Rattle.demands.specs.Theorems.Numbers.{code_in, path_in, to_path_in, vertices_in, child_in, parent_in, leaf_in_is, sheet_in, sheet_none, query_offset, told_in, told_offset}

-- what is written, and what crossing refuses
writes_clean : {refusal : ℕ} {answer before : List ℕ} {r : Written} {after : List ℕ} → Writes refusal answer before r after → refusal ≤ 15 → r.refusal ≢ done → Clean r.refusal (r.length ∷ []) (before ∷ []) (after ∷ [])
unfolding Zero
writes_clean {before = before} w l k = let o = w.refused (λ e. k (w.number ∙ e)) in record { in_table = omega (arith, w.number); zero = (o.0, tt); kept = ap (λ (b : List ℕ). b ∷ []) o.1 }

abbrev others : Crossed → List ℕ
others r = r.place ∷ r.length ∷ r.vertex.first ∷ r.vertex.second ∷ r.vertex.third ∷ r.vertex.fourth ∷ []

refuses_clean : {number : ℕ} {before : List ℕ} {r : Crossed} {after : List ℕ} → Refuses number before r after → number ≤ 15 → Clean r.refusal (others r) (before ∷ []) (after ∷ [])
unfolding Zero
refuses_clean w l = record {
  in_table = omega (arith, w.number);
  zero = (w.place, (w.size, (λ i. (w.vertex i).first, (λ i. (w.vertex i).second, (λ i. (w.vertex i).third, (λ i. (w.vertex i).fourth, tt))))));
  kept = ap (λ (b : List ℕ). b ∷ []) w.kept;
}

to_path_clean : (code roots paths : List ℕ) (r : PathWritten) (roots' paths' : List ℕ) → CodeToPath code roots paths r roots' paths' → r.refusal ≢ done → Clean r.refusal (r.axes ∷ r.depth ∷ []) (roots ∷ paths ∷ []) (roots' ∷ paths' ∷ [])
unfolding Zero
to_path_clean code roots paths r roots' paths' w k =
    let o = w.refused (λ e. k (w.number ∙ e)) in
    record { in_table = omega (arith, w.number, to_path_in code (length roots) (length paths)); zero = (o.0, (o.1, tt)); kept = λ i. o.2 i ∷ o.3 i ∷ [] }

cross_clean : (code : List ℕ) (facet : ℕ) (before : List ℕ) (r : Crossed) (after : List ℕ) → Crosses code facet before r after → r.refusal ≢ done → Clean r.refusal (others r) (before ∷ []) (after ∷ [])
cross_clean code facet before r after c k = go (ℕ_discrete (code_refusal code) done) (dec_lt (dimension_of code) facet)
  where
    met : Meets code facet before r after → Clean r.refusal (others r) (before ∷ []) (after ∷ [])
    met (wall w q) = refuses_clean q (omega arith)
    met (short code' j b l q) = refuses_clean q (omega arith)
    met (crossed code' j b l q) = absurd (k q.number)

    go : Dec (code_refusal code ≡ done) → Dec (dimension_of code < facet) → Clean r.refusal (others r) (before ∷ []) (after ∷ [])
    go (no n) l = refuses_clean (c.own n) (code_in code)
    go (yes p) (yes l) = refuses_clean (c.above p l) (omega arith)
    go (yes p) (no l) = met (c.meets p (omega arith))

leaf_clean : (sheet point before : List ℕ) (r : LeafAnswer) (after : List ℕ) → LeafIs sheet point before r after → r.refusal ≢ done
    → Clean r.refusal (r.number ∷ r.length ∷ []) (before ∷ []) (after ∷ []) × OffsetOf sheet r.offset
unfolding Zero
leaf_clean sheet point before r after q k = (clean q, query_offset q (λ n o x. ap (λ (r : LeafAnswer). r.offset) x.0) offset)
  where
    told_clean : {number offset : ℕ} → number ≤ 15 → r ≡ leaf_told number offset 0 0 → after ≡ before → Clean r.refusal (r.number ∷ r.length ∷ []) (before ∷ []) (after ∷ [])
    told_clean l e b = record { in_table = omega (arith, ap (λ (r : LeafAnswer). r.refusal) e); zero = (ap (λ (r : LeafAnswer). r.number) e, (ap (λ (r : LeafAnswer). r.length) e, tt)); kept = ap (λ (b : List ℕ). b ∷ []) b }

    on : {n : ℕ} {g : Good sheet n} → LeafOn g point before r after → Clean r.refusal (r.number ∷ r.length ∷ []) (before ∷ []) (after ∷ [])
    on {g = g} (leaf_refused h e b) = told_clean (leaf_in_is g.dimension point (length before)) e b
    on (leaf_found h a w e b) = absurd (k (ap (λ (r : LeafAnswer). r.refusal) e))

    clean : LeafIs sheet point before r after → Clean r.refusal (r.number ∷ r.length ∷ []) (before ∷ []) (after ∷ [])
    clean (sheet_refused s h x) = told_clean (sheet_in s) x.0 x.1
    clean (sheet_good g x) = on x

    offset : (n : ℕ) (g : Good sheet n) → LeafOn g point before r after → r.offset ≡ 0
    offset n g (leaf_refused h e b) = ap (λ (r : LeafAnswer). r.offset) e
    offset n g (leaf_found h a w e b) = ap (λ (r : LeafAnswer). r.offset) e

nothing : {number : ℕ} → number ≤ 15 → Clean number [] [] []
unfolding Zero
nothing l = record { in_table = l; zero = tt; kept = refl }

value_clean : (sheet point : List ℕ) (r : ValueAnswer) → FlatValueIs sheet point r → r.refusal ≢ done → Clean r.refusal [] [] [] × OffsetOf sheet r.offset × (r.value ≡ plus_zero)
value_clean sheet point r f k = go f.answer f.value f.is
  where
    by_point : (y : Refused) (n : ℕ) (g : Good sheet n) → ValueOn g point (Err y) → Tells y refused_point 0
    by_point y n g (value_refused h t) = t
    by_point y n g (value_found h a w x e) = absurd (subst (λ v. IsErrAnd v (λ y. Unit {0})) e tt)

    go : (v : Result Float Refused) → ValueIs sheet point v → r ≡ flat_of v → Clean r.refusal [] [] [] × OffsetOf sheet r.offset × (r.value ≡ plus_zero)
    go (Ok x) q e = absurd (k (ap (λ (r : ValueAnswer). r.refusal) e))
    go (Err y) q e = rw e (nothing (told_in y q (by_point y)), told_offset y q (by_point y), refl)

slope_clean : (sheet point : List ℕ) (r : SlopeAnswer) → FlatSlopeIs sheet point r → r.refusal ≢ done → Clean r.refusal [] [] [] × OffsetOf sheet r.offset × (r.slopes ≡ no_slopes)
slope_clean sheet point r f k = go f.answer f.slope f.is
  where
    by_point : (y : Refused) (n : ℕ) (g : Good sheet n) → SlopeOn g point (Err y) → Tells y refused_point 0
    by_point y n g (slope_refused h t) = t
    by_point y n g (slope_found h a l c e) = absurd (subst (λ v. IsErrAnd v (λ y. Unit {0})) e tt)

    go : (v : Result Slopes Refused) → SlopeIs sheet point v → r ≡ flat_slope v → Clean r.refusal [] [] [] × OffsetOf sheet r.offset × (r.slopes ≡ no_slopes)
    go (Ok x) q e = absurd (k (ap (λ (r : SlopeAnswer). r.refusal) e))
    go (Err y) q e = rw e (nothing (told_in y q (by_point y)), told_offset y q (by_point y), refl)

compatible_clean : (sheet : List ℕ) (r : CompatibleAnswer) → CompatibleIs sheet r → r.refusal ≢ done → Clean r.refusal (r.compatible ∷ []) [] [] × OffsetOf sheet r.offset
unfolding Zero
compatible_clean sheet r q k = (clean q, query_offset q (λ n o e. ap (λ (r : CompatibleAnswer). r.offset) e) (λ n g x. absurd (never g x)))
  where
    never : {n : ℕ} (g : Good sheet n) → Judges g.cells r → ⊥
    never g (yes_all c e) = k (ap (λ (r : CompatibleAnswer). r.refusal) e)
    never g (not_all c e) = k (ap (λ (r : CompatibleAnswer). r.refusal) e)

    clean : CompatibleIs sheet r → Clean r.refusal (r.compatible ∷ []) [] []
    clean (sheet_refused s h e) = record { in_table = omega (arith, ap (λ (r : CompatibleAnswer). r.refusal) e, sheet_in s); zero = (ap (λ (r : CompatibleAnswer). r.compatible) e, tt); kept = refl }
    clean (sheet_good g x) = absurd (never g x)

pub demand_1 : Demand1
unfolding Zero
demand_1 = record {
  code_check = code_in;
  path_to_code = λ root path before r after w k. writes_clean w (path_in root path (length before)) k;
  code_to_path = to_path_clean;
  vertices = λ code before r after w k. writes_clean w.writes (vertices_in code (length before)) k;
  child = λ code which before r after w k. writes_clean w.writes (child_in code which (length before)) k;
  parent = λ code before r after w k. writes_clean w.writes (parent_in code (length before)) k;
  cross = cross_clean;
  sheet_check = λ sheet r s k. record { in_table = sheet_in s; zero = (sheet_none s k, tt); kept = refl };
  leaf_at = leaf_clean;
  value_at = value_clean;
  slope_at = slope_clean;
  compatible = compatible_clean;
}
