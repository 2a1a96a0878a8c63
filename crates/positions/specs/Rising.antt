-- Arrangements of a list that rises: the entries of one give its number, none stands twice in it, and every list of
-- its length without a repetition over the same elements is one.
use Rattle.std.specs.Prelude.{◌≡◌, refl, cond, List, [], ◌∷◌, ◌≢◌, ℕ, zero, suc, ◌+◌, ◌*◌, ◌≤◌, ◌<◌, ltb, length, get_or}
use Rattle.std.proofs.Common.{sym, ap, ◌∙◌, subst, arith, le_trans, lt-ltb, le-ltb}
use Rattle.dimension.specs.Sizes.{root_count}
use Rattle.positions.specs.Arrangements.{Picked, here, there, place, picked_length, Arranged, none, next, rank}

-- a list that rises, from a on
pub data Rising : ℕ → List ℕ → Type 0 where
  ends : {a : ℕ} → Rising a []
  goes_on : {a x : ℕ} {xs : List ℕ} → a ≤ x → Rising (suc x) xs → Rising a (x ∷ xs)

rising_from : {a b : ℕ} {xs : List ℕ} → a ≤ b → Rising b xs → Rising a xs
rising_from h ends = ends
rising_from h (goes_on l r) = goes_on (le_trans h l) r

pub picked_over : {a x : ℕ} {xs rest : List ℕ} → Rising a xs → Picked x xs rest → a ≤ x
picked_over (goes_on l r) here = l
picked_over (goes_on l r) (there p) = omega (arith, picked_over r p)
picked_over ends p = elim p [ ]

pub picked_rising : {a x : ℕ} {xs rest : List ℕ} → Rising a xs → Picked x xs rest → Rising a rest
picked_rising (goes_on l r) here = rising_from (omega arith) r
picked_rising (goes_on l r) (there p) = goes_on l (picked_rising r p)
picked_rising ends p = elim p [ ]

-- what was picked is not there again
gone : {a x : ℕ} {xs rest after : List ℕ} → Rising a xs → Picked x xs rest → Picked x rest after → ⊥
gone (goes_on l r) here q = omega (arith, picked_over r q)
gone (goes_on l r) (there p) here = omega (arith, picked_over r p)
gone (goes_on l r) (there p) (there q) = gone r p q
gone ends p q = elim p [ ]

-- how many elements of a list are smaller than v
unfoldable pub under : ℕ → List ℕ → ℕ
under v [] = 0
under v (w ∷ ws) = cond (ltb w v) 1 0 + under v ws

-- the number that the entries give: how many of those behind each are smaller, weighed by their arrangements
unfoldable pub number_of : List ℕ → ℕ
number_of [] = 0
number_of (w ∷ ws) = under w ws * root_count (length ws) + number_of ws

picked_under : {x : ℕ} {xs rest : List ℕ} → Picked x xs rest → (v : ℕ) → under v xs ≡ cond (ltb x v) 1 0 + under v rest
unfolding under
picked_under here v = refl
picked_under (there p) v = omega (arith, picked_under p v)

arranged_under : {xs ws : List ℕ} → Arranged xs ws → (v : ℕ) → under v xs ≡ under v ws
unfolding under
arranged_under none v = refl
arranged_under (next {x} p a) v = picked_under p v ∙ ap (λ (k : ℕ). cond (ltb x v) 1 0 + k) (arranged_under a v)

none_under : {a : ℕ} {xs : List ℕ} → Rising a xs → (v : ℕ) → v ≤ a → under v xs ≡ 0
unfolding under
none_under ends v h = refl
none_under (goes_on {x = x} l r) v h = rw (le-ltb x v (omega arith), none_under r v (omega arith)) refl

-- those that a pick passes over are the smaller ones
place_counts : {a x : ℕ} {xs rest : List ℕ} → Rising a xs → (p : Picked x xs rest) → under x rest ≡ place p
unfolding under place
place_counts {x = x} (goes_on l r) here = none_under r x (omega arith)
place_counts {x = x} (goes_on {x = y} l r) (there p) = rw (lt-ltb y x (picked_over r p), place_counts r p) (omega arith)
place_counts ends p = elim p [ ]

pub rank_is : {a : ℕ} {xs ws : List ℕ} → Rising a xs → (r : Arranged xs ws) → rank r ≡ number_of ws
unfolding rank number_of
rank_is u none = refl
rank_is u (next {x} p r) = rw (← place_counts u p, arranged_under r x, rank_is (picked_rising u p) r) refl

-- v is an element of a list
pub record In (v : ℕ) (xs : List ℕ) : Type 0 where
  pub rest : List ℕ
  pub picked : Picked v xs rest

-- picking another element neither adds it nor takes it away
in_more : {x v : ℕ} {xs rest after : List ℕ} → Picked x xs rest → Picked v rest after → In v xs
in_more here q = record { rest = _; picked = there q }
in_more (there p) here = record { rest = _; picked = here }
in_more (there p) (there q) = record { rest = _; picked = there (in_more p q).picked }

in_rest : {x v : ℕ} {xs rest after : List ℕ} → Picked x xs rest → Picked v xs after → v ≢ x → In v rest
in_rest here here n = absurd (n refl)
in_rest here (there q) n = record { rest = _; picked = q }
in_rest (there p) here n = record { rest = _; picked = here }
in_rest (there p) (there q) n = record { rest = _; picked = there (in_rest p q n).picked }

-- an arrangement's entries are elements of its list, and none is repeated
pub arranged_in : {xs ws : List ℕ} → Arranged xs ws → (i : ℕ) → i < length ws → In (get_or ws i 0) xs
arranged_in none i l = absurd (omega arith)
arranged_in (next p a) zero l = record { rest = _; picked = p }
arranged_in (next p a) (suc i) l = in_more p (arranged_in a i (omega arith)).picked

pub arranged_apart : {a : ℕ} {xs ws : List ℕ} → Rising a xs → Arranged xs ws → (i j : ℕ) → i < length ws → j < length ws → get_or ws i 0 ≡ get_or ws j 0 → i ≡ j
arranged_apart u none i j l h e = absurd (omega arith)
arranged_apart u (next p r) zero zero l h e = refl
arranged_apart u (next {rest = rest} p r) zero (suc j) l h e = absurd (gone u p (subst (λ (v : ℕ). In v rest) (sym e) (arranged_in r j (omega arith))).picked)
arranged_apart u (next {rest = rest} p r) (suc i) zero l h e = absurd (gone u p (subst (λ (v : ℕ). In v rest) e (arranged_in r i (omega arith))).picked)
arranged_apart u (next p r) (suc i) (suc j) l h e = ap suc (arranged_apart (picked_rising u p) r i j (omega arith) (omega arith) e)

-- and every list of these is an arrangement, if it is as long
pub arranged_by : (ws xs : List ℕ) → length ws ≡ length xs → ((i : ℕ) → i < length ws → In (get_or ws i 0) xs) → ((i j : ℕ) → i < length ws → j < length ws → get_or ws i 0 ≡ get_or ws j 0 → i ≡ j) → Arranged xs ws
arranged_by [] [] e m apart = none
arranged_by [] (x ∷ xs) e m apart = absurd (omega arith)
arranged_by (w ∷ ws) xs e m apart = next p (arranged_by ws rest (omega (arith, picked_length p)) others (λ i j l h q. omega (arith, apart (suc i) (suc j) (omega arith) (omega arith) q)))
  where
    rest : List ℕ
    rest = (m 0 (omega arith)).rest

    p : Picked w xs rest
    p = (m 0 (omega arith)).picked

    others : (i : ℕ) → i < length ws → In (get_or ws i 0) rest
    others i l = in_rest p (m (suc i) (omega arith)).picked (λ q. omega (arith, apart (suc i) 0 (omega arith) (omega arith) q))
