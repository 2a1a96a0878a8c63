-- Every point of the cube lies in some root's cell: that of its axes sorted by falling coordinate. So there is a first one.
use Rattle.std.specs.Prelude.{◌≡◌, true, List, [], ◌∷◌, ℕ, zero, suc, ◌+◌, ◌≤◌, ◌<◌, length, get_or}
use Rattle.std.proofs.Math.Path.{sym}
use Rattle.std.proofs.Common.{ap, ◌∙◌, subst, arith}
use Rattle.std.proofs.Math.Decide.{dec_le, ℕ_discrete}
use Rattle.dimension.specs.Sizes.{is_dimension, root_count, cube_side}
use Rattle.bisection.specs.Cells.{Point, coordinate, cell_of}
use Rattle.bisection.specs.Roots.{axes_from, arrangements, roots}
use Rattle.bisection.specs.Weights.{Inside}
use Rattle.positions.specs.Arrangements.{here, there, Arranged, none, next, arranged_length, rank, rank_under, stands}
use Rattle.positions.specs.RootNumbers.{axes_length, roots_count, roots_good, roots_length}
use Rattle.points.specs.Points.{InCube}
use Rattle.points.specs.Roots.{FirstRoot}
use Rattle.points.specs.Theorems.RootCells.{Falls, falls_none, falls_more}
use Rattle.points.proofs.Theorems.RootCells.{falls_inside}
use Rattle.points.proofs.Theorems.Cells.{dec_inside}

-- an arrangement along which v falls
record Sorted (v : ℕ → ℕ) (b : ℕ) (xs : List ℕ) : Type 0 where
  list : List ℕ
  arranged : Arranged xs list
  falls : Falls v b list

insert : {v : ℕ → ℕ} {b : ℕ} {xs ws : List ℕ} (x : ℕ) → Arranged xs ws → Falls v b ws → v x ≤ b → Sorted v b (x ∷ xs)
insert x none f l = record { list = x ∷ []; arranged = next here none; falls = falls_more {x = x} l falls_none }
insert {v} {b} x (next {x = y} {xs = xs} {rest = rest} {ws = ws} p a) (falls_more h f) l = go (dec_le (v y) (v x)) (insert x a f)
  where
    go : Dec (v y ≤ v x) → (v x ≤ v y → Sorted v (v y) (x ∷ rest)) → Sorted v b (x ∷ xs)
    go (yes q) r = record { list = x ∷ y ∷ ws; arranged = next here (next p a); falls = falls_more {x = x} l (falls_more {x = y} q f) }
    go (no q) r = let s = r (omega arith) in record { list = y ∷ s.list; arranged = next (there p) s.arranged; falls = falls_more {x = y} h s.falls }

sort : (v : ℕ → ℕ) (b a n : ℕ) → ((x : ℕ) → a ≤ x → x < a + n → v x ≤ b) → Sorted v b (axes_from a n)
unfolding axes_from
sort v b a zero h = record { list = []; arranged = none; falls = falls_none }
sort v b a (suc n) h = let s = sort v b (suc a) n (λ x l u. h x (omega arith) (omega arith)) in insert a s.arranged s.falls (h a (omega arith) (omega arith))

-- none before n, and not n
pub none_next : {P : ℕ → Type 0} {n : ℕ} → ((i : ℕ) → i < n → P i → ⊥) → (P n → ⊥) → (i : ℕ) → i < suc n → P i → ⊥
none_next {P} {n} before not_n i l = go (ℕ_discrete i n)
  where
    go : Dec (i ≡ n) → P i → ⊥
    go (yes e) = rw e not_n
    go (no e) = before i (omega arith)

-- the number of a root that contains the point, and of the first one
pub record SomeRoot (d : ℕ) (p : Point) : Type 0 where
  pub number : ℕ
  pub small : number < length (roots d)
  pub inside : Inside (cell_of (get_or (roots d) number []) []) p

pub record InRoot (d : ℕ) (p : Point) : Type 0 where
  pub number : ℕ
  pub first : FirstRoot (roots d) p number

module _ (d : ℕ) (e : is_dimension d ≡ true) (p : Point) (c : InCube d p) where
  pub some_root : SomeRoot d p
  unfolding roots
  some_root = record {
    number = n;
    small = small;
    inside = falls_inside (get_or (roots d) n []) (roots_good d e n small) p (c.axes ∙ sym (roots_length d n small)) (subst (Falls (coordinate p) cube_side) (sym is) s.falls);
  }
    where
      s : Sorted (coordinate p) cube_side (axes_from 1 d)
      s = sort (coordinate p) cube_side 1 d (λ x l u. c.in_range x l (omega arith))

      n : ℕ
      n = rank s.arranged

      size : length s.list ≡ d
      size = sym (arranged_length s.arranged) ∙ axes_length 1 d

      small : rank s.arranged < length (roots d)
      small = subst (λ (m : ℕ). rank s.arranged < m) (ap root_count size ∙ sym (roots_count d)) (rank_under s.arranged)

      is : get_or (arrangements d (axes_from 1 d)) (rank s.arranged) [] ≡ s.list
      is = ap (λ (m : ℕ). get_or (arrangements m (axes_from 1 d)) (rank s.arranged) []) (sym size) ∙ stands s.arranged

  pub in_root : InRoot d p
  in_root = from some_root.number 0 (omega arith) (λ i l. absurd (omega arith))
    where
      found : (n : ℕ) → n ≤ some_root.number → Inside (cell_of (get_or (roots d) n []) []) p → ((i : ℕ) → i < n → Inside (cell_of (get_or (roots d) i []) []) p → ⊥) → InRoot d p
      found n l i before = record { number = n; first = record { small = omega (arith, some_root.small); inside = i; none_before = before } }

      holds : (n : ℕ) → n ≤ some_root.number → Dec (Inside (cell_of (get_or (roots d) n []) []) p)
      holds n l = let h : n < length (roots d) = omega (arith, some_root.small) in dec_inside (get_or (roots d) n []) (roots_good d e n h) (c.axes ∙ sym (roots_length d n h)) [] (omega arith)

      from : (k n : ℕ) → n + k ≡ some_root.number → ((i : ℕ) → i < n → Inside (cell_of (get_or (roots d) i []) []) p → ⊥) → InRoot d p
      from zero n q before = found n (omega arith) (let m : n ≡ some_root.number = omega arith in rw m some_root.inside) before
      from (suc k) n q before = go (holds n (omega arith)) (from k (suc n) (omega arith))
        where
          go : Dec (Inside (cell_of (get_or (roots d) n []) []) p) → (((i : ℕ) → i < suc n → Inside (cell_of (get_or (roots d) i []) []) p → ⊥) → InRoot d p) → InRoot d p
          go (yes i) on = found n (omega arith) i before
          go (no i) on = on (none_next before i)
