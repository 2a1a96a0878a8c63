-- The first cell of a root: the root itself, whose orthants and those of the first cells inside it are all 0. And where the next
-- cell stands on the line.
use Rattle.std.specs.Prelude.{◌≡◌, refl, Bool, true, List, [], ◌∷◌, ◌++◌, ℕ, ◌-◌, ◌*◌, ◌^◌, ◌≤◌, ◌<◌, length}
use Rattle.std.proofs.Math.Path.{sym, ap}
use Rattle.std.proofs.Common.{◌∙◌, subst, pow_pos}
use native.Mathlib.Omega.{arith}
use Rattle.std.proofs.Math.ListN.{get_or, drop, replicate}
use Rattle.dimension.specs.Sizes.{axes_of, is_dimension, greatest_depth, halvings, root_count}
use Rattle.dimension.specs.declared.Dim.{Dim}
use Rattle.dimension.specs.Laws.{at_root, axes_dimension, count_some}
use Rattle.bisection.specs.Roots.{roots}
use Rattle.bisection.specs.Codes.{axis, orthant}
use Rattle.bisection.proofs.Theorems.Paths.{plain_minus}
use Rattle.bisection.proofs.Theorems.Passing.{orthant_only}
use Rattle.entries.specs.Masks.{high_none}
use Rattle.entries.specs.Walks.{place_in, place_under, place_within}
use Rattle.positions.specs.Positions.{start_of}
use Rattle.positions.specs.RootNumbers.{roots_good, roots_length, roots_count}
use Rattle.fours.specs.declared.Four.{Four}
use Rattle.fours.specs.Fours.{four, no_entries}
use Rattle.fours.specs.Laws.{four_of}
use Rattle.next.specs.declared.Next.{Next}
use Rattle.next.specs.Paths.{steps, number, start_number}
use Rattle.next.specs.Names.{name_at, all_boxes, Rooted, rooted_range, rooted_some, name_passes_at}
use Rattle.next.specs.Digits.{digits_none}
use Rattle.next.specs.Nexts.{next_of, Stands, FirstIs}

-- the entries of a list, filled up with zeros
padded : (es : List ℕ) → length es ≤ 4 → get_or es 0 0 ∷ get_or es 1 0 ∷ get_or es 2 0 ∷ get_or es 3 0 ∷ [] ≡ es ++ drop (length es) no_entries
padded [] h = refl
padded (a ∷ []) h = refl
padded (a ∷ (b ∷ [])) h = refl
padded (a ∷ (b ∷ (c ∷ []))) h = refl
padded (a ∷ (b ∷ (c ∷ (e ∷ [])))) h = refl
padded (a ∷ (b ∷ (c ∷ (e ∷ (x ∷ es))))) h = absurd (omega arith)

module _ (d n : ℕ) (dim : is_dimension d ≡ true) where
  abbrev root : List ℕ
  root = get_or (roots d) n []

  module _ (h : n < length (roots d)) where
    rooted : Rooted d root
    rooted = record { good = roots_good d dim n h; axes = roots_length d n h }

    plain : 0 ≡ orthant root
    unfolding name_at
    plain = orthant_only (name_passes_at rooted []).signed 0 (pow_pos d) (λ i l. plain_minus (get_or root i 0) (small i l) ∙ sym (high_none (axis (get_or root i 0))))
      where
        small : (i : ℕ) → i < d → get_or root i 0 < 128
        small i l = omega (arith, rooted.good.permutation.high i (omega (arith, rooted.axes)), rooted.axes, (rooted_range rooted).few)

    root_stands : (e : Four) → four e ≡ get_or root 0 0 ∷ get_or root 1 0 ∷ get_or root 2 0 ∷ get_or root 3 0 ∷ [] → Stands d (next_of e 0 0 0) root []
    unfolding name_at all_boxes number
    root_stands e q = record {
      cell = record {
        rooted = rooted;
        held = record {
          signed = (name_passes_at rooted []).signed;
          is = q ∙ padded root (omega (arith, rooted.axes, (rooted_range rooted).few))
              ∙ ap (λ (m : ℕ). root ++ drop m no_entries) rooted.axes;
        };
        path_is = refl;
        depth_is = refl;
      };
      deep = omega arith;
      boxes_are = digits_none halvings ∙ rw ((at_root d (rooted_some rooted)).0, ← plain) (ap (λ (m : ℕ). replicate m 0) all);
    }
      where
        all : halvings ≡ halvings - 0
        all = omega arith

-- the root whose entries are read
module _ (dim : Dim) (n : ℕ) {c p : ℕ} (c_is : c ≡ root_count (axes_of dim)) (p_is : p ≡ place_in n c) where
  pub root_under : p < root_count (axes_of dim)
  root_under = rw (p_is, c_is) (place_within n (root_count (axes_of dim)) (count_some (axes_of dim)))

  abbrev read : ℕ → ℕ
  read place = get_or (get_or (roots (axes_of dim)) p []) place 0

  pub first_is : {a b d e : ℕ} → a ≡ read 0 → b ≡ read 1 → d ≡ read 2 → e ≡ read 3 → FirstIs (axes_of dim) n (next_of (four_of a b d e) 0 0 0)
  first_is {a} {b} {d} {e} x y z u = record { first = λ h. root_stands (axes_of dim) n (axes_dimension dim) h (four_of a b d e) (rw (x, y, z, u, own h) refl) }
    where
      own : n < length (roots (axes_of dim)) → p ≡ n
      own h = rw (p_is, c_is) (place_under n (root_count (axes_of dim)) (subst (λ (m : ℕ). n < m) (roots_count (axes_of dim)) h))

-- the running position on the line costs one shift
pub stands_at : {d : ℕ} {s : Next} {root : List ℕ} {p : List Bool} → Stands d s root p → start_of (greatest_depth d) (steps p) ≡ s.path * 2 ^ (greatest_depth d - s.depth)
stands_at {d} {s} {root} {p} st = start_number (greatest_depth d) p st.deep ∙ rw (st.cell.path_is, st.cell.depth_is) refl
