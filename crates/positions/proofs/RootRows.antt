-- That the table of all roots is right, computed once.
use Rattle.std.specs.Prelude.{◌≡◌, refl, Bool, true, [], ℕ, ◌+◌, ◌-◌, ◌*◌, ◌/◌, ◌%◌, ◌^◌, ◌<◌, eqb, get_or}
use Rattle.std.proofs.Common.{eqb-true}
use Rattle.dimension.specs.declared.Dim.{Dim}
use Rattle.dimension.specs.declared.Dim.TheVariants.{Two, Three, Four}
use Rattle.dimension.specs.Sizes.{axes_of, root_count}
use Rattle.bisection.specs.Roots.{roots, arrangements, picks, joined, axes_from}
use Rattle.bisection.specs.Refusals.{each}
use Rattle.bisection.proofs.Theorems.Checked.{each_at}
use Rattle.positions.specs.declared.roots.TheConstants.{ROOTS}
use Rattle.positions.specs.RootTable.{first_row}

-- entry by entry
abbrev pub root_digit : ℕ → ℕ
root_digit i = get_or ROOTS (i / 16) 0 / 2 ^ (60 - 4 * (i % 16)) % 16

abbrev right : ℕ → ℕ → ℕ → Bool
right d n place = eqb (root_digit (4 * (first_row d + n) + place)) (get_or (get_or (roots d) n []) place 0)

rows_right : (dim : Dim) → each (root_count (axes_of dim)) (λ n. each 4 (right (axes_of dim) n)) ≡ true
unfolding each root_count roots arrangements picks joined axes_from
rows_right Two = refl
rows_right Three = refl
rows_right Four = refl

pub row_is : (dim : Dim) (n place : ℕ) {row : ℕ} → row ≡ first_row (axes_of dim) → n < root_count (axes_of dim) → place < 4
    → root_digit (4 * (row + n) + place) ≡ get_or (get_or (roots (axes_of dim)) n []) place 0
row_is dim n place e h l = rw e (eqb-true (root_digit (4 * (first_row (axes_of dim) + n) + place)) (get_or (get_or (roots (axes_of dim)) n []) place 0)
    (each_at 4 (right (axes_of dim) n) (each_at (root_count (axes_of dim)) (λ n. each 4 (right (axes_of dim) n)) (rows_right dim) n h) place l))
