-- The leaf at a point by sizes: the deepest cell on the way to a point lies in the part of the leaf at the point. So a search needs
-- the depths of the leaves alone.
use Rattle.std.specs.Prelude.{◌≡◌, refl, true, List, [], ◌∷◌, ◌++◌, ◌⊎◌, ℕ, zero, suc, ◌+◌, ◌-◌, ◌*◌, ◌^◌, ◌≤◌, ◌<◌, get_or}
use Rattle.std.proofs.Common.{sym, ◌∙◌, append_assoc, inl, inr, arith, pow_pos}
use Rattle.std.proofs.Math.Path.{ap}
use Rattle.std.proofs.Math.ListN.{length, length-append}
use Rattle.dimension.specs.Sizes.{is_dimension, greatest_depth}
use Rattle.bisection.specs.Cells.{Point, cell_of}
use Rattle.bisection.specs.Roots.{roots}
use Rattle.bisection.specs.Weights.{Inside}
use Rattle.positions.specs.Positions.{start_of, size_of}
use Rattle.positions.specs.RootNumbers.{number_in, roots_number}
use Rattle.sheets.specs.Forests.{TreeCell, Leaves}
use Rattle.sheets.specs.Sheets.{leaf_in}
use Rattle.sheets.specs.Theorems.Tiles.{leaves_tile}
use Rattle.finding.specs.Sizes.{sizes_to, sizes_rise, sizes_one, tiles_sum, start_joined}
use Rattle.ways.specs.Ways.{Way, LocatedIs}
use Rattle.ways.specs.declared.Located.{Located}
use Rattle.queries.specs.Theorems.OnTheWay.{Found, leaf_on_way}

way_small : {root way : List ℕ} {p : Point} → Way root way p → (front rest : List ℕ) → way ≡ front ++ rest → (n : ℕ) → length rest ≤ n → start_of n rest < 2 ^ n
unfolding start_of
way_small g front [] e n l = pow_pos n
way_small g front (b ∷ rest) e zero l = absurd (omega arith)
way_small {root} {way} {p} g front (b ∷ rest) e (suc n) l = rw one_less (bit (g.steps front rest b e) (way_small g (front ++ b ∷ []) rest (e ∙ sym (append_assoc front (b ∷ []) rest)) n (omega arith)))
  where
    one_less : suc n - 1 ≡ n
    one_less = omega arith

    bit : (b ≡ 0) ⊎ ((b ≡ 1) × (Inside (cell_of root (front ++ 0 ∷ [])) p → ⊥)) → start_of n rest < 2 ^ n → b * 2 ^ n + start_of n rest < 2 ^ suc n
    bit (inl z) h = rw z (omega arith)
    bit (inr z) h = rw z.0 (omega arith)

-- the leaf whose size carries the sum past the place of the way is the leaf at the point
module _ {d : ℕ} (e : is_dimension d ≡ true) {cs : List TreeCell} (v : Leaves (roots d) (greatest_depth d) cs) {p : Point} (dims : length p ≡ d) {r : Located} (g : LocatedIs d p r) where
  pub found : Found cs p (get_or (roots d) r.root []) g.way
  found = leaf_on_way e v dims g.first g.goes g.size

  pub leaf_starts : sizes_to (greatest_depth d) cs found.number + start_of (greatest_depth d - length (leaf_in cs found.number).path) found.rest ≡ r.root * 2 ^ greatest_depth d + r.position
  leaf_starts = omega (
    arith,
    tiles_sum d (greatest_depth d) 0 (leaves_tile (roots d) v) refl found.number found.leaf_at.number,
    ap (λ (root : List ℕ). number_in d root d * 2 ^ greatest_depth d) found.root_is,
    ap (λ (n : ℕ). n * 2 ^ greatest_depth d) (roots_number d r.root g.first.small),
    g.position,
    ap (start_of (greatest_depth d)) found.way_is,
    start_joined (greatest_depth d) (leaf_in cs found.number).path found.rest,
  )

  pub leaf_holds : start_of (greatest_depth d - length (leaf_in cs found.number).path) found.rest < size_of (greatest_depth d) (leaf_in cs found.number).path
  unfolding size_of
  leaf_holds = way_small g.goes (leaf_in cs found.number).path found.rest found.way_is (greatest_depth d - length (leaf_in cs found.number).path)
      (omega (arith, length-append (leaf_in cs found.number).path found.rest, ap length found.way_is, g.size))

  pub place_small : r.root * 2 ^ greatest_depth d + r.position < sizes_to (greatest_depth d) cs (length cs)
  place_small = omega (arith, leaf_starts, leaf_holds, sizes_rise (greatest_depth d) cs found.number (length cs) found.leaf_at.number found.leaf_at.number)

  pub leaf_by_sizes : (i : ℕ) → i < length cs → sizes_to (greatest_depth d) cs i ≤ r.root * 2 ^ greatest_depth d + r.position
      → r.root * 2 ^ greatest_depth d + r.position < sizes_to (greatest_depth d) cs i + size_of (greatest_depth d) (leaf_in cs i).path → found.number ≡ i
  leaf_by_sizes i l a b = sizes_one (greatest_depth d) cs (r.root * 2 ^ greatest_depth d + r.position) found.number i found.leaf_at.number l (omega (arith, leaf_starts)) (omega (arith, leaf_starts, leaf_holds)) a b

pub way_part : {d : ℕ} {p : Point} {r : Located} → LocatedIs d p r → r.position < 2 ^ greatest_depth d
way_part {d} g = rw g.position (way_small g.goes [] g.way refl (greatest_depth d) (omega (arith, g.size)))
