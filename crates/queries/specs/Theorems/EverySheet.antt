-- Every good sheet has a leaf at every point of the cube: the point lies in some root, and where it lies in a cell above the limit,
-- in one of its halves.
use Rattle.std.specs.Prelude.{◌≡◌, refl, List, [], ◌∷◌, ◌++◌, ◌⊎◌, ℕ, zero, suc, ◌≤◌, length, get_or}
use Rattle.std.proofs.Common.{sym, ap, ◌∙◌, inl, inr, arith, le_refl}
use Rattle.dimension.specs.Sizes.{greatest_depth}
use Rattle.bisection.specs.Cells.{Point, cell_of}
use Rattle.bisection.specs.Roots.{GoodRoot, roots}
use Rattle.bisection.specs.Weights.{Inside}
use Rattle.positions.specs.RootNumbers.{roots_good, roots_length}
use Rattle.sheets.specs.Sheets.{GoodSheet}
use Rattle.points.specs.Points.{InCube}
use Rattle.points.proofs.Theorems.Cells.{one_longer, halves, dec_inside}
use Rattle.ways.specs.Ways.{Way}
use Rattle.ways.specs.WayLaws.{way_start, way_more}
use Rattle.ways.specs.InRoot.{InRoot, in_root}
use Rattle.queries.specs.Queries.{LeafAt}
use Rattle.queries.specs.Theorems.OnTheWay.{Found, leaf_on_way}

-- a way of n steps
record Down (root : List ℕ) (p : Point) (n : ℕ) : Type 0 where
  path : List ℕ
  size : length path ≡ n
  way : Way root path p

module _ (root : List ℕ) (good : GoodRoot root) {p : Point} (dims : length p ≡ length root) where
  step : (n : ℕ) → suc n ≤ greatest_depth (length root) → Down root p n → Down root p (suc n)
  step n l o = go (dec_inside root good dims (o.path ++ 0 ∷ []) (omega (arith, one_longer o.path 0, o.size))) (halves root good dims o.path (omega (arith, o.size)) o.way.inside)
    where
      on : (s : ℕ) → Way root (o.path ++ s ∷ []) p → Down root p (suc n)
      on s w = record { path = o.path ++ s ∷ []; size = one_longer o.path s ∙ ap suc o.size; way = w }

      go : Dec (Inside (cell_of root (o.path ++ 0 ∷ [])) p) → Inside (cell_of root (o.path ++ 0 ∷ [])) p ⊎ Inside (cell_of root (o.path ++ 1 ∷ [])) p → Down root p (suc n)
      go (yes i) h = on 0 (way_more o.way 0 i (inl refl))
      go (no k) (inl i) = absurd (k i)
      go (no k) (inr i) = on 1 (way_more o.way 1 i (inr (refl, k)))

  down : (n : ℕ) → n ≤ greatest_depth (length root) → Inside (cell_of root []) p → Down root p n
  down zero l i = record { path = []; size = refl; way = way_start i }
  down (suc n) l i = step n l (down n (omega arith) i)

pub record SomeLeaf {mark : List ℕ} {width : ℕ} {sheet : List ℕ} {n : ℕ} (g : GoodSheet mark width sheet n) (p : Point) : Type 0 where
  pub number : ℕ
  pub leaf_at : LeafAt g.cells p number

pub every_sheet : {mark : List ℕ} {width : ℕ} {sheet : List ℕ} {n : ℕ} (g : GoodSheet mark width sheet n) (p : Point) → InCube g.dimension p → SomeLeaf g p
every_sheet g p c = record { number = f.number; leaf_at = f.leaf_at }
  where
    r : InRoot g.dimension p
    r = in_root g.dimension g.has_dimension p c

    root : List ℕ
    root = get_or (roots g.dimension) r.number []

    axes : length (get_or (roots g.dimension) r.number []) ≡ g.dimension
    axes = roots_length g.dimension r.number r.first.small

    o : Down (get_or (roots g.dimension) r.number []) p (greatest_depth (length (get_or (roots g.dimension) r.number [])))
    o = down root (roots_good g.dimension g.has_dimension r.number r.first.small) (c.axes ∙ sym axes) (greatest_depth (length root)) (le_refl (greatest_depth (length root))) r.first.inside

    f : Found g.cells p (get_or (roots g.dimension) r.number []) o.path
    f = leaf_on_way g.has_dimension g.leaves c.axes r.first o.way (o.size ∙ ap greatest_depth axes)
