-- What holds of a good sheet: its leaves are in tree order with no gap and no overlap, and its bytes determine its
-- dimension, its leaves, its forest and the number of its records.
use Rattle.std.specs.Prelude.{◌≡◌, refl, List, [], ◌∷◌, ◌++◌, ℕ, ◌<◌, length}
use Rattle.std.proofs.Common.{sym, ap, ◌∙◌, subst, arith}
use Rattle.dimension.specs.Sizes.{greatest_depth}
use Rattle.bisection.specs.Roots.{roots}
use Rattle.positions.specs.RootNumbers.{roots_some}
use Rattle.positions.specs.DictionaryOrder.{roots_rise}
use Rattle.sheets.specs.Forests.{TreeCell, root_cells, Leaves, InOrder}
use Rattle.sheets.specs.Sheets.{GoodSheet}
use Rattle.sheets.specs.Theorems.Frontier.{State, state, Follows, end, leaf, Split, follows_split, good_follows, follows_one}
use Rattle.sheets.specs.Theorems.Listing.{Listed, listed_none, listed_more, Cut, cut, CellsIn, cells_front, same_dimension, records_listed, leaves_cells}
use Rattle.sheets.specs.Theorems.Determined.{good_cells}
use Rattle.sheets.specs.Theorems.Tiles.{Tiles, leaves_tile, trees_of, forest_one}
use Rattle.sheets.specs.Theorems.Order.{leaves_in_order}

module _ {mark : List ℕ} {width : ℕ} {sheet : List ℕ} {n : ℕ} (g : GoodSheet mark width sheet n) where
  pub good_in_order : InOrder g.cells
  good_in_order = leaves_in_order (roots g.dimension) (roots_rise g.dimension) g.leaves

  pub good_tiles : Tiles (greatest_depth g.dimension) (roots g.dimension) 0 g.cells
  good_tiles = leaves_tile (roots g.dimension) g.leaves

  pub good_some : 0 < length g.cells
  good_some = go g.cells g.leaves
    where
      go : (cs : List TreeCell) → Leaves (roots g.dimension) (greatest_depth g.dimension) cs → 0 < length cs
      go [] v = let f = good_follows v in let e : roots g.dimension ≡ [] = ap (λ (s : State). s.roots) (follows_one end f.1) ∙ f.2 in absurd (omega (arith, roots_some g.dimension, ap length e))
      go (c ∷ cs) v = omega arith

  module _ {n' : ℕ} (g' : GoodSheet mark width sheet n') where
    pub same_cells : g.cells ≡ g'.cells
    same_cells = good_cells mark width sheet g g'

    pub same_count : n ≡ n'
    same_count = sym g.count ∙ ap length same_cells ∙ g'.count

    pub same_axes : g.dimension ≡ g'.dimension
    same_axes = same_dimension good_some (leaves_cells g.dimension g.has_dimension g.leaves) (subst (CellsIn g'.dimension) (sym same_cells) (leaves_cells g'.dimension g'.has_dimension g'.leaves))

    pub same_forest : trees_of g.leaves.forest ≡ trees_of g'.leaves.forest
    same_forest = forest_one (ap (λ (d : ℕ). root_cells (roots d)) same_axes) same_cells g.leaves.forest g'.leaves.forest

-- what is behind a good sheet's last leaf is no sheet's: a good sheet begins no other
past_end : {s u : State} {cs : List TreeCell} → s.roots ≡ [] → Follows s cs u → cs ≡ []
past_end e end = refl
past_end e (leaf n f) = absurd (let z : ◌≡◌ {A = ℕ} 0 1 = cc in omega arith)

pub good_alone : {mark : List ℕ} {width : ℕ} {front rest : List ℕ} {n m : ℕ} → GoodSheet mark width front n → GoodSheet mark width (front ++ rest) m → rest ≡ []
good_alone {mark} {width} {front} {rest} g h = listed_rest k.listed none_behind
  where
    listed : {sheet : List ℕ} {n : ℕ} (g : GoodSheet mark width sheet n) → Listed mark width g.cells sheet
    listed g = records_listed (leaves_cells g.dimension g.has_dimension g.leaves) g.records

    k : Cut mark width h.cells g.cells rest
    k = cut mark width rest (listed g) (listed h) refl

    cells_h : CellsIn h.dimension (g.cells ++ k.behind)
    cells_h = subst (CellsIn h.dimension) k.is (leaves_cells h.dimension h.has_dimension h.leaves)

    axes : h.dimension ≡ g.dimension
    axes = same_dimension (good_some g) (cells_front g.cells k.behind cells_h) (leaves_cells g.dimension g.has_dimension g.leaves)

    whole : (x : State) × Follows (state (roots g.dimension) []) (g.cells ++ k.behind) x × (x.roots ≡ [])
    whole = subst (λ (d : ℕ). (x : State) × Follows (state (roots d) []) (g.cells ++ k.behind) x × (x.roots ≡ [])) axes
        (good_follows (subst (Leaves (roots h.dimension) (greatest_depth h.dimension)) k.is h.leaves))

    parts : Split (state (roots g.dimension) []) g.cells k.behind whole.0
    parts = follows_split g.cells k.behind whole.1

    none_behind : k.behind ≡ []
    none_behind = past_end (ap (λ (s : State). s.roots) (follows_one parts.front (good_follows g.leaves).1) ∙ (good_follows g.leaves).2) parts.back

    listed_rest : {cs : List TreeCell} {r : List ℕ} → Listed mark width cs r → cs ≡ [] → r ≡ []
    listed_rest listed_none e = refl
    listed_rest (listed_more a b c d f) e = absurd (let z : ◌≡◌ {A = ℕ} 0 1 = cc in omega arith)
