-- Behind the loop of the sheet check: a good sheet, or one that ended early.
use Rattle.std.specs.Prelude.{◌≡◌, refl, List, [], ◌∷◌, ◌++◌, ◌≢◌, ℕ, ◌≤◌, length, drop}
use Rattle.std.proofs.Common.{sym, ap, ◌∙◌, subst, append-nil, arith, length-drop, drop_of_length-le, take_all}
use Rattle.dimension.specs.Sizes.{axes_of, greatest_depth, root_count}
use Rattle.dimension.specs.Laws.{axes_dimension}
use Rattle.bisection.specs.declared.Refusal.{Refusal}
use Rattle.bisection.specs.Numbers.{number_of}
use Rattle.bisection.specs.NumberLaws.{refuses}
use Rattle.bisection.specs.Roots.{roots}
use Rattle.bisection.specs.Refusals.{done, refused_leaf}
use Rattle.positions.specs.RootNumbers.{roots_count, roots_some}
use Rattle.sheets.specs.declared.State.{State}
use Rattle.sheets.specs.Forests.{TreeCell, Leaves}
use Rattle.sheets.specs.Sheets.{GoodSheet, told, Checks, good}
use Rattle.sheets.specs.Sheets.{start, record_refused, ended_early}
use Rattle.sheets.specs.Theorems.Frontier.{Follows, end, good_follows, follows_good, follows_one}
use Rattle.sheets.specs.Theorems.Frontier as frontier
use Rattle.sheets.specs.Theorems.Listing.{Listed, listed_empty, cut}
use Rattle.sheets.specs.Theorems.Listing.{CellsIn, cells_within, listed_records, leaves_cells}
use Rattle.sheets.specs.Theorems.Listing.{same_dimension}
use Rattle.sheets.specs.Steps.{Shut, no_record, refused}
use Rattle.sheets.specs.Theorems.Good.{good_some}
use Rattle.sheets.specs.Progress.{Going, some_of, listed_good}

module _ {mark : List ℕ} {width : ℕ} {sheet : List ℕ} {s : State} (g : Going mark width sheet s) (le : length sheet ≤ s.offset) where
  at_end : s.offset ≡ length sheet
  at_end = omega (arith, g.behind.inside)

  all_listed : Listed mark width g.cells sheet
  all_listed = subst (Listed mark width g.cells) (take_all s.offset sheet le) g.behind.listed

  -- a good sheet has these cells and no more
  the_cells : {m : ℕ} (h : GoodSheet mark width sheet m) → h.cells ≡ g.cells
  the_cells h =
      let k = cut mark width [] all_listed (listed_good h) (sym (append-nil sheet)) in
      k.is ∙ ap (λ (l : List TreeCell). g.cells ++ l) (listed_empty mark width k.listed refl) ∙ append-nil g.cells

  over_in : {m : ℕ} (h : GoodSheet mark width sheet m) → (x : frontier.State) × Follows (frontier.state (roots h.dimension) []) g.cells x × (x.roots ≡ [])
  over_in h = good_follows (subst (Leaves (roots h.dimension) (greatest_depth h.dimension)) (the_cells h) h.leaves)

  -- and it has some
  some_cells : {m : ℕ} → GoodSheet mark width sheet m → g.cells ≢ []
  some_cells h a =
      let x = over_in h in
      let no_roots : roots h.dimension ≡ [] = ap (λ (x : frontier.State). x.roots) (follows_one end
      (subst (λ (l : List TreeCell). Follows (frontier.state (roots h.dimension) []) l x.0) a x.1)) ∙ x.2 in
      omega (arith, roots_some h.dimension, ap length no_roots)

  pub go_early : s.root ≢ root_count (axes_of s.dim) → Checks mark width sheet (told refused_leaf s.offset 0)
  go_early q = ended_early g.behind.reading at_end (λ m h. none h) refl
    where
      none : {m : ℕ} → GoodSheet mark width sheet m → ⊥
      none h =
          let x = over_in h in
          let e : h.dimension ≡ axes_of s.dim = same_dimension (some_of g.cells (some_cells h))
          (subst (CellsIn h.dimension) (the_cells h) (leaves_cells h.dimension h.has_dimension h.leaves)) g.ahead.cells_in in
          let f : Follows (frontier.state (roots (axes_of s.dim)) []) g.cells x.0 = subst (λ (d : ℕ). Follows (frontier.state (roots d) []) g.cells x.0) e x.1 in
          let none_left : drop s.root (roots (axes_of s.dim)) ≡ [] = ap (λ (x : frontier.State). x.roots) (follows_one g.ahead.follows f) ∙ x.2 in
          q (omega (arith, g.ahead.root_in, length-drop s.root (roots (axes_of s.dim)), ap length none_left, roots_count (axes_of s.dim)))

  pub go_good : s.root ≡ root_count (axes_of s.dim) → Checks mark width sheet (told done 0 s.records)
  go_good q = good (record {
    dimension = axes_of s.dim;
    has_dimension = axes_dimension s.dim;
    cells = g.cells;
    records = listed_records g.ahead.cells_in all_listed;
    count = g.behind.count;
    leaves = follows_good (subst (λ (rs : List (List ℕ)). Follows (frontier.state (roots (axes_of s.dim)) []) g.cells (frontier.state rs g.ahead.path)) none_left g.ahead.follows)
        (cells_within g.ahead.cells_in);
  }) refl
    where
      none_left : drop s.root (roots (axes_of s.dim)) ≡ []
      none_left = drop_of_length-le (roots (axes_of s.dim)) (omega (arith, roots_count (axes_of s.dim)))

-- before the loop: no record opens the sheet
pub shut_checks : {mark : List ℕ} {width : ℕ} {sheet : List ℕ} {x : Refusal} → Shut mark sheet x → Checks mark width sheet (told (number_of x) 0 0)
shut_checks {mark} {width} {sheet} (no_record z e) = ended_early start (sym z) (λ m h. omega (arith, good_some h, ap length (listed_empty mark width (listed_good h) (empty sheet z)))) (ap (λ (n : ℕ). told n 0 0) e)
  where
    empty : (l : List ℕ) → length l ≡ 0 → l ≡ []
    empty [] e = refl
    empty (b ∷ bs) e = absurd (omega arith)
shut_checks {width = width} {x = x} (refused h e) = record_refused start h (λ q. refuses x (e width ∙ q)) (ap (λ (n : ℕ). told n 0 0) (e width))
