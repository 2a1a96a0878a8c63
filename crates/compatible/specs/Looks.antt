-- One look at a cell: what is found of it tells whether it is matched. A cell that is a leaf or split is present. One that lies inside a
-- leaf is matched exactly where that leaf is its parent and the place is that of its newest vertex, since every cell is among the leaves
-- in one way only.
use Rattle.std.specs.Prelude.{◌≡◌, Bool, true, false, List, ℕ, ◌+◌, ◌^◌, ◌≤◌, ◌<◌, length, T, eqb, ◌⊎◌}
use Rattle.std.proofs.Common.{inl, inr, sym, ap, ◌∙◌, subst, subst₂, arith, eqb-true}
use Rattle.std.proofs.lemmas.Bool.{eqb-false}
use Rattle.dimension.specs.Sizes.{is_dimension, greatest_depth, split_place}
use Rattle.dimension.specs.Laws.{dimension, depth_small}
use Rattle.bisection.specs.Roots.{roots}
use Rattle.bisection.specs.Codes.{IsCodeOf}
use Rattle.bisection.specs.Refusals.{done, code_refusal}
use Rattle.bisection.proofs.Theorems.CodePaths.{one_path}
use Rattle.codes.specs.Fronts.{front_dimension, front_depth}
use Rattle.codes.specs.Fronts.Laws.{front_root, front_path, code_two}
use Rattle.positions.specs.declared.Position.{Position}
use Rattle.positions.specs.Positions.{PositionIs}
use Rattle.sheets.specs.Forests.{TreeCell, tree_cell, Leaves}
use Rattle.sheets.specs.Sheets.{GoodSheet, leaf_in}
use Rattle.sheets.specs.Theorems.Good.{same_cells}
use Rattle.finding.specs.declared.Entry.{Entry}
use Rattle.finding.specs.declared.Spread.{Spread}
use Rattle.finding.specs.declared.Found.{Found}
use Rattle.finding.specs.declared.Kind.TheVariants.{Leaf, Inside, Split}
use Rattle.finding.specs.Finding.{Among, is_leaf, inside, split as split_into, StandsAt, Indexed, FindReady, FoundIs}
use Rattle.finding.specs.Finds.{code_stands, stands_ready}
use Rattle.finding.specs.Records.{good_axes}
use Rattle.finding.specs.Walk.{leaf_good}
use Rattle.finding.specs.Theorems.OneOfThree.{CellOf}
use Rattle.rings.specs.Rings.{Present, leaf, split, Matched, present}
use Rattle.rings.proofs.Theorems.Leaves.{inside_matched, matched_inside}

-- an index of a good sheet, and a code of its dimension that passes
pub record LookReady (mark : List ℕ) (width : ℕ) (sheet : List ℕ) (d : ℕ) (index : List Entry) (spread : Spread) (code : List ℕ) : Type 0 where
  pub indexed : Indexed mark width sheet d index spread
  pub passes : code_refusal code ≡ done
  pub axes : front_dimension code ≡ d

-- yes exactly where the code's cell is matched, its new vertex at place j
pub record LookIs (mark : List ℕ) (width : ℕ) (sheet : List ℕ) (d : ℕ) (code : List ℕ) (j : ℕ) (r : Bool) : Type 0 where
  pub yes : r ≡ true → {m : ℕ} (g : GoodSheet mark width sheet m) (n : TreeCell) → IsCodeOf code n.root n.path → Matched d g.cells n j
  pub no : r ≡ false → {m : ℕ} (g : GoodSheet mark width sheet m) (n : TreeCell) → IsCodeOf code n.root n.path → Matched d g.cells n j → ⊥

-- no leaf is deep, so that a few more fit
pub found_fits : {mark : List ℕ} {width : ℕ} {sheet : List ℕ} {d : ℕ} {p : Position} {r : Found} → FoundIs mark width sheet d p r → {n : ℕ} → n ≤ 60 → r.sought.depth + n < 2 ^ 64
found_fits {r = r} f l = let h = (leaf_good f.good r.sought.number f.small).0 in let axes = length (leaf_in f.good.cells r.sought.number).root in
    omega (arith, f.depth_is, h.good_path.depth, depth_small axes (dimension axes h.good_root.dimension))

module _ {mark : List ℕ} {width : ℕ} {sheet : List ℕ} {d : ℕ} {index : List Entry} {spread : Spread} {code : List ℕ} (ready : LookReady mark width sheet d index spread code) where
  pub look_two : 2 ≤ length code
  look_two = code_two code ready.passes

  look_known : is_dimension d ≡ true
  look_known = good_axes ready.indexed.coarse.good ready.indexed.coarse.axes

  module _ {p : Position} (at : PositionIs code p) where
    abbrev own : TreeCell
    own = tree_cell at.root at.path

    own_cell : CellOf d own
    own_cell = record { good = record { good_root = at.is_code.good_root; good_path = at.is_code.good_path }; axes = sym (front_root at.is_code) ∙ ready.axes }

    own_stands : StandsAt d own p
    own_stands = subst (λ (n : ℕ). StandsAt n own p) own_cell.axes (code_stands at)

    pub look_find : FindReady mark width sheet d index spread p
    look_find = stands_ready ready.indexed own_cell.good own_stands

    among : {r : Found} (f : FoundIs mark width sheet d p r) → Among f.good.cells own r.sought.number r.kind
    among f = f.among own own_cell.good own_stands

    module _ {r : Found} (f : FoundIs mark width sheet d p r) {j : ℕ} where
      -- it is enough to know of one cell and one list of leaves: the code has one cell, and the sheet one list
      look_by : {b : Bool} → (b ≡ true → Matched d f.good.cells own j) → (b ≡ false → Matched d f.good.cells own j → ⊥) → LookIs mark width sheet d code j b
      look_by is not = record {
        yes = λ z g n c. subst₂ (λ (cs : List TreeCell) (e : TreeCell). Matched d cs e j) (same_cells f.good g) (one n c) (is z);
        no = λ z g n c v. not z (subst₂ (λ (cs : List TreeCell) (e : TreeCell). Matched d cs e j) (sym (same_cells f.good g)) (sym (one n c)) v);
      }
        where
          one : (n : TreeCell) → IsCodeOf code n.root n.path → own ≡ n
          one n c = let o = one_path at.is_code c in λ k. record { root = o.0 k; path = o.1 k }

      look_present : Present f.good.cells own → LookIs mark width sheet d code j true
      look_present v = look_by (λ z. present v) (λ z. absurd (subst T z tt))

      pub look_there : (r.kind ≡ Leaf) ⊎ (r.kind ≡ Split) → LookIs mark width sheet d code j true
      look_there (inl q) = go (subst (Among f.good.cells own r.sought.number) q (among f))
        where
          go : Among f.good.cells own r.sought.number Leaf → LookIs mark width sheet d code j true
          go (is_leaf l is) = look_present (leaf (record { number = r.sought.number; small = l; is = is }))
      look_there (inr q) = go (subst (Among f.good.cells own r.sought.number) q (among f))
        where
          go : Among f.good.cells own r.sought.number Split → LookIs mark width sheet d code j true
          go (split_into l s first) = look_present (split (record { number = r.sought.number; small = l; inside = s }))

      module _ (q : r.kind ≡ Inside) {depth : ℕ} (deep : depth ≡ front_depth code) where
        -- yes exactly where that leaf is its parent and the place is that of its newest vertex
        look_inside : {b : Bool} → (b ≡ true → (r.sought.depth + 1 ≡ depth) × (j ≡ split_place d r.sought.depth)) → (b ≡ false → r.sought.depth + 1 ≡ depth → j ≡ split_place d r.sought.depth → ⊥) → LookIs mark width sheet d code j b
        look_inside {b} is not = go (subst (Among f.good.cells own r.sought.number) q (among f))
          where
            leaves : Leaves (roots d) (greatest_depth d) f.good.cells
            leaves = subst (λ (n : ℕ). Leaves (roots n) (greatest_depth n) f.good.cells) f.axes f.good.leaves

            go : Among f.good.cells own r.sought.number Inside → LookIs mark width sheet d code j b
            go (inside l s) = look_by (λ z. inside_matched d look_known leaves l s (omega (arith, is z, deep, f.depth_is, front_path at.is_code)) ((is z).1 ∙ ap (split_place d) f.depth_is))
                (λ z v. let o = matched_inside d look_known leaves l s v in not z (omega (arith, o.0, deep, f.depth_is, front_path at.is_code)) (o.1 ∙ ap (split_place d) (sym f.depth_is)))

        -- the leaf is not its parent
        pub look_no_parent : (r.sought.depth + 1 ≡ depth → ⊥) → LookIs mark width sheet d code j (eqb (r.sought.depth + 1) depth)
        look_no_parent n = look_inside (λ z. absurd (n (eqb-true (r.sought.depth + 1) depth z))) (λ z e p. n e)

        -- the leaf is its parent: the place decides
        pub look_parent : r.sought.depth + 1 ≡ depth → {k : ℕ} → k ≡ split_place d r.sought.depth → LookIs mark width sheet d code j (eqb j k)
        look_parent e {k} is = look_inside (λ z. (e, eqb-true j k z ∙ is)) (λ z e p. eqb-false j k z (p ∙ sym is))
