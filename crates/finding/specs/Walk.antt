-- Reading a good sheet record by record: what stands at an offset, and how the next record is reached. Of a code its depth is read
-- alone; the dimension and the depth give it its length.
use Rattle.std.specs.Prelude.{◌≡◌, refl, List, [], ◌++◌, take}
use Rattle.std.proofs.Math.Path.{sym, ap}
use Rattle.std.proofs.Common.{◌∙◌, length-append, get_or-drop, drop-drop}
use Prim.Native.Nat.{ℕ, zero, suc, ◌+◌, ◌*◌, ◌≤◌, ◌<◌}
use native.Mathlib.Omega.{arith}
use Rattle.std.proofs.Math.ListN.{length, drop, length-drop}
use Rattle.std.proofs.Math.Seq.{drop_at, take_at}
use Rattle.dimension.specs.Sizes.{code_length}
use Rattle.bisection.specs.Codes.{code_of}
use Rattle.codes.specs.Fronts.{front_depth}
use Rattle.codes.specs.Fronts.Laws.{Fronted, code_fronted, front_path, code_length_is}
use Rattle.bisection.specs.Refusals.{done, code_refusal}
use Rattle.bisection.proofs.Theorems.CodePaths.{code_passes}
use Rattle.sheets.specs.Forests.{TreeCell, tree_cell}
use Rattle.sheets.specs.Sheets.{Records, none, more, samples_of, GoodSheet, leaf_in}
use Rattle.sheets.specs.Theorems.Listing.{GoodCell, code_of_cell, CellsIn, cells_none, cells_more, leaves_cells}

pub cell_at : {d : ℕ} {cs : List TreeCell} → CellsIn d cs → (i : ℕ) → i < length cs → GoodCell (leaf_in cs i) × (length (leaf_in cs i).root ≡ d)
cell_at cells_none i l = absurd (omega arith)
cell_at (cells_more g e c) zero l = (g, e)
cell_at (cells_more g e c) (suc i) l = cell_at c i (omega arith)

module _ {mark : List ℕ} {width : ℕ} {sheet : List ℕ} {n : ℕ} (g : GoodSheet mark width sheet n) where
  -- from an offset on, the records from a number on
  pub record From (number offset : ℕ) : Type 0 where
    pub left : List TreeCell
    pub left_is : drop number g.cells ≡ left
    pub bytes : List ℕ
    pub bytes_is : drop offset sheet ≡ bytes
    pub records : Records mark width g.dimension left bytes
    pub samples_are : (j : ℕ) → samples_of records j ≡ samples_of g.records (number + j)
    pub few : number ≤ offset
    pub inside : offset ≤ length sheet

  pub from_start : From 0 0
  from_start = record { left = g.cells; left_is = refl; bytes = sheet; bytes_is = refl; records = g.records; samples_are = λ j. ap (samples_of g.records) (omega arith); few = omega arith; inside = omega arith }

  pub leaf_good : (i : ℕ) → i < length g.cells → GoodCell (leaf_in g.cells i) × (length (leaf_in g.cells i).root ≡ g.dimension)
  leaf_good = cell_at (leaves_cells g.dimension g.has_dimension g.leaves)

  -- the code of leaf i; how deep it is, how many bytes stand before its record's samples, and how many it has in all
  abbrev code_at : ℕ → List ℕ
  code_at i = code_of (leaf_in g.cells i).root (leaf_in g.cells i).path

  abbrev pub depth_of : ℕ → ℕ
  depth_of i = length (leaf_in g.cells i).path

  abbrev pub head_of : ℕ → ℕ
  head_of i = length mark + code_length g.dimension (depth_of i)

  abbrev pub size_of : ℕ → ℕ
  size_of i = head_of i + width * suc g.dimension

  -- the record at an offset
  pub record Here (number offset : ℕ) : Type 0 where
    pub two : offset + length mark + 2 ≤ length sheet
    pub depth_is : front_depth (drop (offset + length mark) sheet) ≡ depth_of number
    pub code_is : take (code_length g.dimension (depth_of number)) (drop (offset + length mark) sheet) ≡ code_of (leaf_in g.cells number).root (leaf_in g.cells number).path
    pub room : offset + size_of number ≤ length sheet
    pub samples_are : take (width * suc g.dimension) (drop (offset + head_of number) sheet) ≡ samples_of g.records number
    pub next : From (suc number) (offset + size_of number)

  module _ {number offset : ℕ} (small : number < length g.cells) where
    here_by : {left : List TreeCell} {bytes : List ℕ} (rs : Records mark width g.dimension left bytes) → drop number g.cells ≡ left → drop offset sheet ≡ bytes
        → ((j : ℕ) → samples_of rs j ≡ samples_of g.records (number + j)) → number ≤ offset → offset ≤ length sheet → Here number offset
    unfolding samples_of
    here_by none e b a few inside = absurd (omega (arith, ap length e, length-drop number g.cells))
    here_by (more {c = c} {cs = cs} {rest = rest} samples size is rs) e b a few inside = record {
      two = omega (arith, whole, code_two);
      depth_is = ap front_depth behind ∙ fronted.depth ∙ front_path (code_of_cell good);
      code_is = ap (take (code_length g.dimension (depth_of number))) behind ∙ take_at (code_at number) (samples ++ rest) (code_length g.dimension (depth_of number)) code_size;
      room = omega (arith, whole);
      samples_are = ap (take (width * suc g.dimension)) at_samples ∙ take_at samples rest (width * suc g.dimension) size ∙ a 0 ∙ ap (samples_of g.records) (omega arith);
      next = record {
        left = cs;
        left_is = ap (λ (k : ℕ). drop k g.cells) (one number) ∙ sym (drop-drop 1 number g.cells) ∙ ap (drop 1) e;
        bytes = rest;
        bytes_is = ap (λ (k : ℕ). drop k sheet) (sum offset (head_of number) (width * suc g.dimension)) ∙ sym (drop-drop (width * suc g.dimension) (offset + head_of number) sheet) ∙ ap (drop (width * suc g.dimension)) at_samples ∙ drop_at samples rest (width * suc g.dimension) size;
        records = rs;
        samples_are = λ j. a (suc j) ∙ ap (samples_of g.records) (on number j);
        few = omega (arith, code_two);
        inside = omega (arith, whole);
      };
    }
      where
        one : (k : ℕ) → suc k ≡ k + 1
        one k = omega arith

        on : (k j : ℕ) → k + suc j ≡ suc k + j
        on k j = omega arith

        sum : (x y z : ℕ) → x + (y + z) ≡ x + y + z
        sum x y z = omega arith

        c_is : leaf_in g.cells number ≡ c
        c_is = ap (λ (k : ℕ). leaf_in g.cells k) (zero_more number) ∙ sym (get_or-drop number g.cells 0 (tree_cell [] [])) ∙ ap (λ (l : List TreeCell). leaf_in l 0) e
          where
            zero_more : (k : ℕ) → k ≡ k + 0
            zero_more k = omega arith

        good : GoodCell (leaf_in g.cells number)
        good = (leaf_good number small).0

        passes : code_refusal (code_at number) ≡ done
        passes = code_passes (leaf_in g.cells number).root (leaf_in g.cells number).path good.good_root good.good_path

        code_size : length (code_at number) ≡ code_length g.dimension (depth_of number)
        code_size = code_length_is (code_of_cell good) passes ∙ ap (λ (d : ℕ). code_length d (depth_of number)) (leaf_good number small).1

        code_two : 2 ≤ code_length g.dimension (depth_of number)
        code_two = unfold code_length in omega arith

        fronted : Fronted (code_at number) (samples ++ rest)
        fronted = code_fronted (code_at number) passes (samples ++ rest)

        at_record : drop offset sheet ≡ mark ++ (code_at number ++ (samples ++ rest))
        at_record = b ∙ is ∙ ap (λ (c : TreeCell). mark ++ (code_of c.root c.path ++ (samples ++ rest))) (sym c_is)

        behind : drop (offset + length mark) sheet ≡ code_at number ++ (samples ++ rest)
        behind = sym (drop-drop (length mark) offset sheet) ∙ ap (drop (length mark)) at_record ∙ drop_at mark (code_at number ++ (samples ++ rest)) (length mark) refl

        at_samples : drop (offset + head_of number) sheet ≡ samples ++ rest
        at_samples = ap (λ (k : ℕ). drop k sheet) (sum offset (length mark) (code_length g.dimension (depth_of number))) ∙ sym (drop-drop (code_length g.dimension (depth_of number)) (offset + length mark) sheet)
            ∙ ap (drop (code_length g.dimension (depth_of number))) behind ∙ drop_at (code_at number) (samples ++ rest) (code_length g.dimension (depth_of number)) code_size

        whole : length sheet ≡ offset + (length mark + (code_length g.dimension (depth_of number) + (width * suc g.dimension + length rest)))
        whole = omega (
          arith,
          length-drop offset sheet,
          inside,
          ap length at_record,
          length-append mark (code_at number ++ (samples ++ rest)),
          length-append (code_at number) (samples ++ rest),
          length-append samples rest,
          size,
          code_size,
        )

    pub here : From number offset → Here number offset
    here f = here_by f.records f.left_is f.bytes_is f.samples_are f.few f.inside
