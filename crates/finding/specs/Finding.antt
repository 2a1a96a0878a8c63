-- A cell among the leaves of a good sheet: it is one of them, it lies in one of them, or it is split into some of them. That there is
-- exactly one of the three is proved in Theorems/OneOfThree.antt. What `find` answers, with an index that belongs to the sheet.
use Rattle.std.specs.Prelude.{◌≡◌, List, [], ◌++◌, ℕ, ◌+◌, ◌*◌, ◌^◌, ◌≤◌, ◌<◌, length, get_or}
use Rattle.dimension.specs.Sizes.{greatest_depth}
use Rattle.bisection.specs.Roots.{roots}
use Rattle.positions.specs.Positions.{start_of, size_of}
use Rattle.positions.specs.declared.Position.{Position}
use Rattle.sheets.specs.Forests.{TreeCell}
use Rattle.sheets.specs.Sheets.{GoodSheet, leaf_in}
use Rattle.sheets.specs.Theorems.Listing.{GoodCell}
use Rattle.finding.specs.declared.Ahead.{Ahead}
use Rattle.finding.specs.declared.Entry.{Entry}
use Rattle.finding.specs.declared.Run.{Run}
use Rattle.finding.specs.declared.Spread.{Spread}
use Rattle.finding.specs.declared.Found.{Found}
use Rattle.finding.specs.declared.Kind.{Kind}
use Rattle.finding.specs.declared.Kind.TheVariants.{Leaf, Inside, Split}
use Rattle.finding.specs.Sizes.{sizes_to}
use Rattle.finding.specs.Walk.{From}

-- cell a lies in cell b, or is b: on the same root, and its path goes on from b's
pub record LiesIn (a b : TreeCell) : Type 0 where
  pub root_is : a.root ≡ b.root
  pub rest : List ℕ
  pub path_is : a.path ≡ b.path ++ rest

-- it lies in b and is not b
pub record StrictlyIn (a b : TreeCell) : Type 0 where
  pub lies : LiesIn a b
  pub deeper : length b.path < length a.path

-- cell c among the leaves: it is leaf n, it lies in leaf n, or leaf n is the first of those that lie in it
pub data Among (cs : List TreeCell) (c : TreeCell) (n : ℕ) : Kind → Type 0 where
  is_leaf : n < length cs → leaf_in cs n ≡ c → Among cs c n Leaf
  inside : n < length cs → StrictlyIn c (leaf_in cs n) → Among cs c n Inside
  split : n < length cs → StrictlyIn (leaf_in cs n) c → ((j : ℕ) → j < n → LiesIn (leaf_in cs j) c → ⊥) → Among cs c n Split

-- where a cell stands on the line, as `position_of` answers of its code
pub record StandsAt (d : ℕ) (c : TreeCell) (p : Position) : Type 0 where
  pub root_small : p.root < length (roots d)
  pub root_is : get_or (roots d) p.root [] ≡ c.root
  pub start_is : p.start ≡ start_of (greatest_depth d) c.path
  pub size_is : p.size ≡ size_of (greatest_depth d) c.path

-- how far a place is ahead, in parts of a stretch
abbrev pub distance : ℕ → Ahead → ℕ
distance stretch a = a.stretches * stretch + a.part

-- entry e of an index
abbrev pub entry_in : List Entry → ℕ → Entry
entry_in index e = get_or index e (record { offset = 0; place = record { stretches = 0; part = 0 } })

-- an entry belongs to a record of a sheet of d axes: where it begins, and how far its leaf is from the front of the line
pub record EntryIs (d : ℕ) {mark : List ℕ} {width : ℕ} {sheet : List ℕ} {n : ℕ} (g : GoodSheet mark width sheet n) (number : ℕ) (e : Entry) : Type 0 where
  pub at : From g number e.offset
  pub place_is : distance (2 ^ greatest_depth d) e.place ≡ sizes_to (greatest_depth d) g.cells number
  pub part_small : e.place.part < 2 ^ greatest_depth d

-- so many entries belong to a sheet of d axes: the first to record number `first`, each next to one a stride behind
pub record RunIs (mark : List ℕ) (width : ℕ) (sheet : List ℕ) (d : ℕ) (index : List Entry) (r : Run) : Type 0 where
  pub count : ℕ
  pub good : GoodSheet mark width sheet count
  pub axes : good.dimension ≡ d
  pub some : 0 < r.entries
  pub room : r.at + r.entries ≤ length index
  pub goes : 1 ≤ r.stride
  pub entry : (e : ℕ) → e < r.entries → EntryIs d good (r.first + e * r.stride) (entry_in index (r.at + e))

-- an index belongs to a sheet of d axes: the coarse entries begin with the first record and leave no more than a stride behind the last
-- one, and the fine ones stand behind them
pub record Indexed (mark : List ℕ) (width : ℕ) (sheet : List ℕ) (d : ℕ) (index : List Entry) (r : Spread) : Type 0 where
  pub coarse : RunIs mark width sheet d index r.coarse
  pub front : r.coarse.first ≡ 0
  pub all : {n : ℕ} → GoodSheet mark width sheet n → n ≤ r.coarse.entries * r.coarse.stride
  pub fine : RunIs mark width sheet d index r.fine
  pub apart : r.coarse.at + r.coarse.entries ≤ r.fine.at

-- an index that belongs to the sheet, and a place before the end of the line
pub record FindReady (mark : List ℕ) (width : ℕ) (sheet : List ℕ) (d : ℕ) (index : List Entry) (spread : Spread) (p : Position) : Type 0 where
  pub indexed : Indexed mark width sheet d index spread
  pub root_small : p.root < length (roots d)
  pub start_small : p.start < 2 ^ greatest_depth d

-- what is found of a cell that stands there: the record, and which of the three it is
pub record FoundIs (mark : List ℕ) (width : ℕ) (sheet : List ℕ) (d : ℕ) (p : Position) (r : Found) : Type 0 where
  pub count : ℕ
  pub good : GoodSheet mark width sheet count
  pub axes : good.dimension ≡ d
  pub among : (c : TreeCell) → GoodCell c → StandsAt d c p → Among good.cells c r.sought.number r.kind
  pub small : r.sought.number < length good.cells
  pub at : From good r.sought.number r.sought.offset
  pub depth_is : r.sought.depth ≡ length (leaf_in good.cells r.sought.number).path
