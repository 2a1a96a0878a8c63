-- A cell found by an index: the entry by halving, and the walk from there.
use Rattle.std.specs.Prelude.{◌≡◌, List, ℕ, suc, ◌+◌, ◌-◌, ◌*◌, ◌^◌, ◌≤◌, ◌<◌, length}
use Rattle.std.proofs.Math.Path.{refl}
use Rattle.std.proofs.Common.{sym, ap, ◌∙◌, subst, arith, mul-le-mul_right, pow_pos}
use Rattle.dimension.specs.Sizes.{greatest_depth}
use Rattle.bisection.specs.Roots.{roots}
use Rattle.positions.specs.Positions.{size_of, PositionIs}
use Rattle.positions.specs.declared.Position.{Position}
use Rattle.positions.specs.RootNumbers.{number_in, roots_length, roots_number}
use Rattle.sheets.specs.Forests.{TreeCell, tree_cell}
use Rattle.sheets.specs.Sheets.{GoodSheet, leaf_in}
use Rattle.sheets.specs.Theorems.Good.{same_cells}
use Rattle.sheets.specs.Theorems.Listing.{GoodCell}
use Rattle.finding.specs.declared.Ahead.{Ahead}
use Rattle.finding.specs.declared.Entry.{Entry}
use Rattle.finding.specs.declared.Run.{Run}
use Rattle.finding.specs.declared.Spread.{Spread}
use Rattle.finding.specs.declared.Sought.{Sought}
use Rattle.finding.specs.declared.Found.{Found}
use Rattle.finding.specs.declared.Kind.{Kind}
use Rattle.finding.specs.Finding.{distance, entry_in, EntryIs, RunIs, Indexed, Among, StandsAt, FindReady, FoundIs}
use Rattle.finding.specs.Theorems.OneOfThree.{CellOf, starts, start_under, KindIs, among_by}
use Rattle.finding.specs.Walk.{From, leaf_good}
use Rattle.finding.specs.Sizes.{sizes_to, sizes_none, Holds}
use Rattle.finding.specs.Distances.{ahead_by, NoLater, front_first, BetweenReady, BetweenIs}
use Rattle.finding.specs.Records.{good_axes, good_total, good_stretch}
use Rattle.finding.specs.Seeks.{placed, SeekReady, SoughtIs}

-- the first entry of a run
run_first : {mark : List ℕ} {width : ℕ} {sheet : List ℕ} {d : ℕ} {index : List Entry} {r : Run} (i : RunIs mark width sheet d index r) → EntryIs d i.good r.first (entry_in index r.at)
run_first {d = d} {index = index} {r = r} i = subst (λ (n : ℕ). EntryIs d i.good n (entry_in index r.at)) (omega arith) (subst (λ (n : ℕ). EntryIs d i.good (r.first + 0 * r.stride) (entry_in index n)) (omega arith) (i.entry 0 i.some))

-- the fine entries stand in the index
pub record RunsReady (index : List Entry) (spread : Spread) : Type 0 where
  pub some : 0 < spread.fine.entries
  pub room : spread.fine.at + spread.fine.entries ≤ length index

-- the coarse entries, or the fine ones, of which the first is no later than the place
pub data RunFor (index : List Entry) (spread : Spread) (place : Ahead) (r : Run) : Type 0 where
  by_coarse : r ≡ spread.coarse → RunFor index spread place r
  by_fine : r ≡ spread.fine → NoLater (entry_in index spread.fine.at).place place → RunFor index spread place r

-- among entries from `bottom` to before `top`: that at the low end is no later than the place
pub record Nearer (index : List Entry) (bottom top : ℕ) (place : Ahead) (low high : ℕ) : Type 0 where
  pub room : top ≤ length index
  pub first : bottom ≤ low
  pub order : low < high
  pub last : high ≤ top
  pub no_later : NoLater (entry_in index low).place place

pub record NearestIs (index : List Entry) (bottom top : ℕ) (place : Ahead) (r : ℕ) : Type 0 where
  pub first : bottom ≤ r
  pub small : r < top
  pub no_later : NoLater (entry_in index r).place place

-- ---- the record at a place, by entries

-- entries that belong to the sheet, of which the first is no later than a place before the end of the line
pub record RunReady (mark : List ℕ) (width : ℕ) (sheet : List ℕ) (d : ℕ) (index : List Entry) (run : Run) (place : Ahead) : Type 0 where
  pub run_is : RunIs mark width sheet d index run
  pub no_later : NoLater (entry_in index run.at).place place
  pub stretches_small : place.stretches < length (roots d)
  pub part_small : place.part < 2 ^ greatest_depth d

-- the record whose leaf's part of the line holds a place
pub record HeldIs (mark : List ℕ) (width : ℕ) (sheet : List ℕ) (d : ℕ) (place : Ahead) (r : Sought) : Type 0 where
  pub count : ℕ
  pub good : GoodSheet mark width sheet count
  pub axes : good.dimension ≡ d
  pub holds : Holds (greatest_depth d) good.cells (distance (2 ^ greatest_depth d) place) r.number
  pub at : From good r.number r.offset
  pub depth_is : r.depth ≡ length (leaf_in good.cells r.number).path

module _ {mark : List ℕ} {width : ℕ} {sheet : List ℕ} {d : ℕ} {index : List Entry} {run : Run} {place : Ahead} (r : RunReady mark width sheet d index run place) where
  module _ {at : ℕ} (near : NearestIs index run.at (run.at + run.entries) place at) where
    -- the record of the entry
    abbrev number : ℕ
    number = run.first + (at - run.at) * run.stride

    abbrev entry : Entry
    entry = entry_in index at

    run_entry : EntryIs d r.run_is.good number entry
    run_entry = subst (λ (n : ℕ). EntryIs d r.run_is.good number (entry_in index n)) (omega (arith, near.first)) (r.run_is.entry (at - run.at) (omega (arith, near.first, near.small)))

    module _ {stretch : ℕ} (stretch_is : stretch ≡ 2 ^ greatest_depth d) where
      pub run_between : BetweenReady entry.place place stretch
      run_between = rw stretch_is (record { order = near.no_later; from_small = omega (arith, run_entry.part_small); to_small = r.part_small; fits = good_stretch d (good_axes r.run_is.good r.run_is.axes) })

      module _ {ahead : Ahead} (b : BetweenIs entry.place place stretch ahead) where
        sum_is : distance (2 ^ greatest_depth d) ahead + distance (2 ^ greatest_depth d) entry.place ≡ distance (2 ^ greatest_depth d) place
        sum_is = subst (λ (n : ℕ). distance n ahead + distance n entry.place ≡ distance n place) stretch_is b.sum

        pub run_seek : SeekReady mark width sheet d number entry.offset ahead
        run_seek = record {
          count = r.run_is.count;
          good = r.run_is.good;
          axes = r.run_is.axes;
          at = run_entry.at;
          part_small = rw (← stretch_is) b.part_small;
          before_end = omega (arith, sum_is, run_entry.place_is, r.part_small, good_total r.run_is.good r.run_is.axes, mul-le-mul_right {m = suc place.stretches} {n = length (roots d)} (2 ^ greatest_depth d) r.stretches_small);
        }

        pub run_held : {sought : Sought} → SoughtIs mark width sheet d number entry.offset ahead sought → HeldIs mark width sheet d place sought
        run_held {sought} s = record {
          count = s.ready.count;
          good = s.ready.good;
          axes = s.ready.axes;
          holds = subst (λ (n : ℕ). Holds (greatest_depth d) s.ready.good.cells n sought.number) place_is s.holds;
          at = s.at;
          depth_is = s.depth_is;
        }
          where
            place_is : placed (greatest_depth d) s.ready.good.cells number ahead ≡ distance (2 ^ greatest_depth d) place
            place_is = omega (arith, sum_is, run_entry.place_is, ap (λ (cs : List TreeCell). sizes_to (greatest_depth d) cs number) (same_cells r.run_is.good s.ready.good))

-- ---- the cell among the leaves

-- a cell that stands among the roots of d axes
cell_stands : {d : ℕ} {c : TreeCell} {p : Position} → GoodCell c → StandsAt d c p → CellOf d c
cell_stands {d} {c} {p} g t = record { good = g; axes = ap length (sym t.root_is) ∙ roots_length d p.root t.root_small }

module _ {mark : List ℕ} {width : ℕ} {sheet : List ℕ} {d : ℕ} {index : List Entry} {spread : Spread} {p : Position} (r : FindReady mark width sheet d index spread p) where
  pub find_run : {run : Run} → RunFor index spread (ahead_by p.root p.start) run → RunReady mark width sheet d index run (ahead_by p.root p.start)
  find_run (by_coarse e) = rw e (record { run_is = r.indexed.coarse; no_later = front_first (2 ^ greatest_depth d) (pow_pos (greatest_depth d)) none_before; stretches_small = r.root_small; part_small = r.start_small })
    where
      none_before : distance (2 ^ greatest_depth d) (entry_in index spread.coarse.at).place ≡ 0
      none_before = (run_first r.indexed.coarse).place_is ∙ ap (sizes_to (greatest_depth d) r.indexed.coarse.good.cells) r.indexed.front ∙ sizes_none (greatest_depth d) r.indexed.coarse.good.cells
  find_run (by_fine e l) = rw e (record { run_is = r.indexed.fine; no_later = l; stretches_small = r.root_small; part_small = r.start_small })

module _ {mark : List ℕ} {width : ℕ} {sheet : List ℕ} {d root start : ℕ} {sought : Sought} (s : HeldIs mark width sheet d (ahead_by root start) sought) where
  abbrev leaf : TreeCell
  leaf = leaf_in s.good.cells sought.number

  pub find_deep : sought.depth ≤ greatest_depth d
  find_deep = let c = leaf_good s.good sought.number s.holds.small in
      omega (arith, s.depth_is, subst (λ (n : ℕ). length leaf.path ≤ greatest_depth n) (c.1 ∙ s.axes) c.0.good_path.depth)

  module _ {size : ℕ} (power : size ≡ 2 ^ (greatest_depth d - sought.depth)) {own : ℕ} {kind : Kind} (k : KindIs size own kind) where
    abbrev p : Position
    p = record { root = root; start = start; size = own }

    among : (c : TreeCell) → GoodCell c → StandsAt d c p → Among s.good.cells c sought.number kind
    among c g t = among_by s.good cell holds kind_is
      where
        number_is : number_in d c.root d ≡ p.root
        number_is = ap (λ (root : List ℕ). number_in d root d) (sym t.root_is) ∙ roots_number d p.root t.root_small

        cell : CellOf s.good.dimension c
        cell = subst (λ (n : ℕ). CellOf n c) (sym s.axes) (cell_stands g t)

        starts_is : p.root * 2 ^ greatest_depth d + p.start ≡ starts d c
        starts_is = omega (arith, t.start_is, ap (λ (n : ℕ). n * 2 ^ greatest_depth d) number_is)

        holds : Holds (greatest_depth s.good.dimension) s.good.cells (starts s.good.dimension c) sought.number
        holds = subst (λ (n : ℕ). Holds (greatest_depth n) s.good.cells (starts n c) sought.number) (sym s.axes)
            (subst (λ (n : ℕ). Holds (greatest_depth d) s.good.cells n sought.number) starts_is s.holds)

        leaf_size : size ≡ size_of (greatest_depth d) leaf.path
        leaf_size = unfold size_of in power ∙ rw s.depth_is refl

        kind_is : KindIs (size_of (greatest_depth s.good.dimension) leaf.path) (size_of (greatest_depth s.good.dimension) c.path) kind
        kind_is = subst (λ (n : ℕ). KindIs (size_of (greatest_depth n) leaf.path) (size_of (greatest_depth n) c.path) kind) (sym s.axes)
            (subst (λ (n : ℕ). KindIs n (size_of (greatest_depth d) c.path) kind) leaf_size (subst (λ (n : ℕ). KindIs size n kind) t.size_is k))

    pub find_is : FoundIs mark width sheet d p (record { kind = kind; sought = sought })
    find_is = record { count = s.count; good = s.good; axes = s.axes; among = among; small = s.holds.small; at = s.at; depth_is = s.depth_is }

-- what callers use: a code's position is that of its cell, it is ready to be found, and it is found in whatever good sheet they know
pub code_stands : {code : List ℕ} {p : Position} (w : PositionIs code p) → StandsAt (length w.root) (tree_cell w.root w.path) p
code_stands w = record { root_small = w.number; root_is = w.root_is; start_is = w.start_is; size_is = w.size_is }

pub stands_ready : {mark : List ℕ} {width : ℕ} {sheet : List ℕ} {d : ℕ} {index : List Entry} {spread : Spread} {p : Position} {c : TreeCell} → Indexed mark width sheet d index spread → GoodCell c → StandsAt d c p
    → FindReady mark width sheet d index spread p
stands_ready {d = d} {p = p} {c = c} i g t = record { indexed = i; root_small = t.root_small; start_small = rw t.start_is (start_under (cell_stands g t)) }

pub found_in : {mark : List ℕ} {width : ℕ} {sheet : List ℕ} {n d : ℕ} {p : Position} {r : Found} (g : GoodSheet mark width sheet n) → FoundIs mark width sheet d p r → {c : TreeCell} → GoodCell c → StandsAt d c p
    → Among g.cells c r.sought.number r.kind
found_in {r = r} g f {c} h t = subst (λ (cs : List TreeCell). Among cs c r.sought.number r.kind) (same_cells f.good g) (f.among c h t)
