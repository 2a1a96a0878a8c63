-- An index of a checked sheet: its entries, the walk from one to the next, and how it is filled.
use Rattle.std.specs.Prelude.{◌≡◌, refl, List, ℕ, suc, ◌+◌, ◌-◌, ◌*◌, ◌/◌, ◌^◌, ◌≤◌, ◌<◌, length, set, min}
use Rattle.std.proofs.Common.{◌∙◌, subst, arith, mul-le-mul_right, le_of_mul-le-mul_right, lt_of_mul-lt-mul_right, mul_comm, div-add-mod', mod-lt, add-mul, suc-mul, length-set, pow_pos, get_or-set_same, get_or-set_other}
use Rattle.std.proofs.Math.Decide.{dec_lt}
use Rattle.dimension.specs.Sizes.{greatest_depth, code_length}
use Rattle.bisection.specs.Roots.{roots}
use Rattle.codes.specs.Fronts.{front_depth}
use Rattle.positions.specs.RootNumbers.{roots_few}
use Rattle.sheets.specs.Sheets.{GoodSheet}
use Rattle.sheets.specs.Theorems.Good.{good_some, same_count}
use Rattle.finding.specs.declared.Ahead.{Ahead}
use Rattle.finding.specs.declared.Entry.{Entry}
use Rattle.finding.specs.declared.Run.{Run}
use Rattle.finding.specs.declared.Spread.{Spread}
use Rattle.finding.specs.Finding.{distance, entry_in, EntryIs, RunIs, Indexed}
use Rattle.finding.specs.Sizes.{sizes_none, sizes_next, sizes_rise}
use Rattle.finding.specs.Walk.{from_start}
use Rattle.finding.specs.Distances.{JoinReady, JoinedIs}
use Rattle.finding.specs.Records.{onward, good_total, AtRecord, record_known, record_stretch, record_size, record_part, record_next}

-- the entry of the first record
abbrev front : Entry
front = record { offset = 0; place = record { stretches = 0; part = 0 } }

-- a walk from the entry of a record over so many records
pub record WalkReady (mark : List ℕ) (width : ℕ) (sheet : List ℕ) (d : ℕ) (from : Entry) (records : ℕ) : Type 0 where
  pub count : ℕ
  pub good : GoodSheet mark width sheet count
  pub axes : good.dimension ≡ d
  pub number : ℕ
  pub entry : EntryIs d good number from
  pub last : number + records ≤ length good.cells

-- whatever record of whatever sheet the first entry belongs to, the second belongs to the one so many behind it
pub record WalkedIs (mark : List ℕ) (width : ℕ) (sheet : List ℕ) (d : ℕ) (from : Entry) (records : ℕ) (r : Entry) : Type 0 where
  pub reaches : {n : ℕ} (g : GoodSheet mark width sheet n) → g.dimension ≡ d → (number : ℕ) → number + records ≤ length g.cells → EntryIs d g number from → EntryIs d g (number + records) r

pub record Walking (mark : List ℕ) (width : ℕ) (sheet : List ℕ) (d : ℕ) (from : Entry) (records stretch n offset : ℕ) (place : Ahead) : Type 0 where
  pub ready : WalkReady mark width sheet d from records
  pub long : length sheet < 2 ^ 64
  pub stretch_is : stretch ≡ 2 ^ greatest_depth d
  pub walked : WalkedIs mark width sheet d from n (record { offset = offset; place = place })

module _ {mark : List ℕ} {width : ℕ} {sheet : List ℕ} {d : ℕ} {from : Entry} {records : ℕ} where
  pub walk_start : {stretch : ℕ} → WalkReady mark width sheet d from records → stretch ≡ 2 ^ greatest_depth d → length sheet < 2 ^ 64 → Walking mark width sheet d from records stretch 0 from.offset from.place
  walk_start r e l = record { ready = r; long = l; stretch_is = e; walked = record { reaches = λ g e n l h. subst (λ (k : ℕ). EntryIs d g k from) (omega arith) h } }

  module _ {stretch n offset : ℕ} {place : Ahead} (w : Walking mark width sheet d from records stretch n offset place) where
    -- in whatever sheet: the record, and its entry
    module _ {m : ℕ} (g : GoodSheet mark width sheet m) (e : g.dimension ≡ d) (number : ℕ) (l : number + n < length g.cells) (h : EntryIs d g number from) where
      abbrev entry_there : EntryIs d g (number + n) (record { offset = offset; place = place })
      entry_there = w.walked.reaches g e number (omega arith) h

      abbrev record_in : AtRecord mark width sheet d (number + n) offset
      record_in = record { count = m; good = g; axes = e; long = w.long; small = l; at = entry_there.at }

    module _ (more : n < records) where
      abbrev pub walk_at : AtRecord mark width sheet d (w.ready.number + n) offset
      walk_at = record_in w.ready.good w.ready.axes w.ready.number (omega (arith, w.ready.last)) w.ready.entry

      module _ {depth : ℕ} (is : depth ≡ front_depth (onward sheet (offset + length mark))) {size : ℕ} (power : size ≡ 2 ^ (greatest_depth d - depth)) where
        pub walk_join : JoinReady place size stretch
        walk_join = record { part_small = omega (arith, there.part_small, w.stretch_is); size_small = rw w.stretch_is (record_part walk_at is power); fits = rw w.stretch_is (record_stretch walk_at); few = omega (arith, few) }
          where
            there : EntryIs d w.ready.good (w.ready.number + n) (record { offset = offset; place = place })
            there = entry_there w.ready.good w.ready.axes w.ready.number walk_at.small w.ready.entry

            few : place.stretches ≤ 24
            few = le_of_mul-le-mul_right {m = place.stretches} {n = 24} {k = 2 ^ greatest_depth d} (omega (
              arith,
              there.place_is,
              sizes_rise (greatest_depth d) w.ready.good.cells (w.ready.number + n) (length w.ready.good.cells) walk_at.small walk_at.small,
              good_total w.ready.good w.ready.axes,
              mul-le-mul_right {m = length (roots d)} {n = 24} (2 ^ greatest_depth d) (roots_few d (record_known walk_at)),
            )) (pow_pos (greatest_depth d))

        pub walk_next : {step : ℕ} → step ≡ length mark + (code_length d depth + width * suc d) → {after : Ahead} → JoinedIs place size stretch after
            → Walking mark width sheet d from records stretch (n + 1) (offset + step) after
        walk_next {step} is_step {after} j = record {
          ready = w.ready;
          long = w.long;
          stretch_is = w.stretch_is;
          walked = record {
            reaches = λ g e number l h. let small : number + n < length g.cells = omega arith in let r = record_in g e number small h in subst (λ (k : ℕ). EntryIs d g k (record { offset = offset + step; place = after })) (omega arith) (record {
              at = record_next r is is_step;
              place_is = omega (arith, (entry_there g e number small h).place_is, sizes_next (greatest_depth d) g.cells (number + n) small, record_size r is power, subst (λ (k : ℕ). distance k after ≡ distance k place + size) w.stretch_is j.sum);
              part_small = rw (← w.stretch_is) j.part_small;
            });
          };
        }

    pub walk_end : n ≤ records → records ≤ n → WalkedIs mark width sheet d from records (record { offset = offset; place = place })
    walk_end l m = subst (λ (k : ℕ). WalkedIs mark width sheet d from k (record { offset = offset; place = place })) (omega arith) w.walked

abbrev pub run_by : ℕ → ℕ → ℕ → ℕ → Run
run_by at entries first stride = record { at = at; entries = entries; first = first; stride = stride }

-- ---- entries are filled, one behind the other

-- a run of records that a sheet has, its first entry, and room for all of them
pub record FillReady (mark : List ℕ) (width : ℕ) (sheet : List ℕ) (d : ℕ) (index : List Entry) (from : Entry) (run : Run) : Type 0 where
  pub count : ℕ
  pub good : GoodSheet mark width sheet count
  pub axes : good.dimension ≡ d
  pub entry : EntryIs d good run.first from
  pub goes : 1 ≤ run.stride
  pub some : 0 < run.entries
  pub last : run.first + run.entries * run.stride < count + run.stride
  pub room : run.at + run.entries ≤ length index

-- the entries belong to their records; those before the run's stay
pub record FilledIs (mark : List ℕ) (width : ℕ) (sheet : List ℕ) (d : ℕ) (before : List Entry) (run : Run) (after : List Entry) : Type 0 where
  pub size : length after ≡ length before
  pub kept : (i : ℕ) → i < run.at → entry_in after i ≡ entry_in before i
  pub run_is : RunIs mark width sheet d after run

-- in the loop: the first n entries, and the last one of them
pub record Filling (mark : List ℕ) (width : ℕ) (sheet : List ℕ) (d : ℕ) (before : List Entry) (run : Run) (n : ℕ) (index : List Entry) (entry : Entry) : Type 0 where
  pub from : Entry
  pub ready : FillReady mark width sheet d before from run
  pub long : length before < 2 ^ 64
  pub size : length index ≡ length before
  pub kept : (i : ℕ) → i < run.at → entry_in index i ≡ entry_in before i
  pub written : (i : ℕ) → i < n → EntryIs d ready.good (run.first + i * run.stride) (entry_in index (run.at + i))
  pub last : ℕ
  pub last_is : n ≡ suc last
  pub entry_is : EntryIs d ready.good (run.first + last * run.stride) entry

-- one entry more
module _ {mark : List ℕ} {width : ℕ} {sheet : List ℕ} {d count : ℕ} {good : GoodSheet mark width sheet count} (run : Run) (index : List Entry) (n : ℕ) (entry : Entry) where
  written_more : run.at + n < length index → EntryIs d good (run.first + n * run.stride) entry → ((i : ℕ) → i < n → EntryIs d good (run.first + i * run.stride) (entry_in index (run.at + i)))
      → (i : ℕ) → i < suc n → EntryIs d good (run.first + i * run.stride) (entry_in (set index (run.at + n) entry) (run.at + i))
  written_more room next written i l = go (dec_lt i n)
    where
      go : Dec (i < n) → EntryIs d good (run.first + i * run.stride) (entry_in (set index (run.at + n) entry) (run.at + i))
      go (yes q) = rw (get_or-set_other index (run.at + n) (run.at + i) entry front (λ e. omega arith)) (written i q)
      go (no q) = let e : i ≡ n = omega arith in rw (e, get_or-set_same index (run.at + n) entry front room) next

kept_more : (index : List Entry) (at n i : ℕ) (entry : Entry) → i < at → entry_in (set index (at + n) entry) i ≡ entry_in index i
kept_more index at n i entry l = get_or-set_other index (at + n) i entry front (λ e. omega arith)

module _ {mark : List ℕ} {width : ℕ} {sheet : List ℕ} {d : ℕ} {before : List Entry} {run : Run} where
  pub fill_first : {from : Entry} → FillReady mark width sheet d before from run → run.at < length before
  fill_first r = omega (arith, r.some, r.room)

  pub fill_start : {from : Entry} → FillReady mark width sheet d before from run → length before < 2 ^ 64 → Filling mark width sheet d before run 1 (set before run.at from) from
  fill_start {from} r l = record {
    from = from;
    ready = r;
    long = l;
    size = simp length-set;
    kept = λ i h. rw at_zero at (kept_more before run.at 0 i from h);
    written = λ i h. rw at_zero at (written_more run before 0 from (omega (arith, fill_first r)) here (λ i l. absurd (omega arith)) i h);
    last = 0;
    last_is = refl;
    entry_is = here;
  }
    where
      at_zero : run.at + 0 ≡ run.at
      at_zero = omega arith

      here : EntryIs d r.good (run.first + 0 * run.stride) from
      here = subst (λ (k : ℕ). EntryIs d r.good k from) (omega arith) r.entry

  module _ {n : ℕ} {index : List Entry} {entry : Entry} (s : Filling mark width sheet d before run n index entry) where
    module _ (more : n < run.entries) where
      pub fill_room : run.at + n < length index
      fill_room = omega (arith, s.ready.room, s.size)

      next_number : run.first + s.last * run.stride + run.stride ≡ run.first + n * run.stride
      next_number = rw (s.last_is, suc-mul s.last run.stride) (omega arith)

      next_small : run.first + n * run.stride < s.ready.count
      next_small = omega (arith, s.ready.last, suc-mul n run.stride, mul-le-mul_right {m = suc n} {n = run.entries} run.stride more)

      next_last : run.first + s.last * run.stride + run.stride ≤ length s.ready.good.cells
      next_last = omega (arith, next_number, next_small, s.ready.good.count)

      pub fill_walk : WalkReady mark width sheet d entry run.stride
      fill_walk = record { count = s.ready.count; good = s.ready.good; axes = s.ready.axes; number = run.first + s.last * run.stride; entry = s.entry_is; last = next_last }

      pub fill_next : {entry' : Entry} → WalkedIs mark width sheet d entry run.stride entry' → Filling mark width sheet d before run (n + 1) (set index (run.at + n) entry') entry'
      fill_next {entry'} w = rw (one_more n) (record {
        from = s.from;
        ready = s.ready;
        long = s.long;
        size = simp length-set s.size;
        kept = λ i l. kept_more index run.at n i entry' l ∙ s.kept i l;
        written = written_more run index n entry' fill_room next s.written;
        last = n;
        last_is = refl;
        entry_is = next;
      })
        where
          one_more : (n : ℕ) → n + 1 ≡ suc n
          one_more n = omega arith

          next : EntryIs d s.ready.good (run.first + n * run.stride) entry'
          next = subst (λ (k : ℕ). EntryIs d s.ready.good k entry') next_number (w.reaches s.ready.good s.ready.axes (run.first + s.last * run.stride) next_last s.entry_is)

    pub fill_end : run.entries ≤ n → FilledIs mark width sheet d before run index
    fill_end l = record {
      size = s.size;
      kept = s.kept;
      run_is = record { count = s.ready.count; good = s.ready.good; axes = s.ready.axes; some = s.ready.some; room = omega (arith, s.ready.room, s.size); goes = s.ready.goes; entry = λ i h. s.written i (omega arith) };
    }

-- ---- the fine entries

-- the coarse entries of a sheet, and room behind them for fine ones about a record
pub record DrawReady (mark : List ℕ) (width : ℕ) (sheet : List ℕ) (d records : ℕ) (index : List Entry) (coarse : Run) (at number : ℕ) : Type 0 where
  pub good : GoodSheet mark width sheet records
  pub run : RunIs mark width sheet d index coarse
  pub front : coarse.first ≡ 0
  pub all : {n : ℕ} → GoodSheet mark width sheet n → n ≤ coarse.entries * coarse.stride
  pub apart : coarse.at + coarse.entries ≤ at
  pub room : at < length index
  pub small : number < records

-- entries that stay belong to their records as before
run_kept : {mark : List ℕ} {width : ℕ} {sheet : List ℕ} {d : ℕ} {before after : List Entry} {r : Run} → RunIs mark width sheet d before r → length after ≡ length before → ((i : ℕ) → i < r.at + r.entries → entry_in after i ≡ entry_in before i) → RunIs mark width sheet d after r
run_kept {r = r} i e kept = record { count = i.count; good = i.good; axes = i.axes; some = i.some; room = omega (arith, i.room, e); goes = i.goes; entry = λ n l. rw (kept (r.at + n) (omega arith)) (i.entry n l) }

module _ {mark : List ℕ} {width : ℕ} {sheet : List ℕ} {d records : ℕ} {index : List Entry} {coarse : Run} {at number : ℕ} (r : DrawReady mark width sheet d records index coarse at number) where
  -- the coarse entry of a record that is no later than another
  module _ {less : ℕ} (l : less ≤ number) where
    draw_before : less / coarse.stride * coarse.stride ≤ number
    draw_before = omega (arith, r.run.goes, div-add-mod' less coarse.stride)

    draw_few : less / coarse.stride < coarse.entries
    draw_few = lt_of_mul-lt-mul_right coarse.stride {m = less / coarse.stride} {n = coarse.entries} (omega (arith, draw_before, r.small, r.all r.good))

    pub draw_entry : coarse.at + less / coarse.stride < length index
    draw_entry = omega (arith, draw_few, r.run.room)

    pub draw_fill : {entries : ℕ} → entries ≡ min (length index - at) (records - less / coarse.stride * coarse.stride)
        → FillReady mark width sheet d index (entry_in index (coarse.at + less / coarse.stride)) (run_by at entries (less / coarse.stride * coarse.stride) 1)
    draw_fill k = record {
      count = r.run.count;
      good = r.run.good;
      axes = r.run.axes;
      entry = subst (λ (n : ℕ). EntryIs d r.run.good n (entry_in index (coarse.at + less / coarse.stride))) (omega (arith, r.front)) (r.run.entry (less / coarse.stride) draw_few);
      goes = omega arith;
      some = omega (arith, r.room, draw_before, r.small);
      last = omega (arith, same_count r.good r.run.good, draw_before, r.small);
      room = omega (arith, r.room);
    }

  pub draw_is : {after : List Entry} {entries first stride : ℕ} → FilledIs mark width sheet d index (run_by at entries first stride) after → Indexed mark width sheet d after (record { coarse = coarse; fine = run_by at entries first stride })
  draw_is f = record {
    coarse = run_kept r.run f.size (λ i l. f.kept i (omega (arith, r.apart)));
    front = r.front;
    all = r.all;
    fine = f.run_is;
    apart = r.apart;
  }

-- ---- the whole index

-- a sheet to be indexed, and room for ten entries
pub record IndexReady (mark : List ℕ) (width : ℕ) (sheet : List ℕ) (d records : ℕ) (index : List Entry) : Type 0 where
  pub good : GoodSheet mark width sheet records
  pub axes : good.dimension ≡ d
  pub some : 10 ≤ length index

module _ {mark : List ℕ} {width : ℕ} {sheet : List ℕ} {d records : ℕ} {index : List Entry} (r : IndexReady mark width sheet d records index) where
  abbrev share : ℕ
  share = length index - length index / 10

  abbrev stride : ℕ
  stride = (records - 1) / share + 1

  share_less : share < length index
  share_less = omega (arith, r.some, div-add-mod' (length index) 10, mod-lt (length index) {m = 10} (omega arith))

  pub index_some : 1 ≤ share
  index_some = omega (arith, r.some, div-add-mod' (length index) 10)

  pub index_records : 1 ≤ records
  index_records = omega (arith, good_some r.good, r.good.count)

  abbrev coarse : Run
  coarse = record { at = 0; entries = (records - 1) / stride + 1; first = 0; stride = stride }

  -- so many strides reach behind the last record, and no farther than one behind it
  reach : (room : ℕ) → 1 ≤ room → (records ≤ ((records - 1) / room + 1) * room) × (((records - 1) / room + 1) * room < records + room)
  reach room h = rw (add-mul ((records - 1) / room) 1 room) (omega (arith, div-add-mod' (records - 1) room, mod-lt (records - 1) h, index_records), omega (arith, div-add-mod' (records - 1) room, index_records))

  few : coarse.entries ≤ share
  few = omega (arith, lt_of_mul-lt-mul_right stride {m = (records - 1) / stride} {n = share} (omega (arith, div-add-mod' (records - 1) stride, (reach share index_some).0, mul_comm share stride, index_records)))

  pub index_fill : FillReady mark width sheet d index front coarse
  index_fill = record {
    count = records;
    good = r.good;
    axes = r.axes;
    entry = record { at = from_start r.good; place_is = omega (arith, sizes_none (greatest_depth d) r.good.cells); part_small = pow_pos (greatest_depth d) };
    goes = omega arith;
    some = omega arith;
    last = omega (arith, (reach stride (omega arith)).1);
    room = omega (arith, few);
  }

  pub index_draw : {after : List Entry} → FilledIs mark width sheet d index coarse after → DrawReady mark width sheet d records after coarse share 0
  index_draw {after} f = record {
    good = r.good;
    run = f.run_is;
    front = refl;
    all = λ g. omega (arith, (reach stride (omega arith)).0, same_count r.good g);
    apart = omega (arith, few);
    room = omega (arith, share_less, f.size);
    small = index_records;
  }

-- an index, and a record of its sheet
pub record AboutReady (mark : List ℕ) (width : ℕ) (sheet : List ℕ) (d records : ℕ) (index : List Entry) (spread : Spread) (number : ℕ) : Type 0 where
  pub indexed : Indexed mark width sheet d index spread
  pub good : GoodSheet mark width sheet records
  pub small : number < records

module _ {mark : List ℕ} {width : ℕ} {sheet : List ℕ} {d records : ℕ} {index : List Entry} {spread : Spread} {number : ℕ} (r : AboutReady mark width sheet d records index spread number) where
  pub about_draw : DrawReady mark width sheet d records index spread.coarse spread.fine.at number
  about_draw = record {
    good = r.good;
    run = r.indexed.coarse;
    front = r.indexed.front;
    all = r.indexed.all;
    apart = r.indexed.apart;
    room = omega (arith, r.indexed.fine.room, r.indexed.fine.some);
    small = r.small;
  }
