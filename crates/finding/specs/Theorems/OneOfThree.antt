-- Every cell is among the leaves of a good sheet in exactly one of the three ways, and at one number: the leaf whose part of the line
-- holds the start of the cell.
use Rattle.std.specs.Prelude.{◌≡◌, refl, List, [], ◌∷◌, ◌++◌, ℕ, suc, ◌+◌, ◌*◌, ◌^◌, ◌≤◌, ◌<◌, length, get_or}
use Rattle.std.proofs.Common.{sym, ap, ◌∙◌, subst, append-nil, arith, mul-le-mul_right, length-append}
use Rattle.std.proofs.Math.Decide.{dec_lt}
use Rattle.dimension.specs.Sizes.{greatest_depth}
use Rattle.bisection.specs.Roots.{roots}
use Rattle.bisection.specs.Theorems.Paths.{Steps}
use Rattle.positions.specs.Positions.{start_of, size_of}
use Rattle.positions.specs.RootNumbers.{number_in, numbered}
use Rattle.sheets.specs.Forests.{TreeCell, tree_cell}
use Rattle.sheets.specs.Sheets.{GoodSheet, leaf_in}
use Rattle.sheets.specs.Theorems.Good.{good_tiles}
use Rattle.sheets.specs.Theorems.Listing.{GoodCell}
use Rattle.finding.specs.declared.Kind.{Kind}
use Rattle.finding.specs.declared.Kind.TheVariants.{Leaf, Inside, Split}
use Rattle.finding.specs.Finding.{LiesIn, Among, is_leaf, inside, split}
use Rattle.finding.specs.Sizes.{sizes_to, sizes_rise, sizes_one, Holds, sizes_some, tiles_sum, tiles_total}
use Rattle.finding.specs.Walk.{leaf_good}
use Rattle.finding.specs.Theorems.Nested.{part_ends, part_inside, size_some, size_longer, size_same, Nested, goes_on, begins, nested, same_stretch}

-- a cell of d axes, as a good sheet may have it
pub record CellOf (d : ℕ) (c : TreeCell) : Type 0 where
  pub good : GoodCell c
  pub axes : length c.root ≡ d

-- where a cell starts on the line of all roots, and how long its part is
abbrev pub starts : ℕ → TreeCell → ℕ
starts d c = number_in d c.root d * 2 ^ greatest_depth d + start_of (greatest_depth d) c.path

abbrev pub size : ℕ → TreeCell → ℕ
size d c = size_of (greatest_depth d) c.path

steps_of : {d : ℕ} {c : TreeCell} → CellOf d c → Steps c.path
steps_of g = record { small = g.good.good_path.steps }

deep : {d : ℕ} {c : TreeCell} → CellOf d c → length c.path ≤ greatest_depth d
deep {d} {c} g = rw (← g.axes) g.good.good_path.depth

pub ends : {d : ℕ} {c : TreeCell} → CellOf d c → start_of (greatest_depth d) c.path + size d c ≤ 2 ^ greatest_depth d
ends {d} {c} g = part_ends (greatest_depth d) c.path (steps_of g) (deep g)

pub start_under : {d : ℕ} {c : TreeCell} → CellOf d c → start_of (greatest_depth d) c.path < 2 ^ greatest_depth d
start_under {d} {c} g = omega (arith, ends g, size_some (greatest_depth d) c.path)

-- a root by its number
root_at : {d : ℕ} {c : TreeCell} → CellOf d c → (number_in d c.root d < length (roots d)) × (get_or (roots d) (number_in d c.root d) [] ≡ c.root)
root_at {d} {c} g = let n = numbered c.root g.good.good_root.permutation in
    subst (λ (n : ℕ). (number_in n c.root n < length (roots n)) × (get_or (roots n) (number_in n c.root n) [] ≡ c.root)) g.axes (n.small, n.is)

root_by : {d : ℕ} {a c : TreeCell} → CellOf d a → CellOf d c → number_in d a.root d ≡ number_in d c.root d → a.root ≡ c.root
root_by {d} {a} {c} g h e = sym (root_at g).1 ∙ ap (λ (n : ℕ). get_or (roots d) n []) e ∙ (root_at h).1

-- a cell that lies in another has its part there
pub lies_part : {d : ℕ} {a b : TreeCell} → CellOf d a → CellOf d b → LiesIn a b → (starts d b ≤ starts d a) × (starts d a + size d a ≤ starts d b + size d b)
lies_part {d} {a} {b} g h l = (omega (arith, same, parts), omega (arith, same, parts))
  where
    same : number_in d a.root d * 2 ^ greatest_depth d ≡ number_in d b.root d * 2 ^ greatest_depth d
    same = ap (λ (r : List ℕ). number_in d r d * 2 ^ greatest_depth d) l.root_is

    parts : (start_of (greatest_depth d) b.path ≤ start_of (greatest_depth d) a.path) × (start_of (greatest_depth d) a.path + size d a ≤ start_of (greatest_depth d) b.path + size d b)
    parts = rw l.path_is (part_inside (greatest_depth d) b.path l.rest (subst Steps l.path_is (steps_of g)) (rw (← l.path_is) (deep g)))

-- which of the three, by how long the parts of a leaf and of a cell are
pub data KindIs (leaf cell : ℕ) : Kind → Type 0 where
  same : leaf ≡ cell → KindIs leaf cell Leaf
  larger : cell < leaf → KindIs leaf cell Inside
  smaller : leaf < cell → KindIs leaf cell Split

kinds_one : {leaf leaf' cell : ℕ} {k k' : Kind} → leaf ≡ leaf' → KindIs leaf cell k → KindIs leaf' cell k' → k ≡ k'
kinds_one e (same a) (same b) = refl
kinds_one e (same a) (larger b) = absurd (omega arith)
kinds_one e (same a) (smaller b) = absurd (omega arith)
kinds_one e (larger a) (same b) = absurd (omega arith)
kinds_one e (larger a) (larger b) = refl
kinds_one e (larger a) (smaller b) = absurd (omega arith)
kinds_one e (smaller a) (same b) = absurd (omega arith)
kinds_one e (smaller a) (larger b) = absurd (omega arith)
kinds_one e (smaller a) (smaller b) = refl

record SomeKind (leaf cell : ℕ) : Type 0 where
  kind : Kind
  is : KindIs leaf cell kind

kind_of : (leaf cell : ℕ) → SomeKind leaf cell
kind_of leaf cell = go (dec_lt leaf cell) (dec_lt cell leaf)
  where
    go : Dec (leaf < cell) → Dec (cell < leaf) → SomeKind leaf cell
    go (yes a) b = record { kind = Split; is = smaller a }
    go (no a) (yes b) = record { kind = Inside; is = larger b }
    go (no a) (no b) = record { kind = Leaf; is = same (omega arith) }

none_left : (path rest : List ℕ) → length (path ++ rest) ≡ length path → path ++ rest ≡ path
none_left path [] e = append-nil path
none_left path (x ∷ rest) e = absurd (omega (arith, length-append path (x ∷ rest)))

module _ {mark : List ℕ} {width : ℕ} {sheet : List ℕ} {n : ℕ} (g : GoodSheet mark width sheet n) where
  abbrev M : ℕ
  M = greatest_depth g.dimension

  abbrev leaf_at : ℕ → TreeCell
  leaf_at i = leaf_in g.cells i

  pub leaf_cell : (i : ℕ) → i < length g.cells → CellOf g.dimension (leaf_at i)
  leaf_cell i l = let h = leaf_good g i l in record { good = h.0; axes = h.1 }

  -- a leaf starts where the sizes of those before it add up to
  pub leaf_starts : (i : ℕ) → i < length g.cells → starts g.dimension (leaf_at i) ≡ sizes_to M g.cells i
  leaf_starts i l = tiles_sum g.dimension M 0 (good_tiles g) refl i l ∙ omega arith

  module _ {c : TreeCell} (h : CellOf g.dimension c) where
    abbrev place : ℕ
    place = starts g.dimension c

    -- the line ends behind every cell
    place_in : place < sizes_to M g.cells (length g.cells)
    place_in = omega (arith, tiles_total (good_tiles g), ends h, size_some M c.path, mul-le-mul_right {m = suc (number_in g.dimension c.root g.dimension)} {n = length (roots g.dimension)} (2 ^ M) (root_at h).0)

    module _ {i : ℕ} (o : Holds M g.cells place i) where
      l : CellOf g.dimension (leaf_at i)
      l = leaf_cell i o.small

      number_is : number_in g.dimension (leaf_at i).root g.dimension ≡ number_in g.dimension c.root g.dimension
      number_is = same_stretch (2 ^ M) (number_in g.dimension (leaf_at i).root g.dimension) (number_in g.dimension c.root g.dimension) (start_of M (leaf_at i).path) (start_of M c.path) (size_of M (leaf_at i).path)
          (omega (arith, o.low, leaf_starts i o.small)) (omega (arith, o.high, leaf_starts i o.small)) (ends l) (start_under h)

      root_is : (leaf_at i).root ≡ c.root
      root_is = root_by l h number_is

      same_part : number_in g.dimension (leaf_at i).root g.dimension * 2 ^ M ≡ number_in g.dimension c.root g.dimension * 2 ^ M
      same_part = ap (λ (k : ℕ). k * 2 ^ M) number_is

      nests : Nested M (leaf_at i).path c.path
      nests = nested M (leaf_at i).path c.path (steps_of l) (steps_of h) (deep l) (deep h) (omega (arith, o.low, leaf_starts i o.small, same_part)) (omega (arith, o.high, leaf_starts i o.small, same_part))

      -- no leaf before one that starts with the cell lies in the cell
      first : starts g.dimension (leaf_at i) ≡ place → (j : ℕ) → j < i → LiesIn (leaf_at j) c → ⊥
      first e j k v = let s : j < length g.cells = omega (arith, o.small) in
          omega (arith, (lies_part (leaf_cell j s) h v).0, leaf_starts j s, leaf_starts i o.small, sizes_rise M g.cells j i k s, size_some M (leaf_at j).path)

      -- which of the three it is
      pub among_by : {k : Kind} → KindIs (size g.dimension (leaf_at i)) (size g.dimension c) k → Among g.cells c i k
      among_by = by nests
        where
          same_length : (rest : List ℕ) → c.path ≡ (leaf_at i).path ++ rest → (length (leaf_at i).path < length c.path → ⊥) → length c.path ≡ length (leaf_at i).path
          same_length rest is q = omega (arith, ap length is, length-append (leaf_at i).path rest)

          on : (rest : List ℕ) → c.path ≡ (leaf_at i).path ++ rest → Dec (length (leaf_at i).path < length c.path) → {k : Kind} → KindIs (size g.dimension (leaf_at i)) (size g.dimension c) k → Among g.cells c i k
          on rest is (yes q) (same e) = absurd (omega (arith, size_longer M (leaf_at i).path c.path q (deep h)))
          on rest is (yes q) (larger e) = inside o.small (record { lies = record { root_is = sym root_is; rest = rest; path_is = is }; deeper = q })
          on rest is (yes q) (smaller e) = absurd (omega (arith, size_longer M (leaf_at i).path c.path q (deep h)))
          on rest is (no q) (same e) = let p = is ∙ none_left (leaf_at i).path rest (sym (ap length is) ∙ same_length rest is q) in
              is_leaf o.small (ap (λ (r : List ℕ). tree_cell r (leaf_at i).path) root_is ∙ ap (tree_cell c.root) (sym p))
          on rest is (no q) (larger e) = absurd (omega (arith, size_same M c.path (leaf_at i).path (same_length rest is q)))
          on rest is (no q) (smaller e) = absurd (omega (arith, size_same M c.path (leaf_at i).path (same_length rest is q)))

          by : Nested M (leaf_at i).path c.path → {k : Kind} → KindIs (size g.dimension (leaf_at i)) (size g.dimension c) k → Among g.cells c i k
          by (goes_on rest is) k = on rest is (dec_lt (length (leaf_at i).path) (length c.path)) k
          by (begins rest is k e) (same f) = absurd (omega (arith, size_longer M c.path (leaf_at i).path k (deep l)))
          by (begins rest is k e) (larger f) = absurd (omega (arith, size_longer M c.path (leaf_at i).path k (deep l)))
          by (begins rest is k e) (smaller f) = split o.small (record { lies = record { root_is = root_is; rest = rest; path_is = is }; deeper = k }) (first (omega (arith, e, same_part)))

    -- every cell is among the leaves in one of the three ways
    pub record OneWay : Type 0 where
      pub number : ℕ
      pub kind : Kind
      pub among : Among g.cells c number kind
      pub holds : Holds M g.cells place number

    pub cell_among : OneWay
    cell_among = let o = sizes_some M g.cells place place_in in let k = kind_of (size g.dimension (leaf_at o.number)) (size g.dimension c) in
        record { number = o.number; kind = k.kind; among = among_by o.holds k.is; holds = o.holds }

    -- the leaf's part holds the start of the cell
    among_holds : {i : ℕ} {k : Kind} → Among g.cells c i k → Holds M g.cells place i
    among_holds {i} (is_leaf s e) = let same_start = ap (starts g.dimension) e in record { small = s; low = omega (arith, same_start, leaf_starts i s); high = omega (arith, same_start, leaf_starts i s, size_some M (leaf_at i).path) }
    among_holds {i} (inside s v) = let part = lies_part h (leaf_cell i s) v.lies in
        record { small = s; low = omega (arith, part, leaf_starts i s); high = omega (arith, part, leaf_starts i s, size_some M c.path) }
    among_holds {i} (split s v none) = subst (Holds M g.cells place) (sym (is cell_among.among cell_among.holds (dec_lt i cell_among.number) (dec_lt cell_among.number i))) cell_among.holds
      where
        part : (place ≤ starts g.dimension (leaf_at i)) × (starts g.dimension (leaf_at i) + size g.dimension (leaf_at i) ≤ place + size g.dimension c)
        part = lies_part (leaf_cell i s) h v.lies

        -- a leaf before it would lie in the cell, or hold both
        early : {m : ℕ} {k : Kind} → Among g.cells c m k → m < i → ⊥
        early {m} (is_leaf t e) l = none m l (record { root_is = ap (λ (x : TreeCell). x.root) e; rest = []; path_is = ap (λ (x : TreeCell). x.path) e ∙ sym (append-nil c.path) })
        early {m} (split t w f) l = none m l w.lies
        early {m} (inside t w) l = let outer = lies_part h (leaf_cell m t) w.lies in
            omega (arith, part, outer, leaf_starts i s, leaf_starts m t, sizes_rise M g.cells m i l t, size_some M (leaf_at i).path)

        is : {m : ℕ} {k : Kind} → Among g.cells c m k → Holds M g.cells place m → Dec (i < m) → Dec (m < i) → i ≡ m
        is {m} a o (yes q) r = absurd (omega (arith, part, o.low, leaf_starts i s, sizes_rise M g.cells i m q s, size_some M (leaf_at i).path))
        is a o (no q) (yes r) = absurd (early a r)
        is a o (no q) (no r) = omega arith

    among_kind : {i : ℕ} {k : Kind} → Among g.cells c i k → KindIs (size g.dimension (leaf_at i)) (size g.dimension c) k
    among_kind {i} (is_leaf s e) = same (ap (size g.dimension) e)
    among_kind {i} (inside s v) = larger (size_longer M (leaf_at i).path c.path v.deeper (deep h))
    among_kind {i} (split s v none) = smaller (size_longer M c.path (leaf_at i).path v.deeper (deep (leaf_cell i s)))

    -- and in one way only
    pub among_one : {i j : ℕ} {k k' : Kind} → Among g.cells c i k → Among g.cells c j k' → (i ≡ j) × (k ≡ k')
    among_one {i} {j} a b = (number_one, kinds_one (ap (λ (n : ℕ). size g.dimension (leaf_at n)) number_one) (among_kind a) (among_kind b))
      where
        number_one : i ≡ j
        number_one = let p = among_holds a in let q = among_holds b in sizes_one M g.cells place i j p.small q.small p.low p.high q.low q.high
