-- Two cells, as ordered lists of points, are equal only if their codes are. Up to the place of its entry an axis
-- keeps its first coordinate, so the cell tells the places; the first step tells the side, and so the depth; near
-- and far tell the sign and the box, and the box its orthants.
use Rattle.std.specs.Prelude.{◌≡◌, Bool, true, false, cond, not, List, [], ◌∷◌, ◌≢◌, ℕ, zero, suc, ◌+◌, ◌*◌, ◌/◌, ◌%◌, ◌≤◌, ◌<◌, length, get_or}
use Rattle.std.proofs.Math.Path.{refl}
use Rattle.std.proofs.Common.{sym, ap, ◌∙◌, subst, arith, ext_get_or}
use Rattle.std.proofs.Math.Decide.{dec_lt, dec_le}
use Rattle.dimension.specs.Sizes.{halvings, greatest_depth, split_place, box_depth, box_side, side_after}
use Rattle.dimension.specs.Laws.{Side, side_of, split_range, box_in, side_same, side_pos, side_twice, depth_same}
use Rattle.bisection.specs.Cells.{Cell, cell_of}
use Rattle.bisection.specs.Codes.{axis, minus, high, Name, name_of, code_of, IsCodeOf}
use Rattle.bisection.specs.Theorems.Axis.{closed, near, far}
use Rattle.bisection.proofs.Theorems.Axis.{closed_near, closed_far, closed_middle}
use Rattle.bisection.proofs.Theorems.Orthants.{bits_same}
use Rattle.bisection.specs.Theorems.Entries.{Stands}
use Rattle.bisection.proofs.Theorems.Entries.{stands, entry_same}
use Rattle.bisection.specs.Theorems.Passing.{Passes}
use Rattle.bisection.specs.Theorems.Drawn.{Drawn, box_low, along, entry}
use Rattle.bisection.proofs.Theorems.CodePaths.{some_axes, name_passes}
use Rattle.bisection.proofs.Theorems.Geometry.{closed_form}
use Rattle.bisection.specs.Theorems.OneCode.{SameName}

-- near, far and middle are three
apart_middle : (lo s : ℕ) (n : Bool) → 0 < s → s % 2 ≡ 0 → lo + s / 2 ≢ near lo s n
apart_middle lo s true h e q = omega arith
apart_middle lo s false h e q = omega arith

apart_far : (lo s : ℕ) (n : Bool) → 0 < s → far lo s n ≢ near lo s n
apart_far lo s true h q = omega arith
apart_far lo s false h q = omega arith

middle_far : (lo s : ℕ) (n : Bool) → 0 < s → s % 2 ≡ 0 → lo + s / 2 ≢ far lo s n
middle_far lo s n = apart_middle lo s (not n)

-- after its place an axis has left its first coordinate
left_near : {d k s : ℕ} → Side d k s → (lo : ℕ) (n : Bool) (i j : ℕ) → i < j → j ≤ d → closed lo s n i k j ≢ near lo s n
left_near {d} {k} {s} w lo n i j h l q = go (dec_le j k)
  where
    go : Dec (j ≤ k) → ⊥
    go (yes c) = apart_far lo s n w.some (sym (closed_far lo s n i k j h c) ∙ q)
    go (no c) = apart_middle lo s n w.some (w.even (omega arith)) (sym (closed_middle lo s n i k j h (omega arith)) ∙ q)

-- near and far tell sign, side and low side
sides_tell : (lo lo' s s' : ℕ) (n n' : Bool) → 0 < s → near lo s n ≡ near lo' s' n' → far lo s n ≡ far lo' s' n' → (n ≡ n') × (s ≡ s') × (lo ≡ lo')
sides_tell lo lo' s s' true true h e f = (refl, omega arith, f)
sides_tell lo lo' s s' true false h e f = absurd (omega arith)
sides_tell lo lo' s s' false true h e f = absurd (omega arith)
sides_tell lo lo' s s' false false h e f = (refl, omega arith, e)

near_tells : (lo s : ℕ) (n n' : Bool) → 0 < s → near lo s n ≡ near lo s n' → n ≡ n'
near_tells lo s true true h e = refl
near_tells lo s true false h e = absurd (omega arith)
near_tells lo s false true h e = absurd (omega arith)
near_tells lo s false false h e = refl

-- one axis: equal rows have the entry at one place
module _ {d k k' s s' : ℕ} (w : Side d k s) (w' : Side d k' s') (lo lo' : ℕ) (n n' : Bool) (i i' : ℕ) (l : i < d) (l' : i' < d)
    (e : (j : ℕ) → j ≤ d → closed lo s n i k j ≡ closed lo' s' n' i' k' j) where
  same_near : near lo s n ≡ near lo' s' n'
  same_near = sym (closed_near lo s n i k 0 (omega arith)) ∙ e 0 (omega arith) ∙ closed_near lo' s' n' i' k' 0 (omega arith)

  not_before : i < i' → ⊥
  not_before h = left_near w lo n i (suc i) (omega arith) l (e (suc i) l ∙ closed_near lo' s' n' i' k' (suc i) h ∙ sym same_near)

  not_after : i' < i → ⊥
  not_after h = left_near w' lo' n' i' (suc i') (omega arith) l' (sym (e (suc i') l') ∙ closed_near lo s n i k (suc i') h ∙ same_near)

  same_place : i ≡ i'
  same_place = go (dec_lt i i') (dec_lt i' i)
    where
      go : Dec (i < i') → Dec (i' < i) → i ≡ i'
      go (yes h) r = absurd (not_before h)
      go (no h) (yes r) = absurd (not_after r)
      go (no h) (no r) = omega arith

-- the first axis tells the side and k
module _ {d k k' s s' : ℕ} (w : Side d k s) (w' : Side d k' s') (k1 : 1 ≤ k) (kd : k ≤ d) (k1' : 1 ≤ k') (kd' : k' ≤ d) (lo lo' : ℕ) (n n' : Bool)
    (e : (j : ℕ) → j ≤ d → closed lo s n 0 k j ≡ closed lo' s' n' 0 k' j) where
  told : (n ≡ n') × (s ≡ s') × (lo ≡ lo')
  told = sides_tell lo lo' s s' n n' w.some (sym (closed_near lo s n 0 k 0 (omega arith)) ∙ e 0 (omega arith) ∙ closed_near lo' s' n' 0 k' 0 (omega arith))
      (sym (closed_far lo s n 0 k 1 (omega arith) k1) ∙ e 1 (omega arith) ∙ closed_far lo' s' n' 0 k' 1 (omega arith) k1')

  same_side : s ≡ s'
  same_side = told.1

  far_same : far lo s n ≡ far lo' s' n'
  far_same = rw (told.0, told.1, told.2) refl

  same_split : k ≡ k'
  same_split = go (dec_lt k k') (dec_lt k' k)
    where
      go : Dec (k < k') → Dec (k' < k) → k ≡ k'
      go (yes h) r = absurd (middle_far lo s n w.some (w.even (omega arith)) (sym (closed_middle lo s n 0 k k' (omega arith) h) ∙ e k' kd' ∙ closed_far lo' s' n' 0 k' k' (omega arith) (omega arith) ∙ sym far_same))
      go (no h) (yes r) = absurd (middle_far lo' s' n' w'.some (w'.even (omega arith)) (sym (closed_middle lo' s' n' 0 k' k (omega arith) r) ∙ sym (e k kd) ∙ closed_far lo s n 0 k k (omega arith) (omega arith) ∙ far_same))
      go (no h) (no r) = omega arith

-- with one side and k, an axis tells its sign and low side
axis_tells : {d k s : ℕ} (w : Side d k s) (lo lo' : ℕ) (n n' : Bool) (i : ℕ) → i < d → ((j : ℕ) → j ≤ d → closed lo s n i k j ≡ closed lo' s n' i k j) → (n ≡ n') × (lo ≡ lo')
axis_tells {d} {k} {s} w lo lo' n n' i l e = go (dec_le (suc i) k)
  where
    first : near lo s n ≡ near lo' s n'
    first = sym (closed_near lo s n i k 0 (omega arith)) ∙ e 0 (omega arith) ∙ closed_near lo' s n' i k 0 (omega arith)

    go : Dec (suc i ≤ k) → (n ≡ n') × (lo ≡ lo')
    go (yes h) = let t : (n ≡ n') × (s ≡ s) × (lo ≡ lo') = sides_tell lo lo' s s n n' w.some first (sym (closed_far lo s n i k (suc i) (omega arith) h) ∙ e (suc i) l ∙ closed_far lo' s n' i k (suc i) (omega arith) h) in (t.0, t.2)
    go (no h) = (near_tells lo s n n' w.some (first ∙ ap (λ (u : ℕ). near u s n') (sym low)), low)
      where
        low : lo ≡ lo'
        low = omega (arith, sym (closed_middle lo s n i k (suc i) (omega arith) (omega arith)) ∙ e (suc i) l ∙ closed_middle lo' s n' i k (suc i) (omega arith) (omega arith))

-- a box tells its orthants, axis by axis
low_fits : (a M : ℕ) (os : List ℕ) → M + length os ≤ halvings → box_low a M os < side_after M
unfolding box_low
low_fits a M [] h = side_pos M (omega arith)
low_fits a M (o ∷ os) h = go (high o a) (low_fits a (suc M) os (omega arith)) (side_twice M (omega arith))
  where
    go : (t : Bool) → box_low a (suc M) os < side_after (suc M) → side_after M ≡ 2 * side_after (suc M) → cond t (side_after (suc M)) 0 + box_low a (suc M) os < side_after M
    go true f e = omega arith
    go false f e = omega arith

first_bit : (s x y : ℕ) (t u : Bool) → x < s → y < s → cond t s 0 + x ≡ cond u s 0 + y → (t ≡ u) × (x ≡ y)
first_bit s x y true true h l e = (refl, omega arith)
first_bit s x y true false h l e = absurd (omega arith)
first_bit s x y false true h l e = absurd (omega arith)
first_bit s x y false false h l e = (refl, omega arith)

low_tells : (a M : ℕ) (os os' : List ℕ) → length os ≡ length os' → M + length os ≤ halvings → box_low a M os ≡ box_low a M os' → (t : ℕ) → t < length os → high (get_or os t 0) a ≡ high (get_or os' t 0) a
unfolding box_low
low_tells a M [] os' z h e t l = absurd (omega arith)
low_tells a M (o ∷ os) [] z h e t l = absurd (omega arith)
low_tells a M (o ∷ os) (o' ∷ os') z h e t l =
    let q : (high o a ≡ high o' a) × (box_low a (suc M) os ≡ box_low a (suc M) os') = first_bit (side_after (suc M)) (box_low a (suc M) os) (box_low a (suc M) os') (high o a) (high o' a) (low_fits a (suc M) os (omega arith)) (low_fits a (suc M) os' (omega arith)) e in
    go t l q.0 (low_tells a (suc M) os os' (omega arith) (omega arith) q.1)
  where
    go : (t : ℕ) → t < length (o ∷ os) → high o a ≡ high o' a → ((t : ℕ) → t < length os → high (get_or os t 0) a ≡ high (get_or os' t 0) a) → high (get_or (o ∷ os) t 0) a ≡ high (get_or (o' ∷ os') t 0) a
    go zero l q r = q
    go (suc t) l q r = r t (omega arith)

module _ {d D D' : ℕ} {m m' : Name} {vs : Cell} (d0 : 0 < d) (h : D ≤ greatest_depth d) (h' : D' ≤ greatest_depth d)
    (p : Passes d D m) (p' : Passes d D' m') (r : Drawn d D m vs) (r' : Drawn d D' m' vs) where
  w : Side d (split_place d D) (box_side d D)
  w = side_of d D d0 h

  w' : Side d (split_place d D') (box_side d D')
  w' = side_of d D' d0 h'

  -- the entries have the same axes
  same_axis : (i : ℕ) → i < d → axis (entry m' i) ≡ axis (entry m i)
  same_axis i l = ap (λ (j : ℕ). axis (entry m' j)) (same_place w w' (box_low (axis (entry m i)) 0 m.orthants) (box_low (axis (entry m' t.place)) 0 m'.orthants) (minus (entry m i)) (minus (entry m' t.place)) i t.place l t.below
      (λ j q. sym (r.reads i l j q) ∙ ap (λ (a : ℕ). along vs a j) (sym t.is) ∙ r'.reads t.place t.below j q)) ∙ t.is
    where
      t : Stands m'.entries (axis (entry m i)) d
      t = stands p'.signed (axis (entry m i)) (p.signed.low i l) (p.signed.high i l)

  rows : (i : ℕ) → i < d → (j : ℕ) → j ≤ d → closed (box_low (axis (entry m i)) 0 m.orthants) (box_side d D) (minus (entry m i)) i (split_place d D) j
      ≡ closed (box_low (axis (entry m i)) 0 m'.orthants) (box_side d D') (minus (entry m' i)) i (split_place d D') j
  rows i l j q = sym (r.reads i l j q) ∙ subst (λ (a : ℕ). along vs a j ≡ closed (box_low a 0 m'.orthants) (box_side d D') (minus (entry m' i)) i (split_place d D') j) (same_axis i l) (r'.reads i l j q)

  kr : (1 ≤ split_place d D) × (split_place d D ≤ d)
  kr = split_range d D d0

  kr' : (1 ≤ split_place d D') × (split_place d D' ≤ d)
  kr' = split_range d D' d0

  side_is : box_side d D ≡ box_side d D'
  side_is = same_side w w' kr.0 kr.1 kr'.0 kr'.1 (box_low (axis (entry m 0)) 0 m.orthants) (box_low (axis (entry m 0)) 0 m'.orthants) (minus (entry m 0)) (minus (entry m' 0)) (rows 0 d0)

  split_is : split_place d D ≡ split_place d D'
  split_is = same_split w w' kr.0 kr.1 kr'.0 kr'.1 (box_low (axis (entry m 0)) 0 m.orthants) (box_low (axis (entry m 0)) 0 m'.orthants) (minus (entry m 0)) (minus (entry m' 0)) (rows 0 d0)

  box_is : box_depth d D ≡ box_depth d D'
  unfolding box_side
  box_is = side_same (box_depth d D) (box_depth d D') (box_in d D d0 h) (box_in d D' d0 h') side_is

  told_at : (i : ℕ) → i < d → (minus (entry m i) ≡ minus (entry m' i)) × (box_low (axis (entry m i)) 0 m.orthants ≡ box_low (axis (entry m i)) 0 m'.orthants)
  told_at i l = axis_tells w (box_low (axis (entry m i)) 0 m.orthants) (box_low (axis (entry m i)) 0 m'.orthants) (minus (entry m i)) (minus (entry m' i)) i l
      (λ j q. rows i l j q ∙ rw (side_is, split_is) refl)

  same_entries : m.entries ≡ m'.entries
  same_entries = ext_get_or 0 m.entries m'.entries (p.signed.size ∙ sym p'.signed.size)
      (λ i l. let q : i < d = omega (arith, p.signed.size) in entry_same (entry m i) (entry m' i) (sym (same_axis i q)) (told_at i q).0)

  same_count : length m.orthants ≡ length m'.orthants
  same_count = p.boxes.count ∙ box_is ∙ sym p'.boxes.count

  same_orthants : m.orthants ≡ m'.orthants
  same_orthants = ext_get_or 0 m.orthants m'.orthants same_count
      (λ t l. bits_same d (get_or m.orthants t 0) (get_or m'.orthants t 0) (p.boxes.fit t (omega (arith, p.boxes.count))) (p'.boxes.fit t (omega (arith, p.boxes.count, box_is)))
      (λ a la ua. bit t l (stands p.signed a la ua)))
    where
      fits : 0 + length m.orthants ≤ halvings
      fits = omega (arith, p.boxes.count, box_in d D d0 h)

      bit : (t : ℕ) → t < length m.orthants → {a : ℕ} → Stands m.entries a d → high (get_or m.orthants t 0) a ≡ high (get_or m'.orthants t 0) a
      bit t l s = subst (λ (a : ℕ). high (get_or m.orthants t 0) a ≡ high (get_or m'.orthants t 0) a) s.is
          (low_tells (axis (entry m s.place)) 0 m.orthants m'.orthants same_count fits (told_at s.place s.below).1 t l)

  pub same_name : SameName d D D' m m'
  same_name = record { depth = depth_same d D D' d0 box_is split_is; name = λ i. record { entries = same_entries i; orthants = same_orthants i } }

-- two cells of codes that pass are equal only if the codes are
pub one_code : {code root path code' root' path' : List ℕ} → IsCodeOf code root path → IsCodeOf code' root' path' → cell_of root path ≡ cell_of root' path' → code ≡ code'
one_code {code} {root} {path} {code'} {root'} {path'} c c' e = c.is ∙ codes ∙ sym c'.is
  where
    r : Drawn (length root) (length path) (name_of root path) (cell_of root path)
    r = closed_form root path c.good_root c.good_path.depth

    r' : Drawn (length root') (length path') (name_of root' path') (cell_of root' path')
    r' = closed_form root' path' c'.good_root c'.good_path.depth

    dims : length root' ≡ length root
    dims = omega (arith, r.sized.size, r'.sized.size, ap length e)

    s : SameName (length root) (length path) (length path') (name_of root path) (name_of root' path')
    s = same_name (some_axes c.good_root.dimension) c.good_path.depth (subst (λ (d : ℕ). length path' ≤ greatest_depth d) dims c'.good_path.depth)
        (name_passes c.good_root path) (subst (λ (d : ℕ). Passes d (length path') (name_of root' path')) dims (name_passes c'.good_root path'))
        r (subst (λ (d : ℕ). Drawn d (length path') (name_of root' path') (cell_of root path)) dims (subst (Drawn (length root') (length path') (name_of root' path')) (sym e) r'))

    codes : code_of root path ≡ code_of root' path'
    codes = unfold code_of in rw (dims, s.depth, s.name) refl
