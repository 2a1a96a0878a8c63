-- Every cell of the bisection has exactly one slope, whatever stands at its vertices, for every dimension; and its closed form: on the
-- axis of entry i, by the entry's sign, what rises along it less what falls.
use Rattle.std.specs.Prelude.{◌≡◌, refl, Bool, true, false, cond, List, [], ◌∷◌, ℕ, zero, suc, ◌+◌, ◌-◌, ◌≤◌, ◌<◌, ℤ, pos, length, get_or}
use Rattle.std.proofs.Common.{sym, ap, ◌∙◌, arith, ext_get_or}
use Rattle.std.proofs.Math.Numerals.{unary_clauses}
use Rattle.dimension.specs.Sizes.{greatest_depth, split_place, box_side}
use Rattle.dimension.specs.Laws.{side_of}
use Rattle.bisection.specs.Cells.{Cell, cell_of}
use Rattle.bisection.specs.Roots.{GoodRoot}
use Rattle.bisection.specs.Codes.{axis, minus, Name, name_of}
use Rattle.bisection.specs.Slopes.{on_axis, Linear}
use Rattle.bisection.specs.Theorems.Entries.{Signed, Stands}
use Rattle.bisection.proofs.Theorems.Entries.{stands}
use Rattle.bisection.specs.Theorems.Drawn.{Drawn, entry}
use Rattle.bisection.proofs.Theorems.Geometry.{closed_form}
use Rattle.bisection.proofs.Theorems.CodePaths.{some_axes, name_passes}
use Rattle.bisection.specs.Theorems.Slopes.Differences.{over, under}
use Rattle.bisection.proofs.Theorems.Slopes.Differences.{less_one, less_sub}
use Rattle.bisection.proofs.Theorems.Slopes.Rising.{Front, balanced_front, front_balanced, fronts_rise, fronts}
use Rattle.bisection.proofs.Theorems.Slopes.Entries.{up, down, slope_balanced, balanced_slope}
use Rattle.bisection.specs.Theorems.Slopes.One.{OneSlope, along_entry, by_sign}

number_is : (m : Bool) (z : ℤ) (p q : ℕ) → p + cond m (over z) (under z) ≡ q + cond m (under z) (over z) → z ≡ by_sign m p q
number_is false z p q e = less_one {z = z} {p = p} {q = q} (record { is = e }) (less_sub p q) refl
number_is true z p q e = less_one {z = z} {p = q} {q = p} (record { is = omega arith }) (less_sub q p) refl

number_rises : (m : Bool) (z : ℤ) (p q : ℕ) → z ≡ by_sign m p q → p + cond m (over z) (under z) ≡ q + cond m (under z) (over z)
number_rises false z p q e = rw e (less_sub p q).is
number_rises true z p q e = rw e (omega (arith, (less_sub q p).is))

-- a list with a number for each place
record Listed (n : ℕ) (R : ℕ → ℤ → Type 0) : Type 0 where
  list : List ℤ
  size : length list ≡ n
  each : (t : ℕ) → t < n → R t (get_or list t (pos 0))

record Number (R : ℤ → Type 0) : Type 0 where
  number : ℤ
  holds : R number

listed : (n : ℕ) (R : ℕ → ℤ → Type 0) → ((t : ℕ) → t < n → Number (R t)) → Listed n R
listed zero R h = record { list = []; size = refl; each = λ t l. absurd (omega arith) }
listed (suc n) R h = more (h 0 (omega arith)) (listed n (λ t. R (suc t)) (λ t l. h (suc t) (omega arith)))
  where
    more : Number (R 0) → Listed n (λ t. R (suc t)) → Listed (suc n) R
    more z rest = record { list = z.number ∷ rest.list; size = ap suc rest.size; each = each }
      where
        each : (t : ℕ) → t < suc n → R t (get_or (z.number ∷ rest.list) t (pos 0))
        each zero l = z.holds
        each (suc t) l = rest.each t (omega arith)

module _ {d D : ℕ} {m : Name} {vs : Cell} (d0 : 0 < d) (deep : D ≤ greatest_depth d) (g : Signed d m.entries) (r : Drawn d D m vs) (f : ℕ → ℕ) where
  drawn_closed : (ns : List ℤ) → Linear (box_side d D) vs f ns → (i : ℕ) → i < d → on_axis ns (axis (entry m i)) ≡ along_entry (split_place d D) m f i
  unfolding along_entry
  drawn_closed ns h i l = number_is (minus (entry m i)) (on_axis ns (axis (entry m i))) _ _ (fronts_rise (box_side d D) (split_place d D) f _ _ i (front i (omega arith)) (front (suc i) l))
    where
      front : (j : ℕ) → j ≤ d → Front (box_side d D) (split_place d D) f (up d0 deep g r f ns) (down d0 deep g r f ns) j
      front j n = balanced_front (box_side d D) (split_place d D) f _ _ (side_of d D d0 deep).some (side_of d D d0 deep).even j n (slope_balanced d0 deep g r f ns h j n)

  closed_drawn : (ns : List ℤ) → length ns ≡ d → ((i : ℕ) → i < d → on_axis ns (axis (entry m i)) ≡ along_entry (split_place d D) m f i) → Linear (box_side d D) vs f ns
  unfolding along_entry
  closed_drawn ns count h = balanced_slope d0 deep g r f ns count (λ j l. front_balanced (box_side d D) (split_place d D) f _ _ (side_of d D d0 deep).some (side_of d D d0 deep).even j l
      (fronts (box_side d D) (split_place d D) f _ _ (λ i n. number_rises (minus (entry m i)) (on_axis ns (axis (entry m i))) _ _ (h i n)) j l))

  -- no two lists
  drawn_one : {ns us : List ℤ} → Linear (box_side d D) vs f ns → Linear (box_side d D) vs f us → ns ≡ us
  drawn_one {ns} {us} h n = ext_get_or (pos 0) ns us (omega (arith, h.count, n.count)) (λ t l. same t (omega (arith, h.count, r.sized.size)))
    where
      same : (t : ℕ) → t < d → get_or ns t (pos 0) ≡ get_or us t (pos 0)
      same t l = let p : Stands m.entries (suc t) d = stands g (suc t) (omega arith) l in
          simp unary_clauses at rw p.is at (drawn_closed ns h p.place p.below ∙ sym (drawn_closed us n p.place p.below))

  -- and one: on each axis the number of the entry that stands there
  abbrev Standing : ℕ → ℤ → Type 0
  Standing t z = (i : ℕ) → i < d → axis (entry m i) ≡ suc t → z ≡ along_entry (split_place d D) m f i

  there : Listed d Standing
  there = listed d Standing (λ t l. by (stands g (suc t) (omega arith) l))
    where
      by : {t : ℕ} → Stands m.entries (suc t) d → Number (Standing t)
      by p = record { number = along_entry (split_place d D) m f p.place; holds = λ i l e. ap (along_entry (split_place d D) m f) (g.apart p.place i p.below l (p.is ∙ sym e)) }

  drawn_slope : Linear (box_side d D) vs f there.list
  drawn_slope = closed_drawn there.list there.size (λ i l. there.each (axis (entry m i) - 1) (omega (arith, g.low i l, g.high i l)) i l (omega (arith, g.low i l)))

pub one_slope : (root path : List ℕ) → GoodRoot root → length path ≤ greatest_depth (length root) → (f : ℕ → ℕ) → OneSlope root path f
one_slope root path good deep f = record { numbers = (there d0 deep g r f).list; slope = h; others = λ n. drawn_one d0 deep g r f n h; closed = drawn_closed d0 deep g r f _ h }
  where
    d0 : 0 < length root
    d0 = some_axes good.dimension

    g : Signed (length root) (name_of root path).entries
    g = (name_passes good path).signed

    r : Drawn (length root) (length path) (name_of root path) (cell_of root path)
    r = closed_form root path good deep

    h : Linear (box_side (length root) (length path)) (cell_of root path) f (there d0 deep g r f).list
    h = drawn_slope d0 deep g r f
