-- The name of a root and a path, read from the path's end. A step 0 keeps the entries, and appends at each new box the orthant
-- that they give: so a cell and the first ones inside it have the same entries, and their orthants are fronts of one list.
use Rattle.std.specs.Prelude.{◌≡◌, Bool, cond, ◌⊎◌, eqb, replicate}
use Rattle.std.proofs.Math.Path.{refl, sym, ap, subst}
use Rattle.std.proofs.Common.{◌∙◌, inl, inr, arith, zero-add, take_at, take-take}
use Rattle.std.proofs.Math.Bool.{true, false}
use mathlib.Core.List.{List, [], ◌∷◌, ◌++◌, append_assoc}
use Prim.Native.Nat.{ℕ, zero, suc, ◌+◌, ◌-◌, ◌≤◌, ◌<◌}
use Rattle.std.proofs.Math.ListN.{length, take}
use Rattle.dimension.specs.Sizes.{box_depth, split_place, level, greatest_depth, halvings}
use Rattle.dimension.specs.Laws.{Dimension, dimension, Within, Turned, deeper, box_under}
use Rattle.bisection.specs.Roots.{GoodRoot}
use Rattle.bisection.specs.Codes.{Name, step, stepped, orthant, name_of, name_below, root_name}
use Rattle.bisection.proofs.Theorems.Paths.{below_snoc}
use Rattle.bisection.specs.Theorems.Passing.{Passes}
use Rattle.bisection.proofs.Theorems.CodePaths.{some_axes, few_axes, name_passes}
use Rattle.next.specs.Paths.{bit, steps, steps_length, zeros, zeros_length, stripped}

unfoldable pub name_at : ℕ → List ℕ → List Bool → Name
name_at d root [] = root_name root
name_at d root (b ∷ p) = step d (length p) (bit b) (name_at d root p)

-- the orthants of the first cell of greatest depth inside a cell: the cell's own, then what its entries give
unfoldable pub all_boxes : ℕ → List ℕ → List Bool → List ℕ
all_boxes d root p = (name_at d root p).orthants ++ replicate (halvings - box_depth d (length p)) (orthant (name_at d root p).entries)

-- a good root of d axes
pub record Rooted (d : ℕ) (root : List ℕ) : Type 0 where
  pub good : GoodRoot root
  pub axes : length root ≡ d

module _ {d : ℕ} {root : List ℕ} (r : Rooted d root) where
  pub rooted_range : Dimension d
  rooted_range = subst Dimension r.axes (dimension (length root) r.good.dimension)

  pub rooted_some : 0 < d
  rooted_some = omega (arith, rooted_range.two)

  pub name_is : (p : List Bool) → name_of root (steps p) ≡ name_at d root p
  unfolding name_of name_at steps name_below
  name_is p = subst (λ (n : ℕ). name_of root (steps p) ≡ name_at n root p) r.axes (go p)
    where
      go : (p : List Bool) → name_of root (steps p) ≡ name_at (length root) root p
      go [] = refl
      go (b ∷ p) =
          below_snoc (length root) (some_axes r.good.dimension) (few_axes r.good.dimension) (steps p) 0 (root_name root) (bit b)
          ∙ ap (λ (n : ℕ). step (length root) n (bit b) (name_below (length root) 0 (root_name root) (steps p))) (zero-add (length (steps p)) ∙ steps_length p)
          ∙ ap (step (length root) (length p) (bit b)) (go p)

  pub name_passes_at : (p : List Bool) → Passes d (length p) (name_at d root p)
  name_passes_at p = subst (λ (n : ℕ). Passes n (length p) (name_at d root p)) r.axes (rw (steps_length p, name_is p) at (name_passes r.good (steps p)))

  -- a cell's own orthants are the front
  own_front : (p : List Bool) → (name_at d root p).orthants ≡ take (box_depth d (length p)) (all_boxes d root p)
  unfolding all_boxes
  own_front p = sym (take_at (name_at d root p).orthants (replicate (halvings - box_depth d (length p)) (orthant (name_at d root p).entries)) (box_depth d (length p)) (name_passes_at p).boxes.count)

  -- one step deeper: the orthants above, and then what the new entries give
  pub boxes_step : (b : Bool) (p : List Bool) → length p < greatest_depth d → all_boxes d root (b ∷ p) ≡ (name_at d root p).orthants ++ replicate (halvings - box_depth d (length p))
      (orthant (name_at d root (b ∷ p)).entries)
  unfolding all_boxes name_at step
  boxes_step b p h = go (deeper d (length p) rooted_some)
    where
      os : List ℕ
      os = (name_at d root p).orthants

      o : ℕ
      o = orthant (stepped (bit b) (split_place d (length p)) (name_at d root p).entries)

      l : ℕ
      l = box_depth d (length p)

      one_more : halvings - l ≡ suc (halvings - suc l)
      one_more = omega (arith, box_under d (length p) rooted_some h)

      go : Within d (length p) ⊎ Turned d (length p) → cond (eqb (level d (suc (length p))) 0) (os ++ o ∷ []) os ++ replicate (halvings - box_depth d (suc (length p))) o ≡ os ++ replicate
          (halvings - l) o
      go (inl w) = rw (w.level, w.box) refl
      go (inr w) = rw (w.level, w.box, one_more) (append_assoc os (o ∷ []) (replicate (halvings - suc l) o))

  -- zeros at the end change neither the entries nor this list
  pub zeros_entries : (n : ℕ) (p : List Bool) → (name_at d root (zeros n p)).entries ≡ (name_at d root p).entries
  unfolding zeros name_at step stepped
  zeros_entries zero p = refl
  zeros_entries (suc n) p = zeros_entries n (false ∷ p)

  zeros_all : (n : ℕ) (p : List Bool) → n + length p ≤ greatest_depth d → all_boxes d root (zeros n p) ≡ all_boxes d root p
  unfolding zeros
  zeros_all zero p h = refl
  zeros_all (suc n) p h = zeros_all n (false ∷ p) (omega arith) ∙ boxes_step false p (omega arith) ∙ unfold all_boxes name_at step stepped in refl

  pub zeros_front : (n : ℕ) (p : List Bool) → n + length p ≤ greatest_depth d → (name_at d root (zeros n p)).orthants ≡ take (box_depth d (n + length p)) (all_boxes d root p)
  zeros_front n p h = own_front (zeros n p) ∙ rw (zeros_length n p, zeros_all n p h) refl

  -- a cell above has fewer of them
  above_front : (b : Bool) (p : List Bool) (all : List ℕ) → (name_at d root (b ∷ p)).orthants ≡ take (box_depth d (suc (length p))) all → (name_at d root p).orthants ≡ take (box_depth d (length p)) all
  unfolding name_at step
  above_front b p all e = go (deeper d (length p) rooted_some) e
    where
      os : List ℕ
      os = (name_at d root p).orthants

      o : ℕ
      o = orthant (stepped (bit b) (split_place d (length p)) (name_at d root p).entries)

      l : ℕ
      l = box_depth d (length p)

      go : Within d (length p) ⊎ Turned d (length p) → cond (eqb (level d (suc (length p))) 0) (os ++ o ∷ []) os ≡ take (box_depth d (suc (length p))) all → os ≡ take l all
      go (inl w) h = rw (w.level, w.box) at h
      go (inr w) h =
          let f : os ++ o ∷ [] ≡ take (suc l) all = rw (w.level, w.box) at h in
          sym (take_at os (o ∷ []) l (name_passes_at p).boxes.count) ∙ ap (take l) f ∙ take-take l (suc l) all (omega arith)

  pub stripped_front : (q p : List Bool) (all : List ℕ) → stripped q ≡ false ∷ p → (name_at d root q).orthants ≡ take (box_depth d (length q)) all
      → (name_at d root p).orthants ≡ take (box_depth d (length p)) all
  unfolding stripped
  stripped_front [] p all h e = absurd (omega (arith, ap length h))
  stripped_front (true ∷ q) p all h e = stripped_front q p all h (above_front true q all e)
  stripped_front (false ∷ q) p all h e = let same : q ≡ p = cc in subst (λ (x : List Bool). (name_at d root x).orthants ≡ take (box_depth d (length x)) all) same (above_front false q all e)
