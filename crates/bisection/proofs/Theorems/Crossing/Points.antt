-- Frames and lists of points. A cell drawn by a frame has at each vertex and axis half as many box sides as the
-- frame counts halves; so points of two such cells are equal just where the frames meet, a cell has all points of a
-- facet just where its frame has, and a facet lies in a face of the cube just where its frame stands on a wall.
use Rattle.std.specs.Prelude.{◌≡◌, refl, ◌⊎◌, ◌≢◌, get_or, take}
use Rattle.std.proofs.Common.{sym, ◌∙◌, subst, inl, inr, length-take, length-drop, length-append, get_or-append-add, ext_get_or}
use Rattle.std.proofs.Math.Path.{ap}
use mathlib.Core.List.Memᴰ
use mathlib.Core.List.{List, [], ◌∷◌, ◌++◌, Memᴰ}
use Prim.Native.Nat.{ℕ, zero, suc, ◌+◌, ◌-◌, ◌*◌, ◌≤◌, ◌<◌}
use native.Mathlib.Omega.{arith}
use Rattle.std.proofs.Math.Nat.{eq_of_mul-eq-mul_left}
use Rattle.std.proofs.Math.Decide.{dec_lt, ℕ_discrete}
use Rattle.std.proofs.Math.ListN.{length, drop, get_or-append}
use Rattle.std.proofs.Math.Seq.{get_or-take, get_or-drop}
use Rattle.dimension.specs.Sizes.{cube_side}
use Rattle.bisection.specs.Cells.{Point, Cell, coordinate, vertex}
use Rattle.bisection.specs.Facets.{facet, InFace, HasAll}
use Rattle.bisection.specs.Theorems.Crossing.Frames.{Frame, vert, Meets}
use Rattle.bisection.specs.Theorems.Crossing.Shift.{Among, HasFacet}
use Rattle.bisection.specs.Theorems.Crossing.Skips.{skip, Skipped}
use Rattle.bisection.proofs.Theorems.Crossing.Skips.{skip_before, skip_past, skip_other, skip_in, skipped}
use Rattle.bisection.specs.Theorems.Crossing.Level.{SameAt}
use Rattle.bisection.specs.Theorems.Crossing.Walls.{Wall, bottom, top, OnWall}
use Rattle.bisection.specs.Theorems.Crossing.Points.{OtherPlace, Scaled}

-- members of a list by their places
module _ {A : Type 0} (z : A) where
  pub record Found (v : A) (l : List A) : Type 0 where
    pub place : ℕ
    pub below : place < length l
    pub is : v ≡ get_or l place z

  pub mem_place : {v : A} {l : List A} → Memᴰ v l → Found v l
  mem_place (Memᴰ.head e) = record { place = 0; below = omega arith; is = e }
  mem_place (Memᴰ.tail m) = let r = mem_place m in record { place = suc r.place; below = omega (arith, r.below); is = r.is }

  pub place_mem : (l : List A) (t : ℕ) → t < length l → Memᴰ (get_or l t z) l
  place_mem [] t h = absurd (omega arith)
  place_mem (x ∷ xs) zero h = Memᴰ.head refl
  place_mem (x ∷ xs) (suc t) h = Memᴰ.tail (place_mem xs t (omega arith))

-- a facet's points are the vertices at the other places, in order
module _ (vs : Cell) (i : ℕ) (h : i < length vs) where
  front_length_is : length (take i vs) ≡ i
  front_length_is = simp length-take (omega arith)

  pub facet_length : suc (length (facet i vs)) ≡ length vs
  unfolding facet
  facet_length = simp (length-append, front_length_is, length-drop) (omega arith)

  pub facet_at : (t : ℕ) → vertex (facet i vs) t ≡ vertex vs (skip i t)
  unfolding facet
  facet_at t = go (dec_lt t i)
    where
      go : Dec (t < i) → vertex (take i vs ++ drop (suc i) vs) t ≡ vertex vs (skip i t)
      go (yes l) = rw (skip_before i t l) (get_or-append (take i vs) (drop (suc i) vs) [] t (rw front_length_is l) ∙ get_or-take i vs t [] l)
      go (no l) = let q : i ≤ t = omega arith in let e : length (take i vs) + (t - i) ≡ t = omega (arith, front_length_is) in let f : suc i + (t - i) ≡ suc t = omega arith in
          rw (skip_past i t q) (subst (λ (u : ℕ). vertex (take i vs ++ drop (suc i) vs) u ≡ vertex vs (suc t)) e (get_or-append-add (take i vs) (drop (suc i) vs) (t - i) [] ∙ get_or-drop (suc i) vs (t - i) [] ∙ ap (vertex vs) f))

  pub facet_mem : (j : ℕ) → j < length vs → j ≢ i → Memᴰ (vertex vs j) (facet i vs)
  facet_mem j l n = Memᴰ.cast (ap (vertex vs) (sym q.is) ∙ sym (facet_at q.from)) (place_mem [] (facet i vs) q.from (omega (arith, q.below, facet_length)))
    where
      q : Skipped (length vs - 1) i j
      q = skipped i j (omega arith) (omega arith) n

  pub mem_facet : {v : Point} → Memᴰ v (facet i vs) → OtherPlace v i vs
  mem_facet {v} m = record { place = skip i q.place; below = omega (arith, skip_in i q.place {d = length vs - 1} (omega (arith, q.below, facet_length))); other = skip_other i q.place; is = q.is ∙ facet_at q.place }
    where
      q : Found [] v (facet i vs)
      q = mem_place [] m

-- facets whose vertices are the same, place by place
pub same_facet : {d : ℕ} (vs ws : Cell) (i j : ℕ) → length vs ≡ suc d → length ws ≡ suc d → i ≤ d → j ≤ d → ((t : ℕ) → t < d → vertex vs (skip i t) ≡ vertex ws (skip j t)) → facet i vs ≡ facet j ws
same_facet vs ws i j size size' il jl h = ext_get_or [] (facet i vs) (facet j ws) (omega (arith, facet_length vs i (omega arith), facet_length ws j (omega arith)))
    (λ t l. facet_at vs i (omega arith) t ∙ h t (omega (arith, facet_length vs i (omega arith))) ∙ sym (facet_at ws j (omega arith) t))

-- a facet is part of its cell
pub facet_part : {v : Point} (vs : Cell) (i : ℕ) → i < length vs → Memᴰ v (facet i vs) → Memᴰ v vs
facet_part {v} vs i h m = let q : OtherPlace v i vs = mem_facet vs i h m in Memᴰ.cast q.is (place_mem [] vs q.place q.below)

-- where a cell has all points of a facet, a vertex that it has not stands at the place that the facet lacks
pub new_place_is : (vs ws : Cell) (j t : ℕ) → j < length ws → t < length ws → HasAll (facet j ws) vs → ¬ Memᴰ (vertex ws t) vs → t ≡ j
new_place_is vs ws j t jl tl h n = go (ℕ_discrete t j)
  where
    go : Dec (t ≡ j) → t ≡ j
    go (yes e) = e
    go (no e) = absurd (n (h (vertex ws t) (facet_mem ws j jl t tl e)))

module _ {d k s : ℕ} {vs ws : Cell} {c c' : Frame} (s0 : 0 < s) (r : Scaled d k s vs c) (r' : Scaled d k s ws c') where
  pub meets_same : (j j' : ℕ) → j ≤ d → j' ≤ d → Meets d k c j c' j' → vertex vs j ≡ vertex ws j'
  meets_same j j' l l' e = ext_get_or 0 (vertex vs j) (vertex ws j') (r.sized.dims j l ∙ sym (r'.sized.dims j' l')) (λ a la. one a (omega (arith, r.sized.dims j l)))
    where
      one : (a : ℕ) → a < d → get_or (vertex vs j) a 0 ≡ get_or (vertex ws j') a 0
      one a la = eq_of_mul-eq-mul_left 2 (omega arith) (get_or (vertex vs j) a 0) (get_or (vertex ws j') a 0) (r.reads j a l la ∙ ap (λ (x : ℕ). s * x) (e a la) ∙ sym (r'.reads j' a l' la))

  pub same_meets : (j j' : ℕ) → j ≤ d → j' ≤ d → vertex vs j ≡ vertex ws j' → Meets d k c j c' j'
  same_meets j j' l l' e a la = eq_of_mul-eq-mul_left s s0 (vert k c j a) (vert k c' j' a) (sym (r.reads j a l la) ∙ ap (λ (v : Point). 2 * get_or v a 0) e ∙ r'.reads j' a l' la)

  pub mem_among : (j : ℕ) → j ≤ d → Memᴰ (vertex vs j) ws → Among d k c j c'
  mem_among j l m =
      let q : Found [] (vertex vs j) ws = mem_place [] m in
      let t : q.place ≤ d = omega (arith, q.below, r'.sized.size) in
      record { place = q.place; within = t; meets = same_meets j q.place l t q.is }

  pub facet_has : (i : ℕ) → i ≤ d → HasAll (facet i vs) ws → HasFacet d k i c c'
  facet_has i il h j l n = mem_among j l (h (vertex vs j) (facet_mem vs i (omega (arith, r.sized.size)) j (omega (arith, r.sized.size)) n))

  pub same_facets : (i j : ℕ) → i ≤ d → j ≤ d → ((t : ℕ) → t < d → Meets d k c (skip i t) c' (skip j t)) → facet i vs ≡ facet j ws
  same_facets i j il jl h = same_facet vs ws i j r.sized.size r'.sized.size il jl (λ t l. meets_same (skip i t) (skip j t) (skip_in i t l) (skip_in j t l) (h t l))

  pub same_cells : ((a : ℕ) → a < d → SameAt c c' a) → vs ≡ ws
  same_cells h = ext_get_or [] vs ws (r.sized.size ∙ sym r'.sized.size) (λ j l. let t : j ≤ d = omega (arith, r.sized.size) in meets_same j j t t (λ a la. rw ((h a la).at, (h a la).near, (h a la).far) refl))

-- faces of the cube; N box sides make the cube's
module _ {d k s : ℕ} {vs : Cell} {c : Frame} (s0 : 0 < s) (r : Scaled d k s vs c) (N : ℕ) (whole : N * s ≡ cube_side) (i : ℕ) (il : i ≤ d) where
  wall_edge : {x : ℕ} → Wall N x → (s * x ≡ 0) ⊎ (s * x ≡ cube_side)
  wall_edge bottom = inl (omega arith)
  wall_edge top = inr (omega arith)

  pub wall_face : OnWall N d k i c → InFace d (facet i vs)
  wall_face w = record {
    a = suc w.axis;
    low = omega arith;
    high = w.real;
    height = s * w.wall;
    edge = wall_edge w.is_wall;
    flat = λ v m. flat v (mem_facet vs i (omega (arith, r.sized.size)) m);
  }
    where
      flat : (v : Point) → OtherPlace v i vs → coordinate v (suc w.axis) ≡ s * w.wall
      flat v q =
          let t : q.place ≤ d = omega (arith, q.below, r.sized.size) in
          let e : suc w.axis - 1 ≡ w.axis = omega arith in
          rw (q.is, e) (eq_of_mul-eq-mul_left 2 (omega arith) (get_or (vertex vs q.place) w.axis 0) (s * w.wall)
          (r.reads q.place w.axis t w.real ∙ ap (λ (x : ℕ). s * x) (w.flat q.place t q.other) ∙ omega arith))

  pub face_wall : InFace d (facet i vs) → OnWall N d k i c
  face_wall f = go f.edge
    where
      at_wall : (x : ℕ) → Wall N x → f.height ≡ s * x → OnWall N d k i c
      at_wall x w e = record {
        axis = f.a - 1;
        real = omega (arith, f.low, f.high);
        wall = x;
        is_wall = w;
        flat = λ j l n. eq_of_mul-eq-mul_left s s0 (vert k c j (f.a - 1)) (2 * x)
            (sym (r.reads j (f.a - 1) l (omega (arith, f.low, f.high)))
            ∙ ap (λ (y : ℕ). 2 * y) (f.flat (vertex vs j) (facet_mem vs i (omega (arith, r.sized.size)) j (omega (arith, r.sized.size)) n) ∙ e) ∙ omega arith);
      }

      go : (f.height ≡ 0) ⊎ (f.height ≡ cube_side) → OnWall N d k i c
      go (inl e) = at_wall 0 bottom (omega arith)
      go (inr e) = at_wall N top (omega arith)
