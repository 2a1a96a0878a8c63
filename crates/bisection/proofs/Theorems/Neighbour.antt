-- The crossing theorem, for every dimension and depth. Where facet i of a code's cell lies in a face of the cube, no
-- other cell of that depth has all its vertices; otherwise exactly one has, it is the one of the rule table, and
-- its new vertex stands where the table says. So the answer is determined, and crossing back leads back.
use Rattle.std.specs.Prelude.{◌≡◌, refl, Bool, true, false, ◌≢◌, T, length}
use Rattle.std.proofs.Common.{sym, ap, ◌∙◌, subst, arith}
use mathlib.Core.List.{List, [], Memᴰ}
use Prim.Native.Nat.{ℕ, suc, ◌≤◌, ◌<◌}
use Rattle.dimension.specs.Sizes.{split_place}
use Rattle.bisection.specs.Cells.{Cell, vertex, cell_of}
use Rattle.bisection.specs.Codes.{bytes, dimension_of, depth_of}
use Rattle.bisection.specs.Facets.{facet, InFace, HasAll, IsCell, Shares, Across}
use Rattle.bisection.specs.Theorems.CodePaths.{root_of, path_of}
use Rattle.bisection.proofs.Theorems.Crossing.Points.{place_mem, facet_part, facet_at, new_place_is}
use Rattle.bisection.specs.Theorems.Crossing.Skips.{Skipped}
use Rattle.bisection.proofs.Theorems.Crossing.Skips.{skipped}
use Rattle.bisection.proofs.Theorems.CodeCells.{one_cell}
use Rattle.bisection.specs.Theorems.Crossing.Coded.{Coded}
use Rattle.bisection.proofs.Theorems.Crossing.Coded.{coded, coded_at, range}
use Rattle.bisection.specs.Theorems.Crossing.Shared.{Ends}
use Rattle.bisection.proofs.Theorems.Crossing.Beside.{face_blocked, blocked_face, face_same, Beside, beside}
use Rattle.bisection.specs.Theorems.Neighbour.{Neighbour, is_blocked, none, one, table_code, table_place}

table_cell : List ℕ → ℕ → Cell
table_cell code i = cell_of (root_of (table_code code i)) (path_of (table_code code i))

-- the second cell of Shares at the first one's dimension and depth, and the first cell as known
shares_coded : {i : ℕ} {code code' : List ℕ} → (s : Shares i code code') → Coded (dimension_of code) (depth_of code) code' s.ws
shares_coded s = coded_at s.dimension s.depth s.cell'

shares_has : {i : ℕ} {code code' : List ℕ} {vs : Cell} → IsCell code vs → (s : Shares i code code') → HasAll (facet i vs) s.ws
shares_has {i} c s = subst (λ (us : Cell). HasAll (facet i us) s.ws) (one_cell s.cell c) s.has

module _ {code : List ℕ} {vs : Cell} (c : IsCell code vs) (i : ℕ) (il : i ≤ dimension_of code) where
  -- a facet in a face of the cube: no other cell of that depth has all its vertices, and the table is blocked
  pub face_alone : InFace (dimension_of code) (facet i vs) → (code' : List ℕ) → ¬ Shares i code code'
  face_alone w code' s = s.another (face_same (coded c) i il (shares_coded s) (shares_has c s) w)

  pub face_is_blocked : InFace (dimension_of code) (facet i vs) → is_blocked code i ≡ true
  face_is_blocked = face_blocked (coded c) i il

  pub blocked_is_face : is_blocked code i ≡ true → InFace (dimension_of code) (facet i vs)
  blocked_is_face = blocked_face (coded c) i il

  pub free_unblocked : ¬ InFace (dimension_of code) (facet i vs) → is_blocked code i ≡ false
  free_unblocked n = go (is_blocked code i) refl
    where
      go : (t : Bool) → is_blocked code i ≡ t → is_blocked code i ≡ false
      go true e = absurd (n (blocked_is_face e))
      go false e = e

  -- any other facet: the cell of the table lies across it
  table : is_blocked code i ≡ false → Beside (dimension_of code) (depth_of code) code vs i (table_code code i) (table_cell code i) (table_place code i)
  unfolding table_cell
  table e = beside (coded c) i il e

  pub across_unblocked : is_blocked code i ≡ false → Across code i (table_code code i) (table_place code i)
  across_unblocked e = record {
    shares = record {
      vs = vs;
      ws = ws;
      cell = c;
      cell' = cell';
      another = another;
      dimension = unfold bytes dimension_of in refl;
      depth = unfold bytes depth_of in refl;
      has = λ v q. facet_part ws j room (subst (Memᴰ v) b.facets q);
    };
    only = λ code'' s. b.only (shares_coded s) (shares_has c s) s.another;
    place = b.within;
    new = b.new;
  }
    where
      j : ℕ
      j = table_place code i

      ws : Cell
      ws = table_cell code i

      b : Beside (dimension_of code) (depth_of code) code vs i (table_code code i) ws j
      b = table e

      cell' : IsCell (table_code code i) ws
      cell' = b.coded'.cell

      room : j < length ws
      room = omega (arith, b.within, b.coded'.drawn.sized.size)

      another : code ≢ table_code code i
      another q = b.new (subst (Memᴰ (vertex ws j)) (one_cell cell' (subst (λ (x : List ℕ). IsCell x vs) q c)) (place_mem [] ws j room))

  -- blocked just where no other cell of that depth has all the facet's vertices
  pub blocked_alone : is_blocked code i ≡ true → (code' : List ℕ) → ¬ Shares i code code'
  blocked_alone e = face_alone (blocked_is_face e)

  pub alone_blocked : ((code' : List ℕ) → ¬ Shares i code code') → is_blocked code i ≡ true
  alone_blocked n = go (is_blocked code i) refl
    where
      go : (t : Bool) → is_blocked code i ≡ t → is_blocked code i ≡ true
      go true e = e
      go false e = absurd (n (table_code code i) (across_unblocked e).shares)

  pub across_free : ¬ InFace (dimension_of code) (facet i vs) → Across code i (table_code code i) (table_place code i)
  across_free n = across_unblocked (free_unblocked n)

pub neighbour : {code : List ℕ} {vs : Cell} → IsCell code vs → (i : ℕ) → i ≤ dimension_of code → Neighbour code vs i (is_blocked code i)
neighbour {code} {vs} c i il = go (is_blocked code i) refl
  where
    go : (t : Bool) → is_blocked code i ≡ t → Neighbour code vs i t
    go true e = none (blocked_is_face c i il e) (blocked_alone c i il e)
    go false e = one (λ w. subst T (sym (face_is_blocked c i il w) ∙ e) tt) (across_unblocked c i il e)

-- what an answer says of the two cells
module _ {code code' : List ℕ} {vs ws : Cell} {i j : ℕ} (c : IsCell code vs) (c' : IsCell code' ws) (il : i ≤ dimension_of code) (x : Across code i code' j) where
  pub across_new : ¬ Memᴰ (vertex ws j) vs
  across_new = subst (λ (us : Cell). ¬ Memᴰ (vertex us j) vs) (one_cell x.shares.cell' c') (subst (λ (us : Cell). ¬ Memᴰ (vertex x.shares.ws j) us) (one_cell x.shares.cell c) x.new)

  pub across_not_face : ¬ InFace (dimension_of code) (facet i vs)
  across_not_face w = face_alone c i il w code' x.shares

  -- it is the table's
  pub across_code : code' ≡ table_code code i
  across_code = sym (x.only (table_code code i) (across_free c i il across_not_face).shares)

  found : Beside (dimension_of code) (depth_of code) code vs i code' ws (table_place code i)
  found = subst (λ (us : Cell). Beside (dimension_of code) (depth_of code) code vs i code' us (table_place code i)) (one_cell b.coded'.cell c') b
    where
      b : Beside (dimension_of code) (depth_of code) code vs i code' (table_cell code i) (table_place code i)
      b = subst (λ (y : List ℕ). Beside (dimension_of code) (depth_of code) code vs i y (table_cell code i) (table_place code i)) (sym across_code) (table c i il (free_unblocked c i il across_not_face))

  size : length vs ≡ suc (dimension_of code)
  size = (coded c).drawn.sized.size

  size' : length ws ≡ suc (dimension_of code)
  size' = found.coded'.drawn.sized.size

  pub across_place : j ≡ table_place code i
  across_place = new_place_is vs ws (table_place code i) j (omega (arith, found.within, size')) (omega (arith, x.place, size'))
      (λ v m. facet_part vs i (omega (arith, size)) (subst (Memᴰ v) (sym found.facets) m)) across_new

  -- without their vertices i and j the two cells are the same list in the same order
  pub across_facets : facet i vs ≡ facet j ws
  across_facets = rw across_place found.facets

  -- i is an end of the split edge exactly when j is; otherwise j is i and the two cells have the same split edge
  pub across_ends : Ends (split_place (dimension_of code) (depth_of code)) i j
  across_ends = rw across_place found.ends

  pub across_kept : j ≡ i → (u : ℕ) → u ≤ dimension_of code → u ≢ i → vertex vs u ≡ vertex ws u
  across_kept e u l n = subst (λ (t : ℕ). vertex vs t ≡ vertex ws t) q.is
      (sym (facet_at vs i (omega (arith, size)) q.from) ∙ ap (λ (us : Cell). vertex us q.from) (across_facets ∙ ap (λ (y : ℕ). facet y ws) e) ∙ facet_at ws i (omega (arith, size')) q.from)
    where
      q : Skipped (dimension_of code) i u
      q = skipped i u il l n

  pub across_edge : i ≢ 0 → i ≢ split_place (dimension_of code) (depth_of code)
      → (j ≡ i) × (vertex vs 0 ≡ vertex ws 0) × (vertex vs (split_place (dimension_of code) (depth_of code)) ≡ vertex ws (split_place (dimension_of code) (depth_of code)))
  across_edge n h = let e : j ≡ i = across_ends.inner n h in (e, across_kept e 0 (omega arith) (λ q. n (sym q)), across_kept e (split_place (dimension_of code) (depth_of code)) (range (coded c)).1 (λ q. h (sym q)))

  -- crossing back: the first cell has all vertices of facet j of the second
  pub shares_back : Shares j code' code
  shares_back = record {
    vs = ws;
    ws = vs;
    cell = c';
    cell' = c;
    another = λ e. x.shares.another (sym e);
    dimension = sym x.shares.dimension;
    depth = sym x.shares.depth;
    has = λ v q. facet_part vs i (omega (arith, size)) (subst (Memᴰ v) (sym across_facets) q);
  }

-- an answer is determined
pub across_determined : {code : List ℕ} {i : ℕ} {code' code'' : List ℕ} {j j' : ℕ} → i ≤ dimension_of code → Across code i code' j → Across code i code'' j' → (code' ≡ code'') × (j ≡ j')
across_determined {code} {i} {code'} {code''} il x y = (across_code a b il x ∙ sym (across_code a d il y), across_place a b il x ∙ sym (across_place a d il y))
  where
    a : IsCell code x.shares.vs
    a = x.shares.cell

    b : IsCell code' x.shares.ws
    b = x.shares.cell'

    d : IsCell code'' y.shares.ws
    d = y.shares.cell'

-- another cell with all the facet's vertices is the answer, and its new vertex stands at the place but for which it has no other
pub shares_across : {i : ℕ} {code code' : List ℕ} → i ≤ dimension_of code → (s : Shares i code code') (j : ℕ) → j ≤ dimension_of code → HasAll (facet j s.ws) s.vs
    → Across code i code' j
shares_across {i} {code} {code'} il s j jl h = record { shares = s; only = λ code'' t. a.only code'' t ∙ sym e; place = jl; new = subst (λ (t : ℕ). ¬ Memᴰ (vertex s.ws t) s.vs) at_j new }
  where
    a : Across code i (table_code code i) (table_place code i)
    a = across_free s.cell i il (λ w. face_alone s.cell i il w code' s)

    e : code' ≡ table_code code i
    e = a.only code' s

    new : ¬ Memᴰ (vertex s.ws (table_place code i)) s.vs
    new = across_new s.cell s.cell' il (subst (λ (y : List ℕ). Across code i y (table_place code i)) (sym e) a)

    size : length s.ws ≡ suc (dimension_of code)
    size = (shares_coded s).drawn.sized.size

    at_j : table_place code i ≡ j
    at_j = new_place_is s.vs s.ws j (table_place code i) (omega (arith, size)) (omega (arith, size, a.place)) h new

-- crossing back leads back: the first cell has all vertices of facet j of the second, and its vertex i alone is not the second's
pub across_back : {code code' : List ℕ} {i j : ℕ} → i ≤ dimension_of code → Across code i code' j → Across code' j code i
unfolding shares_back
across_back {i = i} il x = shares_across (rw (← x.shares.dimension) x.place) (shares_back x.shares.cell x.shares.cell' il x) i (rw (← x.shares.dimension) il) x.shares.has
