-- A code's cell and the cells with all vertices of its facet i: in a face of the cube there is the cell alone, and
-- just there the table is blocked; elsewhere there is one more, and it is the cell of the table's name.
use Rattle.std.specs.Prelude.{◌≡◌, refl, true, false, ◌⊎◌, ◌≢◌, ℕ, ◌*◌, ◌^◌, ◌≤◌, ◌<◌}
use Rattle.std.proofs.Common.{sym, ◌∙◌}
use mathlib.Core.List.{List, Memᴰ}
use Rattle.std.proofs.Math.Logic.{inl, inr}
use Rattle.dimension.specs.Sizes.{cube_side, split_place, box_depth, box_side}
use Rattle.dimension.specs.Laws.{side_whole, box_in}
use Rattle.bisection.specs.Cells.{Cell, vertex, cell_of}
use Rattle.bisection.specs.Codes.{Name, bytes, dimension_of, depth_of, parts_of}
use Rattle.bisection.specs.Facets.{facet, InFace, HasAll}
use Rattle.bisection.specs.Theorems.Passing.{Passes}
use Rattle.bisection.specs.Theorems.CodePaths.{root_of, path_of}
use Rattle.bisection.proofs.Theorems.Checked.{bytes_done, parts_bytes}
use Rattle.bisection.specs.Theorems.Table.{Move, move, new_at, move_of, blocked, across_name, new_place}
use Rattle.bisection.specs.Theorems.Crossing.Frames.{Frame}
use Rattle.bisection.specs.Theorems.Crossing.Shift.{HasFacet}
use Rattle.bisection.specs.Theorems.Crossing.Moves.{Spot, Lands, own, Moved}
use Rattle.bisection.proofs.Theorems.Crossing.Moves.{view}
use Rattle.bisection.specs.Theorems.Crossing.Axes.{Same}
use Rattle.bisection.specs.Theorems.Crossing.Level.{LandsAt, Outcome, same, crossed}
use Rattle.bisection.proofs.Theorems.Crossing.Unique.{unique}
use Rattle.bisection.specs.Theorems.Crossing.Walls.{Stuck}
use Rattle.bisection.proofs.Theorems.Crossing.Walls.{on_wall, wall_stuck, alone}
use Rattle.bisection.specs.Theorems.Crossing.Shared.{Ends}
use Rattle.bisection.proofs.Theorems.Crossing.Shared.{in_order_meets, ends, new_not, new_within}
use Rattle.bisection.proofs.Theorems.Crossing.Sound.{allowed}
use Rattle.bisection.proofs.Theorems.Crossing.Points.{facet_has, mem_among, same_facets, same_cells, wall_face, face_wall}
use Rattle.bisection.specs.Theorems.Crossing.Named.{frame}
use Rattle.bisection.proofs.Theorems.Crossing.Carries.{blocked_stuck, stuck_blocked}
use Rattle.bisection.proofs.Theorems.Crossing.Crossed.{row_is, lands, across_passes}
use Rattle.bisection.proofs.Theorems.CodeCells.{code_cell, same_code}
use Rattle.bisection.specs.Theorems.Crossing.Coded.{Coded}
use Rattle.bisection.proofs.Theorems.Crossing.Coded.{coded_at, some, few, range, side, good_of, cube_of, scaled_of}

-- facet i of a cell
module _ {d D : ℕ} {code : List ℕ} {vs : Cell} (c : Coded d D code vs) (i : ℕ) (il : i ≤ d) where
  k : ℕ
  k = split_place d D

  f : Frame
  f = frame (parts_of code)

  mv : Move
  mv = move d k i (own k f)

  N : ℕ
  N = 2 ^ box_depth d D

  cube : N * box_side d D ≡ cube_side
  unfolding N box_side
  cube = side_whole (box_depth d D) (box_in d D (some c) c.deep)

  face_stuck : InFace d (facet i vs) → Stuck N d f mv
  unfolding k f mv N
  face_stuck w = wall_stuck (range c).0 (range c).1 il (good_of c) (face_wall (side c) (scaled_of c) N cube i il w)

  stuck_face : Stuck N d f mv → InFace d (facet i vs)
  unfolding k f mv N
  stuck_face t = wall_face (side c) (scaled_of c) N cube i il (on_wall (range c).0 (range c).1 il (good_of c) t)

  row : move_of d D i (parts_of code) ≡ mv
  unfolding k f mv
  row = row_is d D (some c) (few c) (parts_of code) c.passes i il

  -- the table is blocked just there
  pub face_blocked : InFace d (facet i vs) → blocked d D i (parts_of code) ≡ true
  unfolding blocked
  face_blocked w = stuck_blocked d k (parts_of code) c.passes.signed (some c) (rw (row, c.passes.boxes.count) (unfold f N in face_stuck w))

  pub blocked_face : blocked d D i (parts_of code) ≡ true → InFace d (facet i vs)
  unfolding blocked
  blocked_face e = stuck_face (unfold f N in rw (row, c.passes.boxes.count) at (blocked_stuck d k (parts_of code) c.passes.signed (some c) (move_of d D i (parts_of code)) e))

  -- a cell with all the facet's vertices
  module _ {code' : List ℕ} {ws : Cell} (c' : Coded d D code' ws) (has : HasAll (facet i vs) ws) where
    rows : HasFacet d k i f (frame (parts_of code'))
    unfolding k f
    rows = facet_has (side c) (scaled_of c) (scaled_of c') i il has

    pub face_same : InFace d (facet i vs) → code ≡ code'
    unfolding k f mv N
    face_same w = same_code c.cell c'.cell (same_cells (side c) (scaled_of c) (scaled_of c') (alone (range c).0 (range c).1 il (good_of c) (good_of c') (cube_of c) (cube_of c') rows (face_stuck w)))

    -- is the cell itself or lies where the row puts it
    pub same_or_across : (code ≡ code') ⊎ ((a : ℕ) → a < d → LandsAt d (split_place d D) (move_of d D i (parts_of code)) (frame (parts_of code)) (frame (parts_of code')) a)
    unfolding k f mv
    same_or_across = go (unique (range c).0 (range c).1 il (good_of c) (good_of c') rows)
      where
        go : Outcome d k mv f (frame (parts_of code')) → (code ≡ code') ⊎ ((a : ℕ) → a < d → LandsAt d k (move_of d D i (parts_of code)) f (frame (parts_of code')) a)
        go (same h) = inl (same_code c.cell c'.cell (same_cells (side c) (scaled_of c) (scaled_of c') h))
        go (crossed h) = inr (rw row h)

-- the cell of the table, where no carry runs out
pub record Beside (d D : ℕ) (code : List ℕ) (vs : Cell) (i : ℕ) (code' : List ℕ) (ws : Cell) (j : ℕ) : Type 0 where
  pub coded' : Coded d D code' ws
  pub within : j ≤ d
  pub facets : facet i vs ≡ facet j ws
  pub ends : Ends (split_place d D) i j
  pub new : ¬ Memᴰ (vertex ws j) vs
  pub only : {code'' : List ℕ} {us : Cell} → Coded d D code'' us → HasAll (facet i vs) us → code ≢ code'' → code'' ≡ code'

both_land : {t : Spot} {p x y p' x' y' : ℕ} → Lands t p x y → Lands t p' x' y' → Same p x y p' x' y'
both_land u v = record { at = v.at ∙ sym u.at; near = v.near ∙ sym u.near; far = v.far ∙ sym u.far }

module _ {d D : ℕ} {code : List ℕ} {vs : Cell} (c : Coded d D code vs) (i : ℕ) (il : i ≤ d) (free : blocked d D i (parts_of code) ≡ false) where
  m' : Name
  m' = across_name d D i (parts_of code)

  code' : List ℕ
  code' = bytes d D m'

  ws : Cell
  ws = cell_of (root_of code') (path_of code')

  passes' : Passes d D m'
  unfolding m'
  passes' = across_passes d D (some c) (few c) (parts_of code) c.passes i il free

  c' : Coded d D code' ws
  unfolding code' ws
  c' = coded_at (unfold bytes dimension_of in refl) (unfold bytes depth_of in refl) (code_cell (bytes d D m') (bytes_done d D m' c.dimension c.deep passes'))

  landed : (a : ℕ) → a < d → LandsAt d (split_place d D) (move_of d D i (parts_of code)) (frame (parts_of code)) (frame (parts_of code')) a
  unfolding code' m'
  landed = rw (parts_bytes d D m' passes'.signed.size) (lands d D (some c) (few c) (parts_of code) c.passes i il free)

  seen : Moved d (split_place d D) i (own (split_place d D) (frame (parts_of code))) (move_of d D i (parts_of code))
  seen = rw (row_is d D (some c) (few c) (parts_of code) c.passes i il) (view d (split_place d D) i (own (split_place d D) (frame (parts_of code))))

  pub beside : Beside d D code vs i (bytes d D (across_name d D i (parts_of code))) (cell_of (root_of (bytes d D (across_name d D i (parts_of code)))) (path_of (bytes d D (across_name d D i (parts_of code))))) (new_place d D i (parts_of code))
  unfolding new_place code' m' ws
  beside = record {
    coded' = c';
    within = within;
    facets = same_facets (side c) (scaled_of c) (scaled_of c') i (new_at d (split_place d D) (move_of d D i (parts_of code))) il within (in_order_meets (range c).0 (range c).1 il (good_of c) (good_of c') seen landed);
    ends = ends seen;
    new = λ q. new_not (range c).0 (range c).1 il (good_of c) (good_of c') seen landed (mem_among (side c) (scaled_of c') (scaled_of c) (new_at d (split_place d D) (move_of d D i (parts_of code))) within q);
    only = only;
  }
    where
      within : new_at d (split_place d D) (move_of d D i (parts_of code)) ≤ d
      within = new_within (range c).1 (allowed (range c).0 (range c).1 il seen)

      only : {code'' : List ℕ} {us : Cell} → Coded d D code'' us → HasAll (facet i vs) us → code ≢ code'' → code'' ≡ code'
      only {code''} b h n = go (same_or_across c i il b h)
        where
          go : (code ≡ code'') ⊎ ((a : ℕ) → a < d → LandsAt d (split_place d D) (move_of d D i (parts_of code)) (frame (parts_of code)) (frame (parts_of code'')) a) → code'' ≡ code'
          go (inl e) = absurd (n e)
          go (inr q) = sym (same_code c'.cell b.cell (same_cells (side c) (scaled_of c') (scaled_of b) (λ a l. both_land (landed a l) (q a l))))
