-- The rule table of a crossing, as functions on names: which row a facet takes, the entries and orthants of the
-- cell across, the place of its new vertex, and where there is no such cell. Rows speak of entries from 1, so that
-- entry i stands at place i - 1 of the list; k is the dimension's split place. Nothing here is to be believed: the
-- table is proved to give the one other cell that has all the facet's vertices.
use Rattle.std.specs.Prelude.{Bool, true, false, cond, not, ◌&&◌, List, [], ◌∷◌, ℕ, suc, ◌+◌, ◌-◌, ◌^◌, eqb, get_or, set}
use Rattle.dimension.specs.Sizes.{split_place}
use Rattle.bisection.specs.Codes.{axis, minus, negated, turned, high, Name}
use Rattle.bisection.specs.Refusals.{own_minus, same_sign}
use Rattle.bisection.specs.Theorems.Entries.{unturned}

-- the rows: entries i and i + 1 change places; entry d is negated and the box moves on to its near side; entry 1 is
-- negated and the box moves on to its far side; the first k + 1 entries turn left; they turn right; entries 1 and
-- k + 1 change places, both negated
pub data Move : Type 0 where
  swap : ℕ → Move
  nearer : Move
  farther : Move
  left : Move
  right : Move
  trade : Move

-- the row of facet i, where own says that entry k + 1 carries the box's own sign
unfoldable pub move : ℕ → ℕ → ℕ → Bool → Move
move d k i own = cond (eqb i d) nearer (cond (eqb i 0) (cond (eqb k d) farther (cond own left trade)) (cond (eqb i k) (cond own (swap k) right) (swap i)))

-- the place of the new vertex
unfoldable pub new_at : ℕ → ℕ → Move → ℕ
new_at d k (swap i) = i
new_at d k nearer = d
new_at d k farther = 0
new_at d k left = k
new_at d k right = 0
new_at d k trade = 0

-- entries
unfoldable pub exchanged : ℕ → ℕ → List ℕ → List ℕ
exchanged t u es = set (set es t (get_or es u 0)) u (get_or es t 0)

unfoldable pub negated_at : ℕ → List ℕ → List ℕ
negated_at t es = set es t (negated (get_or es t 0))

unfoldable pub entries_by : ℕ → ℕ → Move → List ℕ → List ℕ
entries_by d k (swap i) es = exchanged (i - 1) i es
entries_by d k nearer es = negated_at (d - 1) es
entries_by d k farther es = negated_at 0 es
entries_by d k left es = turned (suc k) es
entries_by d k right es = unturned k es
entries_by d k trade es = negated_at 0 (negated_at k (exchanged 0 k es))

-- orthants: an orthant byte with its bit of axis a flipped
unfoldable pub flipped : ℕ → ℕ → ℕ
flipped a o = cond (high o a) (o - 2 ^ (a - 1)) (o + 2 ^ (a - 1))

-- the box moves by its side on axis a, up where up is true and down where it is false. The carry goes from the last
-- orthant to the first: each bit is flipped, as long as the bits after it are all high (up) or all low (down)
unfoldable pub runs_out : Bool → ℕ → List ℕ → Bool
runs_out up a [] = true
runs_out up a (o ∷ os) = same_sign (high o a) up && runs_out up a os

unfoldable pub carried : Bool → ℕ → List ℕ → List ℕ
carried up a [] = []
carried up a (o ∷ os) = cond (runs_out up a os) (flipped a o) o ∷ carried up a os

-- the entry on whose axis the box moves, and whether it moves up
abbrev pub first_entry : Name → ℕ
first_entry m = get_or m.entries 0 0

abbrev pub last_entry : ℕ → Name → ℕ
last_entry d m = get_or m.entries (d - 1) 0

unfoldable pub orthants_by : ℕ → Move → Name → List ℕ
orthants_by d (swap i) m = m.orthants
orthants_by d nearer m = carried (minus (last_entry d m)) (axis (last_entry d m)) m.orthants
orthants_by d farther m = carried (not (minus (first_entry m))) (axis (first_entry m)) m.orthants
orthants_by d left m = m.orthants
orthants_by d right m = m.orthants
orthants_by d trade m = m.orthants

-- the carry runs out: no box of the cube lies there
unfoldable pub blocked_by : ℕ → Move → Name → Bool
blocked_by d (swap i) m = false
blocked_by d nearer m = runs_out (minus (last_entry d m)) (axis (last_entry d m)) m.orthants
blocked_by d farther m = runs_out (not (minus (first_entry m))) (axis (first_entry m)) m.orthants
blocked_by d left m = false
blocked_by d right m = false
blocked_by d trade m = false

-- entry k + 1 carries the box's own sign
unfoldable pub next_own : ℕ → Name → Bool
next_own k m = same_sign (minus (get_or m.entries k 0)) (own_minus m.orthants (axis (get_or m.entries k 0)))

-- the row of facet i of a name at depth D, and what it gives
unfoldable pub move_of : ℕ → ℕ → ℕ → Name → Move
move_of d D i m = move d (split_place d D) i (next_own (split_place d D) m)

unfoldable pub blocked : ℕ → ℕ → ℕ → Name → Bool
blocked d D i m = blocked_by d (move_of d D i m) m

unfoldable pub across_name : ℕ → ℕ → ℕ → Name → Name
across_name d D i m = record {
  entries = entries_by d (split_place d D) (move_of d D i m) m.entries;
  orthants = orthants_by d (move_of d D i m) m;
}

unfoldable pub new_place : ℕ → ℕ → ℕ → Name → ℕ
new_place d D i m = new_at d (split_place d D) (move_of d D i m)
