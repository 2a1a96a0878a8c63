-- What the next cell stands for, and what the functions answer: each for whatever root and path it stands for.
use Rattle.std.specs.Prelude.{◌≡◌, Bool, true, false, List, [], ◌∷◌, Option, Some, None, IfSome, ℕ, ◌+◌, ◌≤◌, ◌<◌, length, get_or}
use Rattle.dimension.specs.Sizes.{greatest_depth, halvings, split_place, box_depth}
use Rattle.bisection.specs.Roots.{roots}
use Rattle.bisection.specs.Codes.{IsCodeOf}
use Rattle.codes.specs.Fronts.{front_length, front_code}
use Rattle.fours.specs.declared.Four.{Four}
use Rattle.fours.specs.Fours.{Holds}
use Rattle.next.specs.declared.Next.{Next}
use Rattle.next.specs.declared.Match.{Match}
use Rattle.next.specs.declared.Up.{Up}
use Rattle.next.specs.Paths.{steps, zeros, stripped, number}
use Rattle.next.specs.Names.{name_at, all_boxes, Rooted}
use Rattle.next.specs.Digits.{digits}

-- the entries, the path as a number and the depth of the cell of a root and a path
pub record Cell (d : ℕ) (e : Four) (n t : ℕ) (root : List ℕ) (p : List Bool) : Type 0 where
  pub rooted : Rooted d root
  pub held : Holds d e (name_at d root p).entries
  pub path_is : n ≡ number p
  pub depth_is : t ≡ length p

abbrev pub entries_of : Next → Four
entries_of s = record { first = s.first; second = s.second; third = s.third; fourth = s.fourth }

abbrev pub next_of : Four → ℕ → ℕ → ℕ → Next
next_of e boxes depth path = record { first = e.first; second = e.second; third = e.third; fourth = e.fourth; boxes = boxes; depth = depth; path = path }

-- it stands for the cell of this root and path
pub record Stands (d : ℕ) (s : Next) (root : List ℕ) (p : List Bool) : Type 0 where
  pub cell : Cell d (entries_of s) s.path s.depth root p
  pub deep : length p ≤ greatest_depth d
  pub boxes_are : digits halvings s.boxes ≡ all_boxes d root p

-- the code of the cell, or of the first one inside it at some depth: its path is followed by zeros only
pub record First (root : List ℕ) (p : List Bool) (code : List ℕ) : Type 0 where
  pub n : ℕ
  pub is_code : IsCodeOf code root (steps (zeros n p))

pub record Matched (root : List ℕ) (p : List Bool) (bs : List ℕ) (r : Match) : Type 0 where
  pub first : First root p (front_code bs)
  pub length_is : r.length ≡ front_length bs
  pub depth_is : r.depth ≡ first.n + length p
  pub boxes_are : r.boxes ≡ box_depth (length root) r.depth

-- a match is that of the code at the front of bytes; where there is none, the code is not that of the cell nor of a first one inside
abbrev pub Matching : List ℕ → List Bool → List ℕ → Option Match → Type 0
Matching root p bs (Some m) = Matched root p bs m
Matching root p bs None = First root p (front_code bs) → ⊥

-- the code at the front of bytes is that of the cell or of the first one inside it, exactly where there is a match
pub record MatchIs (d : ℕ) (s : Next) (bs : List ℕ) (r : Option Match) : Type 0 where
  pub room : IfSome r (λ m. m.length ≤ length bs)
  pub told : (root : List ℕ) (p : List Bool) → Stands d s root p → Matching root p bs r

pub record ClimbReady (d : ℕ) (e : Four) (n t : ℕ) : Type 0 where
  pub root : List ℕ
  pub path : List Bool
  pub cell : Cell d e n t root path

-- the cell above without the 1s at the path's end
pub record UpIs (d : ℕ) (e : Four) (n t : ℕ) (r : Up) : Type 0 where
  pub place_is : r.place ≡ split_place d r.depth
  pub boxes_are : r.boxes ≡ box_depth d r.depth
  pub up : (root : List ℕ) (p : List Bool) → Cell d e n t root p → Cell d r.entries r.path r.depth root (stripped p)

pub record AfterReady (d : ℕ) (s : Next) (D : ℕ) : Type 0 where
  pub root : List ℕ
  pub path : List Bool
  pub n : ℕ
  pub stands : Stands d s root path
  pub depth_is : D ≡ n + length path
  pub deep : D ≤ greatest_depth d

-- the cell after the leaf with path q: the last 0 that only 1s follow becomes 1
pub record On (d : ℕ) (root : List ℕ) (q : List Bool) (next : Next) : Type 0 where
  pub path : List Bool
  pub last : stripped q ≡ false ∷ path
  pub stands : Stands d next root (true ∷ path)

-- or there is none, and the root is done
abbrev pub Gone : ℕ → List ℕ → List Bool → Option Next → Type 0
Gone d root q (Some next) = On d root q next
Gone d root q None = stripped q ≡ []

pub record AfterIs (d : ℕ) (s : Next) (D : ℕ) (r : Option Next) : Type 0 where
  pub gone : (root : List ℕ) (p : List Bool) (n : ℕ) → Stands d s root p → D ≡ n + length p → Gone d root (zeros n p) r

-- the root itself
pub record FirstIs (d n : ℕ) (r : Next) : Type 0 where
  pub first : n < length (roots d) → Stands d r (get_or (roots d) n []) []
