-- Where a crossing lands: refused, or at a place, in its box or beside it. What that says.
use Rattle.std.specs.Prelude.{◌≡◌, false, List, ℕ, Result, Ok, Err, ◌≤◌, length, take}
use Rattle.bisection.specs.declared.Refusal.{Refusal}
use Rattle.bisection.specs.Codes.{dimension_of, orthants_of}
use Rattle.bisection.specs.Refusals.{done, code_refusal}
use Rattle.crossing.specs.declared.Crossing.{Crossing}
use Rattle.crossing.specs.declared.Landing.{Landing}
use Rattle.crossing.specs.Forms.{crossed}
use Rattle.crossing.specs.Outcome.{Crosses}
use Rattle.crossing.specs.Answers.{Whole}

-- the code across has a vertex at the place, and the first code's orthants where the crossing stays in its box
pub record Answerable (l : Landing) (code across : List ℕ) : Type 0 where
  pub same : l.beside ≡ false → orthants_of code ≡ orthants_of across
  pub place : l.place ≤ dimension_of across

-- such a code stands at the front of the buffer, and the answer that it gives is a crossing's
pub record Landed (code : List ℕ) (i : ℕ) (before : List ℕ) (l : Landing) (after : List ℕ) : Type 0 where
  pub room : length code ≤ length after
  pub passes : code_refusal (take (length code) after) ≡ done
  pub ready : Answerable l code (take (length code) after)
  pub says : (r : Crossing) → Whole l.place (take (length code) after) r → Crosses code i before (crossed (Ok r)) after

-- the answer is a crossing's, refused or done
abbrev pub Lands : List ℕ → ℕ → List ℕ → Result Landing Refusal → List ℕ → Type 0
Lands code i before (Ok l) after = Landed code i before l after
Lands code i before (Err x) after = Crosses code i before (crossed (Err x)) after
