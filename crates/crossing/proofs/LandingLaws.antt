-- Where a crossing lands, and the answer there: one law for each way out that is done.
use Rattle.std.specs.Prelude.{◌≡◌, refl, false, List, ◌++◌, ℕ, ◌≤◌, length, take, drop}
use Rattle.std.proofs.Common.{sym, ap, ◌∙◌, subst, arith, length-append, length-drop}
use Rattle.bisection.specs.Codes.{dimension_of, orthants_of}
use Rattle.bisection.specs.Refusals.{done, code_refusal}
use Rattle.bisection.specs.Theorems.Neighbour.{is_blocked, table_code, table_place}
use Rattle.corners.specs.PointWords.{point_word}
use Rattle.corners.specs.Vertices.{vertex_in, code_dimension, code_sized, vertex_small}
use Rattle.crossing.specs.declared.Vertex.{Vertex}
use Rattle.crossing.specs.declared.Landing.{Landing}
use Rattle.crossing.specs.Outcome.{by_axes}
use Rattle.crossing.specs.Unpacking.{Unpacked}
use Rattle.crossing.specs.Answers.{Whole}
use Rattle.crossing.proofs.AnswerLaws.{table_size, table_front, front_passes, front_place, cross_done}
use Rattle.crossing.specs.Landing.{Answerable, Landed}

-- as the code has the place as a size, and the new vertex's word
pub answer_whole : {l : Landing} {code across : List ℕ} → Answerable l code across → code_refusal across ≡ done → {j : ℕ} → j ≡ l.place
    → {point : ℕ} {v : Vertex} → point ≡ point_word (vertex_in across j) → Unpacked point v → {n : ℕ} → n ≡ length across
    → Whole l.place across (record { place = l.place; length = n; vertex = v })
answer_whole {l} {across = across} a p {j} g w u q = record {
  place = refl;
  size = q;
  vertex = u.is (vertex_in across j) few (vertex_small across p j there) w ∙ ap (λ (m : ℕ). by_axes (vertex_in across m)) g;
}
  where
    there : j ≤ dimension_of across
    there = rw g a.place

    few : length (vertex_in across j) ≤ 4
    few = omega (arith, (code_sized across p).dims j there, (code_dimension across p).few)

-- the ways out that are done
module _ (code before : List ℕ) (i : ℕ) (p : code_refusal code ≡ done) (il : i ≤ dimension_of code) where
  -- the landing tells the place, and whether the orthants are the code's own
  pub landed : is_blocked code i ≡ false → length code ≤ length before → (l : Landing) → l.place ≡ table_place code i
      → (l.beside ≡ false → orthants_of code ≡ orthants_of (table_code code i))
      → {after : List ℕ} → after ≡ table_code code i ++ drop (length code) before → Landed code i before l after
  landed e h l g same {after} q = record {
    room = rw q (omega (arith, length-append (table_code code i) (drop (length code) before), length-drop (length code) before, table_size code p i il e));
    passes = front_passes code p i il e rest q;
    ready = record {
      same = λ v. same v ∙ ap orthants_of (sym (table_front code p i il e rest q));
      place = rw g (front_place code p i il e rest q);
    };
    says = λ r w. cross_done code before i p il e q h (subst (λ (j : ℕ). Whole j (take (length code) after) r) g w);
  }
    where
      rest : List ℕ
      rest = drop (length code) before
