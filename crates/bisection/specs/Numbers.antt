-- The refusals as the code has them, by document 01's numbers; and the number that an answer carries, 0 where it has no refusal.
use Rattle.std.specs.Prelude.{ℕ, Result, Ok, Err}
use Rattle.bisection.specs.declared.Refusal.{Refusal}
use Rattle.bisection.specs.declared.Refusal.TheVariants.{Dimension, Depth, Length, Permutation, Orthant, Sign, Step, Face, Root, Deepest, Short, Point, Record, Leaf, Large}
use Rattle.bisection.specs.Refusals.{done, refused_dimension, refused_depth, refused_length, refused_permutation, refused_orthant, refused_sign, refused_step, refused_face, refused_root, refused_deepest, refused_short, refused_point, refused_record, refused_leaf, refused_large}

abbrev pub number_of : Refusal → ℕ
number_of Dimension = refused_dimension
number_of Depth = refused_depth
number_of Length = refused_length
number_of Permutation = refused_permutation
number_of Orthant = refused_orthant
number_of Sign = refused_sign
number_of Step = refused_step
number_of Face = refused_face
number_of Root = refused_root
number_of Deepest = refused_deepest
number_of Short = refused_short
number_of Point = refused_point
number_of Record = refused_record
number_of Leaf = refused_leaf
number_of Large = refused_large

abbrev pub refusal_in : {A : Type 0} → Result A Refusal → ℕ
refusal_in (Ok answer) = done
refusal_in (Err refusal) = number_of refusal
