-- `write` meets its contract: an entry that the dimension lacks goes where the first one follows.
use lib.ListN.{length-set}
use native.Mathlib.Omega.{arith}
use Rattle.entries.specs.Walks.{place_within}
use Rattle.fours.specs.Laws.{written_are}
use Rattle.fours.proofs.write.Goals as goal

pub overflow_add-out : goal.overflow_add-out
overflow_add-out c = omega (arith, place_within 3 c.args.d)

pub bounds-out-at : goal.bounds-out-at
bounds-out-at c = omega (arith, place_within 3 c.args.d)

pub overflow_add-out-2 : goal.overflow_add-out-2
overflow_add-out-2 c = omega (arith, place_within 2 c.args.d)

pub bounds-out-at-2 : goal.bounds-out-at-2
bounds-out-at-2 c = simp length-set (omega (arith, place_within 2 c.args.d))

pub returns : goal.returns
returns c = rw (c.place_in.ensures, c.place_in-2.ensures) (written_are c.args.out.now c.args.at c.args.d c.requires.0 c.requires.1 c.requires.2 c.args.e)
