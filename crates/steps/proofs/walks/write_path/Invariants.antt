-- `write_path` meets its contract. The loop keeps: the rest of the way up gives the root, and the path with the steps already
-- written.
use Rattle.entries.specs.Words.{bytes_of}
use Rattle.steps.specs.Climbs.{Rising}
use Rattle.steps.proofs.walks.write_path.Given as goal

abbrev pub invariant-loop-t : goal.invariant-loop-t
invariant-loop-t l = Rising l.axes l.depth l.bytes (bytes_of l.initial.entries) l.initial.path l.t l.k l.boxes (bytes_of l.entries) l.path
