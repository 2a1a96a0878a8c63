-- `sample` meets its contract. The loop keeps: the bytes that the iterator has not left are read.
use Rattle.std.specs.Prelude.{take, drop}
use Rattle.greys.specs.Loops.{Reading}
use Rattle.greys.proofs.sample.Given as goal

abbrev pub invariant-loop-byte : goal.invariant-loop-byte
invariant-loop-byte l = Reading (take l.width (drop l.first l.samples)) l.byte-iterator.iter.rest.now l.n
