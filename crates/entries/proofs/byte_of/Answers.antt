-- `byte_of` meets its contract: a positive number is its entry, another gives its size with a minus.
use Rattle.entries.specs.Signs.{minus_byte, plus_byte}
use Rattle.entries.proofs.byte_of.Goals as goal

pub returns-then-x-gt0 : goal.returns-then-x-gt0
returns-then-x-gt0 c = (plus_byte c.args.x c.ranges.x c.if-x-gt0.true).1

pub returns-else-x-gt0 : goal.returns-else-x-gt0
returns-else-x-gt0 c = (minus_byte c.args.x c.ranges.x c.requires c.if-x-gt0.false).1
