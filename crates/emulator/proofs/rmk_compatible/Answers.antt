-- `rmk_compatible` meets its contract: the entry's answer, in its form for a C program.
use Rattle.emulator.proofs.rmk_compatible.Goals as goal

pub returns : goal.returns
returns c = rw c.into.ensures c.compatible.ensures
