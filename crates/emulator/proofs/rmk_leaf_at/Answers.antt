-- `rmk_leaf_at` meets its contract: the entry's answer, in its form for a C program.
use Rattle.emulator.proofs.rmk_leaf_at.Goals as goal

pub returns : goal.returns
returns c = rw c.into.ensures c.leaf_at.ensures
