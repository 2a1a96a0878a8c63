-- `rmk_sheet_check` meets its contract: the entry's answer, in its form for a C program.
use Rattle.emulator.proofs.rmk_sheet_check.Goals as goal

pub returns : goal.returns
returns c = rw c.into.ensures c.sheet_check.ensures
