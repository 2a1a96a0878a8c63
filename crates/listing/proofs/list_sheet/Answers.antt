-- `list_sheet` meets its contract: a sheet too large, a refused one, a good one.
use Rattle.bisection.specs.NumberLaws.{refuses}
use Rattle.listing.specs.Texts.{large, refused, good}
use Rattle.listing.specs.Whole.{first_puts, listed}
use Rattle.listing.proofs.list_sheet.Goals as goal

pub returns-then-sheet-gt-SHEET_LIMIT-clause-lists : goal.returns-then-sheet-gt-SHEET_LIMIT-clause-lists
returns-then-sheet-gt-SHEET_LIMIT-clause-lists c = listed (large c.if-sheet-gt-SHEET_LIMIT.true) (rw c.into.ensures at c.put_refused.ensures.0)

pub returns-in-Ok-clause-lists : goal.returns-in-Ok-clause-lists
returns-in-Ok-clause-lists c = let puts = first_puts c.first_edition.ensures c.put_good.ensures in listed (good c.if-sheet-gt-SHEET_LIMIT.false puts.sheet_is) puts.puts

pub returns-in-Err-clause-lists : goal.returns-in-Err-clause-lists
returns-in-Err-clause-lists c = listed (refused c.if-sheet-gt-SHEET_LIMIT.false _ c.in-Err.ensures (refuses c.in-Err.refused.refusal)) c.put_refused-in-Err.ensures.0
