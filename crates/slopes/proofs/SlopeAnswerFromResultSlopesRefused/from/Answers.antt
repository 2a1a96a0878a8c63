-- The form of slopes for a C program: beside a refusal, 0.0 is +0.0.
use lib.Ieee.{of_bits, of_fields, odd}
use borrow.Author.Rules.{rules}
use Rattle.slopes.proofs.SlopeAnswerFromResultSlopesRefused.from.Goals as goal

pub returns-in-Err : goal.returns-in-Err
unfolding of_bits of_fields odd
returns-in-Err c = search rules
