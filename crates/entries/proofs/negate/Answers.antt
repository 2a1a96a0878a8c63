-- `negate` meets its contract: negating the number negates the entry.
use Rattle.entries.specs.Signs.{negated_minus, negation_fits, negation_again, negation_byte}
use borrow.Author.Rules.{rules}
use Rattle.entries.proofs.negate.Goals as goal

pub returns-then-e-ge128 : goal.returns-then-e-ge128
returns-then-e-ge128 c = search (rules, negated_minus)

pub overflow_sub-signed_of : goal.overflow_sub-signed_of
overflow_sub-signed_of c = search (rules, negation_fits)

pub byte_of-requires : goal.byte_of-requires
byte_of-requires c = search (rules, negation_again)

pub returns-else-e-ge128 : goal.returns-else-e-ge128
returns-else-e-ge128 c = search (rules, negation_byte)
