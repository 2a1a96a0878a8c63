-- `permuted` meets its contract.
use mathlib.Core.Path.{refl}
use Rattle.entries.specs.Marks.{have_bits, joined_marks, none_past, one_past, permuted_all}
use borrow.Author.Rules.{rules}
use Rattle.entries.proofs.check.permuted.Goals as goal

pub marks_in-requires : goal.marks_in-requires
marks_in-requires c = search (rules, none_past, have_bits)

pub returns-then-entries-eq0 : goal.returns-then-entries-eq0
returns-then-entries-eq0 c = permuted_all refl c.requires.1 c.requires.2 (joined_marks (λ x. x) (λ x y e. e) c.marks_in.ensures)

pub returns-else-entries-eq0 : goal.returns-else-entries-eq0
returns-else-entries-eq0 c = search (rules, one_past)
