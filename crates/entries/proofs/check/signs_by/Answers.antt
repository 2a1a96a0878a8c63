-- `signs_by` meets its contract.
use Rattle.entries.specs.Marks.{have_bits, joined_marks}
use Rattle.entries.specs.Masks.{negated_alone}
use Rattle.entries.specs.SignMasks.{first_bits, signs_by_masks}
use borrow.Author.Rules.{rules}
use Rattle.entries.proofs.check.signs_by.Goals as goal

pub marks_in-axes-requires : goal.marks_in-axes-requires
marks_in-axes-requires c = search (rules, first_bits, have_bits)

pub marks_in-requires : goal.marks_in-requires
marks_in-requires c = search (rules, first_bits, have_bits)

pub returns : goal.returns
returns c = signs_by_masks c.requires.1 c.requires.2 c.first-first.ensures (joined_marks (λ x. x) (λ x y e. e) c.marks_in-axes.ensures)
    (joined_marks negated_alone (λ x y e. e) c.marks_in.ensures) (search rules) c.from.ensures
