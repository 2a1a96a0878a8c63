-- `code_body` meets its contract: each way out is one of the order of refusals.
use Rattle.codes.specs.Heads.{ready_long, body_some, body_two, body_few, body_bits, body_mask, body_room, body_most, body_whole, body_behind, body_permutation, body_orthant, signs_some, signs_few, signs_axes, body_sign, body_done}
use borrow.Author.Rules.{rules}
use Rattle.codes.proofs.code_body.Goals as goal

pub bounds-code-0 : goal.bounds-code-0
bounds-code-0 c = search (rules, ready_long)

pub word_in-entries-requires : goal.word_in-entries-requires
word_in-entries-requires c = search (rules, body_two, body_few, body_room)

pub permuted-requires : goal.permuted-requires
permuted-requires c = search (rules, body_some, body_few, body_behind)

pub returns-then-not-permuted : goal.returns-then-not-permuted
returns-then-not-permuted c = search (rules, body_permutation)

pub orthants_fit-requires : goal.orthants_fit-requires
orthants_fit-requires c = search (rules, body_two, body_bits, body_room, body_most)

pub returns-then-not-orthants_fit : goal.returns-then-not-orthants_fit
returns-then-not-orthants_fit c = search (rules, body_orthant)

pub split_of-k-requires : goal.split_of-k-requires
split_of-k-requires c = search (rules, body_some, body_whole)

pub own_byte-requires : goal.own_byte-requires
own_byte-requires c = search (rules, body_mask, body_room)

pub signs_by-requires : goal.signs_by-requires
signs_by-requires c = search (rules, signs_some, signs_few, signs_axes)

pub returns-then-not-signs_by : goal.returns-then-not-signs_by
returns-then-not-signs_by c = search (rules, body_sign)

pub returns : goal.returns
returns c = search (rules, body_done)
