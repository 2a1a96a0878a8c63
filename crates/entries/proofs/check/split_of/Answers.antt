-- `split_of` meets its contract.
use mathlib.Core.Path.{refl}
use native.Mathlib.Omega.{arith}
use Rattle.entries.specs.Passed.{split_read}
use borrow.Author.Rules.{rules}
use Rattle.entries.proofs.check.split_of.Goals as goal

pub overflow_sub-boxes : goal.overflow_sub-boxes
overflow_sub-boxes c = omega (arith, (split_read c.args.code.now c.args.d c.requires refl).long)

pub overflow_sub-boxes-2 : goal.overflow_sub-boxes-2
overflow_sub-boxes-2 c = omega (arith, (split_read c.args.code.now c.args.d c.requires refl).long)

pub bounds-code-1 : goal.bounds-code-1
bounds-code-1 c = omega (arith, (split_read c.args.code.now c.args.d c.requires refl).long)

pub overflow_mul-result : goal.overflow_mul-result
overflow_mul-result c = record { fits = omega (arith, (split_read c.args.code.now c.args.d c.requires c.from.ensures).under) }

pub overflow_sub-result : goal.overflow_sub-result
overflow_sub-result c = (split_read _ _ c.requires c.from.ensures).under

pub overflow_sub-result-2 : goal.overflow_sub-result-2
overflow_sub-result-2 c = search (rules, split_read)

pub returns : goal.returns
returns c = search (rules, split_read)
