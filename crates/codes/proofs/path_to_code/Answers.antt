-- `path_to_code` meets its contract: each refusal in its order, then the code that is written.
use native.Mathlib.Omega.{arith}
use Rattle.dimension.specs.Laws.{axes_range}
use Rattle.codes.specs.PathAnswers.{path_dimension, path_depth, path_permutation, path_step, path_short, path_ready, path_done}
use borrow.Author.Rules.{rules}
use Rattle.codes.proofs.path_to_code.Goals as goal

pub returns-in_default : goal.returns-in_default
returns-in_default c = path_dimension _ _ _ c.in_default.ensures

pub returns-then-greatest_depth-path : goal.returns-then-greatest_depth-path
returns-then-greatest_depth-path c = path_depth _ _ _ c.in-Some.dim c.in-Some.ensures c.greatest_depth.ensures c.if-greatest_depth-path.true

pub is_root-requires : goal.is_root-requires
is_root-requires c = omega (arith, c.in-Some.ensures, (axes_range c.in-Some.dim).two, (axes_range c.in-Some.dim).few)

pub returns-then-not-is_root : goal.returns-then-not-is_root
returns-then-not-is_root c = let e = c.in-Some.ensures in search (rules, path_permutation)

pub returns-then-not-is_path : goal.returns-then-not-is_path
returns-then-not-is_path c = let e = c.in-Some.ensures in search (rules, path_step)

pub returns-then-code-length : goal.returns-then-code-length
returns-then-code-length c = let e = c.in-Some.ensures in search (rules, path_short)

pub write_code-requires : goal.write_code-requires
write_code-requires c = let e = c.in-Some.ensures in search (rules, path_ready c.args.root.now c.args.path.now c.args.code.now c.in-Some.dim)

pub returns : goal.returns
returns c = let e = c.in-Some.ensures in search (rules, path_done)
