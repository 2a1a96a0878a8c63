-- `code_to_path` meets its contract: each refusal in its order, then the root and the path that are written.
use Rattle.codes.specs.PathAnswers.{to_path_own, to_path_short, to_path_done}
use Rattle.std.proofs.Common.{◌≡◌, sym}
use borrow.Author.Rules.{rules}
use Rattle.codes.proofs.code_to_path.Goals as goal

pub returns-in_err-code : goal.returns-in_err-code
returns-in_err-code c = to_path_own _ _ _ _ _ c.from_residual.ensures.1 c.in_err-code.ensures

pub returns-then-root-axes : goal.returns-then-root-axes
returns-then-root-axes c = search (rules, to_path_short)

pub returns : goal.returns
returns c = let is : c.in_ok-code.code ≡ c.args.code.now = c.in_ok-code.ensures.0 in
    to_path_done _ _ _ (sym c.in_ok-code.ensures.1) (rw is at c.axes-axes.ensures) (rw is at c.depth-depth.ensures) c.if-root-axes.false c.if-path-depth.false
    (rw is at c.write_path.ensures)
