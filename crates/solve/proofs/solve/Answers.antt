use mathlib.Core.Path.{◌≡◌, ◌∙◌, sym, ap}
use Rattle.std.specs.Prelude.{◌++◌}
use Rattle.leaves.specs.Scan.{first_bad}
use Rattle.answers.specs.declared.Answer.{Answer}
use Rattle.answers.proofs.VerdictLaws.{on_ok, on_err, fails}
use Rattle.solve.specs.Solve.{solve}
use Rattle.solve.proofs.Checks.{solve_sized}
use Rattle.solve.proofs.solve.Goals as goal

pub returns-in-Err : goal.returns-in-Err
unfolding solve
returns-in-Err c = rw (on_err c.solve_checks.ensures c.in-Err.is, fails c.in-Err.r, c.into.ensures)

pub returns-in-Some : goal.returns-in-Some
unfolding solve
returns-in-Some c =
    let found : first_bad (c.args.decomposition.now ++ c.args.right_side.now) ≡ _ = sym c.first_bad_of_both.ensures ∙ c.in-Some.is in
    rw (on_ok c.solve_checks.ensures c.in_default.is, found, ← c.into-in-Some.ensures) c.refuse.ensures

pub solve_looked-requires : goal.solve_looked-requires
solve_looked-requires c = solve_sized _ _ _ _ _ _ _ _ (ap (λ (a : Answer). a.answer) (on_ok c.solve_checks.ensures c.in_default.is))

pub returns : goal.returns
unfolding solve
returns c =
    let found : first_bad (c.args.decomposition.now ++ c.args.right_side.now) ≡ _ = sym c.first_bad_of_both.ensures ∙ c.in_default-first_bad_of_both.is in
    rw (on_ok c.solve_checks.ensures c.in_default.is, found) c.solve_looked.ensures
