use mathlib.Core.Path.{◌≡◌, ◌∙◌, sym, ap}
use Rattle.leaves.specs.Scan.{first_bad}
use Rattle.answers.specs.declared.Answer.{Answer}
use Rattle.answers.proofs.VerdictLaws.{on_ok, on_err, fails}
use Rattle.solve.specs.Solve.{pseudo_inverse}
use Rattle.solve.proofs.Checks.{inverse_sized}
use Rattle.solve.proofs.pseudo_inverse.Goals as goal

pub returns-in-Err : goal.returns-in-Err
unfolding pseudo_inverse
returns-in-Err c = rw (on_err c.inverse_checks.ensures c.in-Err.is, fails c.in-Err.r, c.into.ensures)

pub returns-in-Some : goal.returns-in-Some
unfolding pseudo_inverse
returns-in-Some c =
    let found : first_bad c.args.decomposition.now ≡ _ = sym c.first_bad.ensures ∙ c.in-Some.is in
    rw (on_ok c.inverse_checks.ensures c.in_default.is, found, ← c.into-in-Some.ensures) c.refuse.ensures

pub inverse_looked-requires : goal.inverse_looked-requires
inverse_looked-requires c = inverse_sized _ _ _ _ _ _ _ (ap (λ (a : Answer). a.answer) (on_ok c.inverse_checks.ensures c.in_default.is))

pub returns : goal.returns
unfolding pseudo_inverse
returns c =
    let found : first_bad c.args.decomposition.now ≡ _ = sym c.first_bad.ensures ∙ c.in_default-first_bad.is in
    rw (on_ok c.inverse_checks.ensures c.in_default.is, found) c.inverse_looked.ensures
