use mathlib.Core.Path.{refl, sym}
use borrow.Author.Tests.{eq-eqb, ne_eqb}
use Rattle.answers.specs.Answers.{done}
use Rattle.answers.proofs.VerdictLaws.{on_ok, on_err, fails}
use Rattle.eigen_steps.specs.Steps.{stepped}
use Rattle.eigen_steps.specs.PastChecks.{checked_past}
use Rattle.eigen_steps.proofs.EigenRun.step.Goals as goal

pub returns-then-run-ne-GOING : goal.returns-then-run-ne-GOING
unfolding stepped
returns-then-run-ne-GOING c = rw (ne_eqb _ _ c.if-run-ne-GOING.true)

pub go_on-requires : goal.go_on-requires
go_on-requires c = let k = checked_past _ _ _ _ _ _ (done 0) (sym (on_ok c.checked.ensures c.in-Ok.is)) refl in (k.past.some, k.past.small, k.past.few, k.past.opens c.if-run-ne-GOING.false, k.works, k.room)

pub returns-in-Ok : goal.returns-in-Ok
unfolding stepped
returns-in-Ok c = rw (eq-eqb _ _ c.if-run-ne-GOING.false, on_ok c.checked.ensures c.in-Ok.is) c.go_on.ensures

pub returns-in-Err : goal.returns-in-Err
unfolding stepped
returns-in-Err c = rw (eq-eqb _ _ c.if-run-ne-GOING.false, on_err c.checked.ensures c.in-Err.is, fails c.in-Err.r, c.into.ensures)
