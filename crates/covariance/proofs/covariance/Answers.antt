use mathlib.Core.Path.{refl, sym}
use Rattle.answers.proofs.VerdictLaws.{on_ok, on_err, fails}
use Rattle.covariance.specs.Covariance.{covariance}
use Rattle.covariance.proofs.Steps.{sized}
use Rattle.covariance.proofs.covariance.Goals as goal

pub compute-requires : goal.compute-requires
compute-requires c = sized _ _ _ _ (sym (on_ok c.checks.ensures c.in-Ok.is)) refl

pub returns-in-Ok : goal.returns-in-Ok
unfolding covariance
returns-in-Ok c = rw (on_ok c.checks.ensures c.in-Ok.is, c.into.ensures) c.compute.ensures

pub returns-in-Err : goal.returns-in-Err
unfolding covariance
returns-in-Err c = rw (on_err c.checks.ensures c.in-Err.is, fails c.in-Err.r, c.into-in-Err.ensures)
