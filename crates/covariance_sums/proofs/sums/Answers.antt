use mathlib.Core.Path.{refl, sym}
use Rattle.answers.proofs.VerdictLaws.{on_ok, on_err, fails}
use Rattle.covariance_sums.specs.Sums.{sums}
use Rattle.covariance_sums.specs.SumsLaws.{sized}
use Rattle.covariance_sums.proofs.sums.Goals as goal

pub put_sums-requires : goal.put_sums-requires
put_sums-requires c = sized _ _ _ _ (sym (on_ok c.checks.ensures c.in-Ok.is)) refl

pub returns-in-Ok : goal.returns-in-Ok
unfolding sums
returns-in-Ok c = rw (on_ok c.checks.ensures c.in-Ok.is, c.done.ensures, c.put_sums.ensures)

pub returns-in-Err : goal.returns-in-Err
unfolding sums
returns-in-Err c = rw (on_err c.checks.ensures c.in-Err.is, fails c.in-Err.r, c.into.ensures)
