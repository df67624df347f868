use Rattle.grid.specs.Real.{Vec}
use Rattle.answers.specs.declared.Answer.{Answer}
use Rattle.answers.proofs.VerdictLaws.{on_ok, on_err, fails}
use Rattle.eigen_symmetric_eigen.specs.SymmetricEigen.{eigen}
use Rattle.eigen_symmetric_eigen.specs.ChecksLaws.{by_checks, checks_right}
use Rattle.eigen_symmetric_eigen.proofs.symmetric_eigen.Goals as goal

pub enter-requires : goal.enter-requires
enter-requires c = checks_right _ _ _ _ _ _ (on_ok c.checks.ensures c.in-Ok.is)

pub returns-in-Ok : goal.returns-in-Ok
unfolding eigen
returns-in-Ok c = rw (by_checks {S = Answer × Vec × Vec} (λ (x : Answer). (x, c.args.work.now, c.args.res.now)) _ c.args.n c.args.limit c.args.edition _ _ _, on_ok c.checks.ensures c.in-Ok.is) c.enter.ensures

pub returns-in-Err : goal.returns-in-Err
unfolding eigen
returns-in-Err c = rw (by_checks {S = Answer × Vec × Vec} (λ (x : Answer). (x, c.args.work.now, c.args.res.now)) _ c.args.n c.args.limit c.args.edition _ _ _, on_err c.checks.ensures c.in-Err.is, fails c.in-Err.r, c.into.ensures)
