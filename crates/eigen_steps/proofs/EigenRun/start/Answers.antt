use Rattle.answers.specs.declared.Answer.{Answer}
use Rattle.answers.proofs.VerdictLaws.{on_ok, on_err, fails}
use Rattle.eigen_symmetric_eigen.specs.ChecksLaws.{by_checks, checks_right}
use Rattle.eigen_steps.specs.Steps.{Outcome, ends_with, started}
use Rattle.eigen_steps.proofs.EigenRun.start.Goals as goal

pub enter-requires : goal.enter-requires
enter-requires c = let r = checks_right _ _ _ _ _ _ (on_ok c.checks.ensures c.in-Ok.is) in (r.0, r.2, r.3, r.4)

pub returns-in-Ok : goal.returns-in-Ok
unfolding started
returns-in-Ok c = rw (by_checks {S = Outcome} (λ (x : Answer). ends_with c.args.n c.args.limit c.args.edition (x, c.args.work.now, c.args.res.now)) _ c.args.n c.args.limit c.args.edition _ _ _, on_ok c.checks.ensures c.in-Ok.is) c.enter.ensures

pub returns-in-Err : goal.returns-in-Err
unfolding started
returns-in-Err c = rw (by_checks {S = Outcome} (λ (x : Answer). ends_with c.args.n c.args.limit c.args.edition (x, c.args.work.now, c.args.res.now)) _ c.args.n c.args.limit c.args.edition _ _ _, on_err c.checks.ensures c.in-Err.is, fails c.in-Err.r, c.ended.ensures, c.new.ensures, c.into.ensures)
