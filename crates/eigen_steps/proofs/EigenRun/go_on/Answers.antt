use borrow.Author.Tests.{eq-eqb, ne_eqb}
use Rattle.eigen_steps.specs.StepsLaws.{moved_on}
use Rattle.eigen_steps.proofs.EigenRun.go_on.Goals as goal

pub returns-then-run-eq-GOING : goal.returns-then-run-eq-GOING
returns-then-run-eq-GOING c = moved_on _ _ _ _ _ c.args.work.now c.args.res.now _ _ _ c.move_on-run.ensures (rw (eq-eqb _ _ c.if-run-eq-GOING.true, c.done.ensures))

pub returns : goal.returns
returns c = moved_on _ _ _ _ _ c.args.work.now c.args.res.now _ _ _ c.move_on-run.ensures (rw (ne_eqb _ _ c.if-run-eq-GOING.false, ← c.close_up.ensures))
