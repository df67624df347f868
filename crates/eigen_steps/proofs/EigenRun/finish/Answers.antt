use mathlib.Core.Path.{refl, sym}
use borrow.Author.Tests.{lt-ltb, le-ltb, eq-eqb, ne_eqb}
use Rattle.answers.specs.Answers.{done}
use Rattle.answers.proofs.VerdictLaws.{on_ok, on_err, fails}
use Rattle.eigen_steps.specs.Steps.{finished}
use Rattle.eigen_steps.specs.PastChecks.{checked_past}
use Rattle.eigen_steps.proofs.EigenRun.finish.Goals as goal

pub returns-then-self-ne-GOING : goal.returns-then-self-ne-GOING
unfolding finished
returns-then-self-ne-GOING c = rw (ne_eqb c.args.self.run.stop 0 c.if-self-ne-GOING.true)

pub close_up-answer-requires : goal.close_up-answer-requires
close_up-answer-requires c = let k = checked_past _ _ _ _ _ _ (done 0) (sym (on_ok c.checked.ensures c.in-Ok-2.is)) refl in (k.past.some, k.past.small, k.works, k.room)

pub returns-in-Ok : goal.returns-in-Ok
unfolding finished
returns-in-Ok c = rw (eq-eqb c.args.self.run.stop 0 c.if-self-ne-GOING.false, on_ok c.checked.ensures c.in-Ok.is, lt-ltb c.args.self.run.l c.args.self.n c.if-self.true, c.into.ensures)

pub returns-in-Ok-2 : goal.returns-in-Ok-2
unfolding finished
returns-in-Ok-2 c = rw (eq-eqb c.args.self.run.stop 0 c.if-self-ne-GOING.false, on_ok c.checked.ensures c.in-Ok-2.is, le-ltb c.args.self.run.l c.args.self.n c.if-self.false, ← c.close_up-answer.ensures, c.ended.ensures)

pub returns-in-Err : goal.returns-in-Err
unfolding finished
returns-in-Err c = rw (eq-eqb c.args.self.run.stop 0 c.if-self-ne-GOING.false, on_err c.checked.ensures c.in-Err.is, fails c.in-Err.r, c.into-in-Err.ensures)
