use mathlib.Core.Path.{◌∙◌, sym, ap}
use borrow.Author.Tests.{eq-eqb, ne_eqb}
use Rattle.eigen_steps.specs.Steps.{start_entered}
use Rattle.eigen_steps.specs.StepsLaws.{ended_with, cleared_start}
use Rattle.eigen_steps.proofs.enter.Goals as goal

pub returns-in-Some : goal.returns-in-Some
unfolding start_entered
returns-in-Some c = rw (sym c.first_bad_lower.ensures ∙ c.in-Some.is) (cleared_start _ _ _ _ c.args.work.now c.args.res.now _ _ _ _ c.new-q.ensures (c.ended.ensures ∙ ap (ended_with c.new-q.result) c.into.ensures) c.fill.ensures c.fill-2.ensures c.requires.2 c.requires.3)

pub returns-in-None : goal.returns-in-None
unfolding start_entered
returns-in-None c = rw (sym c.first_bad_lower.ensures ∙ c.in-None.is, eq-eqb _ _ c.if-n-eq0.true) (cleared_start _ _ _ _ c.args.work.now c.args.res.now _ _ _ _ c.new-q.ensures (c.ended-in-None.ensures ∙ ap (ended_with c.new-q.result) c.done.ensures) c.fill.ensures c.fill-2.ensures c.requires.2 c.requires.3)

pub returns-in-None-2 : goal.returns-in-None-2
unfolding start_entered
returns-in-None-2 c = rw (sym c.first_bad_lower.ensures ∙ c.in-None-2.is, ne_eqb _ _ c.if-n-eq0.false) c.begin.ensures
