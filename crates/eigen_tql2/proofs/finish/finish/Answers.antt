use mathlib.Core.Path.{sym, ◌∙◌}
use native.Mathlib.Omega.{arith}
use borrow.Author.Tests.{ne_eqb}
use Rattle.eigen_tql2.specs.Finish.{ql_finished}
use Rattle.eigen_tql2.proofs.finish.finish.Goals as goal

pub returns-in-9 : goal.returns-in-9
unfolding ql_finished
returns-in-9 c = λ e. rw (c.in-9.is, c.answered.ensures)

pub returns-in-Some : goal.returns-in-Some
unfolding ql_finished
returns-in-Some c = λ e. rw (c.in-0.is, sym c.mark2.ensures ∙ c.in-Some.is, c.answered-in-Some.ensures)

pub returns-in-None : goal.returns-in-None
unfolding ql_finished
returns-in-None c = λ e. rw (c.in-0.is, sym c.mark2.ensures ∙ c.in-None.is, ← c.sort.ensures, c.done.ensures)

pub returns-in_default : goal.returns-in_default
unfolding ql_finished
returns-in_default c = λ e. rw (ne_eqb c.args.r.stop 9 (omega (arith, c.in_default)), ne_eqb c.args.r.stop 0 (omega (arith, c.in_default)), c.answered-in_default.ensures)
