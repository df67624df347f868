use native.Mathlib.Omega.{arith}
use borrow.Author.Tests.{ne_eqb}
use Rattle.eigen_tql2.specs.LStartEnd.{closed}
use Rattle.eigen_tql2.proofs.l_start_end.close.Goals as goal

pub returns-in-1 : goal.returns-in-1
unfolding closed
returns-in-1 c = λ v. rw (c.in-1.is, ← c.stopping.ensures)

pub returns-in-0 : goal.returns-in-0
unfolding closed
returns-in-0 c = λ v. rw (c.in-0.is, ← c.stopping-in-0.ensures)

pub returns-in_default : goal.returns-in_default
unfolding closed
returns-in_default c = λ v. rw (ne_eqb c.args.r.stop 1 (omega (arith, c.in_default)), ne_eqb c.args.r.stop 0 (omega (arith, c.in_default)))
