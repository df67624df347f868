use borrow.Author.Tests.{eq-eqb, ne_eqb}
use Rattle.eigen_symmetric_eigen.specs.PartsLaws.{outward}
use Rattle.eigen_steps.specs.ArraysLaws.{turned_out}
use Rattle.eigen_steps.proofs.arrays.turn_out.Goals as goal

pub returns-then-x-ne0 : goal.returns-then-x-ne0
unfolding turned_out outward
returns-then-x-ne0 c = λ e. rw (← c.finish-x.ensures e, ne_eqb _ _ c.if-x-ne0.true)

pub returns : goal.returns
unfolding turned_out outward
returns c = λ e. rw (← c.finish-x.ensures e, eq-eqb _ _ c.if-x-ne0.false, ← c.rows.ensures)
