use native.Mathlib.Omega.{arith}
use borrow.Author.Tests.{eq-eqb, ne_eqb}
use Rattle.eigen_tql2.specs.RunOverL.{stage, turn}
use Rattle.eigen_tql2.specs.LStartEndBounds.{opened_l}
use Rattle.eigen_tql2.specs.RunOverLBounds.{opened_ready, iterated_l}
use Rattle.eigen_tql2.proofs.run_over_l.turn.Goals as goal

pub returns-then-r-ne-GOING : goal.returns-then-r-ne-GOING
unfolding turn
returns-then-r-ne-GOING c = rw (ne_eqb _ _ c.if-r-ne-GOING.true)

pub iterate-t-requires : goal.iterate-t-requires
iterate-t-requires c = (omega arith, rw c.begin-q.ensures (opened_ready _ _ _ _ _ c.requires.0 c.requires.2), c.requires.3)

pub close-requires : goal.close-requires
close-requires c = omega (arith, c.requires, c.iterate-t.auto, iterated_l _ _ _ _ _ c.iterate-t.ensures, opened_l _ _ _ _ _ _ c.begin-q.ensures)

pub returns : goal.returns
unfolding turn stage
returns c = rw (eq-eqb _ _ c.if-r-ne-GOING.false, ← c.begin-q.ensures, ← c.iterate-t.ensures) (c.close.ensures _)
