use mathlib.Core.Path.{◌≡◌}
use Rattle.grid.specs.Loop.{upto}
use Rattle.svd_jacobi_svd_tall.specs.SweepSteps.{gram_step}
use Rattle.svd_jacobi_svd_tall.proofs.sweep.gram.Given as goal

abbrev pub invariant-loop-i : goal.invariant-loop-i
invariant-loop-i l = l.x ≡ upto (gram_step l.a l.b l.w) 0 l.i l.initial.x
