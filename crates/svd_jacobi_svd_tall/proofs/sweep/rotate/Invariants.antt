use mathlib.Core.Path.{◌≡◌}
use Rattle.grid.specs.Loop.{upto}
use Rattle.svd_jacobi_svd_tall.specs.SweepSteps.{rotate_step}
use Rattle.svd_jacobi_svd_tall.proofs.sweep.rotate.Given as goal

abbrev pub invariant-loop-i : goal.invariant-loop-i
invariant-loop-i l = l.w ≡ upto (rotate_step l.a l.b l.rot) 0 l.i l.initial.w
