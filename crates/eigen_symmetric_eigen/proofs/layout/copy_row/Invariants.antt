use Rattle.grid.specs.Loop.{upto}
use mathlib.Core.Path.{◌≡◌}
use Rattle.eigen_symmetric_eigen.specs.LayoutSteps.{copy_row_step}
use Rattle.eigen_symmetric_eigen.proofs.layout.copy_row.Given as goal

abbrev pub invariant-loop-j : goal.invariant-loop-j
invariant-loop-j l = l.v ≡ upto (copy_row_step l.n l.a l.i) 0 l.j l.initial.v
