use mathlib.Core.Path.{◌≡◌}
use Rattle.grid.specs.Loop.{upto}
use Rattle.eigen_symmetric_eigen.specs.LayoutSteps.{transpose_step}
use Rattle.eigen_symmetric_eigen.proofs.layout.transpose_row.Given as goal

abbrev pub invariant-loop-j : goal.invariant-loop-j
invariant-loop-j l = l.v ≡ upto (transpose_step l.n l.i) 0 l.j l.initial.v
