use mathlib.Core.Path.{◌≡◌}
use Rattle.grid.specs.Loop.{upto}
use Rattle.eigen_symmetric_eigen.specs.LayoutSteps.{transpose_row}
use Rattle.eigen_symmetric_eigen.proofs.layout.rows.Given as goal

abbrev pub invariant-loop-i : goal.invariant-loop-i
invariant-loop-i l = l.v ≡ upto (transpose_row l.n) 0 l.i l.initial.v
