use mathlib.Core.Path.{◌≡◌}
use Rattle.grid.specs.Loop.{upto}
use Rattle.eigen_symmetric_eigen.specs.LayoutSteps.{copy_row}
use Rattle.eigen_symmetric_eigen.proofs.layout.columns.Given as goal

abbrev pub invariant-loop-i : goal.invariant-loop-i
invariant-loop-i l = l.v ≡ upto (copy_row l.n l.a) 0 l.i l.initial.v
