use mathlib.Core.Path.{◌≡◌}
use Rattle.grid.specs.Loop.{upto}
use Rattle.eigen_tql2.specs.SortSteps.{swap_step}
use Rattle.eigen_tql2.proofs.sort.swap.Given as goal

abbrev pub invariant-loop-row : goal.invariant-loop-row
invariant-loop-row l = l.v ≡ upto (swap_step l.n l.i l.k) 0 l.row l.initial.v
