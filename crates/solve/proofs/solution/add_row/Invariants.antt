use mathlib.Core.Path.{◌≡◌}
use Rattle.grid.specs.Loop.{upto}
use Rattle.solve.specs.SolutionLaws.{add_step}
use Rattle.solve.proofs.solution.add_row.Given as goal

abbrev pub invariant-loop-j : goal.invariant-loop-j
invariant-loop-j l = l.acc ≡ upto (add_step l.cols l.a l.i l.by) 0 l.j l.initial.acc
