use mathlib.Core.Path.{◌≡◌}
use Rattle.grid.specs.Loop.{upto}
use Rattle.solve.specs.SolutionLaws.{coefficient_step}
use Rattle.solve.proofs.solution.coefficients.Given as goal

abbrev pub invariant-loop-k : goal.invariant-loop-k
invariant-loop-k l = l.c ≡ upto (coefficient_step l.tolerance l.s) 0 l.k l.initial.c
