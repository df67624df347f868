use mathlib.Core.Path.{◌≡◌}
use Rattle.grid.specs.Loop.{upto}
use Rattle.eigen_tred2_definition.specs.Tred2Steps.{lessen_step}
use Rattle.eigen_tred2.proofs.reduction.lessen.Given as goal

abbrev pub invariant-loop-j : goal.invariant-loop-j
invariant-loop-j l = l.e ≡ upto (lessen_step l.hh l.d) 0 l.j l.initial.e
