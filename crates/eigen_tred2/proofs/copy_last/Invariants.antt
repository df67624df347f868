use mathlib.Core.Path.{◌≡◌}
use Rattle.grid.specs.Loop.{upto}
use Rattle.eigen_tred2_definition.specs.Tred2Steps.{copy_last_step}
use Rattle.eigen_tred2.proofs.copy_last.Given as goal

abbrev pub invariant-loop-j : goal.invariant-loop-j
invariant-loop-j l = l.d ≡ upto (copy_last_step l.n l.v) 0 l.j l.initial.d
