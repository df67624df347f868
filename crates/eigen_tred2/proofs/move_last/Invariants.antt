use mathlib.Core.Path.{◌≡◌}
use Rattle.grid.specs.Loop.{upto}
use Rattle.eigen_tred2_definition.specs.Tred2Steps.{move_step}
use Rattle.eigen_tred2.proofs.move_last.Given as goal

abbrev pub invariant-loop-j : goal.invariant-loop-j
invariant-loop-j l = (l.v, l.d) ≡ upto (move_step l.n) 0 l.j (l.initial.v, l.initial.d)
