use mathlib.Core.Path.{◌≡◌}
use Rattle.grid.specs.Loop.{upto}
use Rattle.eigen_tred2_definition.specs.Tred2Steps.{updates_step}
use Rattle.eigen_tred2.proofs.reduction.updates.Given as goal

abbrev pub invariant-loop-j : goal.invariant-loop-j
invariant-loop-j l = (l.v, l.d) ≡ upto (updates_step l.n l.i l.e) 0 l.j (l.initial.v, l.initial.d)
