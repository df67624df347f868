use mathlib.Core.Path.{◌≡◌}
use Rattle.grid.specs.Loop.{upto}
use Rattle.eigen_tred2_definition.specs.Tred2Steps.{skip_step}
use Rattle.eigen_tred2.proofs.reduction.skip_row.Given as goal

abbrev pub invariant-loop-j : goal.invariant-loop-j
invariant-loop-j l = (l.v, l.d) ≡ upto (skip_step l.n l.i) 0 l.j (l.initial.v, l.initial.d)
