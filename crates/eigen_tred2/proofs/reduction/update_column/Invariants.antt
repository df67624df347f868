use mathlib.Core.Path.{◌≡◌}
use Rattle.grid.specs.Loop.{upto}
use Rattle.eigen_tred2_definition.specs.Tred2Steps.{update_step}
use Rattle.eigen_tred2.proofs.reduction.update_column.Given as goal

abbrev pub invariant-loop-k : goal.invariant-loop-k
invariant-loop-k l = l.v ≡ upto (update_step l.n l.j l.f l.g l.d l.e) l.j l.k l.initial.v
