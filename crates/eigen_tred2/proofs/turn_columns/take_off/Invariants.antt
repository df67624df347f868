use mathlib.Core.Path.{◌≡◌}
use Rattle.grid.specs.Loop.{upto}
use Rattle.eigen_tred2_definition.specs.Tred2Steps.{take_step}
use Rattle.eigen_tred2.proofs.turn_columns.take_off.Given as goal

abbrev pub invariant-loop-k : goal.invariant-loop-k
invariant-loop-k l = l.v ≡ upto (take_step l.n l.j l.g l.d) 0 l.k l.initial.v
