use mathlib.Core.Path.{◌≡◌}
use Rattle.grid.specs.Loop.{upto}
use Rattle.eigen_tred2_definition.specs.Tred2Steps.{column_over_step}
use Rattle.eigen_tred2.proofs.turn_columns.column_over.Given as goal

abbrev pub invariant-loop-k : goal.invariant-loop-k
invariant-loop-k l = l.d ≡ upto (column_over_step l.n l.m l.h l.v) 0 l.k l.initial.d
