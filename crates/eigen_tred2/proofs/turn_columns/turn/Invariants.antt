use mathlib.Core.Path.{◌≡◌}
use Prim.Native.Nat.{◌+◌}
use Rattle.grid.specs.Loop.{upto}
use Rattle.eigen_tred2_definition.specs.Tred2Steps.{turn_column_step}
use Rattle.eigen_tred2.proofs.turn_columns.turn.Given as goal

abbrev pub invariant-loop-c : goal.invariant-loop-c
invariant-loop-c g l = l.v ≡ upto (turn_column_step l.n l.m l.d) l.j (l.j + l.c) l.initial.v
