use mathlib.Core.Path.{◌≡◌}
use Prim.Native.Nat.{◌*◌, ◌/◌}
use Rattle.grid.specs.Loop.{upto}
use Rattle.eigen_tred2_definition.specs.Tred2Steps.{turn_column_step}
use Rattle.eigen_tred2.proofs.turn_columns.turn_columns.Given as goal

abbrev pub invariant-loop-q : goal.invariant-loop-q
invariant-loop-q l = l.v ≡ upto (turn_column_step l.n l.m l.d) 0 (l.q * 4) l.initial.v

abbrev pub invariant-loop-j : goal.invariant-loop-j
invariant-loop-j l = l.v ≡ upto (turn_column_step l.n l.m l.d) (l.m / 4 * 4) l.j l.initial.v
