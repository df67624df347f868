use mathlib.Core.Path.{◌≡◌}
use Prim.Native.Nat.{◌+◌}
use Rattle.grid.specs.Loop.{upto}
use Rattle.grid.specs.Real.{at}
use Rattle.grid.specs.TableLaws.{turns}
use lib.ListN.{set}
use Rattle.eigen_tred2_definition.specs.Tred2Steps.{column_dot_step}
use Rattle.eigen_tred2.proofs.turn_columns.dots.Given as goal

abbrev pub invariant-loop-k : goal.invariant-loop-k
invariant-loop-k g l = l.g ≡ turns (λ c. column_dot_step l.n l.m (l.j + c) l.v) g.row.N l.k

abbrev pub invariant-loop-c : goal.invariant-loop-c
invariant-loop-c g l = l.g ≡ upto (λ c g. set g c (column_dot_step l.n l.m (l.j + c) l.v l.k (at g c))) 0 l.c l.initial.g
