use mathlib.Core.Path.{◌≡◌}
use Prim.Native.Nat.{◌+◌}
use Rattle.grid.specs.Loop.{upto}
use Rattle.matvec.specs.Strips.{row_step}
use Rattle.matvec.proofs.weighted_rows.some.Given as goal

abbrev pub invariant-loop-i : goal.invariant-loop-i
invariant-loop-i l = l.y ≡ upto (row_step l.n l.a l.v l.c) l.j (l.j + l.i) l.initial.y
