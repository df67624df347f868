use mathlib.Core.Path.{◌≡◌}
use Rattle.grid.specs.Loop.{upto}
use Rattle.grid.specs.Real.{at}
use Rattle.matvec.specs.Strips.{column_step}
use Rattle.matvec.proofs.weighted_rows.column.Given as goal

abbrev pub invariant-loop-r : goal.invariant-loop-r
invariant-loop-r l = l.acc ≡ upto (column_step l.n l.a l.v l.c) l.j l.r (at l.w l.c)
