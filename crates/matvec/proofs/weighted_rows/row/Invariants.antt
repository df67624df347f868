use mathlib.Core.Path.{◌≡◌}
use Rattle.grid.specs.Loop.{upto}
use Rattle.matvec.specs.Strips.{sixteen_step}
use Rattle.matvec.proofs.weighted_rows.row.Given as goal

abbrev pub invariant-loop-k : goal.invariant-loop-k
invariant-loop-k l = l.y ≡ upto (sixteen_step l.n l.a l.r l.c l.x) 0 l.k l.initial.y
