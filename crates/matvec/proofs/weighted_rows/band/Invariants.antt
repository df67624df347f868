use mathlib.Core.Path.{◌≡◌}
use Prim.Native.Nat.{◌*◌, ◌/◌}
use Rattle.grid.specs.Loop.{upto}
use Rattle.matvec.specs.Strips.{cell_step}
use Rattle.matvec.proofs.weighted_rows.band.Given as goal

abbrev pub invariant-loop-q : goal.invariant-loop-q
invariant-loop-q l = l.w ≡ upto (cell_step l.n l.a l.v l.j l.e) 0 (l.q * 16) l.initial.w

abbrev pub invariant-loop-c : goal.invariant-loop-c
invariant-loop-c l = l.w ≡ upto (cell_step l.n l.a l.v l.j l.e) (l.n / 16 * 16) l.c l.initial.w
