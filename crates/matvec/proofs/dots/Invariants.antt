use mathlib.Core.Path.{◌≡◌}
use Prim.Native.Nat.{◌*◌, ◌/◌}
use Rattle.grid.specs.Loop.{upto}
use Rattle.matvec.specs.Rows.{put_dot}
use Rattle.matvec.proofs.dots.Given as goal

abbrev pub invariant-loop-q : goal.invariant-loop-q
invariant-loop-q l = l.w ≡ upto (put_dot l.n l.a l.v) 0 (l.q * 4) l.initial.w

abbrev pub invariant-loop-i : goal.invariant-loop-i
invariant-loop-i l = l.w ≡ upto (put_dot l.n l.a l.v) (l.n / 4 * 4) l.i l.initial.w
