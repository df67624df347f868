use mathlib.Core.Path.{◌≡◌}
use Rattle.grid.specs.Loop.{upto}
use Rattle.svd.specs.LoadedLaws.{load_step}
use Rattle.svd.proofs.load_column.Given as goal

abbrev pub invariant-loop-i : goal.invariant-loop-i
invariant-loop-i l = l.w ≡ upto (load_step l.m l.n l.rows l.a l.j) 0 l.i l.initial.w
