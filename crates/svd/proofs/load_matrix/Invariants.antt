use mathlib.Core.Path.{◌≡◌}
use Rattle.grid.specs.Loop.{upto}
use Rattle.svd.specs.LoadedLaws.{column_loaded}
use Rattle.svd.proofs.load_matrix.Given as goal

abbrev pub invariant-loop-j : goal.invariant-loop-j
invariant-loop-j l = l.w ≡ upto (column_loaded l.m l.n l.rows l.a) 0 l.j l.initial.w
