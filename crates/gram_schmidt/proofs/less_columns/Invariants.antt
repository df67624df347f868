use mathlib.Core.Path.{◌≡◌}
use Rattle.grid.specs.Loop.{upto}
use Rattle.gram_schmidt.specs.Gram.{column_of, dot, lessened}
use Rattle.gram_schmidt.proofs.less_columns.Given as goal

abbrev pub invariant-loop-i : goal.invariant-loop-i
invariant-loop-i l = l.c ≡ upto (λ i c. lessened l.m (dot l.m (column_of l.m l.k l.q i) c) (column_of l.m l.k l.q i) c) 0 l.i l.initial.c
