use mathlib.Core.Path.{◌≡◌}
use Rattle.grid.specs.Loop.{upto}
use Rattle.gram_schmidt.specs.Gram.{less_columns}
use Rattle.gram_schmidt.proofs.less_columns_twice.Given as goal

abbrev pub invariant-loop-p : goal.invariant-loop-p
invariant-loop-p l = l.c ≡ upto (λ p. less_columns l.m l.k l.j l.q) 0 l.p l.initial.c
