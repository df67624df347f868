use mathlib.Core.Path.{◌≡◌}
use Prim.Native.Nat.{◌+◌}
use Rattle.grid.specs.Loop.{upto}
use Rattle.eigen_tred2.specs.ColumnPairs.{two_step}
use Rattle.eigen_tred2.proofs.column_pairs.similar_two.Given as goal

abbrev pub invariant-loop-k : goal.invariant-loop-k
invariant-loop-k l = (l.g, l.e) ≡ upto (two_step l.n l.j l.f l.v l.d) (l.j + 2) l.k (l.initial.g, l.initial.e)
