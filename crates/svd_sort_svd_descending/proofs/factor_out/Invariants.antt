use mathlib.Core.Path.{◌≡◌}
use Rattle.grid.specs.Loop.{upto}
use Rattle.svd_sort_svd_descending.specs.OutLaws.{sort_step}
use Rattle.svd_sort_svd_descending.proofs.factor_out.Given as goal

abbrev pub invariant-loop-k : goal.invariant-loop-k
invariant-loop-k l = l.res ≡ upto (sort_step l.from l.rows l.to l.down l.across l.w l.o) 0 l.k l.initial.res
