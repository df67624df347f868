use mathlib.Core.Path.{◌≡◌}
use Rattle.grid.specs.Loop.{upto}
use Rattle.svd_sort_svd_descending.specs.OutLaws.{cell_step}
use Rattle.svd_sort_svd_descending.proofs.column_out.Given as goal

abbrev pub invariant-loop-i : goal.invariant-loop-i
invariant-loop-i l = l.res ≡ upto (cell_step l.from l.to l.down l.w) 0 l.i l.initial.res
