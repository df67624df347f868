use mathlib.Core.Path.{◌∙◌}
use native.Mathlib.Omega.{arith}
use Rattle.svd_jacobi_svd_tall.proofs.sweep.TwoRows.{last_rows, last_pair}
use Rattle.svd_jacobi_svd_tall.proofs.sweep.two_rows.Goals as goal

pub returns-then-p-cols : goal.returns-then-p-cols
returns-then-p-cols c = c.pair.ensures ∙ last_rows _ _ _ _ (omega arith)

pub returns : goal.returns
returns c = last_pair _ _ _ _ (omega arith) c.two_rows_but_last-so_far.ensures c.pair-2.ensures
