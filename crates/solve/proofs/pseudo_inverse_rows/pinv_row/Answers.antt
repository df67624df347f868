use mathlib.Core.Path.{◌∙◌}
use Rattle.solve.proofs.pseudo_inverse_rows.Sums.{row_same}
use Rattle.solve.proofs.pseudo_inverse_rows.pinv_row.Goals as goal

pub returns : goal.returns
returns c = c.dots.ensures ∙ rw c.products.ensures (row_same _ _ _ _ _ _ _ _)
