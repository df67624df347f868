use mathlib.Core.Path.{◌≡◌}
use Rattle.grid.specs.Cell.{entry}
use Rattle.grid.specs.Table.{table}
use lib.ListN.{take}
use Rattle.gram_schmidt.proofs.column_of.Given as goal

abbrev pub invariant-loop-row : goal.invariant-loop-row
invariant-loop-row l = take l.row l.c ≡ table (λ i. entry l.q l.k i l.j) l.row
