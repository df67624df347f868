use mathlib.Core.Path.{◌≡◌}
use Rattle.solve.specs.PseudoInverseLaws.{dot}
use Rattle.grid.specs.Table.{table}
use lib.ListN.{take}
use Rattle.solve.proofs.pseudo_inverse_rows.dots.Given as goal

abbrev pub invariant-loop-i : goal.invariant-loop-i
invariant-loop-i l = take l.i l.x ≡ table (dot l.r l.w l.u) l.i
