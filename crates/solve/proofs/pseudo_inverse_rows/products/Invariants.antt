use mathlib.Core.Path.{◌≡◌}
use Rattle.solve.specs.PseudoInverseLaws.{product}
use Rattle.grid.specs.Table.{table}
use lib.ListN.{take}
use Rattle.solve.proofs.pseudo_inverse_rows.products.Given as goal

abbrev pub invariant-loop-k : goal.invariant-loop-k
invariant-loop-k l = take l.k l.w ≡ table (product l.p.n l.tolerance l.p.s.now l.p.vt.now l.j) l.k
