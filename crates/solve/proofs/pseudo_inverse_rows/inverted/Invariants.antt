use mathlib.Core.Path.{◌≡◌}
use Prim.Native.Nat.{◌*◌}
use Rattle.grid.specs.Table.{rows, table}
use lib.ListN.{take}
use Rattle.solve.specs.PseudoInverse.{pinv_sum}
use Rattle.solve.proofs.pseudo_inverse_rows.inverted.Given as goal

abbrev pub invariant-loop-j : goal.invariant-loop-j
invariant-loop-j l = take (l.j * l.p.m) l.x ≡ rows (λ j. table (pinv_sum l.p.r l.p.n l.tolerance l.p.s.now l.p.u.now l.p.vt.now j) l.p.m) l.j
