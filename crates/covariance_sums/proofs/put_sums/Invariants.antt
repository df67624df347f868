use mathlib.Core.Path.{◌≡◌}
use lib.ListN.{take}
use Rattle.grid.specs.Table.{table}
use Rattle.covariance_sums.specs.Sums.{sum_of}
use lib.Ieee.{binary64, of_int}
use Rattle.covariance_sums.proofs.put_sums.Given as goal

abbrev pub invariant-loop-j : goal.invariant-loop-j
invariant-loop-j l = take l.j l.out ≡ table (λ x. of_int binary64 (sum_of l.samples l.count x)) l.j
