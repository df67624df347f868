use mathlib.Core.Path.{◌≡◌}
use Prim.Native.Nat.{◌-◌, ◌*◌}
use Rattle.gram_schmidt.specs.Gram.{column_of}
use Rattle.grid.specs.Table.{rows}
use lib.ListN.{take}
use Rattle.leading.proofs.vectors.Given as goal

abbrev pub invariant-loop-t : goal.invariant-loop-t
invariant-loop-t l = take (l.t * l.n) l.x ≡ rows (λ t. column_of l.n l.n l.v (l.n - 1 - t)) l.t
