use mathlib.Core.Path.{◌≡◌}
use Rattle.grid.specs.Loop.{upto}
use Rattle.grid.specs.Cell.{put_entry}
use Rattle.grid.specs.Real.{at}
use Rattle.gram_schmidt.proofs.normalise.put_column.Given as goal

abbrev pub invariant-loop-row : goal.invariant-loop-row
invariant-loop-row l = l.q ≡ upto (λ row q. put_entry q l.k row l.j (at l.c row)) 0 l.row l.initial.q
