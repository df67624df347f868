use mathlib.Core.Path.{◌≡◌}
use lib.ListN.{set}
use Rattle.grid.specs.Loop.{upto}
use Rattle.grid.specs.Real.{at, ◌⊘◌}
use Rattle.gram_schmidt.proofs.normalise.over.Given as goal

abbrev pub invariant-loop-x : goal.invariant-loop-x
invariant-loop-x l = l.c ≡ upto (λ row c. set c row (at c row ⊘ l.by)) 0 l.x-index l.initial.c
