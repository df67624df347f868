use mathlib.Core.Path.{◌≡◌}
use lib.ListN.{set}
use Rattle.grid.specs.Loop.{upto}
use Rattle.grid.specs.Real.{at, ◌⊖◌, ◌⊗◌}
use Rattle.gram_schmidt.proofs.lessen.Given as goal

abbrev pub invariant-loop-row : goal.invariant-loop-row
invariant-loop-row l = l.c ≡ upto (λ row c. set c row (at c row ⊖ l.proj ⊗ at l.b row)) 0 l.row l.initial.c
