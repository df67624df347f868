use mathlib.Core.Path.{◌≡◌}
use lib.ListN.{length}
use Rattle.grid.specs.Loop.{upto}
use Rattle.grid.specs.Real.{zero64, ◌⊕◌, ◌⊗◌, at}
use Rattle.gram_schmidt.proofs.dot.Given as goal

abbrev pub invariant-loop-x : goal.invariant-loop-x
invariant-loop-x l = l.acc ≡ upto (λ row acc. acc ⊕ at l.b row ⊗ at l.c row) 0 (length l.yielded) zero64
