use mathlib.Core.Path.{◌≡◌}
use Prim.Native.Nat.{ℕ, ◌+◌}
use Rattle.grid.specs.Loop.{upto}
use Rattle.grid.specs.Real.{at}
use Rattle.svd_sort_svd_descending.specs.Rank.{note_step}
use Rattle.svd_sort_svd_descending.proofs.order.note.Given as goal

abbrev pub invariant-loop-k : goal.invariant-loop-k
invariant-loop-k l = l.o ≡ upto (note_step (λ (i : ℕ). at l.w (l.from + i)) l.r) 0 l.k l.initial.o
