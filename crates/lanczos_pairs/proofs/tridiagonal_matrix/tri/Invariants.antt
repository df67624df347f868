use mathlib.Core.Path.{◌≡◌}
use Rattle.grid.specs.Loop.{upto}
use Rattle.lanczos_pairs.specs.InPlaceLaws.{tri_step}
use Rattle.lanczos_pairs.proofs.tridiagonal_matrix.tri.Given as goal

abbrev pub invariant-loop-i : goal.invariant-loop-i
invariant-loop-i l = l.t ≡ upto (tri_step l.m l.x.alphas l.x.betas) 0 l.i l.initial.t
