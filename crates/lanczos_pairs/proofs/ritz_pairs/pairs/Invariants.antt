use mathlib.Core.Path.{◌≡◌}
use lib.ListN.{get_or}
use Rattle.grid.specs.Loop.{upto}
use Rattle.lanczos_pairs.specs.RitzPairs.{pair}
use Rattle.lanczos_pairs.proofs.ritz_pairs.pairs.Given as goal

abbrev pub invariant-loop-t : goal.invariant-loop-t
invariant-loop-t l = l.x ≡ upto (λ t x. pair l.n l.k l.m l.q l.vals l.vecs (get_or l.o t 0) t x) 0 l.t l.initial.x
