use Rattle.std.proofs.Common.{◌≡◌, ◌-◌}
use Rattle.text.specs.Writing.{places_from, places}
use Rattle.text.proofs.write.places.Given as goal

abbrev pub invariant-loop-k : goal.invariant-loop-k
invariant-loop-k l = places_from (20 - l.k) l.rest l.k ≡ places l.n
