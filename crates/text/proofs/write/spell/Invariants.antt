use Rattle.std.proofs.Common.{◌≡◌}
use Rattle.text.specs.Stores.{spelling}
use Rattle.text.proofs.write.spell.Given as goal

abbrev pub invariant-loop-i : goal.invariant-loop-i
invariant-loop-i l = spelling l.out l.at l.base l.i l.rest ≡ spelling l.initial.out l.at l.base l.k l.n
