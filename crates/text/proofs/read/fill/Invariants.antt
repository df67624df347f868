use Rattle.std.proofs.Common.{◌≡◌}
use Rattle.std.proofs.lemmas.List.Edits.{sets}
use Rattle.text.specs.Reading.{table}
use Rattle.text.specs.Stores.{float_at}
use Rattle.text.proofs.read.fill.Given as goal

abbrev pub invariant-loop-k : goal.invariant-loop-k
invariant-loop-k l = l.matrix ≡ sets l.initial.matrix 0 (table (float_at l.t l.from) l.k)
