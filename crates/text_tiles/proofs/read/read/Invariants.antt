use Rattle.std.proofs.Common.{◌≡◌, drop}
use Rattle.text_tiles_definition.specs.Lines.{run}
use Rattle.text_tiles.proofs.read.read.Given as goal

abbrev pub invariant-loop-b : goal.invariant-loop-b
invariant-loop-b l = run l.x (drop l.b-index l.t) ≡ run l.initial.x l.t
