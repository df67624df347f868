use Rattle.std.proofs.Common.{◌≡◌, true}
use Rattle.grid.specs.Loop.{every}
use Rattle.text.specs.Reading.{value_at, digit_at, horner}
use Rattle.text.proofs.read.word.Given as goal

abbrev pub invariant-loop-i : goal.invariant-loop-i
invariant-loop-i l = record { digits : every (digit_at l.t l.at) l.i ≡ true; so_far : l.w ≡ horner (value_at l.t l.at) l.i }
