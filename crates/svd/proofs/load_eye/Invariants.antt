use mathlib.Core.Path.{◌≡◌}
use Rattle.grid.specs.Loop.{upto}
use Rattle.svd.specs.LoadedLaws.{eye_step}
use Rattle.svd.proofs.load_eye.Given as goal

abbrev pub invariant-loop-j : goal.invariant-loop-j
invariant-loop-j l = l.w ≡ upto (eye_step l.rows l.cols) 0 l.j l.initial.w
