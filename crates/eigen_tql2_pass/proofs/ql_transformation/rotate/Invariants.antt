use mathlib.Core.Path.{◌≡◌}
use Rattle.grid.specs.Loop.{upto}
use Rattle.eigen_tql2_pass.specs.TransformSteps.{rot_step}
use Rattle.eigen_tql2_pass.proofs.ql_transformation.rotate.Given as goal

abbrev pub invariant-loop-k : goal.invariant-loop-k
invariant-loop-k l = l.v ≡ upto (rot_step l.n l.i l.c l.s) 0 l.k l.initial.v
