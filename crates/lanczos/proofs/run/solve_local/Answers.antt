use native.Mathlib.Omega.{arith}
use Rattle.eigen_symmetric_eigen.specs.PartsLaws.{zeros_take}
use Rattle.lanczos.proofs.run.solve_local.Goals as goal

pub solve-requires : goal.solve-requires
solve-requires c = (c.requires.0, c.requires.1, zeros_take c.args.m 256 (omega arith), zeros_take c.args.m 256 (omega arith), c.requires.2, c.requires.3)
