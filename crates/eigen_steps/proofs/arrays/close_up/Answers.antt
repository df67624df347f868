use native.Mathlib.Omega.{arith}
use Rattle.eigen_steps.specs.ArraysLaws.{closed_whole, front_long}
use Rattle.eigen_steps.proofs.arrays.close_up.Goals as goal

pub returns : goal.returns
returns c = closed_whole _ c.args.res.now c.args.work.now _ _ _ c.requires.3 c.turn_out-x.auto.v (omega (arith, c.turn_out-x.auto.d, c.copy_from_slice.auto.self, front_long _ c.requires.1)) _ _ _ c.copy_from_slice.ensures.after c.requires.2 c.turn_out-x.ensures c.give.ensures
