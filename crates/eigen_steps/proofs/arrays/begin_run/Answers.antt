use mathlib.Core.Path.{◌∙◌}
use Rattle.eigen_symmetric_eigen.specs.PartsLaws.{e_length, result_length, zeros_take}
use Rattle.eigen_steps.specs.ArraysLaws.{setting_whole, front_long}
use Rattle.eigen_steps.proofs.arrays.begin_run.Goals as goal

pub returns : goal.returns
returns c = setting_whole _ c.args.res.now c.args.work.now _ _ _ (result_length _ _ _ c.requires.1 c.requires.3 c.requires.4) c.prepare-found.auto.v (c.prepare-found.auto.d ∙ front_long _ c.requires.1) _ _ _ _ (zeros_take _ 256 c.requires.1) c.requires.3 (c.prepare-found.auto.e ∙ e_length _ _ _ c.requires.1 c.requires.3 c.requires.4) c.prepare-found.ensures c.set_out.ensures
