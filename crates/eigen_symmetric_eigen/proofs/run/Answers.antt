use Rattle.eigen_symmetric_eigen.specs.PartsLaws.{run_whole}
use Rattle.eigen_symmetric_eigen.proofs.run.Goals as goal

pub returns : goal.returns
returns c = run_whole _ _ _ c.requires.1 c.requires.4 c.requires.5 _ _ _ _ _ _ _ _ c.decompose-r.auto.v c.decompose-r.auto.d c.decompose-r.auto.e c.decompose-r.ensures c.give.ensures
