use mathlib.Core.Path.{◌∙◌, sym}
use Rattle.eigen_symmetric_eigen.specs.AfterTred2.{after_tred}
use Rattle.eigen_symmetric_eigen.proofs.after_tred2.after_tred.Goals as goal

pub returns-in-Some : goal.returns-in-Some
unfolding after_tred
returns-in-Some c = rw (sym c.mark0.ensures ∙ c.in-Some.is, c.answered.ensures)

pub returns-in-None : goal.returns-in-None
unfolding after_tred
returns-in-None c = rw (sym c.mark0.ensures ∙ c.in-None.is) c.tql2.ensures
