use mathlib.Core.Path.{sym, ◌∙◌}
use Rattle.eigen_tql2_pass.specs.Pass.{settled, verdict}
use Rattle.eigen_tql2_pass.proofs.judged.Goals as goal

pub returns-in-Some : goal.returns-in-Some
unfolding verdict
returns-in-Some c = rw (sym c.mark1.ensures ∙ c.in-Some.is)

pub returns-in-None : goal.returns-in-None
unfolding verdict settled
returns-in-None c = rw (sym c.mark1.ensures ∙ c.in-None.is, sym c.tiny.ensures ∙ c.if-tiny.true)

pub returns-in-None-2 : goal.returns-in-None-2
unfolding verdict settled
returns-in-None-2 c = rw (sym c.mark1.ensures ∙ c.in-None-2.is, sym c.tiny.ensures ∙ c.if-tiny.false)
