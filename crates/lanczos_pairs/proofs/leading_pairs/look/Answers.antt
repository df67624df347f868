use mathlib.Core.Path.{◌∙◌, sym}
use Rattle.lanczos_pairs.specs.LeadingPairs.{looked}
use Rattle.lanczos_pairs.proofs.leading_pairs.look.Goals as goal

pub returns-in-Some : goal.returns-in-Some
unfolding looked
returns-in-Some c = rw (sym c.first_bad.ensures ∙ c.in-Some.is, ← c.answered-in-Some.ensures) c.refuse.ensures

pub returns-in-None : goal.returns-in-None
unfolding looked
returns-in-None c = rw (sym c.first_bad.ensures ∙ c.in-None.is, c.answered.ensures)
