use mathlib.Core.Path.{◌∙◌, sym}
use Rattle.qr_q.proofs.scanned.Goals as goal

pub returns-in-Some : goal.returns-in-Some
returns-in-Some c = rw (sym c.first_bad.ensures ∙ c.in-Some.is, ← c.into.ensures) c.refuse.ensures

pub returns-in-None : goal.returns-in-None
returns-in-None c = rw (sym c.first_bad.ensures ∙ c.in-None.is) c.run.ensures
