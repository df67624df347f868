use Rattle.std.proofs.Common.{eq-eqb, ne_eqb}
use Rattle.hypot.specs.Edition.{pythag}
use Rattle.hypot.proofs.pythag.Goals as goal

pub returns-then-edition-eq1 : goal.returns-then-edition-eq1
unfolding pythag
returns-then-edition-eq1 c = rw (eq-eqb c.args.edition 1 c.if-edition-eq1.true) c.hypot.ensures

pub returns-else-edition-eq1 : goal.returns-else-edition-eq1
unfolding pythag
returns-else-edition-eq1 c = rw (ne_eqb c.args.edition 1 c.if-edition-eq1.false) c.hypot2.ensures.value
