use Rattle.lanczos_pairs.specs.RitzPairs.{levelled}
use Rattle.lanczos_pairs.proofs.ritz_pairs.norm_out.Goals as goal

pub returns-then-by : goal.returns-then-by
unfolding levelled
returns-then-by c = rw (← c.norm-by.ensures, c.if-by.true) c.over.ensures

pub returns-else-by : goal.returns-else-by
unfolding levelled
returns-else-by c = rw (← c.norm-by.ensures, c.if-by.false)
