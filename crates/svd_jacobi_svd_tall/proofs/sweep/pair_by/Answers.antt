use Rattle.svd_jacobi_svd_tall.specs.Turned.{pair_by}
use Rattle.svd_jacobi_svd_tall.proofs.sweep.pair_by.Goals as goal

pub returns-then-skipped : goal.returns-then-skipped
unfolding pair_by
returns-then-skipped c = rw (← c.skipped.ensures, c.if-skipped.true)

pub returns : goal.returns
unfolding pair_by
returns c = rw (← c.skipped.ensures, c.if-skipped.false, ← c.rotation_of.ensures, ← c.turn.ensures)
