use Rattle.lanczos_pairs.specs.InPlaceLaws.{inner_of}
use Rattle.eigen_symmetric_eigen.specs.PartsLaws.{outward}
use borrow.Author.Tests.{eq-eqb, ne_eqb}
use Rattle.lanczos_pairs.proofs.tridiagonal_eigen.inner.Goals as goal

pub returns-else-r-eq0 : goal.returns-else-r-eq0
unfolding inner_of outward
returns-else-r-eq0 c = rw (← c.tred2.ensures, ← c.after_tred-r.ensures, ne_eqb _ _ c.if-r-eq0.false)

pub returns-then-r-eq0 : goal.returns-then-r-eq0
unfolding inner_of outward
returns-then-r-eq0 c = rw (← c.tred2.ensures, ← c.after_tred-r.ensures, eq-eqb _ _ c.if-r-eq0.true, ← c.rows.ensures)
