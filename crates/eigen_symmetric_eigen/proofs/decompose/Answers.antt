use borrow.Author.Tests.{eq-eqb, ne_eqb}
use Rattle.eigen_symmetric_eigen.specs.SymmetricEigen.{decomposed}
use Rattle.eigen_symmetric_eigen.specs.PartsLaws.{outward}
use Rattle.eigen_symmetric_eigen.proofs.decompose.Goals as goal

pub returns-then-r-ne0 : goal.returns-then-r-ne0
unfolding outward decomposed
returns-then-r-ne0 c = rw (← c.columns.ensures, ← c.tred2.ensures, ← c.after_tred-r.ensures, ne_eqb _ _ c.if-r-ne0.true)

pub returns : goal.returns
unfolding outward decomposed
returns c = rw (← c.columns.ensures, ← c.tred2.ensures, ← c.after_tred-r.ensures, eq-eqb _ _ c.if-r-ne0.false, ← c.rows.ensures)
