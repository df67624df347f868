use mathlib.Core.Path.{ap}
use mathlib.Core.Bool.{not}
use borrow.Author.Tests.{lt-ltb, le-ltb}
use Rattle.eigen_symmetric_eigen.specs.SymmetricEigen.{checks}
use Rattle.eigen_symmetric_eigen.proofs.checks.Goals as goal

pub returns-then-n-gt-LARGEST : goal.returns-then-n-gt-LARGEST
unfolding checks
returns-then-n-gt-LARGEST c = rw (lt-ltb 256 _ c.if-n-gt-LARGEST.true)

pub returns-then-not-limit_good : goal.returns-then-not-limit_good
unfolding checks
returns-then-not-limit_good c = rw (le-ltb 256 _ c.if-n-gt-LARGEST.false, ← c.limit_good.ensures, ap not c.if-not-limit_good.true)

pub returns : goal.returns
unfolding checks
returns c = rw (le-ltb 256 _ c.if-n-gt-LARGEST.false, ← c.limit_good.ensures, ap not c.if-not-limit_good.false) c.fitting_edition.ensures
