use Rattle.matvec.specs.Symmetry.{rows_are_product}
use Rattle.matvec.proofs.symmetric_product.product.Goals as goal

pub returns-then-symmetric : goal.returns-then-symmetric
returns-then-symmetric c = rows_are_product c.args.n c.args.a.now c.args.v.now (c.requires.1 c.if-symmetric.true) c.sum.ensures

pub returns-else-symmetric : goal.returns-else-symmetric
returns-else-symmetric c = c.dots.ensures
