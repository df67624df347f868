use mathlib.Core.Path.{sym, ◌∙◌}
use Prim.Native.Nat.{◌+◌, ◌*◌}
use native.Mathlib.Omega.{arith}
use Rattle.std.proofs.lemmas.List.Edits.{swap_is}
use Rattle.grid.specs.CellLaws.{cell}
use Rattle.grid.specs.LoopLaws.{start, next, done}
use Rattle.eigen_symmetric_eigen.specs.LayoutSteps.{transpose_row}
use Rattle.eigen_symmetric_eigen.proofs.layout.transpose_row.Goals as goal

pub loop-j-init : goal.loop-j-init
loop-j-init c = start _ _ _

pub loop-j-preserved : goal.loop-j-preserved
loop-j-preserved c = next _ _ _ _ (omega arith) c.loop-j.invariant (c.swap.ensures.after ∙ sym (swap_is c.loop-j.v (c.loop-j.j * c.args.n + c.args.i) (c.args.i * c.args.n + c.loop-j.j) _ (omega (arith, c.requires, cell c.args.n c.args.n c.loop-j.j c.args.i (omega arith) c.requires.0)) (omega (arith, c.requires, cell c.args.n c.args.n c.args.i c.loop-j.j c.requires.0 (omega arith)))))

pub returns : goal.returns
unfolding transpose_row
returns c = done _ _ _ (omega arith) (omega arith) c.loop-j.invariant
