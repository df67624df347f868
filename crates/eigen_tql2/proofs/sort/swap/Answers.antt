use mathlib.Core.Path.{sym, ◌∙◌}
use Prim.Native.Nat.{◌+◌, ◌*◌}
use native.Mathlib.Omega.{arith}
use Rattle.std.proofs.lemmas.List.Edits.{swap_is}
use Rattle.grid.specs.CellLaws.{cell}
use Rattle.grid.specs.LoopLaws.{start, next, done}
use Rattle.eigen_tql2.specs.Sort.{swapped}
use Rattle.eigen_tql2.proofs.sort.swap.Goals as goal

pub loop-row-init : goal.loop-row-init
loop-row-init c = start _ _ _

pub loop-row-preserved : goal.loop-row-preserved
loop-row-preserved c = next _ _ _ _ (omega arith) c.loop-row.invariant (c.swap.ensures.after ∙ sym (swap_is c.loop-row.v (c.args.i * c.args.n + c.loop-row.row) (c.args.k * c.args.n + c.loop-row.row) _ (omega (arith, c.requires, cell c.args.n c.args.n c.args.i c.loop-row.row c.requires.0 (omega arith))) (omega (arith, c.requires, cell c.args.n c.args.n c.args.k c.loop-row.row c.requires.1 (omega arith)))))

pub returns : goal.returns
unfolding swapped
returns c = done _ _ _ (omega arith) (omega arith) c.loop-row.invariant
