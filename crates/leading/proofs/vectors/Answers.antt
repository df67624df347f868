use mathlib.Core.Path.{◌∙◌}
use Prim.Native.Nat.{◌+◌, ◌-◌, ◌*◌}
use native.Mathlib.Omega.{arith}
use Rattle.grid.specs.TableLaws.{rows_none, row_end, rows_more, length_part}
use lib.ListN.{drop}
use Rattle.leading.proofs.vectors.Goals as goal

pub loop-t-init : goal.loop-t-init
loop-t-init c = rows_none _ c.args.n c.args.x.now

pub loop-t-preserved : goal.loop-t-preserved
loop-t-preserved c = rows_more _ c.loop-t.x (drop (c.loop-t.t * c.args.n + c.args.n - c.loop-t.t * c.args.n) (drop (c.loop-t.t * c.args.n) c.loop-t.x)) c.loop-t.t c.args.n (omega (arith, row_end c.args.k c.args.n c.loop-t.t c.loop-t-test.true)) (c.column_of.auto.c ∙ omega (arith, length_part (c.loop-t.t * c.args.n) (c.loop-t.t * c.args.n + c.args.n) c.loop-t.x (omega arith) (omega (arith, row_end c.args.k c.args.n c.loop-t.t c.loop-t-test.true)))) c.loop-t.invariant c.column_of.ensures
