use mathlib.Core.Path.{◌∙◌}
use Prim.Native.Nat.{◌+◌, ◌-◌, ◌*◌}
use native.Mathlib.Omega.{arith}
use Rattle.grid.specs.TableLaws.{rows_none, row_end, rows_more, length_part}
use lib.ListN.{drop}
use Rattle.solve.proofs.pseudo_inverse_rows.inverted.Goals as goal

pub loop-j-init : goal.loop-j-init
loop-j-init c = rows_none _ c.args.p.m c.args.x.now

pub loop-j-preserved : goal.loop-j-preserved
loop-j-preserved c = rows_more _ c.loop-j.x (drop (c.loop-j.j * c.args.p.m + c.args.p.m - c.loop-j.j * c.args.p.m) (drop (c.loop-j.j * c.args.p.m) c.loop-j.x)) c.loop-j.j c.args.p.m (omega (arith, row_end c.args.p.n c.args.p.m c.loop-j.j c.loop-j-test.true)) (c.pinv_row.auto.x ∙ omega (arith, length_part (c.loop-j.j * c.args.p.m) (c.loop-j.j * c.args.p.m + c.args.p.m) c.loop-j.x (omega arith) (omega (arith, row_end c.args.p.n c.args.p.m c.loop-j.j c.loop-j-test.true)))) c.loop-j.invariant c.pinv_row.ensures
