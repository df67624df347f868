use mathlib.Core.Path.{◌≡◌}
use Prim.Native.Nat.{◌+◌}
use native.Mathlib.Omega.{arith}
use Rattle.grid.specs.LoopLaws.{start, next, done}
use Rattle.matvec.proofs.weighted_rows.some.Goals as goal

pub loop-i-init : goal.loop-i-init
loop-i-init c =
    let e : c.args.j + 0 ≡ c.args.j = omega arith in
    rw e (start _ _ _)

pub loop-i-preserved : goal.loop-i-preserved
loop-i-preserved c =
    let e : c.args.j + (c.loop-i.i + 1) ≡ c.args.j + c.loop-i.i + 1 = omega arith in
    rw e (next _ _ _ _ (omega arith) c.loop-i.invariant c.row.ensures)

pub returns : goal.returns
returns c = done _ _ {b = c.args.j + c.args.k} _ (omega arith) (omega arith) c.loop-i.invariant
