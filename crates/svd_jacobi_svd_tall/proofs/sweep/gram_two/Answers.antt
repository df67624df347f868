use mathlib.Core.Path.{◌≡◌}
use native.Mathlib.Omega.{arith}
use Rattle.grid.specs.LoopLaws.{start, next, done}
use Rattle.svd_jacobi_svd_tall.specs.Sweep.{gram}
use Rattle.svd_jacobi_svd_tall.proofs.sweep.gram_two.Goals as goal

pub loop-i-init : goal.loop-i-init
loop-i-init c = (start _ _ _, start _ _ _)

pub loop-i-preserved : goal.loop-i-preserved
loop-i-preserved c = (next _ _ _ _ (omega arith) c.loop-i.invariant.0 c.and-x.ensures, next _ _ _ _ (omega arith) c.loop-i.invariant.1 c.and-y.ensures)

pub returns : goal.returns
unfolding gram
returns c =
    let x : c.loop-i.x ≡ gram c.args.a c.args.b c.args.rows c.args.w.now = done _ _ _ (omega arith) (omega arith) c.loop-i.invariant.0 in
    let y : c.loop-i.y ≡ gram c.args.e c.args.f c.args.rows c.args.w.now = done _ _ _ (omega arith) (omega arith) c.loop-i.invariant.1 in
    λ j. (x j, y j)
