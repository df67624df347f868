use mathlib.Core.Path.{◌≡◌, ◌∙◌, ap, sym}
use Prim.Native.Nat.{ℕ, ◌+◌}
use native.Mathlib.Omega.{arith}
use lib.Ieee.{Float}
use Rattle.grid.specs.Real.{Vec, at}
use Rattle.grid.specs.LoopLaws.{start, next, done}
use Rattle.grid.specs.TableLaws.{at_table}
use Rattle.eigen_tred2_definition.specs.Tred2.{column_dot, take_off}
use Rattle.eigen_tred2.specs.Columns.{dots}
use Rattle.eigen_tred2.proofs.turn_columns.Apart.{kept}
use Rattle.eigen_tred2.proofs.turn_columns.turn.Goals as goal

pub loop-c-init : goal.loop-c-init
loop-c-init g c =
    let e : c.args.j + 0 ≡ c.args.j = omega arith in
    rw e (start _ _ _)

pub loop-c-preserved : goal.loop-c-preserved
unfolding dots
loop-c-preserved g c =
    let i : ℕ = c.args.j + c.loop-c.c in
    let e : c.args.j + (c.loop-c.c + 1) ≡ i + 1 = omega arith in
    let product : at c.dots-g.result c.loop-c.c ≡ column_dot c.args.n c.args.m i c.loop-c.v =
    ap (λ (g : Vec). at g c.loop-c.c) c.dots-g.ensures
    ∙ at_table (λ k. column_dot c.args.n c.args.m (c.args.j + k) c.args.v.now) g.row.N c.loop-c.c c.loop-c-test.true
    ∙ kept c.args.n c.args.m c.args.j i i c.args.d.now c.args.v.now (omega arith) (omega arith) (omega arith)
    ∙ sym (ap (column_dot c.args.n c.args.m i) c.loop-c.invariant) in
    rw e (next _ _ _ _ (omega arith) c.loop-c.invariant (c.take_off.ensures ∙ ap (λ (x : Float). take_off c.args.n c.args.m i x c.args.d.now c.loop-c.v) product))

pub returns : goal.returns
returns g c = done _ _ {b = c.args.j + g.row.N} _ (omega arith) (omega arith) c.loop-c.invariant
