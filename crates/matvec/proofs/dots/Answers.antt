use mathlib.Core.Path.{◌≡◌, ◌∙◌}
use Prim.Native.Nat.{◌+◌, ◌*◌, ◌/◌}
use native.Mathlib.Omega.{arith}
use Rattle.grid.specs.LoopLaws.{start, done, joined}
use Rattle.matvec.specs.Rows.{all_rows}
use Rattle.matvec.proofs.dots.Goals as goal

pub loop-q-init : goal.loop-q-init
loop-q-init c = start _ _ _

pub loop-q-preserved : goal.loop-q-preserved
loop-q-preserved c =
    let e : (c.loop-q.q + 1) * 4 ≡ c.loop-q.q * 4 + 4 = omega arith in
    rw e (c.rows.ensures ∙ joined _ _ _ _ _ (omega arith) (omega arith) c.loop-q.invariant)

pub loop-i-init : goal.loop-i-init
loop-i-init c = start _ _ _

pub loop-i-preserved : goal.loop-i-preserved
loop-i-preserved c = c.rows-in-loop-i.ensures ∙ joined _ _ _ _ _ (omega arith) (omega arith) c.loop-i.invariant

pub returns : goal.returns
returns c =
    done _ _ {b = c.args.n} _ (omega arith) (omega arith) c.loop-i.invariant
    ∙ joined _ _ _ _ _ (omega arith) (omega arith) (done _ _ {b = c.args.n / 4 * 4} _ (omega arith) (omega arith) c.loop-q.invariant)
    ∙ all_rows c.args.n c.args.a.now c.args.v.now c.args.w.now c.requires.3
