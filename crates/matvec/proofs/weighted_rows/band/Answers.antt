use mathlib.Core.Path.{◌≡◌, ◌∙◌, refl}
use Prim.Native.Nat.{◌+◌, ◌*◌, ◌/◌}
use native.Mathlib.Omega.{arith}
use Rattle.grid.specs.LoopLaws.{start, next, done, joined}
use Rattle.matvec.specs.Strips.{strip_done}
use Rattle.matvec.proofs.weighted_rows.band.Goals as goal

pub loop-q-init : goal.loop-q-init
loop-q-init c = start _ _ _

pub loop-q-preserved : goal.loop-q-preserved
loop-q-preserved c =
    let e : (c.loop-q.q + 1) * 16 ≡ c.loop-q.q * 16 + 16 = omega arith in
    rw e (strip_done c.args.n c.args.a.now c.args.v.now c.args.j c.args.e (c.loop-q.q * 16) c.args.w.now c.loop-q.w (omega arith) c.loop-q.invariant c.strip.ensures refl)

pub loop-c-init : goal.loop-c-init
loop-c-init c = start _ _ _

pub loop-c-preserved : goal.loop-c-preserved
loop-c-preserved c = next _ _ _ _ (omega arith) c.loop-c.invariant c.column.ensures

pub returns : goal.returns
returns c =
    done _ _ {b = c.args.n} _ (omega arith) (omega arith) c.loop-c.invariant
    ∙ joined _ _ _ _ _ (omega arith) (omega arith) (done _ _ {b = c.args.n / 16 * 16} _ (omega arith) (omega arith) c.loop-q.invariant)
