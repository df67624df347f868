use mathlib.Core.Path.{◌≡◌, ◌∙◌}
use Prim.Native.Nat.{◌+◌, ◌*◌, ◌/◌}
use native.Mathlib.Omega.{arith}
use Rattle.grid.specs.LoopLaws.{start, done, joined}
use Rattle.eigen_tred2_definition.specs.Tred2.{turn_columns}
use Rattle.eigen_tred2.proofs.turn_columns.turn_columns.Goals as goal

pub loop-q-init : goal.loop-q-init
loop-q-init c = start _ _ _

pub loop-q-preserved : goal.loop-q-preserved
loop-q-preserved c =
    let e : (c.loop-q.q + 1) * 4 ≡ c.loop-q.q * 4 + 4 = omega arith in
    rw e (c.turn.ensures ∙ joined _ _ _ _ _ (omega arith) (omega arith) c.loop-q.invariant)

pub loop-j-init : goal.loop-j-init
loop-j-init c = start _ _ _

pub loop-j-preserved : goal.loop-j-preserved
loop-j-preserved c = c.turn-in-loop-j.ensures ∙ joined _ _ _ _ _ (omega arith) (omega arith) c.loop-j.invariant

pub returns : goal.returns
unfolding turn_columns
returns c =
    done _ _ {b = c.args.m} _ (omega arith) (omega arith) c.loop-j.invariant
    ∙ joined _ _ _ _ _ (omega arith) (omega arith) (done _ _ {b = c.args.m / 4 * 4} _ (omega arith) (omega arith) c.loop-q.invariant)
