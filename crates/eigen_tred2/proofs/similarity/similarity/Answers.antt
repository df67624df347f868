use mathlib.Core.Path.{◌∙◌}
use Prim.Native.Nat.{◌*◌, ◌/◌}
use native.Mathlib.Omega.{arith}
use Rattle.grid.specs.LoopLaws.{start, next, done, joined}
use Rattle.eigen_tred2_definition.specs.Tred2.{similarity}
use Rattle.eigen_tred2.proofs.similarity.Together.{pairs}
use Rattle.eigen_tred2.proofs.similarity.similarity.Goals as goal

pub loop-q-init : goal.loop-q-init
loop-q-init c = start _ _ _

pub loop-q-preserved : goal.loop-q-preserved
loop-q-preserved c = c.similar_pair.ensures ∙ pairs _ _ _ _ _ _ _ _ (omega arith) c.requires.0 (omega (arith, c.requires)) c.loop-q.invariant

pub loop-j-init : goal.loop-j-init
loop-j-init c = start _ _ _

pub loop-j-preserved : goal.loop-j-preserved
loop-j-preserved c = next _ _ _ _ (omega arith) c.loop-j.invariant c.similar_one.ensures

pub returns : goal.returns
unfolding similarity
returns c =
    done _ _ {b = c.args.i} _ (omega arith) (omega arith) c.loop-j.invariant
    ∙ joined _ _ _ _ _ (omega arith) (omega arith) (done _ _ {b = c.args.i / 2 * 2} _ (omega arith) (omega arith) c.loop-q.invariant)
