use Rattle.std.proofs.Common.{length, take, ◌≡◌, arith, get_or-take, length-take-le}
use Rattle.std.specs.Float.{nan}
use Rattle.grid.specs.LoopLaws.{start, next, done}
use Rattle.eigen_tred2_definition.specs.Tred2.{scale_of}
use Rattle.eigen_tred2.proofs.householder.scale_of.Goals as goal

pub loop-x-init : goal.loop-x-init
loop-x-init c = start _ _ _

pub loop-x-preserved : goal.loop-x-preserved
loop-x-preserved c =
    let long : length (take c.args.i c.args.d.now) ≡ c.args.i = length-take-le c.args.i c.args.d.now c.requires in
    next _ _ _ _ (omega arith) c.loop-x.invariant (rw (← get_or-take c.args.i c.args.d.now c.loop-x.x-index nan (omega arith), ← c.magnitude-scale.ensures))

pub returns : goal.returns
unfolding scale_of
returns c =
    let long : length (take c.args.i c.args.d.now) ≡ c.args.i = length-take-le c.args.i c.args.d.now c.requires in
    done _ _ {b = c.args.i} _ (omega arith) (omega arith) c.loop-x.invariant
