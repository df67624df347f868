use Rattle.std.proofs.Common.{length, take, drop, ◌≡◌, ◌<◌, arith, take-append-drop, length-take-le}
use Rattle.std.proofs.Math.ListN.{get_or-append}
use Rattle.std.proofs.lemmas.List.{set-append_left}
use Rattle.std.specs.Float.{nan}
use Rattle.grid.specs.Real.{Vec}
use Rattle.grid.specs.LoopLaws.{start, next, done}
use Rattle.eigen_tred2_definition.specs.Tred2.{over_scale}
use Rattle.eigen_tred2.proofs.householder.over_scale.Goals as goal

pub loop-x-init : goal.loop-x-init
loop-x-init c = rw (take-append-drop c.args.i c.args.d.now) (start _ _ _)

pub loop-x-preserved : goal.loop-x-preserved
loop-x-preserved c =
    let behind : Vec = drop c.args.i c.args.d.now in
    let here : c.loop-x.x-index < length c.loop-x.x-items = omega (arith, c.loop-x.auto, c.loop-x-test.true) in
    next _ _ _ _ (omega arith) c.loop-x.invariant
    (rw (get_or-append c.loop-x.x-items behind nan c.loop-x.x-index here, set-append_left c.loop-x.x-items behind c.loop-x.x-index _ here))

pub returns : goal.returns
unfolding over_scale
returns c =
    let long : length (take c.args.i c.args.d.now) ≡ c.args.i = length-take-le c.args.i c.args.d.now c.requires in
    done _ _ {b = c.args.i} _ (omega arith) (omega arith) c.loop-x.invariant
