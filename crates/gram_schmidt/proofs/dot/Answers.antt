use native.Mathlib.Omega.{arith}
use Rattle.std.proofs.Common.{rules}
use Rattle.std.proofs.lemmas.List.{length_push}
use Rattle.std.proofs.lemmas.Slice.Zip.{zip_turn, zip_end}
use Rattle.std.specs.Float.{nan}
use Rattle.grid.specs.LoopLaws.{start, next, done}
use Rattle.gram_schmidt.specs.Gram.{dot}
use Rattle.gram_schmidt.proofs.dot.Goals as goal

pub loop-x-init : goal.loop-x-init
loop-x-init c = start _ _ _

pub loop-x-preserved : goal.loop-x-preserved
loop-x-preserved c =
    let pair = zip_turn c.args.b.now c.args.c.now c.loop-x.yielded _ _ c.next.new.self _ (search rules) (search rules) c.loop-x.yielded_by _ c.in-Some.is c.next.ensures.steps in
    rw length_push (next _ _ _ _ (omega arith) c.loop-x.invariant (rw (pair.2 nan, pair.3 nan)))

pub returns : goal.returns
unfolding dot
returns c =
    let all = zip_end c.args.b.now c.args.c.now c.loop-x.yielded _ _ c.next.new.self _ (search rules) (search rules) c.loop-x.yielded_by c.in-None.is c.next.ensures.steps in
    done _ _ _ (omega (arith, all)) (omega (arith, all)) c.loop-x.invariant
