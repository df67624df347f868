use mathlib.Core.Path.{◌≡◌, refl, sym, ◌∙◌}
use Prim.Native.Nat.{◌-◌}
use native.Mathlib.Omega.{arith}
use Rattle.eigen_tql2.specs.LStartEnd.{split}
use Rattle.grid.specs.LoopLaws.{first_here, first_next, first_none}
use Rattle.eigen_tql2.proofs.l_start_end.split.Goals as goal

pub loop-m-init : goal.loop-m-init
loop-m-init c = (omega arith, refl)

pub returns-then-tiny : goal.returns-then-tiny
unfolding split
returns-then-tiny c = first_here _ _ _ (omega arith) (sym c.tiny.ensures ∙ c.if-tiny.true) c.loop-m.invariant.1

pub loop-m-preserved : goal.loop-m-preserved
loop-m-preserved c = (omega arith, first_next _ _ _ (omega arith) (sym c.tiny.ensures ∙ c.if-tiny.false) c.loop-m.invariant.1)

pub returns : goal.returns
unfolding split
returns c =
    let m : c.args.n - 1 ≡ c.loop-m.m = omega (arith, c.loop-m.auto.m-end (omega arith)) in
    m ∙ first_none _ _ _ (omega arith) c.loop-m.invariant.1
