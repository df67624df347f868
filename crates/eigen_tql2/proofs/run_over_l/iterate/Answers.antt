use mathlib.Core.Path.{◌≡◌, ◌∙◌, ap}
use Prim.Native.Nat.{ℕ, zero, suc, ◌+◌, ◌-◌, ◌<◌}
use native.Mathlib.Omega.{arith}
use borrow.Author.Rules.{rules}
use borrow.Author.Tests.{eq-eqb, ne_eqb}
use mathlib.Core.Bool.{Bool, true, false, cond}
use Rattle.grid.specs.Loop.{rounds}
use Rattle.eigen_tql2_pass.specs.Pass.{pass}
use Rattle.eigen_tql2.specs.LStartEnd.{State, ended}
use Rattle.eigen_tql2.specs.LStartEndBounds.{Passed, one_pass}
use Rattle.eigen_tql2.specs.RunOverL.{iterated}
use Rattle.eigen_tql2.proofs.run_over_l.iterate.Goals as goal

-- a run that has stopped stays, whatever passes are left
stopped : (n k edition : ℕ) (x : State) {R : State} → (x.0.stop ≡ 0 → ⊥) → iterated n k edition x ≡ R → x ≡ R
unfolding iterated
stopped n k edition x h q = rw (ne_eqb x.0.stop 0 h) at q

-- so does one with no pass left
none : (n edition : ℕ) (x : State) {R : State} → iterated n 0 edition x ≡ R → x ≡ R
unfolding iterated rounds
none n edition x {R} q = go (ended x) q
  where
    go : (b : Bool) → cond b x x ≡ R → x ≡ R
    go true q = q
    go false q = q

-- what is left to do after one pass more
again : (n k edition : ℕ) (x y : State) {R : State} → 0 < k → x.0.stop ≡ 0 → y ≡ pass n edition x → iterated n k edition x ≡ R → iterated n (k - 1) edition y ≡ R
unfolding iterated rounds
again n zero edition x y h s e q = absurd (omega arith)
again n (suc k) edition x y {R = R} h s e q =
    let j : suc k - 1 ≡ k = omega arith in
    rw (j, e) (go (ended (pass n edition x)) (rw (eq-eqb x.0.stop 0 s) at q))
  where
    z : State
    z = pass n edition x

    go : (b : Bool) → cond b z (rounds (pass n edition) ended k z) ≡ R → cond b z (rounds (pass n edition) ended k z) ≡ R
    go b q = q

pub loop-init : goal.loop-init
loop-init c = (c.requires.1.below, c.requires.1.within, c.requires.1.none, omega arith, c.requires.2, ap (λ (k : ℕ). iterated c.args.n k c.args.edition (c.args.first, c.args.v.now, c.args.d.now, c.args.e.now)) (omega arith))

pub returns-then-r-ne-GOING : goal.returns-then-r-ne-GOING
returns-then-r-ne-GOING c = stopped _ _ _ (c.loop.r, c.loop.v, c.loop.d, c.loop.e) c.if-r-ne-GOING.true c.loop.invariant.5

pub loop-preserved : goal.loop-preserved
loop-preserved c =
    let x : State = (c.loop.r, c.loop.v, c.loop.d, c.loop.e) in
    let y : State = (c.pass-r.result, c.pass-r.new.v, c.pass-r.new.d, c.pass-r.new.e) in
    let p : Passed x y = one_pass c.args.n c.args.edition x y c.pass-r.ensures in
    let j : c.args.limit - (c.loop.counter + 1) ≡ c.args.limit - c.loop.counter - 1 = omega arith in
    (λ h. omega (arith, p.l, p.m, c.loop.invariant.0 c.if-r-ne-GOING.false), omega (arith, p.m), omega (arith, p.passes), omega (arith, p.count), search rules, rw j (again _ _ _ x y (omega arith) c.if-r-ne-GOING.false c.pass-r.ensures c.loop.invariant.5))

pub returns : goal.returns
returns c = none _ _ (c.loop.r, c.loop.v, c.loop.d, c.loop.e) (ap (λ (k : ℕ). iterated c.args.n k c.args.edition (c.loop.r, c.loop.v, c.loop.d, c.loop.e)) (omega arith) ∙ c.loop.invariant.5)
