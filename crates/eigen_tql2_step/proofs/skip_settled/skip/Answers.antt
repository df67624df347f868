use mathlib.Core.Path.{◌≡◌, ◌∙◌, refl, sym, ap}
use Prim.Native.Nat.{ℕ}
use native.Mathlib.Omega.{arith}
use Rattle.std.specs.Prelude.{[]}
use Rattle.eigen_tql2.specs.LStartEnd.{opened}
use Rattle.eigen_tql2.specs.LStartEndBounds.{opened_l}
use Rattle.eigen_tql2_step.specs.SkipSettledLaws.{closed_at, skip_none, skip_here, skip_l, skip_more}
use Rattle.eigen_tql2_step.proofs.skip_settled.skip.Goals as goal

pub loop-l-init : goal.loop-l-init
loop-l-init c = (refl, λ v. refl)

pub returns-then-q-eq-GOING : goal.returns-then-q-eq-GOING
returns-then-q-eq-GOING c = λ v. skip_here c.args.n c.loop-l.r _ v c.loop-l.d c.loop-l.e (omega arith) (c.begin-q.ensures ∙ ap (λ (l : ℕ). opened c.args.n l c.loop-l.r c.loop-l.d c.loop-l.e) (sym c.loop-l.invariant.0)) c.if-q-eq-GOING.true (c.loop-l.invariant.1 v)

pub close-requires : goal.close-requires
close-requires c = omega (arith, opened_l _ _ _ _ _ _ c.begin-q.ensures)

pub onward-r-requires : goal.onward-r-requires
onward-r-requires c = omega (arith, opened_l _ _ _ _ _ _ c.begin-q.ensures, closed_at _ _ [] _ _ _ _ (c.close.ensures []))

pub loop-l-preserved : goal.loop-l-preserved
loop-l-preserved c =
    let b : c.begin-q.result ≡ opened c.args.n c.loop-l.r.l c.loop-l.r c.loop-l.d c.loop-l.e = c.begin-q.ensures ∙ ap (λ (l : ℕ). opened c.args.n l c.loop-l.r c.loop-l.d c.loop-l.e) (sym c.loop-l.invariant.0) in
    (omega (arith, skip_l _ _ _ [] _ _ (omega arith) b _ _ _ _ c.if-q-eq-GOING.false (c.close.ensures []) c.onward-r.ensures), λ v. skip_more _ _ _ v _ _ (omega arith) b _ _ _ _ c.if-q-eq-GOING.false (c.close.ensures v) c.onward-r.ensures (c.loop-l.invariant.1 v))

pub returns : goal.returns
returns c = λ v. skip_none _ _ v _ _ (omega (arith, c.loop-l.auto.l-end (omega arith))) (c.loop-l.invariant.1 v)
