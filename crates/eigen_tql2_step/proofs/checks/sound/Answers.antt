use mathlib.Core.Path.{◌≡◌, refl, ◌∙◌, sym, ap}
use mathlib.Core.Bool.{Bool, ◌&&◌, not, true, false}
use Prim.Native.Nat.{◌-◌}
use native.Mathlib.Omega.{arith}
use lib.Ieee.{le, eq}
use Rattle.std.specs.Prelude.{Option, is_some, drop}
use Rattle.grid.specs.Real.{at, zero64}
use Rattle.grid.specs.Table.{part}
use Rattle.leaves.specs.declared.Bad.{Bad}
use Rattle.leaves.specs.Scan.{first_bad}
use Rattle.eigen_tql2_step.specs.CheckLaws.{from_on}
use Rattle.eigen_tql2_step.specs.Checks.{sound}
use Rattle.eigen_tql2_step.proofs.checks.sound.Goals as goal
use Rattle.eigen_tql2_step.proofs.checks.sound.Goals.{then-r, else-r, then-work-n, else-work-n}

-- what `is_none` says of a scan
none : (b : Bool) {x y : Option Bad} → is_some x ≡ not b → x ≡ y → b ≡ not (is_some y)
none true e f = ap not (sym e ∙ ap is_some f)
none false e f = ap not (sym e ∙ ap is_some f)

-- the code joins its tests from the left
joined : (a b p q : Bool) → ((a && b) && p) && q ≡ a && (b && (p && q))
joined true true p q = refl
joined true false p q = refl
joined false b p q = refl

pub returns-then-is_none : goal.returns-then-is_none
unfolding sound
returns-then-is_none c =
    let p = not (is_some (first_bad (part c.args.r.l c.args.n c.args.res.now))) in
    let q = not (is_some (first_bad (drop c.args.r.l c.args.work.now))) in
    let a = le zero64 c.args.r.tst1 in
    let b = eq (at c.args.work.now (c.args.n - 1)) zero64 in
    let v : c.if-r.value ≡ (a && b) = elim c.if-r.branch [ then-r w ↦ rw w.if-r.true w.value-is | else-r w ↦ rw w.if-r.false (w.value-is ∙ w.if-r.false) ] in
    let u : c.if-work-n.value ≡ (c.if-r.value && p) = elim c.if-work-n.branch [ then-work-n w ↦ rw w.if-work-n.true (w.value-is ∙ none _ w.is_none.ensures w.first_bad.ensures) | else-work-n w ↦ rw w.if-work-n.false (w.value-is ∙ w.if-work-n.false) ] in
    none _ c.is_none-then-is_none.ensures (c.first_bad-then-is_none.ensures ∙ ap first_bad (from_on c.args.r.l c.args.work.now (omega (arith, c.requires)))) ∙ ap (λ (t : Bool). t && q) (sym c.if-is_none.true ∙ u ∙ ap (λ (t : Bool). t && p) v) ∙ joined a b p q

pub returns-else-is_none : goal.returns-else-is_none
unfolding sound
returns-else-is_none c =
    let p = not (is_some (first_bad (part c.args.r.l c.args.n c.args.res.now))) in
    let q = not (is_some (first_bad (drop c.args.r.l c.args.work.now))) in
    let a = le zero64 c.args.r.tst1 in
    let b = eq (at c.args.work.now (c.args.n - 1)) zero64 in
    let v : c.if-r.value ≡ (a && b) = elim c.if-r.branch [ then-r w ↦ rw w.if-r.true w.value-is | else-r w ↦ rw w.if-r.false (w.value-is ∙ w.if-r.false) ] in
    let u : c.if-work-n.value ≡ (c.if-r.value && p) = elim c.if-work-n.branch [ then-work-n w ↦ rw w.if-work-n.true (w.value-is ∙ none _ w.is_none.ensures w.first_bad.ensures) | else-work-n w ↦ rw w.if-work-n.false (w.value-is ∙ w.if-work-n.false) ] in
    c.if-is_none.false ∙ ap (λ (t : Bool). t && q) (sym c.if-is_none.false ∙ u ∙ ap (λ (t : Bool). t && p) v) ∙ joined a b p q
