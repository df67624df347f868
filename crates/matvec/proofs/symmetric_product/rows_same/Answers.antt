use mathlib.Core.Path.{◌∙◌, refl, sym}
use native.Mathlib.Omega.{arith}
use mathlib.Core.Bool.{true≢false}
use Rattle.matvec.specs.Symmetry.{Fours, one_further}
use borrow.Author.Tests.{not-true, not-false}
use Rattle.std.proofs.Common.{ap, not}
use Rattle.matvec.proofs.symmetric_product.rows_same.Goals as goal

pub loop-j-init : goal.loop-j-init
loop-j-init c = λ k l. absurd (omega arith)

pub returns-then-not-four_same : goal.returns-then-not-four_same
returns-then-not-four_same c = (λ e. absurd (true≢false (sym e)), λ f. sym (not-true c.four_same.result (ap not c.if-not-four_same.true)) ∙ c.four_same.ensures.1 (f c.loop-j.j (omega arith)))

pub loop-j-preserved : goal.loop-j-preserved
loop-j-preserved c = one_further (Fours c.args.n c.args.a.now c.args.i) c.loop-j.j c.loop-j.invariant (c.four_same.ensures.0 (not-false c.four_same.result (ap not c.if-not-four_same.false)))

pub returns : goal.returns
returns c = (λ e k l. c.loop-j.invariant k (omega (arith, l)), λ f. refl)
