use Rattle.std.proofs.Common.{◌≡◌, ℕ, length, arith, true, false, set, Ok, Err, sym, ◌∙◌}
use lib.Ieee.{Float, lt}
use borrow.Author.Tests.{not-true, not-false}
use Rattle.grid.specs.Real.{Vec}
use Rattle.leaves.specs.Leaf.{is_finite}
use Rattle.leaves.specs.Scan.{class_of}
use Rattle.answers.specs.Answers.{answered}
use Rattle.answers.specs.declared.Answer.{Answer}
use Rattle.gram_schmidt.specs.Unit.{over}
use Rattle.lanczos_steps.specs.StepEnd.{least_beta, step_ended, followed}
use Rattle.lanczos_steps.proofs.Loop.{class_some}
use Rattle.lanczos_steps.specs.declared.step_end.Next.TheVariants.{Step, End}
use Rattle.std.proofs.Common.{ap, not}
use Rattle.lanczos_steps.proofs.step_end.end.Goals as goal

module _ (n j : ℕ) (beta : Float) (w be v : Vec) where
  refused : (r : Answer) (c : ℕ) → is_finite beta ≡ false → c ≡ class_of beta → r ≡ answered c 5 j 0 → (Err r, be, v) ≡ followed (step_ended n j beta w be v)
  unfolding step_ended
  refused r c e f g = rw (e, g, f, class_some beta)

  goes_on : (x y : Vec) → is_finite beta ≡ true → lt least_beta beta ≡ true → x ≡ w → y ≡ over n beta x → (Ok Step, set be j beta, y) ≡ followed (step_ended n j beta w be v)
  unfolding step_ended
  goes_on x y e f g h = rw (e, f, h, g)

  ends : is_finite beta ≡ true → lt least_beta beta ≡ false → (Ok End, be, v) ≡ followed (step_ended n j beta w be v)
  unfolding step_ended
  ends e f = rw (e, f)

pub returns-then-not-is_finite : goal.returns-then-not-is_finite
returns-then-not-is_finite c = refused _ _ _ _ _ _ _ _ (sym c.is_finite.ensures ∙ not-true c.is_finite.result (ap not c.if-not-is_finite.true)) c.class_of.ensures c.answered.ensures

pub returns-then-beta : goal.returns-then-beta
returns-then-beta c =
    let long : length c.copy_from_slice.new.self ≡ length c.args.v.now = omega arith in
    goes_on _ _ _ _ _ _ _ _ (sym c.is_finite.ensures ∙ not-false c.is_finite.result (ap not c.if-not-is_finite.false)) c.if-beta.true c.copy_from_slice.ensures.after (rw long at c.over.ensures)

pub returns : goal.returns
returns c = ends _ _ _ _ _ _ (sym c.is_finite.ensures ∙ not-false c.is_finite.result (ap not c.if-not-is_finite.false)) c.if-beta.false
