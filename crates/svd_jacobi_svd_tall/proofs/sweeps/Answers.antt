use mathlib.Core.Path.{◌≡◌, refl, sym, ap, ◌∙◌}
use mathlib.Core.Bool.{true}
use Prim.Native.Nat.{ℕ, ◌+◌, ◌-◌}
use native.Mathlib.Omega.{arith}
use native.Mathlib.Nat.{le_antisymm}
use borrow.Author.Rules.{rules}
use Rattle.grid.specs.Loop.{rounds}
use Rattle.grid.specs.LoopLaws.{rounds_stop, rounds_more, rounds_done}
use Rattle.answers.specs.declared.Answer.{Answer}
use Rattle.svd_jacobi_svd_tall.specs.JacobiSvdTall.{going_after, swept, ended, sweeps}
use Rattle.svd_jacobi_svd_tall.proofs.Swept.{mark_ends, mark_refuses, at_mark, settled, goes_on}
use Rattle.svd_jacobi_svd_tall.proofs.sweeps.Goals as goal

pub returns-then-is_some-clause-value : goal.returns-then-is_some-clause-value
unfolding sweeps
returns-then-is_some-clause-value c =
    let h : _ ≡ true = sym c.is_some.ensures ∙ c.if-is_some.true in
    rw c.marked.ensures
    (rounds_stop _ _ _ (omega arith) (at_mark _ _ _ _ c.sweep-changed.ensures c.factors_bad-bad.ensures h) (mark_ends c.args.rows c.args.cols _ _ c.factors_bad-bad.ensures h) c.loop-before.invariant.1)

pub returns-then-is_some-clause-refused : goal.returns-then-is_some-clause-refused
returns-then-is_some-clause-refused c = rw c.marked.ensures (mark_refuses c.args.rows c.args.cols _ _ c.factors_bad-bad.ensures (sym c.is_some.ensures ∙ c.if-is_some.true))

pub returns-then-not-changed-clause-value : goal.returns-then-not-changed-clause-value
unfolding sweeps
returns-then-not-changed-clause-value c =
    rounds_stop _ _ _ (omega arith) (settled _ _ _ _ c.sweep-changed.ensures c.factors_bad-bad.ensures (sym c.is_some.ensures ∙ c.if-is_some.false) c.if-not-changed.true) refl c.loop-before.invariant.1

pub loop-before-preserved : goal.loop-before-preserved
loop-before-preserved c =
    let left : c.args.limit - (c.loop-before.before + 1) ≡ c.args.limit - c.loop-before.before - 1 = omega arith in (
      search rules,
      ap (λ (k : ℕ). rounds (swept c.args.rows c.args.cols) ended k (going_after (c.loop-before.before + 1), c.sweep-changed.new.w)) left
          ∙ rounds_more _ _ _ (omega arith) (goes_on _ _ _ _ c.sweep-changed.ensures c.factors_bad-bad.ensures (sym c.is_some.ensures ∙ c.if-is_some.false) c.if-not-changed.false) refl c.loop-before.invariant.1,
    )

pub returns-clause-value : goal.returns-clause-value
unfolding sweeps
returns-clause-value c =
    let all : c.loop-before.before ≡ c.args.limit = le_antisymm (omega arith) (omega arith) in
    ap (λ (a : Answer). (a, c.loop-before.w)) (c.answered.ensures ∙ ap going_after (sym all)) ∙ rounds_done _ _ _ (omega arith) c.loop-before.invariant.1
