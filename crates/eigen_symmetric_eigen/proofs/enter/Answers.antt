use mathlib.Core.Path.{◌≡◌, ◌∙◌, sym}
use Prim.Native.Nat.{ℕ, ◌+◌, ◌*◌}
use lib.ListN.{length}
use borrow.Author.Tests.{eq-eqb, ne_eqb}
use Rattle.grid.specs.Real.{Vec, zeros}
use Rattle.answers.specs.declared.Answer.{Answer}
use Rattle.eigen_symmetric_eigen.specs.SymmetricEigen.{cleared, eigen_entered}
use Rattle.eigen_symmetric_eigen.proofs.enter.Goals as goal

zeroed : (n : ℕ) (x : Answer) (w r : Vec) {w' r' : Vec} → w' ≡ zeros (length w) → r' ≡ zeros (length r) → length w ≡ n → length r ≡ n + n * n
    → ◌≡◌ {A = Answer × Vec × Vec} (x, w', r') (cleared n x)
zeroed n x w r p q a b = rw (p, q, a, b)

pub returns-in-Some : goal.returns-in-Some
unfolding eigen_entered
returns-in-Some c = rw (sym c.first_bad_lower.ensures ∙ c.in-Some.is, c.into.ensures) (zeroed _ _ c.args.work.now c.args.res.now c.fill.ensures c.fill-2.ensures c.requires.3 c.requires.4)

pub returns-in-None : goal.returns-in-None
unfolding eigen_entered
returns-in-None c = rw (sym c.first_bad_lower.ensures ∙ c.in-None.is, eq-eqb _ _ c.if-n-eq0.true, c.done.ensures) (zeroed _ _ c.args.work.now c.args.res.now c.fill.ensures c.fill-2.ensures c.requires.3 c.requires.4)

pub returns-in-None-2 : goal.returns-in-None-2
unfolding eigen_entered
returns-in-None-2 c = rw (sym c.first_bad_lower.ensures ∙ c.in-None-2.is, ne_eqb _ _ c.if-n-eq0.false) c.run.ensures
