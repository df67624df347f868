-- What a start, a step and a finish put together. Laws only.
use Rattle.leaves.specs.declared.Bad.{Bad}
use Rattle.std.specs.Prelude.{◌≡◌, refl, cond, ◌++◌, ℕ, ◌+◌, ◌*◌, eqb, length, Option, Some, None, is_some}
use Rattle.std.proofs.Common.{ap, ◌∙◌}
use Rattle.grid.specs.Real.{Vec, zeros}
use Rattle.answers.specs.Answers.{done, marked}
use Rattle.answers.specs.declared.Answer.{Answer}
use Rattle.eigen_tql2_pass.specs.Pass.{converged}
use Rattle.eigen_tql2_pass.specs.declared.Run.{Run}
use Rattle.eigen_tql2.specs.LStartEnd.{fresh, stopping}
use Rattle.eigen_tql2.specs.Tql2.{moved_up}
use Rattle.eigen_tred2_definition.specs.Tred2.{tred2}
use Rattle.eigen_symmetric_eigen.specs.Layout.{columns}
use Rattle.eigen_symmetric_eigen.specs.AfterTred2.{mark0}
use Rattle.eigen_symmetric_eigen.specs.SymmetricEigen.{cleared}
use Rattle.eigen_tql2_step.specs.Advance.{step}
use Rattle.eigen_steps.specs.Arrays.{state_of, closed_up}
use Rattle.eigen_steps.specs.ArraysLaws.{readied, setting, laid_out}
use Rattle.eigen_steps.specs.Steps.{Outcome, recorded, ends_as, ends_with, begun, moved}
use Rattle.eigen_steps.specs.declared.EigenRun.{EigenRun}

-- ---- a step, from what the machine's left

pub moved_on : (n limit edition : ℕ) (r t : Run) (W R w R' : Vec) (q : Outcome) → (t, w, R') ≡ laid_out (step n limit edition (state_of n r W R))
    → q ≡ cond (eqb t.stop 0) (recorded n limit edition t (done t.count), w, R') (ends_as n limit edition t (closed_up n t w R')) → q ≡ moved n limit edition r W R
unfolding moved
moved_on n limit edition r t W R w R' q e g =
    g
    ∙ ap (λ (s : Run × Vec × Vec). cond (eqb s.0.stop 0) (recorded n limit edition s.0 (done s.0.count), s.1, s.2) (ends_as n limit edition s.0 (closed_up n s.0 s.1 s.2))) e

-- ---- a start and a finish, from the code's own records

-- before the first l
abbrev pub new_run : ℕ → ℕ → ℕ → EigenRun
new_run n limit edition = recorded n limit edition fresh (done 0)

-- a run that ends, with another answer
abbrev pub ended_with : EigenRun → Answer → EigenRun
ended_with q x = recorded q.n q.limit q.edition (stopping q.run converged) x

-- what a start gives, by what mark 0 saw
abbrev pub began : ℕ → ℕ → ℕ → Option Bad × Vec × Vec → Outcome
began n limit edition (b, work, result) = (cond (is_some b) (ended_with (new_run n limit edition) (marked 0 0 b)) (new_run n limit edition), work, result)

pub begun_whole : (n limit edition : ℕ) (a : Vec) (x : Option Bad × Vec × Vec) → x ≡ setting n a → began n limit edition x ≡ begun n limit edition a
unfolding begun setting readied
begun_whole n limit edition a y e = ap (began n limit edition) e ∙ go (mark0 n x.0 x.1 x.2)
  where
    x : Vec × Vec × Vec
    x = tred2 n (columns n a, zeros n, zeros n)

    set : Option Bad → Option Bad × Vec × Vec
    set b =
        let y : Option Bad × Vec × Vec × Vec = cond (is_some b) (b, x.0, x.1, x.2) (b, x.0, x.1, moved_up n x.2) in
        cond (is_some y.0) (y.0, zeros n, zeros (n + n * n)) (y.0, y.3, y.2 ++ y.1)

    go : (b : Option Bad) → began n limit edition (set b)
        ≡ cond (is_some b) (ends_with n limit edition (cleared n (marked 0 0 b))) (recorded n limit edition fresh (done 0), moved_up n x.2, x.1 ++ x.0)
    go (Some bad) = refl
    go None = refl

pub cleared_start : (n limit edition : ℕ) (x : Answer) (w r w' r' : Vec) (p q : EigenRun) → p ≡ new_run n limit edition → q ≡ ended_with p x → w' ≡ zeros (length w) → r' ≡ zeros (length r)
    → length w ≡ n → length r ≡ n + n * n → ◌≡◌ {A = Outcome} (q, w', r') (ends_with n limit edition (cleared n x))
cleared_start n limit edition x w r w' r' p q f g a b lw lr = λ i. ((g ∙ ap (λ (p : EigenRun). ended_with p x) f) i, (a ∙ ap zeros lw) i, (b ∙ ap zeros lr) i)
