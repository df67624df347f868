-- What a start, a step and a finish give, for every record and all arrays: (the next record, work afterwards, result afterwards). Definitions only.
use Rattle.std.specs.Prelude.{Bool, cond, not, ◌++◌, ℕ, ◌+◌, ◌*◌, ltb, eqb, length, is_some}
use Rattle.grid.specs.Real.{Vec, zeros}
use Rattle.leaves.specs.Scan.{first_bad_lower}
use Rattle.answers.specs.Answers.{done, refused, passed, refusal7, marked}
use Rattle.answers.specs.declared.Answer.{Answer}
use Rattle.answers.specs.Checks.{limit_good, fitting_edition}
use Rattle.eigen_tql2_pass.specs.Pass.{going, converged}
use Rattle.eigen_tql2_pass.specs.declared.Run.{Run}
use Rattle.eigen_tql2.specs.LStartEnd.{fresh, stopping}
use Rattle.eigen_tql2.specs.Tql2.{moved_up}
use Rattle.eigen_tred2_definition.specs.Tred2.{tred2}
use Rattle.eigen_symmetric_eigen.specs.Layout.{columns}
use Rattle.eigen_symmetric_eigen.specs.AfterTred2.{mark0}
use Rattle.eigen_symmetric_eigen.specs.SymmetricEigen.{cleared}
use Rattle.eigen_steps.specs.Arrays.{state_of, closed_up}
use Rattle.eigen_tql2_step.specs.Advance.{step}
use Rattle.eigen_tql2_step.specs.Checks.{checked}
use Rattle.eigen_steps.specs.declared.EigenRun.{EigenRun}

-- the next record, work and result
abbrev pub Outcome : Type 0
Outcome = EigenRun × Vec × Vec

-- the record of these: n, limit, edition, the run and the answer
abbrev pub recorded : ℕ → ℕ → ℕ → Run → Answer → EigenRun
recorded n limit edition r x = record { n = n; limit = limit; edition = edition; run = r; answer = x }

-- the run goes on
abbrev pub running : EigenRun → Bool
running q = eqb q.run.stop going

-- the run as it was, with another answer
abbrev pub answering : EigenRun → Answer → EigenRun
answering q x = recorded q.n q.limit q.edition q.run x

-- a run that has ended, with what the one call gives
abbrev pub ends_as : ℕ → ℕ → ℕ → Run → Answer × Vec × Vec → Outcome
ends_as n limit edition r (x, work, result) = (recorded n limit edition r x, work, result)

-- ---- a start

-- a run that ends before its first l, with what the one call gives
abbrev pub ends_with : ℕ → ℕ → ℕ → Answer × Vec × Vec → Outcome
ends_with n limit edition x = ends_as n limit edition (stopping fresh converged) x

-- `tred2` of the matrix; the run goes on with e moved up, unless mark 0 has ended it
unfoldable pub begun : ℕ → ℕ → ℕ → Vec → Outcome
begun n limit edition a =
    let (v, d, e) = tred2 n (columns n a, zeros n, zeros n) in
    let b = mark0 n v d e in
    cond (is_some b) (ends_with n limit edition (cleared n (marked 0 0 b))) (recorded n limit edition fresh (done 0), moved_up n e, d ++ v)

-- sizes, limit, edition and lengths are as they should be: refusal 7, n = 0, or the run begins
unfoldable pub start_entered : ℕ → ℕ → ℕ → Vec → Outcome
start_entered n limit edition a =
    let x = refusal7 (first_bad_lower n a) in
    cond (passed x) (cond (eqb n 0) (ends_with n limit edition (cleared n (done 0))) (begun n limit edition a)) (ends_with n limit edition (cleared n x))

-- 1, 2, 12 and 6 leave work and result as they were
unfoldable pub started : ℕ → ℕ → ℕ → Vec → Vec → Vec → Outcome
started n limit edition a work result =
    let x = fitting_edition edition (length a) (n * n) (length work) n (length result) (n + n * n) in
    cond (ltb 256 n)
    (ends_with n limit edition (refused 1 0, work, result))
    (cond (not (limit_good limit))
    (ends_with n limit edition (refused 2 0, work, result))
    (cond (passed x) (start_entered n limit edition a) (ends_with n limit edition (x, work, result))))

-- ---- a step

-- it goes on, unless mark 1 or the limit has ended it
unfoldable pub moved : ℕ → ℕ → ℕ → Run → Vec → Vec → Outcome
moved n limit edition r work result =
    let (t, v, d, e) = step n limit edition (state_of n r work result) in
    cond (eqb t.stop going) (recorded n limit edition t (done t.count), e, d ++ v) (ends_as n limit edition t (closed_up n t e (d ++ v)))

-- a run that has ended stays as it is, and so do the arrays; 6 and 13 change the answer alone
unfoldable pub stepped : EigenRun → Vec → Vec → Outcome
stepped q work result =
    let x = checked q.n q.limit q.edition q.run work result in
    cond (running q)
    (cond (passed x) (moved q.n q.limit q.edition q.run work result) (answering q x, work, result))
    (q, work, result)

-- ---- a finish

-- 13 too where the last l is not done
unfoldable pub finished : EigenRun → Vec → Vec → Outcome
finished q work result =
    let x = checked q.n q.limit q.edition q.run work result in
    cond (running q)
    (cond (passed x)
    (cond (ltb q.run.l q.n) (answering q (refused 13 0), work, result)
    (ends_as q.n q.limit q.edition (stopping q.run converged) (closed_up q.n q.run work result)))
    (answering q x, work, result))
    (q, work, result)
