-- The Lanczos run from a start vector: the steps, the inner call, the pairs. Definitions only.
use Rattle.std.specs.Prelude.{cond, ℕ, ◌+◌, ◌*◌, take, drop}
use Rattle.grid.specs.Real.{Vec, zeros}
use Rattle.leaves.specs.Leaf.{is_finite}
use Rattle.leaves.specs.Scan.{class_of}
use Rattle.answers.specs.Answers.{answered, passed}
use Rattle.answers.specs.declared.Answer.{Answer}
use Rattle.gram_schmidt.specs.Gram.{norm}
use Rattle.lanczos_steps.specs.StartVector.{started}
use Rattle.lanczos_steps.specs.Krylov.{LanczosState, steps}
use Rattle.lanczos_pairs.specs.LeadingPairs.{selected}
use Rattle.lanczos_pairs.specs.TridiagonalEigen.{inward}
use Rattle.lanczos.specs.Checks.{size}

-- ---- the run, of an outcome (answer, answer array); k + k * n numbers are handed out

-- an answer with no pair: the array is all +0.0
abbrev pub none : ℕ → ℕ → Answer → Answer × Vec
none n k x = (x, zeros (k + k * n))

-- r is what the inner call left: its answer, work and result, which is m values and then m rows of m
unfoldable pub paired : ℕ → ℕ → ℕ → Vec → Answer × Vec × Vec → Answer × Vec
paired n k m q (x, work, result) =
    cond (passed x) (selected n k m x.count q (take m result) (drop m result) (zeros (k + k * n))) (none n k x)

-- what the steps refused; else the inner call, and its pairs
unfoldable pub solved : ℕ → ℕ → ℕ → ℕ → LanczosState → Answer × Vec
solved n k limit edition (r, q, al, be, v) =
    cond (passed r.said) (paired n k r.dim q (inward r.dim limit edition al be)) (none n k r.said)

-- from the start vector b, whose norm is `by`; there are 256 alphas and betas at the most
unfoldable pub ran : ℕ → ℕ → ℕ → ℕ → Vec → Vec → Answer × Vec
ran n k limit edition a b =
    let by = norm n b in
    cond (is_finite by)
    (solved n k limit edition (steps n (size n k) a (zeros (size n k * n)) (zeros 256) (zeros 256) (started n by b)))
    (none n k (answered (class_of by) 3 0 0))
