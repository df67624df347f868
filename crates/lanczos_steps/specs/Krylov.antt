-- The Lanczos steps of document 000: the vectors q (row by row, n numbers each), the alphas and the betas. Definitions only.
use Rattle.std.specs.Prelude.{ℕ, ◌+◌, ◌-◌, ◌*◌, true, false, cond, nat_lt, slice_set, Float, Result, Ok, Err}
use Rattle.std.specs.Float.Ieee.{neg}
use Rattle.grid.specs.Loop.{upto}
use Rattle.grid.specs.Real.{Vec, at}
use Rattle.leaves.specs.Leaf.{is_finite}
use Rattle.leaves.specs.Scan.{class_of}
use Rattle.answers.specs.Answers.{answered, done, passed}
use Rattle.answers.specs.declared.Answer.{Answer}
use Rattle.gram_schmidt.specs.Gram.{dot, norm}
use Rattle.matvec.specs.Matvec.{row_of, replaced, product, added}
use Rattle.lanczos_steps.specs.Reorthogonalise.{twice}
use Rattle.lanczos_steps.specs.declared.step_end.Next.{Next}
use Rattle.lanczos_steps.specs.declared.step_end.Next.TheVariants.{Step, End}
use Rattle.lanczos_steps.specs.StepEnd.{Went, went, step_ended}

-- A v, which is w, less alpha times v, and from step 1 on less the last beta times the last vector
unfoldable pub recurred : ℕ → ℕ → Float → Vec → Vec → Vec → Vec → Vec
recurred n j alpha q be v w =
    let x = added n (neg alpha) v w in
    cond (nat_lt 0 j) (added n (neg (at be (j - 1))) (row_of n (j - 1) q) x) x

-- how the steps stand, with q, the alphas, the betas and v
abbrev pub LanczosState : Type 0
LanczosState = Went × Vec × Vec × Vec × Vec

-- v is the next of q, and alpha its number; an alpha that is not finite is refused as soon as it is worked out
unfoldable pub step : ℕ → Vec → ℕ → Vec → Vec → Vec → Vec → LanczosState
step n a j q al be v =
    let Av = product n a v in
    let alpha = dot n v Av in
    let w = twice n j q v (recurred n j alpha q be v Av) in
    let (r, be', v') = step_ended n j (norm n w) w be v in
    cond (is_finite alpha)
    (r, replaced (j * n) (j * n + n) v q, slice_set al j alpha, be', v')
    (went false (answered (class_of alpha) 4 j 0) (j + 1), q, al, be, v)

-- the first s steps from the vector v; nothing more is done once they have stopped
unfoldable pub steps : ℕ → ℕ → Vec → Vec → Vec → Vec → Vec → LanczosState
steps n s a q al be v = upto (λ j (r, q, al, be, v). cond r.on (step n a j q al be v) (r, q, al, be, v)) 0 s (went true (done 0) 0, q, al, be, v)

-- what comes back of it: how many steps were begun and what would follow, or the refusal
abbrev pub outcome : LanczosState → Result (ℕ × Next) Answer × Vec × Vec × Vec × Vec
outcome (r, q, al, be, v) = (cond (passed r.said) (Ok (r.dim, cond r.on Step End)) (Err r.said), q, al, be, v)
