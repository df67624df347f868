-- The promises of `solve` and `pseudo_inverse` determine the outcome: two that satisfy one are the same. Laws only.
use Rattle.std.specs.Prelude.{◌≡◌, ℕ, Float}
use Rattle.std.proofs.Common.{sym, ◌∙◌}
use Rattle.grid.specs.Real.{Vec}
use Rattle.answers.specs.declared.Answer.{Answer}
use Rattle.solve.specs.Solve.{solve, pseudo_inverse}

pub solve_one : (m n u vt : ℕ) (tol : Float) (d b x : Vec) (o p : Answer × Vec) → o ≡ solve m n u vt tol d b x → p ≡ solve m n u vt tol d b x → o ≡ p
solve_one m n u vt tol d b x o p e f = e ∙ sym f

pub pseudo_inverse_one : (m n u vt : ℕ) (tol : Float) (d x : Vec) (o p : Answer × Vec) → o ≡ pseudo_inverse m n u vt tol d x → p ≡ pseudo_inverse m n u vt tol d x → o ≡ p
pseudo_inverse_one m n u vt tol d x o p e f = e ∙ sym f
