-- What is proved of `solve` and `pseudo_inverse`: o and p are what calls that meet their promises came back with. Laws only.
use Rattle.std.specs.Prelude.{false, true, ◌↔◌, ◌⊎◌, ◌≡◌, ◌*◌, ◌≤◌, ℕ, Float, length}
use Rattle.std.specs.Float.Ieee.{lt, neg}
use Rattle.std.specs.Float.{nan}
use Rattle.answers.specs.Answers.{refused}
use Rattle.answers.specs.Early.{EarlyOr11}
use Rattle.answers.specs.Index.{AtMark}
use Rattle.answers.specs.declared.Answer.{Answer}
use Rattle.calls_theorems.specs.Answers.{pseudo_inverse_as_before_calls, pseudo_inverse_finite_out_calls, pseudo_inverse_index_points_calls, pseudo_inverse_index_zero_calls, pseudo_inverse_old_contents_calls, pseudo_inverse_tolerance_zero_calls, solve_as_before_calls, solve_finite_out_calls, solve_index_points_calls, solve_index_zero_calls, solve_old_contents_calls, solve_tolerance_zero_calls}
use Rattle.calls_theorems.proofs.Refusals.{pseudo_inverse_11_exactly_calls, solve_11_exactly_calls}
use Rattle.calls_theorems.specs.Sayings.{Says, Weighs}
use Rattle.calls_theorems.specs.Together.{svd_then_pseudo_inverse, svd_then_solve}
use Rattle.answers.specs.Checks.{fitting, tolerance_good}
use Rattle.answers.specs.ToleranceLaws.{fitting_11, tolerance_refused_exactly}
use Rattle.grid.specs.Real.{Vec, zero64}
use Rattle.solve.specs.PseudoInverse.{inverted}
use Rattle.leaves.specs.Finite.{Finite}
use Rattle.svd_theorems.specs.Outcome.{Outcome, Promised}
use Rattle.solve.specs.Solution.{solution}
use Rattle.solve.specs.WithoutToleranceCheck.{pseudo_inverse_before, solve_before}
use Rattle.solve.specs.ChecksLaws.{solve_checks_5}
use Rattle.solve.specs.OneOutcome.{pseudo_inverse_one, solve_one}
use Rattle.solve.specs.Solve.{pseudo_inverse, solve, solve_checks}
use Rattle.solve.specs.Index as Solve

-- Two outcomes of `solve` that satisfy its promise are one.
pub t2_solve_one : (m n u vt : ℕ) (tol : Float) (d b x : Vec) (o p : Answer × Vec) → o ≡ solve m n u vt tol d b x → p ≡ solve m n u vt tol d b x
    → o ≡ p
t2_solve_one = solve_one

-- Two outcomes of `pseudo_inverse` that satisfy its promise are one.
pub t2_pseudo_inverse_one : (m n u vt : ℕ) (tol : Float) (d x : Vec) (o p : Answer × Vec) → o ≡ pseudo_inverse m n u vt tol d x
    → p ≡ pseudo_inverse m n u vt tol d x → o ≡ p
t2_pseudo_inverse_one = pseudo_inverse_one

-- On answer 0 every number of `solve`'s answer is finite.
pub t11_solve_finite_out : (m n u vt : ℕ) (tol : Float) (d b x : Vec) (o : Answer × Vec) → o ≡ solve m n u vt tol d b x → o.0.answer ≡ 0
    → Finite o.1
t11_solve_finite_out = solve_finite_out_calls

-- On answer 0 every number of `pseudo_inverse`'s answer is finite.
pub t11_pseudo_inverse_finite_out : (m n u vt : ℕ) (tol : Float) (d x : Vec) (o : Answer × Vec) → o ≡ pseudo_inverse m n u vt tol d x
    → o.0.answer ≡ 0 → Finite o.1
t11_pseudo_inverse_finite_out = pseudo_inverse_finite_out_calls

-- A result of `svd` with answer 0 and both factors, handed on with both flags set and an answer of n·m numbers: `pseudo_inverse` refuses only the tolerance, with 11, else answers 0, or 8 or 10 at mark 2.
pub t12_svd_then_pseudo_inverse : (m n u vt has_u has_vt limit : ℕ) (matrix work result : Vec) (x : Outcome) (p : Promised m n u vt limit matrix work result x) (z : x.0.answer ≡ 0) (want_u : u ≡ 0 → ⊥) (want_vt : vt ≡ 0 → ⊥) (flag_u : has_u ≡ 0 → ⊥) (flag_vt : has_vt ≡ 0 → ⊥)
    → (tol : Float) (answer : Vec) → length answer ≡ n * m → Weighs tol (pseudo_inverse m n has_u has_vt tol x.2 answer).0
t12_svd_then_pseudo_inverse = svd_then_pseudo_inverse

-- And with an answer of n numbers `solve` refuses only the length of the right side (5), the tolerance (11) and a right side that is not finite (7, the place behind the decomposition), else answers 0, or 8 or 10 at mark 2.
pub t12_svd_then_solve : (m n u vt has_u has_vt limit : ℕ) (matrix work result : Vec) (x : Outcome) (p : Promised m n u vt limit matrix work result x) (z : x.0.answer ≡ 0) (want_u : u ≡ 0 → ⊥) (want_vt : vt ≡ 0 → ⊥) (flag_u : has_u ≡ 0 → ⊥) (flag_vt : has_vt ≡ 0 → ⊥)
    → (tol : Float) (b answer : Vec) → length answer ≡ n → Says m (length x.2) tol b (solve m n has_u has_vt tol x.2 b answer).0
t12_svd_then_solve = svd_then_solve

-- Two calls of `solve` that differ only in what the answer held before have the same outcome, unless it is a refusal that touches nothing: 1 to 6 or 11.
pub t14_solve_old_contents : (m n u vt : ℕ) (tol : Float) (d b x y : Vec) (o p : Answer × Vec) → length x ≡ length y → o ≡ solve m n u vt tol d b x
    → p ≡ solve m n u vt tol d b y → (EarlyOr11 o.0 → ⊥) → o ≡ p
t14_solve_old_contents = solve_old_contents_calls

-- So have two calls of `pseudo_inverse`.
pub t14_pseudo_inverse_old_contents : (m n u vt : ℕ) (tol : Float) (d x y : Vec) (o p : Answer × Vec) → length x ≡ length y
    → o ≡ pseudo_inverse m n u vt tol d x → p ≡ pseudo_inverse m n u vt tol d y → (EarlyOr11 o.0 → ⊥) → o ≡ p
t14_pseudo_inverse_old_contents = pseudo_inverse_old_contents_calls

-- On 8 and 10 of `solve` the number of the solution at `index` is infinite or NaN, and every number before it is finite.
pub t15_solve_index_points : (m n u vt : ℕ) (tol : Float) (d b x : Vec) (o : Answer × Vec) → o ≡ solve m n u vt tol d b x → AtMark o.0
    → Solve.Points (solution m n tol d b) o.0
t15_solve_index_points = solve_index_points_calls

-- On every other answer of `solve` the index is 0.
pub t15_solve_index_zero : (m n u vt : ℕ) (tol : Float) (d b x : Vec) (o : Answer × Vec) → o ≡ solve m n u vt tol d b x → (AtMark o.0 → ⊥)
    → o.0.index ≡ 0
t15_solve_index_zero = solve_index_zero_calls

-- On 8 and 10 of `pseudo_inverse` the number of the inverse at `index` is infinite or NaN, and every number before it is finite.
pub t15_pseudo_inverse_index_points : (m n u vt : ℕ) (tol : Float) (d x : Vec) (o : Answer × Vec) → o ≡ pseudo_inverse m n u vt tol d x → AtMark o.0
    → Solve.Points (inverted m n tol d) o.0
t15_pseudo_inverse_index_points = pseudo_inverse_index_points_calls

-- On every other answer of `pseudo_inverse` the index is 0.
pub t15_pseudo_inverse_index_zero : (m n u vt : ℕ) (tol : Float) (d x : Vec) (o : Answer × Vec) → o ≡ pseudo_inverse m n u vt tol d x
    → (AtMark o.0 → ⊥) → o.0.index ≡ 0
t15_pseudo_inverse_index_zero = pseudo_inverse_index_zero_calls

-- The check of the tolerance refuses exactly a NaN and what is below 0.
pub t24_tolerance_refused_exactly : (tol : Float) → (tolerance_good tol ≡ false) ↔ ((tol ≡ nan) ⊎ (lt tol zero64 ≡ true))
t24_tolerance_refused_exactly = tolerance_refused_exactly

-- Of the check of tolerance and lengths: a tolerance that is refused is refused with 11 whatever the lengths.
pub t24_fitting_11 : (tol : Float) (a wa b wb : ℕ) → tolerance_good tol ≡ false → fitting tol a wa b wb ≡ refused 11 0
t24_fitting_11 = fitting_11

-- With the tolerance -0.0 `solve` gives what it gives with +0.0.
pub t24_solve_tolerance_zero : (m n u vt : ℕ) (d b x : Vec) (o p : Answer × Vec) → o ≡ solve m n u vt (neg zero64) d b x
    → p ≡ solve m n u vt zero64 d b x → o ≡ p
t24_solve_tolerance_zero = solve_tolerance_zero_calls

-- And so does `pseudo_inverse`.
pub t24_pseudo_inverse_tolerance_zero : (m n u vt : ℕ) (d x : Vec) (o p : Answer × Vec) → o ≡ pseudo_inverse m n u vt (neg zero64) d x
    → p ≡ pseudo_inverse m n u vt zero64 d x → o ≡ p
t24_pseudo_inverse_tolerance_zero = pseudo_inverse_tolerance_zero_calls

-- Where the tolerance is not refused, `solve` gives what its definition with no check of it gives.
pub t24_solve_as_before : (m n u vt : ℕ) (tol : Float) (d b x : Vec) (o : Answer × Vec) → o ≡ solve m n u vt tol d b x → tolerance_good tol ≡ true
    → o ≡ solve_before m n u vt tol d b x
t24_solve_as_before = solve_as_before_calls

-- And so does `pseudo_inverse`.
pub t24_pseudo_inverse_as_before : (m n u vt : ℕ) (tol : Float) (d x : Vec) (o : Answer × Vec) → o ≡ pseudo_inverse m n u vt tol d x
    → tolerance_good tol ≡ true → o ≡ pseudo_inverse_before m n u vt tol d x
t24_pseudo_inverse_as_before = pseudo_inverse_as_before_calls

-- `solve` answers 11 exactly where the sizes are at most 256, both factors are there, the right side has m numbers, and the tolerance is a NaN or below 0; and then nothing is touched.
pub t38_solve_11_exactly : (m n u vt : ℕ) (tol : Float) (d b x : Vec) (o : Answer × Vec) → o ≡ solve m n u vt tol d b x
    → ((o.0.answer ≡ 11) ↔ (((m ≤ 256) × (n ≤ 256) × (u ≡ 0 → ⊥) × (vt ≡ 0 → ⊥)) × (length b ≡ m) × ((tol ≡ nan) ⊎ (lt tol zero64 ≡ true)))) × (o.0.answer ≡ 11 → o ≡ (refused 11 0, x))
t38_solve_11_exactly = solve_11_exactly_calls

-- `pseudo_inverse` answers 11 exactly where the sizes are at most 256, both factors are there, and the tolerance is a NaN or below 0; and then nothing is touched.
pub t38_pseudo_inverse_11_exactly : (m n u vt : ℕ) (tol : Float) (d x : Vec) (o : Answer × Vec) → o ≡ pseudo_inverse m n u vt tol d x
    → ((o.0.answer ≡ 11) ↔ (((m ≤ 256) × (n ≤ 256) × (u ≡ 0 → ⊥) × (vt ≡ 0 → ⊥)) × ((tol ≡ nan) ⊎ (lt tol zero64 ≡ true)))) × (o.0.answer ≡ 11 → o ≡ (refused 11 0, x))
t38_pseudo_inverse_11_exactly = pseudo_inverse_11_exactly_calls

-- Of the checks of `solve`: where sizes and flags are right, a right side of another length than m is refused with 5, whatever the tolerance.
pub t24_solve_checks_5 : (m n u vt : ℕ) (tol : Float) (d x : ℕ) (few : m ≤ 256) (narrow : n ≤ 256) (has_u : u ≡ 0 → ⊥) (has_vt : vt ≡ 0 → ⊥) → (b : ℕ)
    → (b ≡ m → ⊥) → solve_checks m n u vt tol d b x ≡ refused 5 0
t24_solve_checks_5 = solve_checks_5
