-- What is proved of `covariance` and of `sums`: o and p are what calls that meet their promise came back with. Laws only.
use Rattle.std.specs.Prelude.{List, ◌⊎◌, ◌≡◌, ◌*◌, ◌+◌, ◌<◌, ◌^◌, ◌≤◌, ℕ, ◌*ℤ◌, pos, ℤ, length}
use Rattle.answers.specs.declared.Answer.{Answer}
use Rattle.covariance.specs.MatrixEntries.{whole}
use Rattle.calls_theorems.specs.Covariance.{covariance_exact_calls, covariance_finite_out_calls, covariance_index_zero_calls, covariance_old_contents_calls, covariance_over_first_calls, covariance_symmetric_calls, covariance_then_eigen}
use Rattle.calls_theorems.proofs.CovarianceRan.{covariance_then_ran}
use Rattle.covariance.specs.Covariance.{covariance}
use Rattle.covariance_theorems.specs.Diagonal.{diagonal_not_negative}
use Rattle.covariance_theorems.specs.ExactEntries.{Exactly, FirstOver, Untouched}
use Rattle.covariance_sums.specs.Sums.{sums}
use Rattle.covariance_theorems.specs.ExactSums.{ExactSum, Sixteen}
use Rattle.covariance_theorems.specs.ExactSumsLaws.{sums_exact, sums_finite_out, sums_index_zero, sums_old_contents, sums_one}
use Rattle.covariance_theorems.specs.OneOutcome.{covariance_one}
use Rattle.eigen_theorems.specs.Outcome.{Outcome, Promised, RunAnswer, Taken}
use Rattle.gain_path_theorems.proofs.CovarianceGain.{covariance_gain, covariance_gain_whole}
use Rattle.gain_path_theorems.specs.CovarianceGained.{CovarianceGained, louder}
use Rattle.grid.specs.Cell.{entry}
use Rattle.grid.specs.Real.{Vec, at}
use Rattle.leaves.specs.Finite.{Finite}

-- Two outcomes that satisfy the promise are one.
pub t2_covariance_one : (n N : ℕ) (samples : List ℤ) (m : Vec) (o p : Answer × Vec) → o ≡ covariance n N samples m → p ≡ covariance n N samples m
    → o ≡ p
t2_covariance_one = covariance_one

-- On answer 0 every number of the matrix is finite.
pub t11_covariance_finite_out : (n N : ℕ) (samples : List ℤ) (m : Vec) (o : Answer × Vec) (p : o ≡ covariance n N samples m) (z : o.0.answer ≡ 0)
    → Finite o.1
t11_covariance_finite_out = covariance_finite_out_calls

-- Two calls that differ only in what the matrix held before have the same outcome, unless it is a refusal that touches nothing: 1 to 6 or 25.
pub t14_covariance_old_contents : (n N : ℕ) (samples : List ℤ) (x y : Vec) (o p : Answer × Vec) → length x ≡ length y → o ≡ covariance n N samples x
    → p ≡ covariance n N samples y → (Untouched o.0 → ⊥) → o ≡ p
t14_covariance_old_contents = covariance_old_contents_calls

-- The index is 0 on every answer.
pub t15_covariance_index_zero : (n N : ℕ) (samples : List ℤ) (m : Vec) (o : Answer × Vec) (p : o ≡ covariance n N samples m) → o.0.index ≡ 0
t15_covariance_index_zero = covariance_index_zero_calls

-- On answer 0 entry (x, y) and entry (y, x) are the same bits.
pub t20_covariance_symmetric : (n N : ℕ) (samples : List ℤ) (m : Vec) (o : Answer × Vec) (p : o ≡ covariance n N samples m) (z : o.0.answer ≡ 0)
    → (x y : ℕ) → x < n → y < n → entry o.1 n x y ≡ entry o.1 n y x
t20_covariance_symmetric = covariance_symmetric_calls

-- On answer 0 each entry is exactly the whole number N·Σxy - (Σx)(Σy), whose magnitude is at most 2^53.
pub t21_covariance_exact : (n N : ℕ) (samples : List ℤ) (m : Vec) (o : Answer × Vec) (p : o ≡ covariance n N samples m) (z : o.0.answer ≡ 0)
    → (x y : ℕ) → x < n → y < n → Exactly samples N x y (entry o.1 n x y)
t21_covariance_exact = covariance_exact_calls

-- On 26 the entry at the place, row by row, is over 2^53 in magnitude, none before it is, and it stands on or above the diagonal.
pub t21_covariance_over_first : (n N : ℕ) (samples : List ℤ) (m : Vec) (o : Answer × Vec) (p : o ≡ covariance n N samples m) → o.0.answer ≡ 26
    → FirstOver n N samples o.0.place
t21_covariance_over_first = covariance_over_first_calls

-- For every band N·Σx² - (Σx)² is a whole number not below 0.
pub t22_diagonal_not_negative : (samples : List ℤ) (N x : ℕ) → (m : ℕ) × (whole samples N x x ≡ pos m)
t22_diagonal_not_negative = diagonal_not_negative

-- The matrix of an answer 0, with that n, a limit of 1 to 60, edition 1 or 2 and arrays of the right lengths, passes checks 1, 2, 12, 6 and 7 of `symmetric_eigen`.
pub t23_covariance_then_eigen : (n N : ℕ) (samples : List ℤ) (m : Vec) (o : Answer × Vec) (p : o ≡ covariance n N samples m) (z : o.0.answer ≡ 0) (limit edition : ℕ) (work result : Vec) (least : 1 ≤ limit) (most : limit ≤ 60) (choice : (edition ≡ 1) ⊎ (edition ≡ 2)) (works : length work ≡ n) (room : length result ≡ n + n * n)
    → Taken n limit edition o.1 work result
t23_covariance_then_eigen = covariance_then_eigen

-- And that call's answer is then 0, 8, 9 or 10.
pub t23_covariance_then_ran : (n N : ℕ) (samples : List ℤ) (m : Vec) (o : Answer × Vec) (p : o ≡ covariance n N samples m) (z : o.0.answer ≡ 0) (limit edition : ℕ) (work result : Vec) (least : 1 ≤ limit) (most : limit ≤ 60) (choice : (edition ≡ 1) ⊎ (edition ≡ 2)) (works : length work ≡ n) (room : length result ≡ n + n * n)
    → (x : Outcome) → Promised n limit edition o.1 work result x → RunAnswer x.0
t23_covariance_then_ran = covariance_then_ran

-- Two outcomes of `sums` that satisfy the promise are one.
pub t2_sums_one : (n N : ℕ) (samples : List ℤ) (out : Vec) (o p : Answer × Vec) → o ≡ sums n N samples out → p ≡ sums n N samples out
    → o ≡ p
t2_sums_one = sums_one

-- Of samples of 16 bits: on answer 0 every number of `out` is finite.
pub t11_sums_finite_out : (n N : ℕ) (samples : List ℤ) (out : Vec) (o : Answer × Vec) (p : o ≡ sums n N samples out) (z : o.0.answer ≡ 0) (s : Sixteen samples)
    → Finite o.1
t11_sums_finite_out = sums_finite_out

-- Two calls that differ only in what `out` held before have the same outcome, unless it is a refusal that touches nothing.
pub t14_sums_old_contents : (n N : ℕ) (samples : List ℤ) (x y : Vec) (o p : Answer × Vec) → length x ≡ length y → o ≡ sums n N samples x
    → p ≡ sums n N samples y → (Untouched o.0 → ⊥) → o ≡ p
t14_sums_old_contents = sums_old_contents

-- The index is 0 on every answer.
pub t15_sums_index_zero : (n N : ℕ) (samples : List ℤ) (out : Vec) (o : Answer × Vec) (p : o ≡ sums n N samples out) → o.0.index ≡ 0
t15_sums_index_zero = sums_index_zero

-- Of samples of 16 bits: on answer 0 number x is exactly the sum of the N samples of band x, which is at most 2^31 in magnitude.
pub t45_sums_exact : (n N : ℕ) (samples : List ℤ) (out : Vec) (o : Answer × Vec) (p : o ≡ sums n N samples out) (z : o.0.answer ≡ 0) (s : Sixteen samples)
    → (x : ℕ) → x < n → ExactSum samples N x (at o.1 x)
t45_sums_exact = sums_exact

-- Of samples times 2^k each whole number N·Σxy - (Σx)(Σy) is 4^k times that of the samples, exactly.
pub t42_covariance_gain_whole : (k : ℕ) (samples : List ℤ) (N x y : ℕ) → whole (louder k samples) N x y ≡ pos (4 ^ k) *ℤ whole samples N x y
t42_covariance_gain_whole = covariance_gain_whole

-- Two calls, of samples and of 2^k times them: where the second is done so is the first, and each number is multiplied by 4^k; 26 of the first is 26 of the second, no later; 1, 25 and 6 agree.
pub t42_covariance_gain : (k n N : ℕ) (samples : List ℤ) (m m' : Vec) (x y : Answer × Vec) → length m' ≡ length m → x ≡ covariance n N samples m
    → y ≡ covariance n N (louder k samples) m' → CovarianceGained k x y
t42_covariance_gain = covariance_gain
