-- What a power of two does to `svd`, to hypot and `tql2`, to `symmetric_eigen`, and on the path from samples to vectors. Laws only.
use Rattle.std.specs.Prelude.{false, true, List, map, ◌≡◌, ◌*◌, ◌+◌, ◌<◌, ℕ, T, Float, negsuc, pos, ℤ, length}
use Rattle.std.specs.Float.{binary64, fin}
use Rattle.std.specs.Float.Ieee.{fits}
use Rattle.answers.specs.Answers.{decomposition_length, least}
use Rattle.answers.specs.declared.Answer.{Answer}
use Rattle.covariance.specs.Covariance.{covariance}
use Rattle.eigen_theorems.specs.Outcome as Eigen
use Rattle.eigen_tred2_definition.specs.Tred2.{tred2}
use Rattle.eigen_tql2.specs.Tql2.{tql2}
use Rattle.gain_path_theorems.specs.CovarianceGained.{louder}
use Rattle.gain_path_theorems.specs.EigenCases as EigenCases
use Rattle.gain_path_theorems.specs.EigenCounter as EigenCounter
use Rattle.gain_path_theorems.specs.EigenFine.{EigenFine, EigenGained}
use Rattle.gain_path_theorems.proofs.EigenScaled.{gain_keeps_eigenvectors}
use Rattle.gain_path_theorems.proofs.EigenWorked as EigenWorked
use Rattle.gain_path_theorems.specs.HypotFine.{HypotFine}
use Rattle.gain_path_theorems.specs.HypotScaled.{pythag_scaled}
use Rattle.gain_path_theorems.specs.Numbers.{Doubles, Pair}
use Rattle.gain_path_theorems.proofs.PathGain.{gain_keeps_path}
use Rattle.gain_path_theorems.proofs.PathWorked as PathWorked
use Rattle.gain_path_theorems.specs.Tql2Fine.{Tql2Fine, Tql2Gained}
use Rattle.gain_path_theorems.proofs.Tql2Scaled.{tql2_gain}
use Rattle.gain_path_theorems.specs.Tred2Fine.{Reduced, Tred2Fine}
use Rattle.gain_path_theorems.proofs.Tred2Scaled.{tred2_scaled}
use Rattle.hypot.specs.Edition.{pythag}
use Rattle.svd_gain_theorems.specs.Fine.{SvdFine}
use Rattle.svd_gain_theorems.proofs.Gain.{gain_keeps_basis}
use Rattle.svd_gain_theorems.specs.Gained.{Gained}
use Rattle.svd_gain_theorems.specs.Scale.{Scaled, fine, scale}
use Rattle.svd_gain_theorems.proofs.Times.{scale_times}
use Rattle.svd_gain_theorems.specs.Cases.{Fails, Keeps, fine_or_over, gained, large, matrix, outcome, small, tiny}
use Rattle.svd_gain_theorems.specs.Counter.{overflow_done, overflow_needed, subnormal_needed, zero_product_needed}
use Rattle.svd_gain_theorems.proofs.Worked.{done, eightfold_asked, matrix_asked, small_asked, worked_3, worked_minus_5}
use Rattle.grid.specs.Real.{Vec, ◌⊗◌, zeros}
use Rattle.leaves.specs.Leaf.{is_finite}
use Rattle.svd_theorems.specs.Outcome.{Outcome, Promised}
use Rattle.svd_sort_svd_descending.specs.Result.{work_length}

-- Two calls of a matrix and of 2^k times it, both runs in the normal range, with arrays of the same lengths: answer, place, index and count agree, on 0 the values are multiplied by 2^k and U and V^T are the same bits, and on any other answer both results are untouched or all +0.0.
pub t33_gain_keeps_basis : (k : ℤ) (m n want_u want_vt limit : ℕ) (matrix work result work' result' : Vec) (x y : Outcome) → length work' ≡ length work
    → length result' ≡ length result → Promised m n want_u want_vt limit matrix work result x
    → Promised m n want_u want_vt limit (map (scale k) matrix) work' result' y → SvdFine m n want_u want_vt limit matrix work result
    → SvdFine m n want_u want_vt limit (map (scale k) matrix) work' result' → Gained k (least m n) work result work' result' x y
t33_gain_keeps_basis = gain_keeps_basis

-- What the theorem calls 2^k times a number is the number times 2^k in binary64, wherever that is a double: nothing is rounded.
pub t33_scale_times : (k : ℤ) (x : Float) → T (fits binary64 (scale k x)) → x ⊗ fin false 1 k ≡ scale k x
t33_scale_times = scale_times

-- What it asks is so of the matrix (1 2 3 / 4 5 6), computed.
pub t33_matrix_asked : SvdFine 2 3 1 1 60 matrix (zeros (work_length 2 3)) (zeros (decomposition_length 2 3 1 1))
t33_matrix_asked = matrix_asked

-- The call of it answers 0.
pub t33_done : (outcome 2 3 matrix).0.answer ≡ 0
t33_done = done

-- It is so of 8 times that matrix.
pub t33_eightfold_asked : SvdFine 2 3 1 1 60 (gained (pos 3)) (zeros (work_length 2 3)) (zeros (decomposition_length 2 3 1 1))
t33_eightfold_asked = eightfold_asked

-- And of a thirty-second of it.
pub t33_small_asked : SvdFine 2 3 1 1 60 (gained (negsuc 4)) (zeros (work_length 2 3)) (zeros (decomposition_length 2 3 1 1))
t33_small_asked = small_asked

-- So 8 times the matrix has the same U and V^T, and 8 times the values.
pub t33_worked_3 : Keeps (pos 3)
t33_worked_3 = worked_3

-- And a thirty-second of it the same U and V^T, and a thirty-second of the values.
pub t33_worked_minus_5 : Keeps (negsuc 4)
t33_worked_minus_5 = worked_minus_5

-- Subnormal numbers can't be let pass: of a matrix of one number and of 2^530 times it every number is finite and no product of nonzero numbers zero, and what T33 says is not so.
pub t33_subnormal_needed : Fails is_finite false 1 (pos 530) small
t33_subnormal_needed = subnormal_needed

-- Nor can a product that comes out zero: of one number and of 2^600 times it every number is zero or in the normal range, and what T33 says is not so.
pub t33_zero_product_needed : Fails fine true 1 (pos 600) tiny
t33_zero_product_needed = zero_product_needed

-- Nor can an overflow: of a matrix 2 by 2 and of 2^-300 times it no number is subnormal and no product of nonzero numbers zero, and what T33 says is not so.
pub t33_overflow_needed : Fails fine_or_over false 2 (negsuc 299) large
t33_overflow_needed = overflow_needed

-- Though the call of that matrix answers 0.
pub t33_overflow_done : (outcome 2 2 large).0.answer ≡ 0
t33_overflow_done = overflow_done

-- In either edition the hypot of two doubles times 2^k is 2^k times their hypot, where both are zero, or finite and above 2^-1022, and zero only where both sides are.
pub t43_hypot_gain : (k edition : ℕ) (x y : Float) {x' y' : Float} → Scaled k x x' → Scaled k y y' → T (fits binary64 x) → T (fits binary64 y)
    → T (fits binary64 x') → T (fits binary64 y') → HypotFine edition x y → HypotFine edition x' y' → Scaled k (pythag edition x y) (pythag edition x' y')
t43_hypot_gain = pythag_scaled

-- `tql2` of a v with d and e and with 2^k times them, all doubles and both runs in the normal range: the four numbers and the vectors are the same, and the values are multiplied by 2^k.
pub t47_tql2_gain : (k n limit edition : ℕ) (v d e : Vec) → Doubles d → Doubles e → Doubles (map (scale (pos k)) d) → Doubles (map (scale (pos k)) e)
    → Tql2Fine n limit edition (v, d, e) → Tql2Fine n limit edition (v, map (scale (pos k)) d, map (scale (pos k)) e)
    → Tql2Gained k (tql2 n limit edition (v, d, e)) (tql2 n limit edition (v, map (scale (pos k)) d, map (scale (pos k)) e))
t47_tql2_gain = tql2_gain

-- Two calls of `symmetric_eigen` in one edition, of a matrix of doubles and of 2^k times it, which are doubles too, both runs in the normal range, with arrays of the same lengths: answer, place, index and count agree, on 0 the values are multiplied by 2^k and the vectors are the same bits, and on any other answer both results are untouched or all +0.0.
pub t48_gain_keeps_eigenvectors : (k : ℤ) (n limit edition : ℕ) (matrix work result work' result' : Vec) (x y : Eigen.Outcome) → length work' ≡ length work
    → length result' ≡ length result → Doubles matrix → Doubles (map (scale k) matrix) → Eigen.Promised n limit edition matrix work result x
    → Eigen.Promised n limit edition (map (scale k) matrix) work' result' y → EigenFine n limit edition matrix work result
    → EigenFine n limit edition (map (scale k) matrix) work' result' → EigenGained k n work result work' result' x y
t48_gain_keeps_eigenvectors = gain_keeps_eigenvectors

-- Of the reduction alone, `tred2`: of a matrix and e, and of 2^k times them, in the normal range, it gives the same v, and d and e times 2^k.
pub t48_tred2_scaled : (n k : ℕ) → 0 < n → (v v' d d' e e' : Vec) → Pair k v v' → Pair k e e' → length v ≡ n * n → length d ≡ n → length d' ≡ n
    → Tred2Fine n (v, d, e) → Tred2Fine n (v', d', e') → Reduced k (tred2 n (v, d, e)) (tred2 n (v', d', e'))
t48_tred2_scaled = tred2_scaled

-- What it asks is so of the matrix (3 2 1 / 2 4 -2 / 1 -2 11) in edition 1, computed.
pub t48_matrix_asked : EigenFine 3 60 1 EigenCases.matrix (zeros 3) (zeros 12)
t48_matrix_asked = EigenWorked.matrix_asked

-- And of 4 times that matrix.
pub t48_fourfold_asked : EigenFine 3 60 1 (map (scale (pos 2)) EigenCases.matrix) (zeros 3) (zeros 12)
t48_fourfold_asked = EigenWorked.fourfold_asked

-- The call of it answers 0.
pub t48_done_1 : (EigenCases.outcome 3 60 1 EigenCases.matrix).0.answer ≡ 0
t48_done_1 = EigenWorked.done_1

-- So 4 times the matrix has the same vectors, and 4 times the values.
pub t48_worked_2 : EigenCases.Keeps 3 60 1 (pos 2) EigenCases.matrix
t48_worked_2 = EigenWorked.worked_2

-- In edition 2 the call of (1 2 / 2 2) answers 0.
pub t48_done_2 : (EigenCases.outcome 2 60 2 EigenCases.high).0.answer ≡ 0
t48_done_2 = EigenWorked.done_2

-- There 8 times it has the same vectors, and 8 times the values.
pub t48_worked_3 : EigenCases.Keeps 2 60 2 (pos 3) EigenCases.high
t48_worked_3 = EigenWorked.worked_3

-- And a thirty-second of it the same vectors, and a thirty-second of the values.
pub t48_worked_minus_5 : EigenCases.Keeps 2 60 2 (negsuc 4) EigenCases.high
t48_worked_minus_5 = EigenWorked.worked_minus_5

-- Subnormal numbers can't be let pass: of (1 1 / 1 3) and of 2^-1021 times it every number is finite and no product is zero that need not be, and what T48 says is not so.
pub t48_subnormal_needed : EigenCases.Fails is_finite false 2 60 1 (negsuc 1020) EigenCases.low
t48_subnormal_needed = EigenCounter.subnormal_needed

-- Nor can a product that comes out zero: of (3 2 1 / 2 4 -2 / 1 -2 11) with the limit 1 and of 2^-540 times it every number is zero or in the normal range, and what T48 says is not so.
pub t48_zero_product_needed : EigenCases.Fails fine true 3 1 1 (negsuc 539) EigenCases.matrix
t48_zero_product_needed = EigenCounter.zero_product_needed

-- Nor can an overflow: of (1 2 / 2 2) and of 2^1022 times it no number is subnormal and no product is zero that need not be, and what T48 says is not so.
pub t48_overflow_needed : EigenCases.Fails fine_or_over false 2 60 1 (pos 1022) EigenCases.high
t48_overflow_needed = EigenCounter.overflow_needed

-- Though the call of that multiple answers 0.
pub t48_overflow_done : (EigenCases.outcome 2 60 1 (map (scale (pos 1022)) EigenCases.high)).0.answer ≡ 0
t48_overflow_done = EigenCounter.overflow_done

-- Two calls of `covariance`, of samples and of 2^k times them, the second of which answers 0, and two of `symmetric_eigen` in one edition of what they gave, with arrays of the same lengths and both runs in the normal range: the first answers 0 too, the four numbers of the latter two agree, and on 0 the values are multiplied by 4^k and the vectors are the same bits.
pub t49_gain_keeps_path : (k n N : ℕ) (samples : List ℤ) (m m' : Vec) (x y : Answer × Vec) (limit edition : ℕ) (work result work' result' : Vec)
    (o p : Eigen.Outcome) → length m' ≡ length m → x ≡ covariance n N samples m → y ≡ covariance n N (louder k samples) m' → y.0.answer ≡ 0
    → length work' ≡ length work → length result' ≡ length result → Eigen.Promised n limit edition x.1 work result o
    → Eigen.Promised n limit edition y.1 work' result' p → EigenFine n limit edition x.1 work result
    → EigenFine n limit edition y.1 work' result' → (x.0.answer ≡ 0) × EigenGained (pos (k + k)) n work result work' result' o p
t49_gain_keeps_path = gain_keeps_path

-- Twice the samples (0 0 1 / 0 1 3) give the same vectors, and 4 times the values: what T49 asks of them is computed.
pub t49_worked : EigenGained (pos 2) 2 (zeros 2) (zeros 6) (zeros 2) (zeros 6) (EigenCases.outcome 2 60 1 (EigenCases.covered EigenCases.samples).1)
    (EigenCases.outcome 2 60 1 (EigenCases.covered (louder 1 EigenCases.samples)).1)
t49_worked = PathWorked.worked

-- The call of their covariance answers 0.
pub t49_answers_0 : (EigenCases.outcome 2 60 1 (EigenCases.covered EigenCases.samples).1).0.answer ≡ 0
t49_answers_0 = PathWorked.answers_0
