-- What is proved of `lanczos`: y and z are what calls that meet its promise came back with. Laws only.
use Rattle.std.specs.Prelude.{false, true, ◌↔◌, ◌⊎◌, ◌≡◌, ◌*◌, ◌+◌, ◌<◌, ◌≤◌, ℕ, length}
use Rattle.std.specs.Float.Ieee.{le}
use Rattle.answers.specs.Answers.{least, passed}
use Rattle.answers.specs.Index.{AtMark}
use Rattle.answers.specs.declared.Answer.{Answer}
use Rattle.eigen_theorems.specs.Outcome.{RunAnswer}
use Rattle.grid.specs.Real.{Vec, at, zero64, zeros}
use Rattle.lanczos.specs.Lanczos.{lanczos}
use Rattle.lanczos_theorems.specs.Early.{Outcome, Promised, Untouched}
use Rattle.lanczos_theorems.proofs.LimitCalls.{lanczos_limit_calls}
use Rattle.lanczos_theorems.proofs.OldContents.{lanczos_old_contents_calls, lanczos_untouched}
use Rattle.lanczos_theorems.specs.OneOutcome.{lanczos_one}
use Rattle.lanczos_theorems.specs.Result.{lanczos_out_calls}
use Rattle.lanczos_theorems.proofs.Pairs.{lanczos_found_calls}
use Rattle.lanczos_theorems.specs.RunOutcome.{Fit, Points, Says, Stepped, inner_of}
use Rattle.lanczos_theorems.proofs.RunOutcomeLaws.{inner_ran, lanczos_answers_calls, lanczos_exactly_calls, lanczos_index_points_calls, lanczos_index_zero_calls, lanczos_says_calls}
use Rattle.lanczos.specs.Checks.{checks}
use Rattle.leaves.specs.Finite.{Finite}

-- Two outcomes that satisfy the promise are one.
pub t2_lanczos_one : (n k limit edition : ℕ) (a b work x : Vec) (y z : Outcome) → Promised n k limit edition a b work x y
    → Promised n k limit edition a b work x z → y ≡ z
t2_lanczos_one = lanczos_one

-- Two calls that differ only in what work and answer held before have the same outcome, unless it is a refusal that touches nothing: 1 to 6, 12, 14 or 15.
pub t34_lanczos_old_contents : (n k limit edition : ℕ) (a b work x work' x' : Vec) (y z : Outcome) → length work ≡ length work' → length x ≡ length x'
    → Promised n k limit edition a b work x y → Promised n k limit edition a b work' x' z → (Untouched y.0 → ⊥) → y ≡ z
t34_lanczos_old_contents = lanczos_old_contents_calls

-- Where checks 1, 2, 12, 14, 15 and 6 refuse, both arrays are as they were.
pub t34_lanczos_untouched : (n k limit edition : ℕ) (a b work x : Vec)
    → passed (checks n k limit edition (length a) (length b) (length work) (length x)) ≡ false
    → lanczos n k limit edition a b work x ≡ (checks n k limit edition (length a) (length b) (length work) (length x), work, x)
t34_lanczos_untouched = lanczos_untouched

-- An outcome at a limit of 1 or more that is not refusal 9 is the outcome at every higher limit up to 60.
pub t35_lanczos_limit : (l h : ℕ) (low : 1 ≤ l) (up : l ≤ h) (high : h ≤ 60) → (n k edition : ℕ) (a b work x : Vec) (y z : Outcome)
    → Promised n k l edition a b work x y → Promised n k h edition a b work x z → (y.0.answer ≡ 9 → ⊥) → z ≡ y
t35_lanczos_limit = lanczos_limit_calls

-- On answer 0 every number of the answer is finite, and at most k pairs are found.
pub t36_lanczos_out : (n k limit edition : ℕ) (a b work x : Vec) (y : Outcome) → Promised n k limit edition a b work x y → y.0.answer ≡ 0
    → Finite y.2 × (y.0.place ≤ k)
t36_lanczos_out = lanczos_out_calls

-- On 8 and 10 the index points, by the place: 3, the norm of the start vector; 4 and 5, alpha or beta of the step that the index names, every one before it finite; 0 to 2, what the inner call's mark looks at; 6, the answer, every number before it finite.
pub t40_lanczos_index_points : (n k limit edition : ℕ) (a b work x : Vec) (y : Outcome) (p : Promised n k limit edition a b work x y) → AtMark y.0
    → Points n k limit edition a b y.0
t40_lanczos_index_points = lanczos_index_points_calls

-- On every other answer the index is 0.
pub t40_lanczos_index_zero : (n k limit edition : ℕ) (a b work x : Vec) (y : Outcome) (p : Promised n k limit edition a b work x y)
    → (AtMark y.0 → ⊥) → y.0.index ≡ 0
t40_lanczos_index_zero = lanczos_index_zero_calls

-- Every answer is 0, 1, 2, 6, 7, 8, 9, 10, 12, 14 or 15.
pub t40_lanczos_answers : (n k limit edition : ℕ) (a b work x : Vec) (y : Outcome) → Promised n k limit edition a b work x y
    → (y.0.answer ≡ 0) ⊎ ((y.0.answer ≡ 1) ⊎ ((y.0.answer ≡ 2) ⊎ ((y.0.answer ≡ 6) ⊎ ((y.0.answer ≡ 7) ⊎ ((y.0.answer ≡ 8) ⊎ ((y.0.answer ≡ 9) ⊎ ((y.0.answer ≡ 10) ⊎ ((y.0.answer ≡ 12) ⊎ ((y.0.answer ≡ 14) ⊎ (y.0.answer ≡ 15))))))))))
t40_lanczos_answers = lanczos_answers_calls

-- A call that passes checks 1, 2, 12, 14, 15 and 6 gives what the definition's own steps say (`Says`): each answer with its place, index and count, and the answer array.
pub t40_lanczos_says : (n k limit edition : ℕ) (a b work x : Vec) (y : Outcome) (p : Promised n k limit edition a b work x y)
    → passed (checks n k limit edition (length a) (length b) (length work) (length x)) ≡ true → Says n k limit edition a b (y.0, y.2)
t40_lanczos_says = lanczos_says_calls

-- And it gives an answer and an array exactly where the steps say them, with work all +0.0.
pub t40_lanczos_exactly : (n k limit edition : ℕ) (a b : Vec) → (work x : Vec) (y : Outcome) → Promised n k limit edition a b work x y
    → passed (checks n k limit edition (length a) (length b) (length work) (length x)) ≡ true → (r : Answer) (z : Vec)
    → (y ≡ (r, zeros (length work), z)) ↔ Says n k limit edition a b (r, z)
t40_lanczos_exactly = lanczos_exactly_calls

-- Of a call that passes checks 1, 2, 12, 14 and 15 the inner call of `symmetric_eigen` is never refused: it answers 0, 8, 9 or 10.
pub t40_inner_ran : (n k limit edition : ℕ) (a b : Vec) → Fit n k limit edition → (m : ℕ) → m ≤ n → RunAnswer (inner_of n k limit edition a b m).0
t40_inner_ran = inner_ran

-- On 0 the place is the smaller of k and the number of steps run.
pub t41_lanczos_place : (n k limit edition : ℕ) (a b work x : Vec) (y : Outcome) → Promised n k limit edition a b work x y → y.0.answer ≡ 0
    → (m : ℕ) × Stepped n k a b m × (y.0.place ≡ least k m)
t41_lanczos_place = λ n k limit edition a b work x y p z. let f = lanczos_found_calls n k limit edition a b work x y p z in (f.run, f.stepped, f.place_is)

-- On 0 the values of the pairs descend.
pub t41_lanczos_descends : (n k limit edition : ℕ) (a b work x : Vec) (y : Outcome) → Promised n k limit edition a b work x y → y.0.answer ≡ 0
    → (i j : ℕ) → i < j → j < y.0.place → le (at y.2 j) (at y.2 i) ≡ true
t41_lanczos_descends = λ n k limit edition a b work x y p z. (lanczos_found_calls n k limit edition a b work x y p z).descends

-- On 0 what the pairs don't fill is +0.0: the values behind theirs, and the rows behind theirs.
pub t41_lanczos_rest : (n k limit edition : ℕ) (a b work x : Vec) (y : Outcome) → Promised n k limit edition a b work x y → y.0.answer ≡ 0
    → ((t : ℕ) → y.0.place ≤ t → t < k → at y.2 t ≡ zero64) × ((i : ℕ) → k + y.0.place * n ≤ i → i < k + k * n → at y.2 i ≡ zero64)
t41_lanczos_rest = λ n k limit edition a b work x y p z. let f = lanczos_found_calls n k limit edition a b work x y p z in (f.values_rest, f.rows_rest)
