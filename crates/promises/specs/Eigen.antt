-- What is proved of `symmetric_eigen`: x and y are what calls that meet its promise came back with. Laws only.
use Rattle.std.specs.Prelude.{false, true, ◌++◌, ◌↔◌, ◌⊎◌, ◌≡◌, ◌*◌, ◌+◌, ◌<◌, ◌≤◌, ℕ, length}
use Rattle.std.specs.Float.Ieee.{le, lt}
use Rattle.answers.specs.Answers.{answered, done, refused}
use Rattle.answers.specs.Early.{EarlyOr12}
use Rattle.answers.specs.Index.{AtMark, Class}
use Rattle.calls_theorems.specs.Eigen.{columns_with_values_calls, done_exactly_calls, edition_refused_calls, eigen_old_contents_calls, finite_out_calls, index_points_calls, index_zero_calls, limit_exactly_calls, mark0_exactly_calls, mark1_exactly_calls, mark2_exactly_calls, values_ascend_calls}
use Rattle.calls_theorems.proofs.Refusals.{edition_refused_exactly_calls}
use Rattle.answers.specs.Checks.{edition_good, fitting_edition}
use Rattle.answers.proofs.EditionLaws.{edition_12, edition_right, right_edition}
use Rattle.eigen_symmetric_eigen.specs.SymmetricEigen.{eigen}
use Rattle.eigen_theorems.specs.Document.{SymmetricEigen}
use Rattle.eigen_theorems.specs.Outcome.{Broken0, Broken2, Columns, Done, Fit, Halted, Outcome, Points, Promised, Says, Taken, finished_with}
use Rattle.eigen_theorems.proofs.OutcomeLaws.{done_document, done_result, says_once}
use Rattle.eigen_theorems.proofs.Raised.{limit_raised_calls}
use Rattle.eigen_theorems.proofs.Theorems.{lower_only_calls, marks_only_stop, marks_only_stop_calls, one_outcome}
use Rattle.grid.specs.Cell.{entry}
use Rattle.grid.specs.Real.{Vec, at}
use Rattle.leaves.specs.Leaf.{is_finite}
use Rattle.eigen_tql2.specs.Sort.{sorted}
use Rattle.eigen_theorems.specs.Permutation.{Arranged}
use Rattle.eigen_theorems.specs.Tql2Document.{Carried}
use Rattle.eigen_theorems.specs.Tql2SortLaws.{sorted_arranged, sorted_ascends}
use Rattle.eigen_theorems.specs.Tql2Outcome.{End, FirstIn, Turned, bad, list1, used}
use Rattle.eigen_theorems.proofs.Tql2OutcomeLaws.{limit_spent, mark1_sees, turned_within}
use Rattle.eigen_theorems.specs.Document as Doc

-- Two outcomes that satisfy the promise are one.
pub t2_one_outcome : (n limit edition : ℕ) (a work result : Vec) (x y : Outcome) → Promised n limit edition a work result x
    → Promised n limit edition a work result y → x ≡ y
t2_one_outcome = one_outcome

-- Two calls with the same n, limit and edition that pass checks 1, 2, 12 and 6, of matrices that agree on and below the diagonal, have the same outcome, whatever stands above it and whatever work and result held.
pub t3_lower_only : (n limit edition : ℕ) (a b work result work' result' : Vec) (x y : Outcome) → Fit n limit edition a work result
    → Fit n limit edition b work' result' → ((i j : ℕ) → j ≤ i → i < n → entry a n i j ≡ entry b n i j) → Promised n limit edition a work result x
    → Promised n limit edition b work' result' y → x ≡ y
t3_lower_only = lower_only_calls

-- An outcome at a limit of 1 or more that is not refusal 9 is the outcome at every higher limit up to 60.
pub t4_limit_raised : (n edition k m : ℕ) (a work result : Vec) (x y : Outcome) → 1 ≤ k → k ≤ m → m ≤ 60 → Promised n k edition a work result x
    → Promised n m edition a work result y → (x.0.answer ≡ 9 → ⊥) → y ≡ x
t4_limit_raised = limit_raised_calls

-- Where the answer is 0 the result is a result of document 000's own loops with the edition's hypot, which have neither mark nor limit: its values, and behind them its vectors row by row.
pub t5_marks_only_stop : (n limit edition : ℕ) (a work result : Vec) → (eigen n limit edition a work result).0.answer ≡ 0
    → (values : Vec) × (vectors : Vec) × (SymmetricEigen n edition a values vectors × ((eigen n limit edition a work result).2 ≡ values ++ vectors))
t5_marks_only_stop = λ n limit edition a work result z. let d = marks_only_stop n limit edition a work result z in (d.values, d.vectors, (d.eigens, d.whole))

-- Where the answer is 0 and document 000 has a result, that is the one.
pub t5_marks_only_stop_one : (n limit edition : ℕ) (a work result values vectors : Vec) (x : Outcome) → Promised n limit edition a work result x
    → x.0.answer ≡ 0 → SymmetricEigen n edition a values vectors → x.2 ≡ values ++ vectors
t5_marks_only_stop_one = marks_only_stop_calls

-- A call that passes checks 1, 2, 12, 6 and 7 answers 0 with count c exactly where document 000's loops end with every number finite where the marks look and at most `limit` passes for each l, c in all.
pub t9_done_exactly : (n limit edition : ℕ) (a work result : Vec) (x : Outcome) (p : Promised n limit edition a work result x) (f : Taken n limit edition a work result)
    → (c : ℕ) → (x.0 ≡ done c) ↔ ((values : Vec) × (vectors : Vec) × Done n limit edition a c values vectors)
t9_done_exactly = done_exactly_calls

-- Of such a call, where the loops end so, the whole outcome is theirs: the answer with its count, work all +0.0, and in the result their values and vectors.
pub t9_done_result : (n limit edition : ℕ) (a work result : Vec) → Taken n limit edition a work result → (c : ℕ) (values vectors : Vec)
    → Done n limit edition a c values vectors → eigen n limit edition a work result ≡ finished_with n c values vectors
t9_done_result = done_result

-- What ends so (`Done`) is a result of document 000's own loops.
pub t9_done_document : (n limit edition : ℕ) (a : Vec) (c : ℕ) (values vectors : Vec) → Done n limit edition a c values vectors
    → Doc.SymmetricEigen n edition a values vectors
t9_done_document = done_document

-- A call that passes those checks answers 9 at l with count c exactly where the passes for l are used up.
pub t9_limit_exactly : (n limit edition : ℕ) (a work result : Vec) (x : Outcome) (p : Promised n limit edition a work result x) (f : Taken n limit edition a work result)
    → (l c : ℕ) → (x.0 ≡ answered 9 l 0 c) ↔ Halted n limit edition a used l c
t9_limit_exactly = limit_exactly_calls

-- It answers 8 or 10 at place 0 with index i exactly where n is not 0 and number i behind the reduction is the first that is not finite, and of that class.
pub t9_mark0_exactly : (n limit edition : ℕ) (a work result : Vec) (x : Outcome) (p : Promised n limit edition a work result x) (f : Taken n limit edition a work result)
    → (b i : ℕ) → Class b → (x.0 ≡ answered b 0 i 0) ↔ Broken0 n a b i
t9_mark0_exactly = mark0_exactly_calls

-- At place 1 with index i and count c exactly where the run stops at some l after c passes, since number i of d, then e, is the first that is not finite, and of that class.
pub t9_mark1_exactly : (n limit edition : ℕ) (a work result : Vec) (x : Outcome) (p : Promised n limit edition a work result x) (f : Taken n limit edition a work result)
    → (b i c : ℕ) → Class b → (x.0 ≡ answered b 1 i c) ↔ ((l : ℕ) × Halted n limit edition a (bad b i) l c)
t9_mark1_exactly = mark1_exactly_calls

-- At place 2 with index i and count c exactly where all passes end after c of them and number i of what the last mark looks at is the first that is not finite, and of that class.
pub t9_mark2_exactly : (n limit edition : ℕ) (a work result : Vec) (x : Outcome) (p : Promised n limit edition a work result x) (f : Taken n limit edition a work result)
    → (b i c : ℕ) → Class b → (x.0 ≡ answered b 2 i c) ↔ Broken2 n limit edition a b i c
t9_mark2_exactly = mark2_exactly_calls

-- What is said of a call that passes those checks (`Says`) is said of one outcome alone: the cases shut each other out.
pub t9_says_once : (n limit edition : ℕ) (a : Vec) (o p : Outcome) → Says n limit edition a o → Says n limit edition a p → o ≡ p
t9_says_once = says_once

-- Of one l: where its passes are used up, they are `limit`.
pub t9_limit_spent : (n limit edition l : ℕ) {x : Carried} {c : ℕ} {y : Carried} → Turned n limit edition l x c used y → c ≡ limit
t9_limit_spent = limit_spent

-- Of one l: its passes are `limit` at the most.
pub t9_turned_within : (n limit edition l : ℕ) {x : Carried} {c : ℕ} {e : End} {y : Carried} → Turned n limit edition l x c e y → c ≤ limit
t9_turned_within = turned_within

-- Of one l: where a pass stops at number i, that is the first of d, then e, that is not finite, and of that class.
pub t9_mark1_sees : (n limit edition l : ℕ) {x : Carried} {c b i : ℕ} {y : Carried} → Turned n limit edition l x c (bad b i) y → FirstIn (list1 y) b i
t9_mark1_sees = mark1_sees

-- On answer 0 the values ascend.
pub t10_values_ascend : (n limit edition : ℕ) (a work result : Vec) (x : Outcome) (p : Promised n limit edition a work result x) (z : x.0.answer ≡ 0)
    → (i j : ℕ) → i < j → j < n → le (at x.2 i) (at x.2 j) ≡ true
t10_values_ascend = values_ascend_calls

-- On answer 0, n not 0, values and columns are the run's, moved by one permutation, each once.
pub t10_columns_with_values : (n limit edition : ℕ) (a work result : Vec) (x : Outcome) (p : Promised n limit edition a work result x) (z : x.0.answer ≡ 0)
    → 0 < n → Columns n limit edition a x.0.count x.2
t10_columns_with_values = columns_with_values_calls

-- Of the sort alone, over n finite values: none is below one before it.
pub t10_sorted_ascends : (n : ℕ) (x : Vec × Vec) (lv : length x.0 ≡ n * n) (ld : length x.1 ≡ n) (f : (k : ℕ) → k < n → is_finite (at x.1 k) ≡ true)
    → (p q : ℕ) → p < q → q < n → lt (at (sorted n x).1 q) (at (sorted n x).1 p) ≡ false
t10_sorted_ascends = sorted_ascends

-- Of the sort alone, over n finite values: values and columns are moved by one permutation.
pub t10_sorted_arranged : (n : ℕ) (x : Vec × Vec) (lv : length x.0 ≡ n * n) (ld : length x.1 ≡ n) (f : (k : ℕ) → k < n → is_finite (at x.1 k) ≡ true)
    → Arranged n x (sorted n x)
t10_sorted_arranged = sorted_arranged

-- On answer 0 every number of the result is finite.
pub t11_finite_out : (n limit edition : ℕ) (a work result : Vec) (x : Outcome) (p : Promised n limit edition a work result x) (z : x.0.answer ≡ 0)
    → (k : ℕ) → k < n + n * n → is_finite (at x.2 k) ≡ true
t11_finite_out = finite_out_calls

-- Two calls that differ only in what work and result held before have the same outcome, unless it is a refusal that touches nothing: 1 to 6 or 12.
pub t14_eigen_old_contents : (n limit edition : ℕ) (a work result work' result' : Vec) (x y : Outcome) → length work ≡ length work'
    → length result ≡ length result' → Promised n limit edition a work result x → Promised n limit edition a work' result' y → (EarlyOr12 x.0 → ⊥)
    → x ≡ y
t14_eigen_old_contents = eigen_old_contents_calls

-- On 8 and 10 the number at `index` of the list that the mark of the place looks at is infinite (8) or NaN (10), and every number before it is finite.
pub t15_index_points : (n limit edition : ℕ) (a work result : Vec) (x : Outcome) (p : Promised n limit edition a work result x) → AtMark x.0
    → Points n limit edition a x.0
t15_index_points = index_points_calls

-- On every other answer the index is 0.
pub t15_index_zero : (n limit edition : ℕ) (a work result : Vec) (x : Outcome) (p : Promised n limit edition a work result x) → (AtMark x.0 → ⊥)
    → x.0.index ≡ 0
t15_index_zero = index_zero_calls

-- Of the check of the edition: what it takes is 1 or 2.
pub t26_edition_right : (edition : ℕ) → edition_good edition ≡ true → (edition ≡ 1) ⊎ (edition ≡ 2)
t26_edition_right = edition_right

-- And it takes 1 and 2.
pub t26_right_edition : (edition : ℕ) → (edition ≡ 1) ⊎ (edition ≡ 2) → edition_good edition ≡ true
t26_right_edition = right_edition

-- Of the check of edition and lengths: a wrong edition is refused with 12 whatever the lengths.
pub t26_edition_12 : (edition a wa b wb c wc : ℕ) → edition_good edition ≡ false → fitting_edition edition a wa b wb c wc ≡ refused 12 0
t26_edition_12 = edition_12

-- Where n is at most 256 and the limit 1 to 60, an edition other than 1 and 2 is refused with 12, and nothing is touched.
pub t26_edition_refused : (n limit edition : ℕ) (a work result : Vec) (x : Outcome) → Promised n limit edition a work result x → n ≤ 256 → 1 ≤ limit
    → limit ≤ 60 → (edition ≡ 1 → ⊥) → (edition ≡ 2 → ⊥) → x ≡ (refused 12 0, work, result)
t26_edition_refused = edition_refused_calls

-- The answer is 12 exactly where n is at most 256, the limit is 1 to 60, and the edition is neither 1 nor 2.
pub t38_edition_refused_exactly : (n limit edition : ℕ) (a work result : Vec) (x : Outcome) → Promised n limit edition a work result x
    → (x.0.answer ≡ 12) ↔ ((n ≤ 256) × (1 ≤ limit) × (limit ≤ 60) × (edition ≡ 1 → ⊥) × (edition ≡ 2 → ⊥))
t38_edition_refused_exactly = edition_refused_exactly_calls
