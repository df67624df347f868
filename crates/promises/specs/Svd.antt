-- What is proved of `svd` and `vt_row`: x and y are what calls that meet the promise came back with. Laws only.
use Rattle.std.specs.Prelude.{true, ◌↔◌, ◌⊎◌, ◌≡◌, ◌*◌, ◌+◌, ◌<◌, ◌≤◌, ℕ, Float, Option, drop, length, take}
use Rattle.std.specs.Float.Ieee.{le}
use Rattle.answers.specs.Answers.{answered, decomposition_length, done, least}
use Rattle.answers.specs.Early.{Early}
use Rattle.answers.specs.Index.{AtMark}
use Rattle.calls_theorems.specs.Svd.{svd_cells_u_calls, svd_cells_vt_calls, svd_descends_calls, svd_done_exactly_calls, svd_finite_out_calls, svd_flags_numbers_calls, svd_flags_u_calls, svd_flags_values_calls, svd_flags_vt_calls, svd_index_points_calls, svd_index_zero_calls, svd_limit_exactly_calls, svd_limit_raised_calls, svd_mark1_exactly_calls, svd_mark2_exactly_calls, svd_old_contents_calls, vt_row_cells_calls}
use Rattle.grid.specs.Real.{Vec, at, zeros}
use Rattle.leaves.specs.Leaf.{is_finite}
use Rattle.svd_sort_svd_descending.specs.Order.{order}
use Rattle.svd_theorems.specs.Document.{Sorted, plain_svd, plain_work}
use Rattle.svd_theorems.specs.Outcome.{Broken2, Done, Halted, Outcome, Promised, Taken, u_cell, vt_cell}
use Rattle.svd_theorems.proofs.OutcomeLaws.{svd_done_result, svd_limit_spent}
use Rattle.svd_theorems.specs.Index.{Points}
use Rattle.svd_theorems.proofs.Promise.{svd_one_outcome, svd_plain, svd_sorted, svd_values}
use Rattle.svd_theorems.specs.Order.{order_sorted}
use Rattle.svd_theorems.specs.SweepsOutcome.{bad, used}
use Rattle.svd.specs.VtRowPlaced.{extent_at, extent_part}
use Rattle.svd.specs.VtRow.{extent_of, part_at, part_of, row_span}
use Rattle.svd_sort_svd_descending.specs.Result.{longest, order_of, sorted_out, u_factor, v_factor, value_of, work_length}
use Rattle.svd.specs.Svd.{svd}
use Rattle.svd_jacobi_svd_tall.specs.SingularValues.{normalised}

-- Two outcomes that satisfy the promise are one.
pub t2_svd_one_outcome : (m n want_u want_vt limit : ℕ) (matrix work result : Vec) (x y : Outcome)
    → Promised m n want_u want_vt limit matrix work result x → Promised m n want_u want_vt limit matrix work result y → x ≡ y
t2_svd_one_outcome = svd_one_outcome

-- Where the answer is 0 the result is that of document 000's own loops, which have no mark, and no limit but 60 sweeps.
pub t5_svd_plain : (m n want_u want_vt limit : ℕ) (matrix work result : Vec) (z : (svd m n want_u want_vt limit matrix work result).0.answer ≡ 0)
    → (svd m n want_u want_vt limit matrix work result).2 ≡ plain_svd m n want_u want_vt matrix
t5_svd_plain = svd_plain

-- Where the answer is 0 the order of the columns is the stable descending one: values descend, equal ones keep their order, each column is there once.
pub t7_svd_sorted : (m n want_u want_vt limit : ℕ) (matrix work result : Vec) (z : (svd m n want_u want_vt limit matrix work result).0.answer ≡ 0)
    → Sorted (value_of m n (plain_work m n matrix)) (least m n) (order (value_of m n (plain_work m n matrix)) (least m n))
t7_svd_sorted = svd_sorted

-- And the values are the run's in that order.
pub t7_svd_values : (m n want_u want_vt limit : ℕ) (matrix work result : Vec) (z : (svd m n want_u want_vt limit matrix work result).0.answer ≡ 0)
    → (k : ℕ) → k < least m n
    → at (svd m n want_u want_vt limit matrix work result).2 k ≡ value_of m n (plain_work m n matrix) (order (value_of m n (plain_work m n matrix)) (least m n) k)
t7_svd_values = svd_values

-- On answer 0 the values descend.
pub t7_svd_descends : (m n u vt limit : ℕ) (matrix work result : Vec) (x : Outcome) (p : Promised m n u vt limit matrix work result x) (z : x.0.answer ≡ 0)
    → (i j : ℕ) → i < j → j < least m n → le (at x.2 j) (at x.2 i) ≡ true
t7_svd_descends = svd_descends_calls

-- Of the order alone, over at most 256 finite values: it is the stable descending one.
pub t7_order_sorted : (s : ℕ → Float) (r : ℕ) (finite : (k : ℕ) → k < r → is_finite (s k) ≡ true) → r ≤ 256 → Sorted s r (order s r)
t7_order_sorted = order_sorted

-- A call that passes checks 1, 2, 6 and 7 answers 0 with count c exactly where document 000's sweeps come to their end, every number finite where the marks look, after c of them, `limit` at the most.
pub t9_svd_done_exactly : (m n u vt limit : ℕ) (matrix work result : Vec) (x : Outcome) (p : Promised m n u vt limit matrix work result x) (f : Taken m n u vt limit matrix work result)
    → (c : ℕ) → (x.0 ≡ done c) ↔ Done m n limit matrix c
t9_svd_done_exactly = svd_done_exactly_calls

-- And then the whole outcome is theirs: the answer with its count, work all +0.0, and the result.
pub t9_svd_done_result : (m n want_u want_vt limit : ℕ) (matrix work result : Vec) (f : Taken m n want_u want_vt limit matrix work result)
    → (c : ℕ) (d : Done m n limit matrix c)
    → svd m n want_u want_vt limit matrix work result ≡ (done c, zeros (work_length m n), sorted_out m n want_u want_vt (normalised (longest m n) (least m n) d.last))
t9_svd_done_result = svd_done_result

-- Such a call answers 9 with c as place and count exactly where the sweeps are used up after c of them.
pub t9_svd_limit_exactly : (m n u vt limit : ℕ) (matrix work result : Vec) (x : Outcome) (p : Promised m n u vt limit matrix work result x) (f : Taken m n u vt limit matrix work result)
    → (c : ℕ) → (x.0 ≡ answered 9 c 0 c) ↔ Halted m n limit matrix used c
t9_svd_limit_exactly = svd_limit_exactly_calls

-- Of such a call: on 9 place and count are the limit, and the index is 0.
pub t9_svd_limit_spent : (m n want_u want_vt limit : ℕ) (matrix work result : Vec) (f : Taken m n want_u want_vt limit matrix work result) → (p i c : ℕ)
    → (svd m n want_u want_vt limit matrix work result).0 ≡ answered 9 p i c → (p ≡ limit) × (i ≡ 0) × (c ≡ limit)
t9_svd_limit_spent = svd_limit_spent

-- It answers 8 or 10 at place 1 with index i and count c exactly where sweep c leaves number i as the first that is not finite, and of that class.
pub t9_svd_mark1_exactly : (m n u vt limit : ℕ) (matrix work result : Vec) (x : Outcome) (p : Promised m n u vt limit matrix work result x) (f : Taken m n u vt limit matrix work result)
    → (a i c : ℕ) → (a ≡ 8) ⊎ (a ≡ 10) → (x.0 ≡ answered a 1 i c) ↔ Halted m n limit matrix (bad a i) c
t9_svd_mark1_exactly = svd_mark1_exactly_calls

-- At place 2 with index i and count c exactly where, after c sweeps, number i of values and factors is the first that is not finite, and of that class.
pub t9_svd_mark2_exactly : (m n u vt limit : ℕ) (matrix work result : Vec) (x : Outcome) (p : Promised m n u vt limit matrix work result x) (f : Taken m n u vt limit matrix work result)
    → (a i c : ℕ) → (a ≡ 8) ⊎ (a ≡ 10) → (x.0 ≡ answered a 2 i c) ↔ Broken2 m n limit matrix c a i
t9_svd_mark2_exactly = svd_mark2_exactly_calls

-- On answer 0 every number of the result is finite.
pub t11_svd_finite_out : (m n u vt limit : ℕ) (matrix work result : Vec) (x : Outcome) (p : Promised m n u vt limit matrix work result x) (z : x.0.answer ≡ 0)
    → (k : ℕ) → k < decomposition_length m n u vt → is_finite (at x.2 k) ≡ true
t11_svd_finite_out = svd_finite_out_calls

-- Of two calls that differ in the flags, with work of one length and results of the lengths that their flags want, answer, place, index and count are the same.
pub t13_svd_flags_numbers : (m n u vt u' vt' limit : ℕ) (matrix work result work' result' : Vec) (x y : Outcome) (lw : length work ≡ length work') (lr : length result ≡ decomposition_length m n u vt) (lr' : length result' ≡ decomposition_length m n u' vt') (p : Promised m n u vt limit matrix work result x) (q : Promised m n u' vt' limit matrix work' result' y)
    → x.0 ≡ y.0
t13_svd_flags_numbers = svd_flags_numbers_calls

-- On answer 0 of such calls the values are the same.
pub t13_svd_flags_values : (m n u vt u' vt' limit : ℕ) (matrix work result work' result' : Vec) (x y : Outcome) (lw : length work ≡ length work') (lr : length result ≡ decomposition_length m n u vt) (lr' : length result' ≡ decomposition_length m n u' vt') (p : Promised m n u vt limit matrix work result x) (q : Promised m n u' vt' limit matrix work' result' y) (z : x.0.answer ≡ 0)
    → (k : ℕ) → k < least m n → at x.2 k ≡ at y.2 k
t13_svd_flags_values = svd_flags_values_calls

-- And where both want it U is the same.
pub t13_svd_flags_u : (m n u vt u' vt' limit : ℕ) (matrix work result work' result' : Vec) (x y : Outcome) (lw : length work ≡ length work') (lr : length result ≡ decomposition_length m n u vt) (lr' : length result' ≡ decomposition_length m n u' vt') (p : Promised m n u vt limit matrix work result x) (q : Promised m n u' vt' limit matrix work' result' y) (z : x.0.answer ≡ 0)
    → (u ≡ 0 → ⊥) → (u' ≡ 0 → ⊥) → (i k : ℕ) → i < m → k < least m n → at x.2 (u_cell m n i k) ≡ at y.2 (u_cell m n i k)
t13_svd_flags_u = svd_flags_u_calls

-- And where both want it V^T is the same.
pub t13_svd_flags_vt : (m n u vt u' vt' limit : ℕ) (matrix work result work' result' : Vec) (x y : Outcome) (lw : length work ≡ length work') (lr : length result ≡ decomposition_length m n u vt) (lr' : length result' ≡ decomposition_length m n u' vt') (p : Promised m n u vt limit matrix work result x) (q : Promised m n u' vt' limit matrix work' result' y) (z : x.0.answer ≡ 0)
    → (vt ≡ 0 → ⊥) → (vt' ≡ 0 → ⊥) → (k j : ℕ) → k < least m n → j < n → at x.2 (vt_cell m n u k j) ≡ at y.2 (vt_cell m n u' k j)
t13_svd_flags_vt = svd_flags_vt_calls

-- An outcome at a limit of 1 or more that is not refusal 9 is the outcome at every higher limit up to 60.
pub t13_svd_limit_raised : (m n u vt k l : ℕ) (matrix work result : Vec) (x y : Outcome) → 1 ≤ k → k ≤ l → l ≤ 60
    → Promised m n u vt k matrix work result x → Promised m n u vt l matrix work result y → (x.0.answer ≡ 9 → ⊥) → y ≡ x
t13_svd_limit_raised = svd_limit_raised_calls

-- On answer 0, with U, cell (i, k) of U is the run's, in the column that comes to place k.
pub t13_svd_cells_u : (m n u vt limit : ℕ) (matrix work result : Vec) (x : Outcome) (p : Promised m n u vt limit matrix work result x) (z : x.0.answer ≡ 0)
    → (u ≡ 0 → ⊥) → (i k : ℕ) → i < m → k < least m n
    → at x.2 (u_cell m n i k) ≡ u_factor m n (plain_work m n matrix) i (order_of m n (plain_work m n matrix) k)
t13_svd_cells_u = svd_cells_u_calls

-- On answer 0, with V^T, cell (k, j) of V^T is the run's, in the column that comes to place k.
pub t13_svd_cells_vt : (m n u vt limit : ℕ) (matrix work result : Vec) (x : Outcome) (p : Promised m n u vt limit matrix work result x) (z : x.0.answer ≡ 0)
    → (vt ≡ 0 → ⊥) → (k j : ℕ) → k < least m n → j < n
    → at x.2 (vt_cell m n u k j) ≡ v_factor m n (plain_work m n matrix) j (order_of m n (plain_work m n matrix) k)
t13_svd_cells_vt = svd_cells_vt_calls

-- On answer 0, with V^T, `vt_row` k is that column of V.
pub t13_vt_row_cells : (m n u vt limit : ℕ) (matrix work result : Vec) (x : Outcome) (p : Promised m n u vt limit matrix work result x) (z : x.0.answer ≡ 0)
    → (vt ≡ 0 → ⊥) → (k j : ℕ) → k < least m n → j < n
    → at (part_of x.2 (row_span (length x.2) m n u vt k)) j ≡ v_factor m n (plain_work m n matrix) j (order_of m n (plain_work m n matrix) k)
t13_vt_row_cells = vt_row_cells_calls

-- C's two numbers of a row, start and length, name the part that `vt_row` returns.
pub t13_extent_part : (xs : Vec) (s : Option (ℕ × ℕ)) → take (extent_of s).length (drop (extent_of s).start xs) ≡ part_of xs s
t13_extent_part = extent_part

-- And the place in memory where it starts, at 8 bytes a number.
pub t13_extent_at : (p : ℕ × ℕ) (s : Option (ℕ × ℕ)) → (p.0, (extent_of s).start * 8 + p.1) ≡ part_at p s
t13_extent_at = extent_at

-- Two calls that differ only in what work and result held before have the same outcome, unless it is a refusal that touches nothing: 1 to 6.
pub t14_svd_old_contents : (m n u vt limit : ℕ) (matrix work result work' result' : Vec) (x y : Outcome) → length work ≡ length work'
    → length result ≡ length result' → Promised m n u vt limit matrix work result x → Promised m n u vt limit matrix work' result' y
    → (Early x.0 → ⊥) → x ≡ y
t14_svd_old_contents = svd_old_contents_calls

-- On 8 and 10 the number at `index` of the list that the mark of the place looks at is infinite (8) or NaN (10), and every number before it is finite.
pub t15_svd_index_points : (m n u vt limit : ℕ) (matrix work result : Vec) (x : Outcome) (p : Promised m n u vt limit matrix work result x)
    → AtMark x.0 → Points m n limit matrix x.0
t15_svd_index_points = svd_index_points_calls

-- On every other answer the index is 0.
pub t15_svd_index_zero : (m n u vt limit : ℕ) (matrix work result : Vec) (x : Outcome) (p : Promised m n u vt limit matrix work result x)
    → (AtMark x.0 → ⊥) → x.0.index ≡ 0
t15_svd_index_zero = svd_index_zero_calls
