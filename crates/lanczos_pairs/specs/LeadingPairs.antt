-- The leading Ritz pairs, from m vectors in q (n numbers each) and the values and vectors of the small problem. Definitions only.
use Rattle.std.specs.Prelude.{cond, ℕ, length, is_some}
use Rattle.grid.specs.Real.{Vec, zeros, at}
use Rattle.leaves.specs.Scan.{first_bad}
use Rattle.answers.specs.Answers.{answered, marked, least}
use Rattle.answers.specs.declared.Answer.{Answer}
use Rattle.svd_sort_svd_descending.specs.Order.{order}
use Rattle.lanczos_pairs.specs.RitzPairs.{pairs}

-- the whole answer is looked at: 8 or 10 with place 6 and the index there, or the number of pairs found
unfoldable pub looked : ℕ → ℕ → Vec → Answer × Vec
looked found count x = cond (is_some (first_bad x)) (marked 6 count (first_bad x), zeros (length x)) (answered 0 found 0 count, x)

-- the pairs with the greatest values, in descending order, equal ones in their old order
unfoldable pub selected : ℕ → ℕ → ℕ → ℕ → Vec → Vec → Vec → Vec → Answer × Vec
selected n k m count q vals vecs x = looked (least k m) count (pairs n k m (least k m) q vals vecs (order (at vals) m) x)
