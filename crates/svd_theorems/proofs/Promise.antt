-- What follows from a call's promise: it leaves one outcome (T2), its marks and its limit only stop (T5), and its order is the stable descending one (T7). Laws only.
use Rattle.std.specs.Prelude.{◌≡◌, true, ℕ, ◌<◌}
use Rattle.std.proofs.Common.{sym, ◌∙◌, subst, arith, eq-eqb}
use Rattle.std.proofs.Math.Path.{ap}
use Rattle.std.specs.Float.Ieee.{le}
use Rattle.grid.specs.Real.{Vec, at}
use Rattle.leaves.specs.Leaf.{is_finite}
use Rattle.answers.specs.Answers.{least}
use Rattle.answers.specs.AnswersLaws.{least_le}
use Rattle.answers.specs.declared.Answer.{Answer}
use Rattle.svd_jacobi_svd_tall.specs.JacobiSvdTall.{jacobi}
use Rattle.svd_theorems.specs.SweepsOutcome.{Whole}
use Rattle.svd_theorems.proofs.SweepsOutcomeLaws.{jacobi_whole, jacobi_plain}
use Rattle.svd_sort_svd_descending.specs.Order.{order}
use Rattle.svd_theorems.specs.Order.{order_sorted}
use Rattle.svd_sort_svd_descending.specs.Result.{longest, value_of}
use Rattle.svd_sort_svd_descending.specs.OutLaws.{sorted_values}
use Rattle.svd.specs.Svd.{svd}
use Rattle.svd_theorems.specs.Document.{plain_work, plain_svd, Sorted}
use Rattle.svd_theorems.specs.Outcome.{Outcome, Promised, Taken, begun, given}
use Rattle.svd_theorems.proofs.OutcomeLaws.{taken_of, begun_long, runs, answer_is}

pub svd_one_outcome : (m n want_u want_vt limit : ℕ) (matrix work result : Vec) (x y : Outcome)
    → Promised m n want_u want_vt limit matrix work result x → Promised m n want_u want_vt limit matrix work result y → x ≡ y
svd_one_outcome m n want_u want_vt limit matrix work result x y p q = p ∙ sym q

-- ---- the outcome where the answer is 0

module _ (m n want_u want_vt limit : ℕ) (matrix work result : Vec) (z : (svd m n want_u want_vt limit matrix work result).0.answer ≡ 0) where
  taken : Taken m n want_u want_vt limit matrix work result
  taken = taken_of m n want_u want_vt limit matrix work result z

  ran0 : (jacobi (longest m n) (least m n) limit (begun m n matrix)).0.answer ≡ 0
  ran0 = ap (λ (t : Answer). t.answer) (sym (answer_is m n want_u want_vt limit matrix work result taken)) ∙ z

  ran_worked : (jacobi (longest m n) (least m n) limit (begun m n matrix)).1 ≡ plain_work m n matrix
  unfolding plain_work
  ran_worked = jacobi_plain (longest m n) (least m n) limit (begun m n matrix) (begun_long m n matrix) taken.most ran0

  -- **marks and limit only stop** (T5): the result of a call that is done is document 000's
  pub svd_plain : (svd m n want_u want_vt limit matrix work result).2 ≡ plain_svd m n want_u want_vt matrix
  unfolding plain_svd given
  svd_plain =
      ap (λ (t : Outcome). t.2) (runs m n want_u want_vt limit matrix work result taken)
      ∙ rw (eq-eqb (jacobi (longest m n) (least m n) limit (begun m n matrix)).0.answer 0 ran0, ran_worked)

  -- its values and factors are finite
  pub worked_whole : Whole (longest m n) (least m n) (plain_work m n matrix)
  worked_whole =
      subst (Whole (longest m n) (least m n)) ran_worked (jacobi_whole (longest m n) (least m n) limit (begun m n matrix) (begun_long m n matrix) ran0)

  pub svd_finite : (k : ℕ) → k < least m n → is_finite (value_of m n (plain_work m n matrix) k) ≡ true
  svd_finite = worked_whole.values

  -- **the order** (T7): the columns come out in the stable descending order of their values
  pub svd_sorted : Sorted (value_of m n (plain_work m n matrix)) (least m n) (order (value_of m n (plain_work m n matrix)) (least m n))
  svd_sorted = order_sorted (value_of m n (plain_work m n matrix)) (least m n) svd_finite (least_le m n 256 taken.tall taken.wide)

  -- so the first r numbers of the result are the values of those columns, and they descend
  pub svd_values : (k : ℕ) → k < least m n
      → at (svd m n want_u want_vt limit matrix work result).2 k
      ≡ value_of m n (plain_work m n matrix) (order (value_of m n (plain_work m n matrix)) (least m n) k)
  unfolding plain_svd
  svd_values k h = ap (λ (v : Vec). at v k) svd_plain ∙ sorted_values m n want_u want_vt (plain_work m n matrix) k h

  pub svd_descends : (p q : ℕ) → p < q → q < least m n
      → le (at (svd m n want_u want_vt limit matrix work result).2 q) (at (svd m n want_u want_vt limit matrix work result).2 p) ≡ true
  svd_descends p q h l = rw (svd_values q l, svd_values p (omega arith)) (svd_sorted.descends p q h l)
