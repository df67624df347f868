-- `leading` of what a `symmetric_eigen` with answer 0 came back with: it is done, and its values descend. Laws only.
use Rattle.std.specs.Prelude.{◌≡◌, ◌++◌, true, ℕ, ◌+◌, ◌-◌, ◌*◌, ◌≤◌, ◌<◌, length}
use Rattle.std.proofs.Common.{sym, ap, ◌∙◌, subst, arith, length-append}
use Rattle.std.specs.Float.Ieee.{le}
use Rattle.grid.specs.Real.{Vec, at}
use Rattle.answers.specs.Answers.{done}
use Rattle.answers.specs.declared.Answer.{Answer}
use Rattle.eigen_symmetric_eigen.specs.SymmetricEigen.{eigen}
use Rattle.eigen_theorems.specs.Outcome.{Outcome, Promised, Done, empty, worked}
use Rattle.eigen_theorems.proofs.OutcomeLaws.{square, diagonal}
use Rattle.eigen_theorems.proofs.Result.{gave, taken_of}
use Rattle.eigen_theorems.specs.Tql2Lengths.{ran_long}
use Rattle.eigen_theorems.proofs.Tql2OutcomeLaws.{ran_document}
use Rattle.eigen_theorems.specs.Tql2SortLaws.{sorted_arranged}
use Rattle.leading.specs.Leading.{leading}
use Rattle.leading.specs.Result.{given}
use Rattle.leading.proofs.Result.{leading_done, led_value, led_number, led_descends}
use Rattle.calls_theorems.specs.Eigen.{values_ascend_calls, finite_out_calls}

-- ---- the length of an eigen result

done_long : (n limit edition : ℕ) (a : Vec) (c : ℕ) (values vectors : Vec) → Done n limit edition a c values vectors → length (values ++ vectors) ≡ n + n * n
done_long n limit edition a c values vectors (empty z e p q) = rw (p, q, z)
done_long n limit edition a c values vectors (worked r) =
    length-append values vectors
    ∙ (λ i. (ap length r.values_are ∙ (sorted_arranged n (r.last.v, r.last.d) square_v long_d (λ k l. r.whole.values k (omega (arith, long_d)))).long) i + r.long i)
  where
    square_v : length r.last.v ≡ n * n
    square_v = (ran_long n edition (ran_document n limit edition r.ran)).vectors ∙ square n a

    long_d : length r.last.d ≡ n
    long_d = (ran_long n edition (ran_document n limit edition r.ran)).values ∙ diagonal n a

eigen_long : (n limit edition : ℕ) (a work result : Vec) → (eigen n limit edition a work result).0.answer ≡ 0 → length (eigen n limit edition a work result).2 ≡ n + n * n
eigen_long n limit edition a work result z =
    let g = gave n limit edition a work result z in
    ap length g.whole ∙ done_long n limit edition a _ g.values g.vectors g.exactly

-- ---- handed on, with k up to n and a right length

module _ (n limit edition k : ℕ) (a work result out : Vec) (x : Outcome) (p : Promised n limit edition a work result x) (z : x.0.answer ≡ 0) (h : k ≤ n) (room : length out ≡ k + k * n) (o : Answer × Vec) (e : o ≡ leading n k x.2 out) where
  done0 : (eigen n limit edition a work result).0.answer ≡ 0
  done0 = ap (λ (y : Outcome). y.0.answer) (sym p) ∙ z

  long : length x.2 ≡ n + n * n
  long = ap (λ (y : Outcome). length y.2) p ∙ eigen_long n limit edition a work result done0

  is : o ≡ given n k x.2
  is =
      e
      ∙ leading_done n k x.2 out (record { small = (taken_of n limit edition a work result done0).fit.small; fits = h; result = long; room = room })
      (λ i l. finite_out_calls n limit edition a work result x p z i (omega (arith, long)))

  pub leading_of_eigen_done : o.0 ≡ done 0
  leading_of_eigen_done = ap (λ (y : Answer × Vec). y.0) is

  pub leading_of_eigen_descends : (s t : ℕ) → s < t → t < k → le (at o.1 t) (at o.1 s) ≡ true
  leading_of_eigen_descends s t l m =
      subst (λ (y : Answer × Vec). le (at y.1 t) (at y.1 s) ≡ true) (sym is) (led_descends n k x.2 h (values_ascend_calls n limit edition a work result x p z) s t l m)

  pub leading_of_eigen_value : (t : ℕ) → t < k → at o.1 t ≡ at x.2 (n - 1 - t)
  leading_of_eigen_value t l = ap (λ (y : Answer × Vec). at y.1 t) is ∙ led_value n k x.2 t l

  pub leading_of_eigen_number : (t i : ℕ) → t < k → i < n → at o.1 (k + (t * n + i)) ≡ at x.2 (n + (i * n + (n - 1 - t)))
  leading_of_eigen_number t i l m = ap (λ (y : Answer × Vec). at y.1 (k + (t * n + i))) is ∙ led_number n k x.2 t i l m
