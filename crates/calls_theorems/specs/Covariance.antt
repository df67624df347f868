-- Calls of `covariance` that meet its promise: o and p are what they came back with. What one that is done gave is taken by `symmetric_eigen`. Laws only.
use Rattle.std.specs.Prelude.{◌≡◌, List, ◌⊎◌, ℕ, ◌+◌, ◌*◌, ◌≤◌, ◌<◌, ℤ, length}
use Rattle.std.proofs.Common.{sym, ap, ◌∙◌, subst, arith}
use Rattle.grid.specs.Real.{Vec}
use Rattle.grid.specs.Cell.{entry}
use Rattle.grid.specs.CellLaws.{cell}
use Rattle.leaves.specs.Finite.{Finite}
use Rattle.answers.specs.declared.Answer.{Answer}
use Rattle.eigen_theorems.specs.Outcome.{Taken}
use Rattle.covariance.specs.Covariance.{covariance}
use Rattle.covariance_theorems.specs.ExactEntries.{Exactly, FirstOver, Untouched}
use Rattle.covariance_theorems.specs.ExactEntriesLaws.{covariance_sizes, covariance_long, covariance_symmetric, covariance_exact, covariance_finite_out, covariance_over_first}
use Rattle.covariance_theorems.specs.OneOutcome.{covariance_old_contents, covariance_index_zero}

module _ (n N : ℕ) (samples : List ℤ) (m : Vec) (o : Answer × Vec) (p : o ≡ covariance n N samples m) where
  pub covariance_over_first_calls : o.0.answer ≡ 26 → FirstOver n N samples o.0.place
  covariance_over_first_calls = subst (λ (x : Answer × Vec). x.0.answer ≡ 26 → FirstOver n N samples x.0.place) (sym p) (covariance_over_first n N samples m)

  pub covariance_index_zero_calls : o.0.index ≡ 0
  covariance_index_zero_calls = ap (λ (x : Answer × Vec). x.0.index) p ∙ covariance_index_zero n N samples m

  -- where it is done
  module _ (z : o.0.answer ≡ 0) where
    done0 : (covariance n N samples m).0.answer ≡ 0
    done0 = ap (λ (x : Answer × Vec). x.0.answer) (sym p) ∙ z

    pub covariance_symmetric_calls : (x y : ℕ) → x < n → y < n → entry o.1 n x y ≡ entry o.1 n y x
    covariance_symmetric_calls x y h l = subst (λ (r : Answer × Vec). entry r.1 n x y ≡ entry r.1 n y x) (sym p) (covariance_symmetric n N samples m done0 x y h l)

    pub covariance_exact_calls : (x y : ℕ) → x < n → y < n → Exactly samples N x y (entry o.1 n x y)
    covariance_exact_calls x y h l = subst (λ (r : Answer × Vec). Exactly samples N x y (entry r.1 n x y)) (sym p) (covariance_exact n N samples m done0 x y h l)

    pub covariance_finite_out_calls : Finite o.1
    covariance_finite_out_calls = subst (λ (r : Answer × Vec). Finite r.1) (sym p) (covariance_finite_out n N samples m done0)

    long : length o.1 ≡ n * n
    long = ap (λ (r : Answer × Vec). length r.1) p ∙ covariance_long n N samples m done0

    -- the matrix handed on to `symmetric_eigen`, with a limit, an edition and arrays that are right
    module _ (limit edition : ℕ) (work result : Vec) (least : 1 ≤ limit) (most : limit ≤ 60) (choice : (edition ≡ 1) ⊎ (edition ≡ 2)) (works : length work ≡ n) (room : length result ≡ n + n * n) where
      -- **covariance_then_eigen**: it passes checks 1, 2, 12, 6 and 7
      pub covariance_then_eigen : Taken n limit edition o.1 work result
      covariance_then_eigen = record {
        fit = record { small = (covariance_sizes n N samples m done0).bands; least = least; most = most; choice = choice; square = long; works = works; room = room };
        finite = λ i j h l. covariance_finite_out_calls (i * n + j) (subst (λ (k : ℕ). i * n + j < k) (sym long) (cell n n i j l (omega arith)));
      }

-- two calls that differ in what the matrix held before, x and y
pub covariance_old_contents_calls : (n N : ℕ) (samples : List ℤ) (x y : Vec) (o p : Answer × Vec) → length x ≡ length y
    → o ≡ covariance n N samples x → p ≡ covariance n N samples y → (Untouched o.0 → ⊥) → o ≡ p
covariance_old_contents_calls n N samples x y o p l e f h =
    e ∙ covariance_old_contents n N samples x y l (λ u. h (subst (λ (r : Answer × Vec). Untouched r.0) (sym e) u)) ∙ sym f
