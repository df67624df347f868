-- What `symmetric_eigen` answers of what a call of `covariance` gave. It stands apart from the theorem that it rests on, since an edit of that one's statement must be read and refused. Laws only.
use Rattle.std.specs.Prelude.{◌≡◌, List, ◌⊎◌, ℕ, ◌+◌, ◌*◌, ◌≤◌, ℤ, length}
use Rattle.std.proofs.Common.{sym, subst}
use Rattle.grid.specs.Real.{Vec}
use Rattle.answers.specs.declared.Answer.{Answer}
use Rattle.eigen_symmetric_eigen.specs.SymmetricEigen.{eigen}
use Rattle.eigen_theorems.specs.Outcome.{Outcome, Promised, RunAnswer}
use Rattle.eigen_theorems.proofs.OutcomeLaws.{says}
use Rattle.eigen_theorems.proofs.Taken.{says_ran}
use Rattle.covariance.specs.Covariance.{covariance}
use Rattle.calls_theorems.specs.Covariance.{covariance_then_eigen}

module _ (n N : ℕ) (samples : List ℤ) (m : Vec) (o : Answer × Vec) (p : o ≡ covariance n N samples m) where
  module _ (z : o.0.answer ≡ 0) where
    module _ (limit edition : ℕ) (work result : Vec) (least : 1 ≤ limit) (most : limit ≤ 60) (choice : (edition ≡ 1) ⊎ (edition ≡ 2)) (works : length work ≡ n) (room : length result ≡ n + n * n) where
      -- so that a call that meets its promise, x, answers 0, 8, 9 or 10
      pub covariance_then_ran : (x : Outcome) → Promised n limit edition o.1 work result x → RunAnswer x.0
      covariance_then_ran x q = subst (λ (r : Outcome). RunAnswer r.0) (sym q) (says_ran n limit edition o.1 (eigen n limit edition o.1 work result) (says n limit edition o.1 work result (covariance_then_eigen n N samples m o p z limit edition work result least most choice works room)))
