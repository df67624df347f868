-- What the checks leave.
use mathlib.Core.Path.{◌≡◌, ap, sym, ◌∙◌}
use Prim.Native.Nat.{ℕ, ◌*◌, ◌≤◌}
use Rattle.answers.specs.declared.Answer.{Answer}
use Rattle.covariance.specs.Covariance.{cov_checks}
use Rattle.covariance.specs.ChecksLaws.{checked}

pub sized : (n N s m : ℕ) {r : Answer} → r ≡ cov_checks n N s m → r.answer ≡ 0 → (n ≤ 256) × (N ≤ 65536) × (s ≡ n * N) × (m ≡ n * n)
sized n N s m e h =
    let z = checked n N s m (ap (λ (a : Answer). a.answer) (sym e) ∙ h) in
    (z.bands, z.most, z.planes, z.square)
