-- What `lanczos_limit` says of two calls. It stands apart from the theorem that it rests on, since an edit of that one's statement must be read and refused. Laws only.
use Rattle.std.specs.Prelude.{◌≡◌, ℕ, ◌≤◌}
use Rattle.std.proofs.Math.Path.{ap}
use Rattle.std.proofs.Common.{sym, ◌∙◌}
use Rattle.grid.specs.Real.{Vec}
use Rattle.lanczos_theorems.specs.Early.{Outcome, Promised}
use Rattle.lanczos_theorems.specs.Limit.{lanczos_limit}

module _ (l h : ℕ) (low : 1 ≤ l) (up : l ≤ h) (high : h ≤ 60) where
  -- of two calls
  pub lanczos_limit_calls : (n k edition : ℕ) (a b work x : Vec) (y z : Outcome) → Promised n k l edition a b work x y → Promised n k h edition a b work x z → (y.0.answer ≡ 9 → ⊥) → z ≡ y
  lanczos_limit_calls n k edition a b work x y z p q d = q ∙ lanczos_limit l h low up high n k edition a b work x (λ e. d (ap (λ (t : Outcome). t.0.answer) p ∙ e)) ∙ sym p
