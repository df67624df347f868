-- What `limit_raised` says of two calls. It stands apart from the theorem that it rests on, since an edit of that one's statement must be read and refused. Laws only.
use Rattle.std.specs.Prelude.{◌≡◌, ℕ, ◌≤◌}
use Rattle.std.proofs.Common.{sym, ap, ◌∙◌}
use Rattle.grid.specs.Real.{Vec}
use Rattle.eigen_theorems.specs.Outcome.{Outcome, Promised}
use Rattle.eigen_theorems.proofs.Theorems.{limit_raised}

-- of two calls
pub limit_raised_calls : (n edition k m : ℕ) (a work result : Vec) (x y : Outcome) → 1 ≤ k → k ≤ m → m ≤ 60
    → Promised n k edition a work result x → Promised n m edition a work result y → (x.0.answer ≡ 9 → ⊥) → y ≡ x
limit_raised_calls n edition k m a work result x y z l s p q h = q ∙ limit_raised n edition k m a work result z l s (λ e. h (ap (λ (t : Outcome). t.0.answer) p ∙ e)) ∙ sym p
