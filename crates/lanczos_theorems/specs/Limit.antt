-- An outcome that is not refusal 9 is the outcome at every higher limit (`lanczos_limit`). Laws only.
use Rattle.std.specs.Prelude.{◌≡◌, ℕ, ◌≤◌}
use Rattle.grid.specs.Real.{Vec}
use Rattle.lanczos.specs.Lanczos.{lanczos}
use Rattle.lanczos_theorems.specs.LimitLaws.{limit_settled}

module _ (l h : ℕ) (low : 1 ≤ l) (up : l ≤ h) (high : h ≤ 60) where
  -- **lanczos_limit**
  pub lanczos_limit : (n k edition : ℕ) (a b work x : Vec) → ((lanczos n k l edition a b work x).0.answer ≡ 9 → ⊥) → lanczos n k h edition a b work x ≡ lanczos n k l edition a b work x
  lanczos_limit n k edition a b work x = (limit_settled l h low up high n k edition a b work x).same
