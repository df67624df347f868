use Rattle.std.proofs.Common.{◌≡◌, ℕ, ◌<◌, ◌≤◌, Bool, true, false, cond, not, T, ltb, ltb→lt, nltb→le, min, ◌∙◌, arith}
use Rattle.hypot.specs.RoundingParts.{packed}
use Rattle.hypot.proofs.rounding.packed.Goals as goal

lesser : (a b : ℕ) → min a b ≡ cond (ltb a b) a b
lesser a b = go (ltb a b) (ltb→lt a b) (nltb→le a b)
  where
    go : (z : Bool) → (T z → a < b) → (T (not z) → b ≤ a) → min a b ≡ cond z a b
    go true h k = omega (arith, h tt)
    go false h k = omega (arith, k tt)

pub returns : goal.returns
unfolding packed
returns c = rw (← c.digit.ensures) (c.min.ensures ∙ lesser _ _)
