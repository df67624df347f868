-- Bounds of a decomposition's length. Laws only.
use Rattle.std.specs.Prelude.{Bool, true, false, cond, ℕ, ◌*◌, ◌≤◌, ltb, eqb}
use Rattle.std.proofs.Common.{mul-le-mul, arith}
use Rattle.answers.specs.Answers.{least, present}

pub least_le : (m n k : ℕ) → m ≤ k → n ≤ k → least m n ≤ k
unfolding least
least_le m n k p q = go (ltb m n)
  where
    go : (b : Bool) → cond b m n ≤ k
    go true = p
    go false = q

pub present_le : (flag count k : ℕ) → count ≤ k → present flag count ≤ k
unfolding present
present_le flag count k h = go (eqb flag 0)
  where
    go : (b : Bool) → cond b 0 count ≤ k
    go true = omega arith
    go false = h

-- 256 values and two matrices of 256 by 256 at the most
pub product_le : (a b : ℕ) → a ≤ 256 → b ≤ 256 → a * b ≤ 65536
product_le a b p q = mul-le-mul p q
