use mathlib.Core.Path.{◌≡◌}
use Prim.Native.Nat.{ℕ, ◌*◌, ◌≤◌}
use native.Mathlib.Omega.{arith}
use Rattle.answers.specs.Answers.{least}
use Rattle.answers.specs.AnswersLaws.{least_le, product_le}
use Rattle.svd_sort_svd_descending.specs.Result.{longest, work_length}
use Rattle.svd_sort_svd_descending.specs.ResultSizes.{longest_le}
use Rattle.svd.proofs.work_length.Goals as goal

small : (m n r : ℕ) → m ≤ 256 → n ≤ 256 → r ≡ least m n → r ≤ 256
small m n r p q e = rw e (least_le m n 256 p q)

large : (m n r : ℕ) → m ≤ 256 → n ≤ 256 → r ≡ longest m n → r ≤ 256
large m n r p q e = rw e (longest_le m n 256 p q)

both : (m n r l : ℕ) → m ≤ 256 → n ≤ 256 → r ≡ least m n → l ≡ longest m n → (r ≤ 256) × (l * r ≤ 65536) × (r * r ≤ 65536)
both m n r l p q e g =
    let a = small m n r p q e in
    (a, product_le l r (large m n l p q g) a, product_le r r a a)

pub overflow_mul-result : goal.overflow_mul-result
overflow_mul-result c = omega (arith, both _ _ _ _ c.requires.0 c.requires.1 c.least-r.ensures c.longest.ensures)

pub overflow_mul-result-2 : goal.overflow_mul-result-2
overflow_mul-result-2 c = omega (arith, both _ _ _ _ c.requires.0 c.requires.1 c.least-r.ensures c.longest.ensures)

pub overflow_add-result : goal.overflow_add-result
overflow_add-result c = omega (arith, both _ _ _ _ c.requires.0 c.requires.1 c.least-r.ensures c.longest.ensures)

pub overflow_add-result-2 : goal.overflow_add-result-2
overflow_add-result-2 c = omega (arith, both _ _ _ _ c.requires.0 c.requires.1 c.least-r.ensures c.longest.ensures)

pub returns : goal.returns
unfolding work_length
returns c = rw (← c.least-r.ensures, ← c.longest.ensures)
