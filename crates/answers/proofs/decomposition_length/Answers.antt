use mathlib.Core.Path.{◌≡◌}
use Prim.Native.Nat.{ℕ, ◌≤◌}
use native.Mathlib.Omega.{arith}
use Rattle.answers.specs.Answers.{least, present, decomposition_length}
use Rattle.answers.specs.AnswersLaws.{least_le, present_le, product_le}
use Rattle.answers.proofs.decomposition_length.Goals as goal

small : (m n r : ℕ) → m ≤ 256 → n ≤ 256 → r ≡ least m n → r ≤ 256
small m n r p q e = rw e (least_le m n 256 p q)

part : (flag count x : ℕ) → count ≤ 65536 → x ≡ present flag count → x ≤ 65536
part flag count x h e = rw e (present_le flag count 65536 h)

pub overflow_mul-m : goal.overflow_mul-m
overflow_mul-m c = omega (arith, product_le c.args.m c.least-r.result c.requires.0 (small _ _ _ c.requires.0 c.requires.1 c.least-r.ensures))

pub overflow_add-result : goal.overflow_add-result
overflow_add-result c = omega (arith, part c.args.has_u _ c.present.result (product_le c.args.m c.least-r.result c.requires.0 (small _ _ _ c.requires.0 c.requires.1 c.least-r.ensures)) c.present.ensures, small _ _ _ c.requires.0 c.requires.1 c.least-r.ensures)

pub overflow_mul-r : goal.overflow_mul-r
overflow_mul-r c = omega (arith, product_le c.least-r.result c.args.n (small _ _ _ c.requires.0 c.requires.1 c.least-r.ensures) c.requires.1)

pub overflow_add-result-2 : goal.overflow_add-result-2
overflow_add-result-2 c = omega (arith, part c.args.has_u _ c.present.result (product_le c.args.m c.least-r.result c.requires.0 (small _ _ _ c.requires.0 c.requires.1 c.least-r.ensures)) c.present.ensures, part c.args.has_vt _ c.present-2.result (product_le c.least-r.result c.args.n (small _ _ _ c.requires.0 c.requires.1 c.least-r.ensures) c.requires.1) c.present-2.ensures, small _ _ _ c.requires.0 c.requires.1 c.least-r.ensures)

pub returns : goal.returns
unfolding decomposition_length
returns c = rw (← c.least-r.ensures, ← c.present.ensures, ← c.present-2.ensures)
