use Rattle.std.proofs.Common.{◌≡◌, ◌∙◌, ℕ, Bool, true, false, cond, max, ltb, ltb-true, ltb-false, refl, arith}
use Rattle.svd_sort_svd_descending.specs.Result.{longest}
use Rattle.svd_sort_svd_descending.proofs.longest.Goals as goal

larger : (m n : ℕ) → max m n ≡ cond (ltb m n) n m
larger m n = go (ltb m n) refl
  where
    go : (b : Bool) → ltb m n ≡ b → max m n ≡ cond b n m
    go true e = omega (arith, ltb-true m n e)
    go false e = omega (arith, ltb-false m n e)

pub returns : goal.returns
unfolding longest
returns c = c.max.ensures ∙ larger c.args.m c.args.n
