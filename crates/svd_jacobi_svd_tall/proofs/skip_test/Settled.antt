-- Where a test passes the skip test is settled. Laws only.
use mathlib.Core.Path.{◌≡◌, refl, sym, ◌∙◌}
use mathlib.Core.Bool.{Bool, true, false, ◌&&◌, true≢false}
use Prim.Native.Nat.{zero-le, ◌*◌}
use native.Mathlib.Nat.{lt_of_le_of_lt}
use borrow.Author.Tests.{ltb-true}
use lib.Dec.{T, lt→ltb}
use lib.Ieee.{Float, nan, inf, fin, binary64, up, lt, eq, le, fits, of_bits}
use lib.Ieee.Positive.{positive, mul_mono, first_pos}
use Rattle.grid.specs.LoopLaws as laws
use Rattle.grid.specs.Real.{zero64, epsilon, ◌⊗◌}
use Rattle.leaves.specs.Leaf.{is_finite}
use Rattle.root.specs.Root.{root}
use Rattle.svd_jacobi_svd_tall.specs.SkipTest.{both, surely, surely_not}
use Rattle.svd_jacobi_svd_tall.proofs.skip_test.Order.{is_true, of_true, le_not, le_through}
use Rattle.svd_jacobi_svd_tall.proofs.skip_test.Beside.{root_positive, below_root, above_root}

above_zero : (x : Float) → lt zero64 x ≡ true → is_finite x ≡ true → T (positive x)
unfolding lt is_finite of_bits
above_zero nan e f = absurd (true≢false (sym f))
above_zero (inf s) e f = absurd (true≢false (sym f))
above_zero (fin true m d) e f = absurd (true≢false (sym e))
above_zero (fin false m d) e f = lt→ltb 0 m (first_pos m (up d) (first_pos (m * up d) 1 (lt_of_le_of_lt zero-le (ltb-true _ _ e))))

both_positive : (u p : Float) → both u p ≡ true → T (positive u) × T (positive p)
unfolding both
both_positive u p e =
    let a = laws.both (lt zero64 u && is_finite u && lt zero64 p) (is_finite p) e in
    let b = laws.both (lt zero64 u && is_finite u) (lt zero64 p) a.0 in
    let c = laws.both (lt zero64 u) (is_finite u) b.0 in
    (above_zero u c.0 c.1, above_zero p b.1 a.1)

epsilon_positive : T (positive epsilon)
unfolding of_bits
epsilon_positive = tt

epsilon_level : T (le epsilon epsilon)
unfolding le lt eq of_bits
epsilon_level = tt

pub settled : (g u p : Float) → T (fits binary64 u) → T (fits binary64 p) → surely g u p ≡ true → le g (epsilon ⊗ root p) ≡ true
unfolding surely
settled g u p fu fp e =
    let a = laws.both (both u p && le g (epsilon ⊗ u)) (lt (u ⊗ u) p) e in
    let b = laws.both (both u p) (le g (epsilon ⊗ u)) a.0 in
    let s = both_positive u p b.0 in
    let r = root_positive u p fu fp s.0 s.1 in
    is_true _ (le_through g (epsilon ⊗ u) (epsilon ⊗ root p) (of_true b.1)
    (mul_mono binary64 epsilon epsilon u (root p) epsilon_positive epsilon_positive s.0 r epsilon_level (below_root u p fu fp s.0 s.1 a.1)))

pub settled_not : (g u p : Float) → T (fits binary64 u) → T (fits binary64 p) → surely_not g u p ≡ true → le g (epsilon ⊗ root p) ≡ false
unfolding surely_not
settled_not g u p fu fp e =
    let a = laws.both (both u p && lt (epsilon ⊗ u) g) (lt p (u ⊗ u)) e in
    let b = laws.both (both u p) (lt (epsilon ⊗ u) g) a.0 in
    let s = both_positive u p b.0 in
    let r = root_positive u p fu fp s.0 s.1 in
    let m = mul_mono binary64 epsilon epsilon (root p) u epsilon_positive epsilon_positive r s.0 epsilon_level (above_root u p fu fp s.0 s.1 a.1) in
    go (le g (epsilon ⊗ root p)) refl b.1 m
  where
    go : (t : Bool) → le g (epsilon ⊗ root p) ≡ t → lt (epsilon ⊗ u) g ≡ true → T (le (epsilon ⊗ root p) (epsilon ⊗ u)) → le g (epsilon ⊗ root p) ≡ false
    go false q l m = q
    go true q l m = absurd (true≢false (sym l ∙ le_not g (epsilon ⊗ u) (le_through g (epsilon ⊗ root p) (epsilon ⊗ u) (of_true q) m)))
