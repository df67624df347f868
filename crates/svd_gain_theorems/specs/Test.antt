-- What `gain_keeps_basis` asks of a run, as a test that can be computed. Definitions only.
-- Each number is ok, and no product of nonzero numbers is zero, unless that is let pass (lost). With `fine` and false it is what the theorem asks.
use Rattle.std.specs.Prelude.{Bool, true, false, not, ◌&&◌, ◌||◌, ℕ, zero, suc, ◌+◌, ◌-◌, Float}
use Rattle.std.specs.Float.Ieee.{eq}
use Rattle.grid.specs.Loop.{every, upto}
use Rattle.grid.specs.Real.{Vec, at, zero64, two64, epsilon, ◌⊕◌, ◌⊖◌, ◌⊗◌}
use Rattle.root.specs.Root.{root}
use Rattle.answers.specs.Answers.{passed}
use Rattle.svd_jacobi_svd_tall.specs.declared.sweep.Sums.{Sums}
use Rattle.svd_jacobi_svd_tall.specs.declared.sweep.Rotation.{Rotation}
use Rattle.svd_jacobi_svd_tall.specs.Sweep.{u_at, skipped, rotation_of, pair_done, pairs_of}
use Rattle.svd_jacobi_svd_tall.specs.SweepSteps.{gram_step, rotate_step}
use Rattle.svd_jacobi_svd_tall.specs.SingularValues.{norm_sq, normal_step}
use Rattle.svd_jacobi_svd_tall.specs.SingularValuesSteps.{norm_step}
use Rattle.svd_jacobi_svd_tall.specs.JacobiSvdTall.{going_after, swept, ended, sweeps}
use Rattle.svd_gain_theorems.specs.Scale.{is_zero}
use Rattle.svd_gain_theorems.specs.Fine.{nothing, gram_of}

module _ {S : Type 0} where
  unfoldable pub along : (ℕ → S → S) → (ℕ → S → Bool) → ℕ → ℕ → S → Bool
  along f p a b s = every (λ d. p (a + d) (upto f a (a + d) s)) (b - a)

  unfoldable pub rounds_test : (S → S) → (S → Bool) → (S → Bool) → ℕ → S → Bool
  rounds_test f e p zero s = true
  rounds_test f e p (suc k) s = let r = rounds_test f e p k (f s) in p s && (e (f s) || r)

module _ (ok : Float → Bool) (lost : Bool) where
  unfoldable pub product_test : Float → Float → Bool
  product_test x y = ok (x ⊗ y) && (lost || (not (is_zero (x ⊗ y)) || (is_zero x || is_zero y)))

  unfoldable pub gram_test : ℕ → ℕ → Vec → ℕ → Sums → Bool
  gram_test a b w i x =
      let up = at w (a + i) in
      let uq = at w (b + i) in
      product_test up up && (product_test uq uq && (product_test up uq && (ok (x.alpha ⊕ up ⊗ up) && (ok (x.beta ⊕ uq ⊗ uq) && ok (x.gamma ⊕ up ⊗ uq)))))

  unfoldable pub skip_test : Sums → Bool
  skip_test x =
      let r = root (x.alpha ⊗ x.beta) in
      eq x.gamma zero64 || (product_test x.alpha x.beta && (ok r && product_test epsilon r))

  unfoldable pub rotation_test : Sums → Bool
  rotation_test x = ok (x.beta ⊖ x.alpha) && product_test two64 x.gamma

  unfoldable pub turn_test : ℕ → ℕ → Rotation → ℕ → Vec → Bool
  turn_test a b r i w =
      let up = at w (a + i) in
      let uq = at w (b + i) in
      product_test r.c up && (product_test r.s uq && (ok (r.c ⊗ up ⊖ r.s ⊗ uq) && (product_test r.s up && (product_test r.c uq && ok (r.s ⊗ up ⊕ r.c ⊗ uq)))))

  unfoldable pub pair_test : ℕ → ℕ → ℕ → ℕ → Bool × Vec → Bool
  pair_test rows cols p q x =
      let a = u_at rows p in
      let b = u_at rows q in
      let g = gram_of rows p q x.1 in
      along (gram_step a b x.1) (gram_test a b x.1) 0 rows nothing
      && (skip_test g && (skipped g || (rotation_test g && along (rotate_step a b (rotation_of g)) (turn_test a b (rotation_of g)) 0 rows x.1)))

  unfoldable pub sweep_test : ℕ → ℕ → Vec → Bool
  sweep_test rows cols w = along (pairs_of rows cols) (λ p x. along (pair_done rows cols p) (pair_test rows cols p) (p + 1) cols x) 0 cols (false, w)

  unfoldable pub column_test : ℕ → ℕ → Vec → Bool
  column_test rows j w =
      let a = u_at rows j in
      along (norm_step a w) (λ i x. product_test (at w (a + i)) (at w (a + i)) && ok (x ⊕ at w (a + i) ⊗ at w (a + i))) 0 rows zero64 && ok (root (norm_sq a rows w))

  unfoldable pub run_test : ℕ → ℕ → ℕ → Vec → Bool
  run_test rows cols limit w =
      let x = sweeps rows cols limit w in
      rounds_test (swept rows cols) ended (λ x. sweep_test rows cols x.1) limit (going_after 0, w)
      && (not (passed x.0) || along (normal_step rows cols) (column_test rows) 0 cols x.1)
