use mathlib.Core.Path.{◌∙◌, sym, ap}
use native.Mathlib.Omega.{arith}
use Rattle.svd_jacobi_svd_tall.specs.declared.sweep.Sums.{Sums}
use Rattle.svd_jacobi_svd_tall.specs.declared.sweep.Rotation.{Rotation}
use Rattle.svd_jacobi_svd_tall.proofs.sweep.TwoRows.{different, first_skipped, second_skipped, both_turned}
use Rattle.svd_jacobi_svd_tall.proofs.sweep.pair_two.Goals as goal

pub returns-then-skipped : goal.returns-then-skipped
returns-then-skipped c = c.pair_by.ensures ∙ first_skipped _ _ _ _ _ _ _ _ _ (different _ _ _ _ _ (omega arith) (omega (arith, c.requires)) (omega (arith, c.requires)) c.requires.1) (ap (λ (s : Sums × Sums). s.0) c.gram_two.ensures) (ap (λ (s : Sums × Sums). s.1) c.gram_two.ensures) (sym c.skipped.ensures ∙ c.if-skipped.true)

pub returns-then-skipped-2 : goal.returns-then-skipped-2
returns-then-skipped-2 c = rw (c.turn.ensures, c.rotation_of.ensures) (second_skipped _ _ _ _ _ _ _ _ _ (different _ _ _ _ _ (omega arith) (omega (arith, c.requires)) (omega (arith, c.requires)) c.requires.1) (ap (λ (s : Sums × Sums). s.0) c.gram_two.ensures) (ap (λ (s : Sums × Sums). s.1) c.gram_two.ensures) (sym c.skipped.ensures ∙ c.if-skipped.false) (sym c.skipped-2.ensures ∙ c.if-skipped-2.true))

pub returns : goal.returns
returns c = rw (c.turn-3.ensures, c.turn-2.ensures, ap (λ (s : Rotation × Rotation). s.0) c.rotations_of.ensures, ap (λ (s : Rotation × Rotation). s.1) c.rotations_of.ensures) (both_turned _ _ _ _ _ _ _ _ _ (different _ _ _ _ _ (omega arith) (omega (arith, c.requires)) (omega (arith, c.requires)) c.requires.1) (ap (λ (s : Sums × Sums). s.0) c.gram_two.ensures) (ap (λ (s : Sums × Sums). s.1) c.gram_two.ensures) (sym c.skipped.ensures ∙ c.if-skipped.false) (sym c.skipped-2.ensures ∙ c.if-skipped-2.false))
