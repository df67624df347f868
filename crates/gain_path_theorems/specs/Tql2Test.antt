-- What `tql2_gain` asks of a run, as a test that can be computed. Definitions only.
-- Each number is ok, and no product, quotient or hypot is zero that need not be, unless that is let pass (lost). With `fine` and false it is what the theorem asks.
use Rattle.std.specs.Prelude.{Bool, true, not, ◌&&◌, ◌||◌, List, [], ◌∷◌, ℕ, zero, suc, ◌+◌, ◌-◌, ltb, eqb, Float}
use Rattle.std.specs.Float.Ieee.{neg}
use Rattle.grid.specs.Real.{Vec, at, two64, epsilon, ◌⊕◌, ◌⊖◌, ◌⊗◌, ◌⊘◌}
use Rattle.leaves.specs.Leaf.{magnitude}
use Rattle.hypot.specs.Edition.{pythag}
use Rattle.eigen_tql2_pass.specs.declared.ql_transformation.Spin.{Spin}
use Rattle.eigen_tql2_pass.specs.declared.Run.{Run}
use Rattle.eigen_tql2_pass.specs.Transform.{shift, lessened, spin, spins, still, transformed}
use Rattle.eigen_tql2_pass.specs.TransformSteps.{less_step}
use Rattle.eigen_tql2_pass.specs.Pass.{pass, converged}
use Rattle.eigen_tql2.specs.LStartEnd.{State, fresh, opened, ended}
use Rattle.eigen_tql2.specs.RunOverL.{turn}
use Rattle.eigen_tql2.specs.Tql2.{moved_up}
use Rattle.svd_gain_theorems.specs.Scale.{is_zero}
use Rattle.svd_gain_theorems.specs.Test.{along, rounds_test, product_test}
use Rattle.gain_path_theorems.specs.PassFine.{shift_q, spin_r, landed_p}
use Rattle.gain_path_theorems.specs.Tql2Fine.{at_l, passed}

unfoldable pub all_of : List Bool → Bool
all_of [] = true
all_of (b ∷ l) = b && all_of l

module _ (ok : Float → Bool) (lost : Bool) where
  abbrev pub product : Float → Float → Bool
  product x y = product_test ok lost x y

  unfoldable pub quotient : Float → Float → Bool
  quotient x y = let z = x ⊘ y in ok z && (lost || (not (is_zero z) || is_zero x))

  unfoldable pub hypot_test : ℕ → Float → Float → Bool
  hypot_test edition x y = let z = pythag edition x y in ok z && (lost || (not (is_zero z) || (is_zero x && is_zero y)))

  -- the clauses of `ShiftFine`, `SpinFine` and `LandFine`, in their order

  abbrev pub shift_tests : ℕ → ℕ → Vec → Vec → List Bool
  shift_tests edition l d e =
      let q = shift_q edition l d e in
      ok (at d (l + 1) ⊖ at d l) ∷ product two64 (at e l) ∷ quotient (at e l) q ∷ ok (at d l ⊖ at e l ⊘ q) ∷ product (at e l) q ∷ []

  abbrev pub spin_tests : ℕ → Spin → Float → Float → List Bool
  spin_tests edition q di ei =
      let r = spin_r edition q ei in
      let s = ei ⊘ r in
      let c = q.p ⊘ r in
      let g = q.c ⊗ ei in
      let sum = c ⊗ g ⊕ s ⊗ di in
      product q.c ei
      ∷ product q.c q.p
      ∷ hypot_test edition q.p ei
      ∷ product c di
      ∷ product s g
      ∷ ok (c ⊗ di ⊖ s ⊗ g)
      ∷ product c g
      ∷ product s di
      ∷ ok sum
      ∷ product s sum
      ∷ ok (q.c ⊗ q.p ⊕ s ⊗ sum)
      ∷ product q.s r
      ∷ []

  abbrev pub land_tests : Spin → Float → Float → Float → List Bool
  land_tests q el1 dl1 el =
      let u = neg q.s ⊗ q.s2 ⊗ q.c3 in
      let p = landed_p q el1 dl1 el in
      product u el1 ∷ product (u ⊗ el1) el ∷ quotient (u ⊗ el1 ⊗ el) dl1 ∷ product q.c p ∷ product q.s p ∷ []

  unfoldable pub drops_test : ℕ → ℕ → ℕ → ℕ → Spin × Vec × Vec × Vec → Bool
  drops_test n edition a zero x = true
  drops_test n edition a (suc k) x = all_of (spin_tests edition x.0 (at x.2 (a + k)) (at x.3 (a + k))) && drops_test n edition a k (spin n edition (a + k) x)

  abbrev pub transform_tests : ℕ → ℕ → ℕ → ℕ → Vec × Vec × Vec → List Bool
  transform_tests n edition l m x =
      let s = shift edition l x.1 x.2 in
      let d = lessened n l s.0 s.1 in
      let t : Spin × Vec × Vec × Vec = (still (at d m), x.0, d, x.2) in
      let u = spins n edition l m t in
      all_of (shift_tests edition l x.1 x.2)
      ∷ along (less_step s.0) (λ i d. ok (at d i ⊖ s.0)) (l + 2) n s.1
      ∷ drops_test n edition l (m - l) t
      ∷ all_of (land_tests u.0 (at x.2 (l + 1)) (at s.1 (l + 1)) (at u.3 l))
      ∷ []

  abbrev pub pass_tests : ℕ → ℕ → Run × Vec × Vec × Vec → List Bool
  pass_tests n edition x =
      all_of (transform_tests n edition x.0.l x.0.m (x.1, x.2, x.3))
      ∷ ok (x.0.f ⊕ (transformed n edition x.0.l x.0.m (x.1, x.2, x.3)).0)
      ∷ product epsilon x.0.tst1
      ∷ []

  abbrev pub stage_tests : ℕ → ℕ → ℕ → ℕ → State → List Bool
  stage_tests n limit edition l x =
      let y = passed n limit edition l x in
      ok (magnitude (at x.2 l) ⊕ magnitude (at x.3 l))
      ∷ (not (ltb l (n - 1)) || product epsilon (opened n l x.0 x.2 x.3).tst1)
      ∷ (ended (at_l n l x) || rounds_test (pass n edition) ended (λ z. all_of (pass_tests n edition z)) limit (at_l n l x))
      ∷ (not (eqb y.0.stop converged) || ok (at y.2 y.0.l ⊕ y.0.f))
      ∷ []

  unfoldable pub tql2_test : ℕ → ℕ → ℕ → Vec × Vec × Vec → Bool
  tql2_test n limit edition x = along (turn n limit edition) (λ l y. ended y || all_of (stage_tests n limit edition l y)) 0 n (fresh, x.0, x.1, moved_up n x.2)
