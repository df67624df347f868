-- What `gain_keeps_eigenvectors` asks of a run, as a test that can be computed: of `tred2`, and of `tql2` behind it (`Tql2Test`, which says what ok and lost are). Definitions only.
use Rattle.std.specs.Prelude.{Bool, true, ◌&&◌, ◌||◌, List, [], ◌∷◌, ℕ, zero, suc, ◌+◌, ◌-◌, Float, is_some}
use Rattle.std.specs.Float.{binary64}
use Rattle.std.specs.Float.Ieee.{fits, eq}
use Rattle.grid.specs.Real.{Vec, at, zero64, zeros, ◌⊕◌, ◌⊖◌, ◌⊗◌, ◌⊘◌}
use Rattle.grid.specs.Cell.{at2, put2}
use Rattle.leaves.specs.Leaf.{magnitude}
use Rattle.eigen_tred2_definition.specs.Tred2.{scale_of, householder, copy_last}
use Rattle.eigen_tred2_definition.specs.Tred2Steps.{scale_step, similar_step, similarity_step, over_hStep, lessen_step, update_step, updates_step}
use Rattle.eigen_symmetric_eigen.specs.Layout.{columns}
use Rattle.eigen_symmetric_eigen.specs.AfterTred2.{mark0}
use Rattle.eigen_theorems.specs.Outcome.{reduced}
use Rattle.svd_gain_theorems.specs.Test.{along}
use Rattle.gain_path_theorems.specs.Tred2Fine.{generate_g, made, similar, divided, two_h, lessened}
use Rattle.gain_path_theorems.specs.Tql2Test.{all_of, product, quotient, tql2_test}

-- every number is a double
unfoldable pub all_fit : Vec → Bool
all_fit [] = true
all_fit (x ∷ l) = fits binary64 x && all_fit l

-- the clauses of the records of `Tred2Fine`, in their order
module _ (ok : Float → Bool) (lost : Bool) where
  abbrev pub similar_tests : ℕ → ℕ → Float → Vec → Vec → ℕ → Float × Vec → List Bool
  similar_tests n j f v d k x =
      let a = at2 v n k j in
      product ok lost a (at d k) ∷ ok (x.0 ⊕ a ⊗ at d k) ∷ product ok lost a f ∷ ok (at x.1 k ⊕ a ⊗ f) ∷ []

  abbrev pub similarity_tests : ℕ → ℕ → Vec → ℕ → Vec × Vec → List Bool
  similarity_tests n i d j x =
      let f = at d j in
      let v = put2 x.0 n j i f in
      let g = at x.1 j ⊕ at2 v n j j ⊗ f in
      product ok lost (at2 v n j j) f ∷ ok g ∷ along (similar_step n j f v d) (λ k y. all_of (similar_tests n j f v d k y)) (j + 1) i (g, x.1) ∷ []

  abbrev pub over_hTests : Float → Vec → ℕ → Float × Vec → List Bool
  over_hTests h d j x =
      let a = at x.1 j ⊘ h in
      quotient ok lost (at x.1 j) h ∷ product ok lost a (at d j) ∷ ok (x.0 ⊕ a ⊗ at d j) ∷ []

  abbrev pub lessen_tests : Float → Vec → ℕ → Vec → List Bool
  lessen_tests hh d j e = product ok lost hh (at d j) ∷ ok (at e j ⊖ hh ⊗ at d j) ∷ []

  abbrev pub update_tests : ℕ → ℕ → Float → Float → Vec → Vec → ℕ → Vec → List Bool
  update_tests n j f g d e k v =
      let sum = f ⊗ at e k ⊕ g ⊗ at d k in
      product ok lost f (at e k) ∷ product ok lost g (at d k) ∷ ok sum ∷ ok (at2 v n k j ⊖ sum) ∷ []

  abbrev pub updates_test : ℕ → ℕ → Vec → ℕ → Vec × Vec → Bool
  updates_test n i e j x = along (update_step n j (at x.1 j) (at e j) x.1 e) (λ k v. all_of (update_tests n j (at x.1 j) (at e j) x.1 e k v)) j i x.0

  abbrev pub reflect_tests : ℕ → ℕ → Float → Vec × Vec × Vec → List Bool
  reflect_tests n i scale x =
      let m = made i scale x in
      let d = divided n i scale x in
      let hh = d.0 ⊘ two_h i scale x in
      let e = lessened n i scale x in
      product ok lost scale (generate_g i scale x.1)
      ∷ along (similarity_step n i m.1) (λ j y. all_of (similarity_tests n i m.1 j y)) 0 i (x.0, m.2)
      ∷ along (over_hStep m.0 m.1) (λ j y. all_of (over_hTests m.0 m.1 j y)) 0 i (zero64, (similar n i scale x).1)
      ∷ quotient ok lost d.0 (two_h i scale x)
      ∷ along (lessen_step hh m.1) (λ j y. all_of (lessen_tests hh m.1 j y)) 0 i d.1
      ∷ along (updates_step n i e) (updates_test n i e) 0 i ((similar n i scale x).0, m.1)
      ∷ []

  abbrev pub turn_tests : ℕ → ℕ → Vec × Vec × Vec → List Bool
  turn_tests n i x =
      let scale = scale_of i x.1 in
      along (scale_step x.1) (λ k s. ok (s ⊕ magnitude (at x.1 k))) 0 i zero64 ∷ (eq scale zero64 || all_of (reflect_tests n i scale x)) ∷ []

  unfoldable pub downs_test : ℕ → ℕ → Vec × Vec × Vec → Bool
  downs_test n zero x = true
  downs_test n (suc i) x = all_of (turn_tests n (suc i) x) && downs_test n i (householder n (suc i) x)

  -- the run
  unfoldable pub run_test : ℕ → ℕ → ℕ → Vec → Bool
  run_test n limit edition matrix =
      let x : Vec × Vec × Vec = (columns n matrix, zeros n, zeros n) in
      let y = reduced n matrix in
      downs_test n (n - 1) (x.0, copy_last n x.0 x.1, x.2) && (is_some (mark0 n y.0 y.1 y.2) || tql2_test ok lost n limit edition y)
