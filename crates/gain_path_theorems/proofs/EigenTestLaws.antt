-- A run that passes the test is one that `gain_keeps_eigenvectors` asks for. Laws only.
use Rattle.std.specs.Prelude.{false, [], ◌∷◌, ℕ, zero, suc, ◌+◌, ◌-◌, T, Float, is_some}
use Rattle.std.specs.Float.{binary64}
use Rattle.std.specs.Float.Ieee.{fits, eq}
use Rattle.std.specs.Float.Ieee.Fits.{nan-fits, and_l, and_r}
use Rattle.grid.specs.Real.{Vec, at, zero64, zeros, ◌⊕◌, ◌⊗◌, ◌⊘◌}
use Rattle.grid.specs.Cell.{at2, put2}
use Rattle.leaves.specs.Leaf.{magnitude}
use Rattle.eigen_tred2_definition.specs.Tred2.{scale_of, householder, copy_last}
use Rattle.eigen_tred2_definition.specs.Tred2Steps.{scale_step, similar_step, similarity_step, over_hStep, lessen_step, update_step, updates_step}
use Rattle.eigen_symmetric_eigen.specs.Layout.{columns}
use Rattle.eigen_symmetric_eigen.specs.AfterTred2.{mark0}
use Rattle.eigen_theorems.specs.Outcome.{reduced}
use Rattle.svd_gain_theorems.specs.Scale.{fine}
use Rattle.svd_gain_theorems.proofs.TestLaws.{or_r, of_product, of_along}
use Rattle.gain_path_theorems.specs.Tred2Fine.{SimilarFine, SimilarityFine, OverHFine, LessenFine, UpdateFine, UpdatesFine, made, similar, divided, two_h, lessened, ReflectFine, TurnFine, Downs}
use Rattle.gain_path_theorems.proofs.Tql2TestLaws.{nth, of_quotient, tql2_test_lem}
use Rattle.gain_path_theorems.specs.Numbers.{Doubles}
use Rattle.gain_path_theorems.specs.EigenFine.{RunFine}
use Rattle.gain_path_theorems.specs.Tql2Test.{all_of}
use Rattle.gain_path_theorems.specs.EigenTest.{all_fit, similar_tests, similarity_tests, over_hTests, lessen_tests, update_tests, updates_test, reflect_tests, turn_tests, downs_test, run_test}

pub of_fit : (a : Vec) → T (all_fit a) → Doubles a
unfolding all_fit
of_fit [] t i = nan-fits binary64
of_fit (x ∷ l) t zero = and_l (fits binary64 x) (all_fit l) t
of_fit (x ∷ l) t (suc i) = of_fit l (and_r (fits binary64 x) (all_fit l) t) i

of_similar : (n j : ℕ) (f : Float) (v d : Vec) (k : ℕ) (x : Float × Vec) → T (all_of (similar_tests fine false n j f v d k x)) → SimilarFine n j f v d k x
of_similar n j f v d k x t =
    let c = similar_tests fine false n j f v d k x in
    record { xd = of_product _ _ (nth c 0 t); g = nth c 1 t; xf = of_product _ _ (nth c 2 t); e = nth c 3 t }

of_similarity : (n i : ℕ) (d : Vec) (j : ℕ) (x : Vec × Vec) → T (all_of (similarity_tests fine false n i d j x)) → SimilarityFine n i d j x
of_similarity n i d j x t =
    let c = similarity_tests fine false n i d j x in
    let f = at d j in
    let v = put2 x.0 n j i f in
    record {
      first = of_product _ _ (nth c 0 t);
      sum = nth c 1 t;
      rows = of_along (similar_step n j f v d) (λ k y. all_of (similar_tests fine false n j f v d k y)) (SimilarFine n j f v d) (j + 1) i (at x.1 j ⊕ at2 v n j j ⊗ f, x.1) (λ k y u. of_similar n j f v d k y u) (nth c 2 t);
    }

of_over : (h : Float) (d : Vec) (j : ℕ) (x : Float × Vec) → T (all_of (over_hTests fine false h d j x)) → OverHFine h d j x
of_over h d j x t =
    let c = over_hTests fine false h d j x in
    record { over = of_quotient _ _ (nth c 0 t); xd = of_product _ _ (nth c 1 t); f = nth c 2 t }

of_lessen : (hh : Float) (d : Vec) (j : ℕ) (e : Vec) → T (all_of (lessen_tests fine false hh d j e)) → LessenFine hh d j e
of_lessen hh d j e t =
    let c = lessen_tests fine false hh d j e in
    record { product = of_product _ _ (nth c 0 t); less = nth c 1 t }

of_update : (n j : ℕ) (f g : Float) (d e : Vec) (k : ℕ) (v : Vec) → T (all_of (update_tests fine false n j f g d e k v)) → UpdateFine n j f g d e k v
of_update n j f g d e k v t =
    let c = update_tests fine false n j f g d e k v in
    record { fe = of_product _ _ (nth c 0 t); gd = of_product _ _ (nth c 1 t); sum = nth c 2 t; less = nth c 3 t }

of_updates : (n i : ℕ) (e : Vec) (j : ℕ) (x : Vec × Vec) → T (updates_test fine false n i e j x) → UpdatesFine n i e j x
of_updates n i e j x t =
    of_along (update_step n j (at x.1 j) (at e j) x.1 e) (λ k v. all_of (update_tests fine false n j (at x.1 j) (at e j) x.1 e k v)) (UpdateFine n j (at x.1 j) (at e j) x.1 e) j i x.0
    (λ k v u. of_update n j (at x.1 j) (at e j) x.1 e k v u) t

of_reflect : (n i : ℕ) (scale : Float) (x : Vec × Vec × Vec) → T (all_of (reflect_tests fine false n i scale x)) → ReflectFine n i scale x
of_reflect n i scale x t =
    let c = reflect_tests fine false n i scale x in
    let m = made i scale x in
    let d = divided n i scale x in
    let hh = d.0 ⊘ two_h i scale x in
    let e = lessened n i scale x in
    record {
      e = of_product _ _ (nth c 0 t);
      similarity = of_along (similarity_step n i m.1) (λ j y. all_of (similarity_tests fine false n i m.1 j y)) (SimilarityFine n i m.1) 0 i (x.0, m.2) (λ j y u. of_similarity n i m.1 j y u) (nth c 1 t);
      over_h = of_along (over_hStep m.0 m.1) (λ j y. all_of (over_hTests fine false m.0 m.1 j y)) (OverHFine m.0 m.1) 0 i (zero64, (similar n i scale x).1) (λ j y u. of_over m.0 m.1 j y u) (nth c 2 t);
      hh = of_quotient _ _ (nth c 3 t);
      lessen = of_along (lessen_step hh m.1) (λ j y. all_of (lessen_tests fine false hh m.1 j y)) (LessenFine hh m.1) 0 i d.1 (λ j y u. of_lessen hh m.1 j y u) (nth c 4 t);
      updates = of_along (updates_step n i e) (updates_test fine false n i e) (UpdatesFine n i e) 0 i ((similar n i scale x).0, m.1) (λ j y u. of_updates n i e j y u) (nth c 5 t);
    }

of_turn : (n i : ℕ) (x : Vec × Vec × Vec) → T (all_of (turn_tests fine false n i x)) → TurnFine n i x
of_turn n i x t =
    let c = turn_tests fine false n i x in
    let s = scale_of i x.1 in
    record {
      scale = of_along (scale_step x.1) (λ k s. fine (s ⊕ magnitude (at x.1 k))) (λ k s. T (fine (s ⊕ magnitude (at x.1 k)))) 0 i zero64 (λ k s u. u) (nth c 0 t);
      reflect = λ z. of_reflect n i s x (or_r (eq s zero64) _ (nth c 1 t) z);
    }

of_downs : (n i : ℕ) (x : Vec × Vec × Vec) → T (downs_test fine false n i x) → Downs TurnFine n i x
unfolding downs_test Downs
of_downs n zero x t = tt
of_downs n (suc i) x t =
    let b = all_of (turn_tests fine false n (suc i) x) in
    (of_turn n (suc i) x (and_l b _ t), of_downs n i (householder n (suc i) x) (and_r b _ t))

pub run_test_lem : (n limit edition : ℕ) (matrix : Vec) → T (run_test fine false n limit edition matrix) → RunFine n limit edition matrix
unfolding run_test
run_test_lem n limit edition matrix t =
    let v = columns n matrix in
    let y = reduced n matrix in
    let b = downs_test fine false n (n - 1) (v, copy_last n v (zeros n), zeros n) in
    record {
      reduces = of_downs n (n - 1) (v, copy_last n v (zeros n), zeros n) (and_l b _ t);
      iterates = λ z. tql2_test_lem n limit edition y (or_r (is_some (mark0 n y.0 y.1 y.2)) _ (and_r b _ t) z);
    }
