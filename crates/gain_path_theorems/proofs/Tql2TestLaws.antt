-- A run that passes the test is one that `tql2_gain` asks for. Laws only.
use Rattle.std.specs.Prelude.{◌≡◌, refl, Bool, true, false, not, ◌&&◌, ◌||◌, List, [], ◌∷◌, ℕ, zero, suc, ◌+◌, ◌-◌, T, ltb, eqb, Float, get_or}
use Rattle.std.proofs.Common.{ap, lt-ltb, eq-eqb}
use Rattle.std.specs.Float.Ieee.Fits.{and_l, and_r}
use Rattle.grid.specs.Real.{Vec, at, ◌⊖◌, ◌⊘◌}
use Rattle.hypot.specs.Edition.{pythag}
use Rattle.eigen_tql2_pass.specs.declared.ql_transformation.Spin.{Spin}
use Rattle.eigen_tql2_pass.specs.declared.Run.{Run}
use Rattle.eigen_tql2_pass.specs.Transform.{spin}
use Rattle.eigen_tql2_pass.specs.TransformSteps.{less_step}
use Rattle.eigen_tql2_pass.specs.Pass.{pass, converged}
use Rattle.eigen_tql2.specs.LStartEnd.{State, fresh, ended}
use Rattle.eigen_tql2.specs.RunOverL.{turn}
use Rattle.eigen_tql2.specs.Tql2.{moved_up}
use Rattle.svd_gain_theorems.specs.Scale.{is_zero, fine, Quotient}
use Rattle.svd_gain_theorems.proofs.TestLaws.{or_r, of_product, of_along, of_rounds}
use Rattle.gain_path_theorems.specs.HypotFine.{HypotFine}
use Rattle.gain_path_theorems.specs.PassFine.{Drops, ShiftFine, SpinFine, SpinAt, LandFine, shift_h, shifted, TransformFine, PassFine}
use Rattle.gain_path_theorems.specs.Tql2Fine.{at_l, passed, StageFine, TurnFine, Tql2Fine}
use Rattle.gain_path_theorems.specs.Tql2Test.{all_of, quotient, hypot_test, shift_tests, spin_tests, land_tests, drops_test, transform_tests, pass_tests, stage_tests, tql2_test}

is : (b : Bool) → T b → b ≡ true
is true t = refl
is false t = absurd t

-- clause i of a list
pub nth : (l : List Bool) (i : ℕ) → T (all_of l) → T (get_or l i true)
unfolding all_of
nth [] i t = tt
nth (b ∷ l) zero t = and_l b (all_of l) t
nth (b ∷ l) (suc i) t = nth l i (and_r b (all_of l) t)

pub of_quotient : (x y : Float) → T (quotient fine false x y) → Quotient x y
unfolding quotient
of_quotient x y t =
    record { good = and_l (fine (x ⊘ y)) _ t; zeros = λ z. is (is_zero x) (or_r (not (is_zero (x ⊘ y))) (is_zero x) (and_r (fine (x ⊘ y)) _ t) (ap not z)) }

pub of_hypot : (edition : ℕ) (x y : Float) → T (hypot_test fine false edition x y) → HypotFine edition x y
unfolding hypot_test
of_hypot edition x y t =
    record {
      good = and_l (fine (pythag edition x y)) _ t;
      zeros = λ z.
          let w = or_r (not (is_zero (pythag edition x y))) (is_zero x && is_zero y) (and_r (fine (pythag edition x y)) _ t) (ap not z) in
          (is (is_zero x) (and_l (is_zero x) (is_zero y) w), is (is_zero y) (and_r (is_zero x) (is_zero y) w));
    }

of_shift : (edition l : ℕ) (d e : Vec) → T (all_of (shift_tests fine false edition l d e)) → ShiftFine edition l d e
of_shift edition l d e t =
    let c = shift_tests fine false edition l d e in
    record { difference = nth c 0 t; twice = of_product _ _ (nth c 1 t); over = of_quotient _ _ (nth c 2 t); less = nth c 3 t; product = of_product _ _ (nth c 4 t) }

of_spin : (edition : ℕ) (q : Spin) (di ei : Float) → T (all_of (spin_tests fine false edition q di ei)) → SpinFine edition q di ei
of_spin edition q di ei t =
    let c = spin_tests fine false edition q di ei in
    record {
      g = of_product _ _ (nth c 0 t);
      h = of_product _ _ (nth c 1 t);
      r = of_hypot edition _ _ (nth c 2 t);
      cd = of_product _ _ (nth c 3 t);
      sg = of_product _ _ (nth c 4 t);
      p = nth c 5 t;
      cg = of_product _ _ (nth c 6 t);
      sd = of_product _ _ (nth c 7 t);
      sum = nth c 8 t;
      ss = of_product _ _ (nth c 9 t);
      d = nth c 10 t;
      e = of_product _ _ (nth c 11 t);
    }

of_land : (q : Spin) (el1 dl1 el : Float) → T (all_of (land_tests fine false q el1 dl1 el)) → LandFine q el1 dl1 el
of_land q el1 dl1 el t =
    let c = land_tests fine false q el1 dl1 el in
    record { first = of_product _ _ (nth c 0 t); second = of_product _ _ (nth c 1 t); over = of_quotient _ _ (nth c 2 t); d = of_product _ _ (nth c 3 t); e = of_product _ _ (nth c 4 t) }

of_drops : (n edition a k : ℕ) (x : Spin × Vec × Vec × Vec) → T (drops_test fine false n edition a k x) → Drops (spin n edition) (SpinAt edition) a k x
unfolding drops_test Drops
of_drops n edition a zero x t = tt
of_drops n edition a (suc k) x t =
    let b = all_of (spin_tests fine false edition x.0 (at x.2 (a + k)) (at x.3 (a + k))) in
    (of_spin edition x.0 (at x.2 (a + k)) (at x.3 (a + k)) (and_l b _ t), of_drops n edition a k (spin n edition (a + k) x) (and_r b _ t))

of_transform : (n edition l m : ℕ) (x : Vec × Vec × Vec) → T (all_of (transform_tests fine false n edition l m x)) → TransformFine n edition l m x
of_transform n edition l m x t =
    let c = transform_tests fine false n edition l m x in
    let h = shift_h edition l x.1 x.2 in
    record {
      begin = of_shift edition l x.1 x.2 (nth c 0 t);
      less = of_along (less_step h) (λ i d. fine (at d i ⊖ h)) (λ i d. T (fine (at d i ⊖ h))) (l + 2) n (shifted edition l x.1 x.2) (λ j d u. u) (nth c 1 t);
      turns = of_drops n edition l (m - l) _ (nth c 2 t);
      land = of_land _ _ _ _ (nth c 3 t);
    }

of_pass : (n edition : ℕ) (x : Run × Vec × Vec × Vec) → T (all_of (pass_tests fine false n edition x)) → PassFine n edition x
of_pass n edition x t =
    let c = pass_tests fine false n edition x in
    record { transform = of_transform n edition x.0.l x.0.m (x.1, x.2, x.3) (nth c 0 t); f = nth c 1 t; bound = of_product _ _ (nth c 2 t) }

of_stage : (n limit edition l : ℕ) (x : State) → T (all_of (stage_tests fine false n limit edition l x)) → StageFine n limit edition l x
of_stage n limit edition l x t =
    let c = stage_tests fine false n limit edition l x in
    let y = passed n limit edition l x in
    record {
      begin = record { size = nth c 0 t; bound = λ h. of_product _ _ (or_r (not (ltb l (n - 1))) _ (nth c 1 t) (ap not (lt-ltb l (n - 1) h))) };
      passes = λ e. of_rounds (pass n edition) ended (λ z. all_of (pass_tests fine false n edition z)) (PassFine n edition) limit (at_l n l x) (λ z u. of_pass n edition z u) (or_r (ended (at_l n l x)) _ (nth c 2 t) e);
      value = λ e. or_r (not (eqb y.0.stop converged)) _ (nth c 3 t) (ap not (eq-eqb y.0.stop converged e));
    }

pub tql2_test_lem : (n limit edition : ℕ) (x : Vec × Vec × Vec) → T (tql2_test fine false n limit edition x) → Tql2Fine n limit edition x
unfolding tql2_test
tql2_test_lem n limit edition x t =
    of_along (turn n limit edition) (λ l y. ended y || all_of (stage_tests fine false n limit edition l y)) (TurnFine n limit edition) 0 n (fresh, x.0, x.1, moved_up n x.2)
    (λ l y u e. of_stage n limit edition l y (or_r (ended y) _ u e)) t
