-- A run that passes the test is one that `gain_keeps_basis` asks for. Laws only.
use Rattle.std.specs.Prelude.{◌≡◌, refl, Bool, true, false, not, ◌&&◌, ◌||◌, ℕ, zero, suc, ◌+◌, ◌-◌, ◌<◌, T, ltb, Float}
use Rattle.std.proofs.Common.{ap, subst, true≢false, arith, ltb-true, ltb-false}
use Rattle.std.specs.Float.Ieee.{eq}
use Rattle.std.specs.Float.Ieee.Fits.{and_l, and_r}
use Rattle.grid.specs.Loop.{every, upto}
use Rattle.grid.specs.Real.{Vec, at, zero64, two64, epsilon, ◌⊕◌, ◌⊖◌, ◌⊗◌}
use Rattle.root.specs.Root.{root}
use Rattle.answers.specs.Answers.{passed}
use Rattle.svd_jacobi_svd_tall.specs.declared.sweep.Sums.{Sums}
use Rattle.svd_jacobi_svd_tall.specs.declared.sweep.Rotation.{Rotation}
use Rattle.svd_jacobi_svd_tall.specs.Sweep.{u_at, skipped, rotation_of, pair_done, pairs_of}
use Rattle.svd_jacobi_svd_tall.specs.SweepSteps.{gram_step, rotate_step}
use Rattle.svd_jacobi_svd_tall.specs.SingularValues.{normal_step}
use Rattle.svd_jacobi_svd_tall.specs.SingularValuesSteps.{norm_step}
use Rattle.svd_jacobi_svd_tall.specs.JacobiSvdTall.{going_after, swept, ended, sweeps}
use Rattle.svd_gain_theorems.specs.Scale.{fine, is_zero, Product}
use Rattle.svd_gain_theorems.specs.Along.{Along, Rounds}
use Rattle.svd_gain_theorems.specs.Fine.{GramFine, nothing, SkipFine, RotationFine, TurnFine, gram_of, PairFine, PairsFine, SweepFine, NormFine, ColumnFine, RunFine}
use Rattle.svd_gain_theorems.specs.Test.{product_test, along, rounds_test, gram_test, skip_test, rotation_test, turn_test, pair_test, sweep_test, column_test, run_test}

pub or_r : (a b : Bool) → T (a || b) → a ≡ false → T b
or_r true b t e = absurd (true≢false e)
or_r false b t e = t

pub of_product : (x y : Float) → T (product_test fine false x y) → Product x y
unfolding product_test
of_product x y t =
    record { good = and_l (fine (x ⊗ y)) _ t; zeros = λ z. is (is_zero x || is_zero y) (or_r (not (is_zero (x ⊗ y))) (is_zero x || is_zero y) (and_r (fine (x ⊗ y)) _ t) (ap not z)) }
  where
    is : (b : Bool) → T b → b ≡ true
    is true t = refl
    is false t = absurd t

of_every : (p : ℕ → Bool) (n j : ℕ) → T (every p n) → j < n → T (p j)
unfolding every
of_every p zero j t h = absurd (omega arith)
of_every p (suc n) j t h = go (ltb j n) refl (of_every p n j (and_l (every p n) (p n) t))
  where
    go : (b : Bool) → ltb j n ≡ b → (j < n → T (p j)) → T (p j)
    go true e before = before (ltb-true j n e)
    go false e before =
        let o : n ≡ j = omega (arith, ltb-false j n e) in
        subst (λ (i : ℕ). T (p i)) o (and_r (every p n) (p n) t)

pub of_along : {S : Type 0} (f : ℕ → S → S) (p : ℕ → S → Bool) (P : ℕ → S → Type 0) (a b : ℕ) (s : S) → ((j : ℕ) (s : S) → T (p j s) → P j s) → T (along f p a b s) → Along f P a b s
unfolding along
of_along f p P a b s h t j l m =
    let o : a + (j - a) ≡ j = omega arith in
    h j (upto f a j s) (subst (λ (i : ℕ). T (p i (upto f a i s))) o (of_every (λ d. p (a + d) (upto f a (a + d) s)) (b - a) (j - a) t (omega arith)))

pub of_rounds : {S : Type 0} (f : S → S) (e : S → Bool) (p : S → Bool) (P : S → Type 0) (k : ℕ) (s : S) → ((s : S) → T (p s) → P s) → T (rounds_test f e p k s) → Rounds f e P k s
unfolding rounds_test Rounds
of_rounds f e p P zero s h t = tt
of_rounds f e p P (suc k) s h t = (h s (and_l (p s) _ t), λ z. of_rounds f e p P k (f s) h (or_r (e (f s)) _ (and_r (p s) _ t) z))

of_gram : (a b : ℕ) (w : Vec) (i : ℕ) (x : Sums) → T (gram_test fine false a b w i x) → GramFine a b w i x
unfolding gram_test
of_gram a b w i x t =
    let t1 = and_r (product_test fine false (at w (a + i)) (at w (a + i))) _ t in
    let t2 = and_r (product_test fine false (at w (b + i)) (at w (b + i))) _ t1 in
    let t3 = and_r (product_test fine false (at w (a + i)) (at w (b + i))) _ t2 in
    let t4 = and_r (fine (x.alpha ⊕ at w (a + i) ⊗ at w (a + i))) _ t3 in
    record {
      pp = of_product _ _ (and_l (product_test fine false (at w (a + i)) (at w (a + i))) _ t);
      qq = of_product _ _ (and_l (product_test fine false (at w (b + i)) (at w (b + i))) _ t1);
      pq = of_product _ _ (and_l (product_test fine false (at w (a + i)) (at w (b + i))) _ t2);
      first = and_l (fine (x.alpha ⊕ at w (a + i) ⊗ at w (a + i))) _ t3;
      second = and_l (fine (x.beta ⊕ at w (b + i) ⊗ at w (b + i))) _ t4;
      third = and_r (fine (x.beta ⊕ at w (b + i) ⊗ at w (b + i))) _ t4;
    }

of_skip : (x : Sums) → T (skip_test fine false x) → SkipFine x
unfolding skip_test
of_skip x t =
    record {
      product = λ e. of_product x.alpha x.beta (and_l (product_test fine false x.alpha x.beta) _ (rest e));
      rooted = λ e. and_l (fine r) (product_test fine false epsilon r) (and_r (product_test fine false x.alpha x.beta) _ (rest e));
      bound = λ e. of_product epsilon r (and_r (fine r) (product_test fine false epsilon r) (and_r (product_test fine false x.alpha x.beta) _ (rest e)));
    }
  where
    r : Float
    r = root (x.alpha ⊗ x.beta)

    rest : eq x.gamma zero64 ≡ false → T (product_test fine false x.alpha x.beta && (fine r && product_test fine false epsilon r))
    rest e = or_r (eq x.gamma zero64) (product_test fine false x.alpha x.beta && (fine r && product_test fine false epsilon r)) t e

of_rotation : (x : Sums) → T (rotation_test fine false x) → RotationFine x
unfolding rotation_test
of_rotation x t = record { difference = and_l (fine (x.beta ⊖ x.alpha)) _ t; twice = of_product two64 x.gamma (and_r (fine (x.beta ⊖ x.alpha)) _ t) }

of_turn : (a b : ℕ) (r : Rotation) (i : ℕ) (w : Vec) → T (turn_test fine false a b r i w) → TurnFine a b r i w
unfolding turn_test
of_turn a b r i w t =
    let up = at w (a + i) in
    let uq = at w (b + i) in
    let t1 = and_r (product_test fine false r.c up) _ t in
    let t2 = and_r (product_test fine false r.s uq) _ t1 in
    let t3 = and_r (fine (r.c ⊗ up ⊖ r.s ⊗ uq)) _ t2 in
    let t4 = and_r (product_test fine false r.s up) _ t3 in
    record {
      cp = of_product r.c up (and_l (product_test fine false r.c up) _ t);
      sq = of_product r.s uq (and_l (product_test fine false r.s uq) _ t1);
      first = and_l (fine (r.c ⊗ up ⊖ r.s ⊗ uq)) _ t2;
      sp = of_product r.s up (and_l (product_test fine false r.s up) _ t3);
      cq = of_product r.c uq (and_l (product_test fine false r.c uq) _ t4);
      second = and_r (product_test fine false r.c uq) _ t4;
    }

of_pair : (rows cols p q : ℕ) (x : Bool × Vec) → T (pair_test fine false rows cols p q x) → PairFine rows cols p q x
unfolding pair_test
of_pair rows cols p q x t =
    record {
      sums = of_along (gram_step a b x.1) (gram_test fine false a b x.1) (GramFine a b x.1) 0 rows nothing (of_gram a b x.1) (and_l sums_test _ t);
      skip = of_skip g (and_l (skip_test fine false g) _ (and_r sums_test _ t));
      rotation = λ e. of_rotation g (and_l (rotation_test fine false g) _ (rest e));
      turn = λ e. of_along (rotate_step a b (rotation_of g)) (turn_test fine false a b (rotation_of g)) (TurnFine a b (rotation_of g)) 0 rows x.1 (of_turn a b (rotation_of g)) (and_r (rotation_test fine false g) _ (rest e));
    }
  where
    a : ℕ
    a = u_at rows p

    b : ℕ
    b = u_at rows q

    g : Sums
    g = gram_of rows p q x.1

    sums_test : Bool
    sums_test = along (gram_step a b x.1) (gram_test fine false a b x.1) 0 rows nothing

    rest : skipped g ≡ false → T (rotation_test fine false g && along (rotate_step a b (rotation_of g)) (turn_test fine false a b (rotation_of g)) 0 rows x.1)
    rest e = or_r (skipped g) _ (and_r (skip_test fine false g) _ (and_r sums_test _ t)) e

of_sweep : (rows cols : ℕ) (w : Vec) → T (sweep_test fine false rows cols w) → SweepFine rows cols w
unfolding sweep_test
of_sweep rows cols w =
    of_along (pairs_of rows cols) (λ p x. along (pair_done rows cols p) (pair_test fine false rows cols p) (p + 1) cols x) (PairsFine rows cols) 0 cols (false, w)
    (λ p x. of_along (pair_done rows cols p) (pair_test fine false rows cols p) (PairFine rows cols p) (p + 1) cols x (of_pair rows cols p))

of_column : (rows j : ℕ) (w : Vec) → T (column_test fine false rows j w) → ColumnFine rows j w
unfolding column_test
of_column rows j w t =
    let a = u_at rows j in
    let p : ℕ → Float → Bool = λ i x. product_test fine false (at w (a + i)) (at w (a + i)) && fine (x ⊕ at w (a + i) ⊗ at w (a + i)) in
    let s = along (norm_step a w) p 0 rows zero64 in
    record {
      squares = of_along (norm_step a w) p (NormFine a w) 0 rows zero64
          (λ i x u. record { square = of_product _ _ (and_l (product_test fine false (at w (a + i)) (at w (a + i))) _ u); total = and_r (product_test fine false (at w (a + i)) (at w (a + i))) _ u }) (and_l s _ t);
      norm = and_r s _ t;
    }

pub test_right : (rows cols limit : ℕ) (w : Vec) → T (run_test fine false rows cols limit w) → RunFine rows cols limit w
unfolding run_test
test_right rows cols limit w t =
    record {
      swept = of_rounds (swept rows cols) ended (λ x. sweep_test fine false rows cols x.1) (λ x. SweepFine rows cols x.1) limit (going_after 0, w) (λ x. of_sweep rows cols x.1) (and_l s _ t);
      valued = λ z. of_along (normal_step rows cols) (column_test fine false rows) (ColumnFine rows) 0 cols (sweeps rows cols limit w).1 (of_column rows) (or_r (not (passed (sweeps rows cols limit w).0)) _ (and_r s _ t) (ap not z));
    }
  where
    s : Bool
    s = rounds_test (swept rows cols) ended (λ x. sweep_test fine false rows cols x.1) limit (going_after 0, w)
