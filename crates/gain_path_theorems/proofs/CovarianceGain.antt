-- **covariance_gain**: `covariance` of samples and of 2 ^ k times them. Laws only.
use Rattle.std.specs.Prelude.{◌≡◌, Bool, true, false, cond, List, [], ◌∷◌, ◌++◌, map, ltb, ℤ, neg_ℤ, ◌-ℤ◌, Float, length, get_or, drop}
use Rattle.std.proofs.Math.Path.{refl, sym, ap, ap₂}
use Rattle.std.proofs.Common.{◌∙◌, subst, subst₂, true≢false, inl, inr, pow-add, pow_pos, get_or-take, get_or-drop}
use Rattle.std.proofs.lemmas.List.{map-append, length-map}
use Prim.Native.Nat.{ℕ, zero, suc, ◌+◌, ◌-◌, ◌*◌, ◌/◌, ◌%◌, ◌^◌, ◌≤◌, ◌<◌}
use Rattle.std.proofs.Math.Nat.{one-mul, mul-le-mul_right}
use native.Mathlib.Omega.{arith}
use borrow.Author.Tests.{ltb-true, ltb-false, lt-ltb, eqb-false}
use Rattle.std.proofs.Math.IntN.{pos, nat_abs, ◌+ℤ◌, ◌*ℤ◌, *ℤ-zero}
use Rattle.std.specs.Float.Ieee.{binary64, of_int}
use Rattle.std.proofs.Math.ListN.{get_or-map}
use Rattle.grid.specs.Loop.{first, seek}
use Rattle.grid.specs.LoopLaws.{upto_keeps}
use Rattle.grid.specs.Real.{Vec}
use Rattle.grid.specs.Table.{table}
use Rattle.grid.specs.TableLaws.{table_same}
use Rattle.answers.specs.Answers.{passed, refused, done, emptied}
use Rattle.answers.specs.declared.Answer.{Answer}
use Rattle.covariance.specs.SampleSums.{sample_at, total, products}
use Rattle.covariance.specs.MatrixEntries.{band, whole, cell_at, first_over, matrix_of, computed}
use Rattle.covariance.specs.Covariance.{cov_checks, covariance}
use Rattle.covariance.specs.ChecksLaws.{few}
use Rattle.covariance.specs.Over53.{over}
use Rattle.covariance_theorems.specs.ExactEntries.{Untouched}
use Rattle.covariance_theorems.specs.ExactEntriesLaws.{before_first, small_enough}
use Rattle.svd_gain_theorems.specs.Scale.{scale}
use Rattle.gain_path_theorems.specs.Wholes.{times_sum, times_product, times_both, times_size, times_neg, four_power, of_int_louder}
use Rattle.gain_path_theorems.specs.CovarianceGained.{louder, CovarianceGained}

-- ---- the whole numbers

module _ (k : ℕ) (samples : List ℤ) where
  -- sample i of band x
  sample : (N x i : ℕ) → i < N → sample_at (band (louder k samples) N x) i ≡ pos (2 ^ k) *ℤ sample_at (band samples N x) i
  sample N x i h =
      let f : ℤ → ℤ = λ z. pos (2 ^ k) *ℤ z in
      get_or-take N (drop (x * N) (map f samples)) i (pos 0) h
      ∙ get_or-drop (x * N) (map f samples) i (pos 0)
      ∙ ap (get_or (map f samples) (x * N + i)) (sym (*ℤ-zero (pos (2 ^ k))))
      ∙ get_or-map f samples (x * N + i) (pos 0)
      ∙ ap f (sym (get_or-take N (drop (x * N) samples) i (pos 0) h ∙ get_or-drop (x * N) samples i (pos 0)))

  total_louder : (N x : ℕ) → total N (band (louder k samples) N x) ≡ pos (2 ^ k) *ℤ total N (band samples N x)
  unfolding total
  total_louder N x =
      upto_keeps (λ s t. t ≡ pos (2 ^ k) *ℤ s) (λ i s. s +ℤ sample_at (band samples N x) i) (λ i s. s +ℤ sample_at (band (louder k samples) N x) i) 0 N (pos 0) (pos 0)
      (λ i s t l m e. ap₂ ◌+ℤ◌ e (sample N x i m) ∙ sym (times_sum (2 ^ k) s (sample_at (band samples N x) i))) (sym (*ℤ-zero (pos (2 ^ k))))

  products_louder : (N x y : ℕ) → products N (band (louder k samples) N x) (band (louder k samples) N y) ≡ pos (2 ^ k * 2 ^ k) *ℤ products N (band samples N x) (band samples N y)
  unfolding products
  products_louder N x y =
      upto_keeps (λ s t. t ≡ pos (2 ^ k * 2 ^ k) *ℤ s) (λ i s. s +ℤ sample_at (band samples N x) i *ℤ sample_at (band samples N y) i)
      (λ i s. s +ℤ sample_at (band (louder k samples) N x) i *ℤ sample_at (band (louder k samples) N y) i) 0 N (pos 0) (pos 0)
      (λ i s t l m e.
      ap₂ ◌+ℤ◌ e (ap₂ ◌*ℤ◌ (sample N x i m) (sample N y i m) ∙ times_both (2 ^ k) (sample_at (band samples N x) i) (sample_at (band samples N y) i))
      ∙ sym (times_sum (2 ^ k * 2 ^ k) s (sample_at (band samples N x) i *ℤ sample_at (band samples N y) i)))
      (sym (*ℤ-zero (pos (2 ^ k * 2 ^ k))))

  whole_louder : (N x y : ℕ) → whole (louder k samples) N x y ≡ pos (2 ^ (k + k)) *ℤ whole samples N x y
  unfolding whole
  whole_louder N x y =
      let p = products N (band samples N x) (band samples N y) in
      let a = total N (band samples N x) in
      let b = total N (band samples N y) in
      let C = 2 ^ k * 2 ^ k in
      ap₂ (λ (u v : ℤ). pos N *ℤ u -ℤ v) (products_louder N x y) (ap₂ ◌*ℤ◌ (total_louder N x) (total_louder N y) ∙ times_both (2 ^ k) a b)
      ∙ ap₂ (λ (u v : ℤ). u +ℤ v) (out N C p) (sym (times_neg C (a *ℤ b)))
      ∙ sym (times_sum C (pos N *ℤ p) (neg_ℤ (a *ℤ b)))
      ∙ ap (λ (n : ℕ). pos n *ℤ (pos N *ℤ p -ℤ a *ℤ b)) (sym (pow-add 2 k k))
    where
      out : (N C : ℕ) (p : ℤ) → pos N *ℤ (pos C *ℤ p) ≡ pos C *ℤ (pos N *ℤ p)
      out N C p = times_product N (pos C) p ∙ ap (λ (n : ℕ). pos n *ℤ p) (turn N C) ∙ sym (times_product C (pos N) p)
        where
          turn : (N C : ℕ) → N * C ≡ C * N
          turn N C = omega arith

  -- ---- which is over 2 ^ 53

  over_louder : (N x y : ℕ) → over (whole samples N x y) ≡ true → over (whole (louder k samples) N x y) ≡ true
  unfolding over
  over_louder N x y h =
      let z = whole samples N x y in
      let l : 0x20_0000_0000_0000 < nat_abs z = ltb-true 0x20_0000_0000_0000 (nat_abs z) h in
      let g : 1 * nat_abs z ≤ 2 ^ (k + k) * nat_abs z = mul-le-mul_right (nat_abs z) (pow_pos (k + k)) in
      let e : nat_abs (whole (louder k samples) N x y) ≡ 2 ^ (k + k) * nat_abs z = ap nat_abs (whole_louder N x y) ∙ times_size (2 ^ (k + k)) z in
      lt-ltb 0x20_0000_0000_0000 (nat_abs (whole (louder k samples) N x y)) (omega (arith, one-mul (nat_abs z)))

-- a test that holds where another does is met no later
seek_from : (p : ℕ → Bool) (a m : ℕ) → a ≤ seek p a m
unfolding seek
seek_from p a zero = omega arith
seek_from p a (suc m) = go (p a) (seek_from p (a + 1) m)
  where
    go : (b : Bool) → a + 1 ≤ seek p (a + 1) m → a ≤ cond b a (seek p (a + 1) m)
    go true h = omega arith
    go false h = omega arith

seek_sooner : (p q : ℕ → Bool) → ((i : ℕ) → p i ≡ true → q i ≡ true) → (a m : ℕ) → seek q a m ≤ seek p a m
unfolding seek
seek_sooner p q h a zero = omega arith
seek_sooner p q h a (suc m) = go (p a) refl (q a) refl (seek_from p (a + 1) m) (seek_sooner p q h (a + 1) m)
  where
    go : (b : Bool) → p a ≡ b → (d : Bool) → q a ≡ d → a + 1 ≤ seek p (a + 1) m → seek q (a + 1) m ≤ seek p (a + 1) m → cond (q a) a (seek q (a + 1) m) ≤ cond (p a) a (seek p (a + 1) m)
    go true e true g l ih = rw (e, g) (omega arith)
    go true e false g l ih = absurd (true≢false (sym (h a e) ∙ g))
    go false e true g l ih = rw (e, g) (omega arith)
    go false e false g l ih = rw (e, g) ih

-- ---- what comes of the checks, and behind them

-- 0 and 26 are no refusals that leave the matrix as it was
none_at_0 : Untouched (done 0) → ⊥
none_at_0 u = elim u [ inl f ↦ omega arith | inr e ↦ omega arith ]

none_at_26 : (i : ℕ) → Untouched (refused 26 i) → ⊥
none_at_26 i u = elim u [ inl f ↦ omega arith | inr e ↦ omega arith ]

checked : (k : ℕ) (c c' : Answer) (x y : Answer × Vec) (m m' : Vec) → c' ≡ c → (c.answer ≡ 26 → ⊥) → CovarianceGained k x y
    → CovarianceGained k (cond (passed c) x (c, m)) (cond (passed c') y (c', m'))
checked k c c' x y m m' p few h = go (passed c) refl
  where
    go : (b : Bool) → passed c ≡ b → CovarianceGained k (cond (passed c) x (c, m)) (cond (passed c') y (c', m'))
    go true e = rw (ap passed p, e) h
    go false e =
        rw (ap passed p, e)
        (record {
          entries = λ z. absurd (eqb-false c.answer 0 e (sym (ap (λ (a : Answer). a.answer) p) ∙ z));
          over = λ z. absurd (few z);
          refused = λ u. p;
        })

worked : (k S i j : ℕ) (v w m m' : Vec) → j ≤ i → (S ≤ j → w ≡ map (scale (pos (k + k))) v)
    → CovarianceGained k (cond (ltb i S) (emptied (refused 26 i) m) (done 0, v)) (cond (ltb j S) (emptied (refused 26 j) m') (done 0, w))
worked k S i j v w m m' l h = go (ltb i S) refl (ltb j S) refl
  where
    go : (b : Bool) → ltb i S ≡ b → (d : Bool) → ltb j S ≡ d
        → CovarianceGained k (cond (ltb i S) (emptied (refused 26 i) m) (done 0, v)) (cond (ltb j S) (emptied (refused 26 j) m') (done 0, w))
    go true e true f = rw (e, f) (record { entries = λ z. absurd (omega arith); over = λ z. (refl, l); refused = λ u. absurd (none_at_26 i u) })
    go true e false f =
        let p : i < S = ltb-true i S e in
        let q : S ≤ j = ltb-false j S f in
        absurd (omega arith)
    go false e true f = rw (e, f) (record { entries = λ z. absurd (omega arith); over = λ z. absurd (omega arith); refused = λ u. absurd (none_at_0 u) })
    go false e false f = rw (e, f) (record { entries = λ z. (refl, h (ltb-false j S f)); over = λ z. absurd (omega arith); refused = λ u. absurd (none_at_0 u) })

module _ (k n N : ℕ) (samples : List ℤ) where
  first_louder : first_over n N (louder k samples) ≤ first_over n N samples
  unfolding first_over first
  first_louder =
      seek_sooner (λ i. over (cell_at n N samples i)) (λ i. over (cell_at n N (louder k samples) i)) (λ i h. over_louder k samples N (i / n) (i % n) h) 0 (n * n - 0)

  -- ---- the matrix

  table_map : (g : Float → Float) (f : ℕ → Float) (m : ℕ) → table (λ i. g (f i)) m ≡ map g (table f m)
  unfolding table
  table_map g f zero = refl
  table_map g f (suc m) = ap (λ (v : Vec). v ++ (g (f m) ∷ [])) (table_map g f m) ∙ sym (map-append g (table f m) (f m ∷ []))

  matrix_louder : n * n ≤ first_over n N (louder k samples) → matrix_of n N (louder k samples) ≡ map (scale (pos (k + k))) (matrix_of n N samples)
  unfolding matrix_of
  matrix_louder h =
      table_same (λ i. of_int binary64 (cell_at n N (louder k samples) i)) (λ i. scale (pos (k + k)) (of_int binary64 (cell_at n N samples i))) (n * n)
      (λ i l.
      let e : cell_at n N (louder k samples) i ≡ pos (2 ^ (k + k)) *ℤ cell_at n N samples i = whole_louder k samples N (i / n) (i % n) in
      ap (of_int binary64) e
      ∙ of_int_louder (k + k) (cell_at n N samples i)
      (subst (λ (z : ℤ). nat_abs z ≤ 2 ^ 53) e (small_enough (cell_at n N (louder k samples) i) (before_first n N (louder k samples) i (omega arith))))
      (small_enough (cell_at n N samples i) (before_first n N samples i (omega (arith, first_louder)))))
      ∙ table_map (scale (pos (k + k))) (λ i. of_int binary64 (cell_at n N samples i)) (n * n)

  -- ---- the two calls

  both_calls : (m m' : Vec) → length m' ≡ length m → CovarianceGained k (covariance n N samples m) (covariance n N (louder k samples) m')
  unfolding covariance computed
  both_calls m m' long =
      checked k (cov_checks n N (length samples) (length m)) (cov_checks n N (length (louder k samples)) (length m')) (computed n N samples m) (computed n N (louder k samples) m') m m'
      (rw (length-map samples (λ z. pos (2 ^ k) *ℤ z), long)) (few n N (length samples) (length m))
      (worked k (n * n) (first_over n N samples) (first_over n N (louder k samples)) (matrix_of n N samples) (matrix_of n N (louder k samples)) m m' first_louder matrix_louder)

-- each whole number is 4 ^ k times as large, exactly
pub covariance_gain_whole : (k : ℕ) (samples : List ℤ) (N x y : ℕ) → whole (louder k samples) N x y ≡ pos (4 ^ k) *ℤ whole samples N x y
covariance_gain_whole k samples N x y = whole_louder k samples N x y ∙ ap (λ (c : ℕ). pos c *ℤ whole samples N x y) (sym (four_power k))

-- **covariance_gain**: x and y are what two calls came back with that meet covariance's promise
pub covariance_gain : (k n N : ℕ) (samples : List ℤ) (m m' : Vec) (x y : Answer × Vec) → length m' ≡ length m
    → x ≡ covariance n N samples m → y ≡ covariance n N (louder k samples) m' → CovarianceGained k x y
covariance_gain k n N samples m m' x y long p q = subst₂ (CovarianceGained k) (sym p) (sym q) (both_calls k n N samples m m' long)
