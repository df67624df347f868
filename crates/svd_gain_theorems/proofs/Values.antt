-- The values, in two runs whose first factors differ by 2 ^ k: the norms differ by 2 ^ k, and a column that is divided by its norm is the same in both. Laws only.
-- A column whose norm is zero is all zeros, since no square of a nonzero number is zero, and so it is the same in both too.
use Rattle.leaves.specs.declared.Bad.{Bad}
use Rattle.std.specs.Prelude.{◌≡◌, Bool, true, false, cond, ◌||◌, T, ltb, pos, Float, set, take, drop, Option}
use Rattle.std.proofs.Math.Path.{refl, sym, subst}
use Rattle.std.proofs.Common.{ap, ap₂, ◌∙◌, true≢false, add-zero, add-mul, zero-mul, mul_comm, one-mul, arith, ltb-true, ltb-false, lt-ltb, le-ltb, get_or-set_other}
use Prim.Native.Nat.{ℕ, ◌+◌, ◌-◌, ◌*◌, ◌≤◌, ◌<◌}
use Rattle.std.specs.Float.{nan, binary64}
use Rattle.std.specs.Float.Ieee.{of_bits, fits, lt}
use Rattle.std.specs.Float.Ieee.Fits.{add-fits, mul-fits}
use Rattle.grid.specs.Loop.{upto}
use Rattle.grid.specs.LoopLaws.{upto_both}
use Rattle.grid.specs.Real.{Vec, at, zero64, ◌⊗◌, ◌⊘◌}
use Rattle.root.specs.Root.{root}
use Rattle.root.specs.Nearest.{counted}
use Rattle.answers.specs.Answers.{passed, marked}
use Rattle.answers.specs.declared.Answer.{Answer}
use Rattle.grid.specs.TableLaws.{row_end}
use Rattle.svd_jacobi_svd_tall.specs.Sweep.{value_at}
use Rattle.svd_jacobi_svd_tall.specs.Marks.{factors, factors_bad, all_bad}
use Rattle.svd_jacobi_svd_tall.specs.SingularValues.{norm_sq, divided, normal_step, normalised}
use Rattle.svd_jacobi_svd_tall.specs.SingularValuesSteps.{norm_step, divide_step}
use Rattle.svd_jacobi_svd_tall.specs.JacobiSvdTall.{sweeps, finished, jacobi}
use Rattle.svd_gain_theorems.specs.Scale.{is_zero, Scaled}
use Rattle.svd_gain_theorems.specs.Compare.{lt_scaled, zero_scaled}
use Rattle.svd_gain_theorems.proofs.Ops.{mul_scaled, add_scaled, div_same}
use Rattle.svd_gain_theorems.proofs.RootScaled.{root_scaled}
use Rattle.svd_gain_theorems.proofs.Plus.{square_plus, add_plus, root_above}
use Rattle.svd_gain_theorems.specs.Along.{Along}
use Rattle.svd_gain_theorems.specs.AlongLaws.{along_both}
use Rattle.svd_gain_theorems.specs.Alike.{Alike, under}
use Rattle.svd_gain_theorems.specs.AlikeLaws.{alike_put, alike_as, equally, powered}
use Rattle.svd_gain_theorems.specs.Fine.{NormFine, ColumnFine, ValuesFine, RunFine}
use Rattle.svd_gain_theorems.proofs.Turn.{zero_is, zero_fits}
use Rattle.svd_gain_theorems.specs.Found.{Match, match, match_take, match_drop, bad_same, both_same}
use Rattle.svd_gain_theorems.proofs.Sweep.{factors_same, Runs, sweeps_runs}

-- ---- the norm

record Totals (k : ℕ) (x y : Float) : Type 0 where
  by : Scaled k x y
  left : T (fits binary64 x)
  right : T (fits binary64 y)

norm_both : (k a rows : ℕ) (w v : Vec) → ((i : ℕ) → i < rows → Scaled k (at w (a + i)) (at v (a + i))) → Along (norm_step a w) (NormFine a w) 0 rows zero64
    → Along (norm_step a v) (NormFine a v) 0 rows zero64 → Totals (k + k) (norm_sq a rows w) (norm_sq a rows v)
unfolding norm_sq
norm_both k a rows w v p f g =
    along_both (λ j x y. Totals (k + k) x y) (norm_step a w) (norm_step a v) (NormFine a w) (NormFine a v) 0 rows zero64 zero64 (omega arith) f g turn
    (record { by = zero_is (k + k); left = zero_fits; right = zero_fits })
  where
    turn : (i : ℕ) (x y : Float) → 0 ≤ i → i < rows → NormFine a w i x → NormFine a v i y → Totals (k + k) x y → Totals (k + k) (norm_step a w i x) (norm_step a v i y)
    turn i x y _ l c d h =
        let u = at w (a + i) in
        record {
          by = add_scaled (k + k) x (u ⊗ u) h.by (mul_scaled k k u u (p i l) (p i l) c.square d.square) h.left (mul-fits binary64 u u) c.total d.total;
          left = add-fits binary64 x (u ⊗ u);
          right = add-fits binary64 y (at v (a + i) ⊗ at v (a + i));
        }

zero_plus : T (counted zero64)
unfolding of_bits
zero_plus = tt

-- where the squared norm is zero, so is every number of the column
record Zeros (a : ℕ) (w : Vec) (n : ℕ) (x : Float) : Type 0 where
  plus : T (counted x)
  held : T (fits binary64 x)
  all : is_zero x ≡ true → (i : ℕ) → i < n → is_zero (at w (a + i)) ≡ true

column_zero : (a rows : ℕ) (w : Vec) → Along (norm_step a w) (NormFine a w) 0 rows zero64 → Zeros a w rows (norm_sq a rows w)
unfolding norm_sq
column_zero a rows w f =
    along_both (λ j x y. Zeros a w j x) (norm_step a w) (norm_step a w) (NormFine a w) (NormFine a w) 0 rows zero64 zero64 (omega arith) f f turn
    (record { plus = zero_plus; held = zero_fits; all = λ z i l. absurd (omega arith) })
  where
    same : (b : Bool) → (b || b) ≡ true → b ≡ true
    same true e = refl
    same false e = e

    last : (j : ℕ) (x : Float) → NormFine a w j x → (is_zero x ≡ true → (i : ℕ) → i < j → is_zero (at w (a + i)) ≡ true)
        → (is_zero x ≡ true) × (is_zero (at w (a + j) ⊗ at w (a + j)) ≡ true) → (i : ℕ) → i < j + 1 → (b : Bool) → ltb i j ≡ b → is_zero (at w (a + i)) ≡ true
    last j x c h z i m true e = h z.0 i (ltb-true i j e)
    last j x c h z i m false e =
        let o : i ≡ j = omega (arith, ltb-false i j e) in
        rw o (same (is_zero (at w (a + j))) (c.square.zeros z.1))

    turn : (j : ℕ) (x y : Float) → 0 ≤ j → j < rows → NormFine a w j x → NormFine a w j y → Zeros a w j x → Zeros a w (j + 1) (norm_step a w j x)
    turn j x y _ l c d h =
        let u = at w (a + j) in
        let s = add_plus x (u ⊗ u) h.plus (square_plus u c.square.good) h.held (mul-fits binary64 u u) c.total in
        record { plus = s.0; held = add-fits binary64 x (u ⊗ u); all = λ z i m. last j x c h.all (s.1 z) i m (ltb i j) refl }

-- ---- which power stands where, with the columns up to index b divided and t values stored

abbrev pub powers : ℕ → ℕ → ℕ → ℕ → ℕ → ℕ → ℕ
powers k n base b t i = cond (ltb i b) 0 (cond (ltb i n) k (cond (ltb i base) 0 (cond (ltb i (base + t)) k 0)))

-- the same in the work array of a matrix with so many rows and columns: u, then v, then the values
abbrev pub stage : ℕ → ℕ → ℕ → ℕ → ℕ → ℕ → ℕ
stage k rows cols b t = powers k (rows * cols) (rows * cols + cols * cols) b t

ltb_next : (i b c : ℕ) → c ≡ b + 1 → (i ≡ b → ⊥) → ltb i c ≡ ltb i b
ltb_next i b c e o = go (ltb i b) refl
  where
    go : (x : Bool) → ltb i b ≡ x → ltb i c ≡ ltb i b
    go true g = lt-ltb i c (omega (arith, ltb-true i b g)) ∙ sym g
    go false g = le-ltb i c (omega (arith, ltb-false i b g, o)) ∙ sym g

powers_start : (k n base i : ℕ) → powers k n base 0 0 i ≡ under k n i
powers_start k n base i = rw (le-ltb i 0 (omega arith), add-zero base) (ap (cond (ltb i n) k) (none (ltb i base)))
  where
    none : (b : Bool) → cond b 0 (cond b k 0) ≡ 0
    none true = refl
    none false = refl

powers_put : (k n base b t i : ℕ) → (i ≡ base + t → ⊥) → powers k n base b (t + 1) i ≡ powers k n base b t i
powers_put k n base b t i o = rw (ltb_next i (base + t) (base + (t + 1)) (omega arith) o)

powers_value : (k n base b t : ℕ) → b ≤ n → n ≤ base → powers k n base b (t + 1) (base + t) ≡ k
powers_value k n base b t p q =
    rw (le-ltb (base + t) b (omega arith), le-ltb (base + t) n (omega arith), le-ltb (base + t) base (omega arith), lt-ltb (base + t) (base + (t + 1)) (omega arith))

powers_in : (k n base b t i : ℕ) → b ≤ i → i < n → powers k n base b t i ≡ k
powers_in k n base b t i p q = rw (le-ltb i b p, lt-ltb i n q)

powers_done : (k n base b t i : ℕ) → i < b → powers k n base b t i ≡ 0
powers_done k n base b t i p = rw (lt-ltb i b p)

powers_next : (k n base b c t i : ℕ) → c ≡ b + 1 → (i ≡ b → ⊥) → powers k n base c t i ≡ powers k n base b t i
powers_next k n base b c t i e o = rw (ltb_next i b c e o)

-- ---- the division

divided_alike : (k n base a rows t : ℕ) (x : Float) {y : Float} (w v : Vec) → a + rows ≤ n → Scaled k x y → Alike (powers k n base a t) w v
    → Alike (powers k n base (a + rows) t) (divided a rows x w) (divided a rows y v)
unfolding divided
divided_alike k n base a rows t x {y} w v m e h =
    upto_both (λ i p q. Alike (powers k n base (a + i) t) p q) (divide_step a x) (divide_step a y) 0 rows w v (omega arith) turn (rw add-zero h)
  where
    turn : (i : ℕ) (p q : Vec) → 0 ≤ i → i < rows → Alike (powers k n base (a + i) t) p q → Alike (powers k n base (a + (i + 1)) t) (divide_step a x i p) (divide_step a y i q)
    turn i p q _ l g =
        let u = at p (a + i) in
        let by : Scaled k u (at q (a + i)) = powered u (powers_in k n base (a + i) t (a + i) (omega arith) (omega arith)) (g.each (a + i)) in
        alike_put (powers k n base (a + i) t) (powers k n base (a + (i + 1)) t) p q (a + i) (u ⊘ x)
        (λ j o. powers_next k n base (a + i) (a + (i + 1)) t j (omega arith) o) g
        (equally (u ⊘ x) (powers k n base (a + (i + 1)) t (a + i)) (powers_done k n base (a + (i + 1)) t (a + i) (omega arith)) (div_same k u x by e))

-- zeros are the same without it
zeros_alike : (k n base a rows t : ℕ) (w v : Vec) → ((i : ℕ) → i < rows → is_zero (at w (a + i)) ≡ true) → Alike (powers k n base a t) w v
    → Alike (powers k n base (a + rows) t) w v
zeros_alike k n base a rows t w v z = alike_as (powers k n base a t) (powers k n base (a + rows) t) w v (λ i e. go i e (ltb i a) refl (ltb i (a + rows)) refl)
  where
    go : (i : ℕ) → Scaled (powers k n base a t i) (at w i) (at v i) → (b : Bool) → ltb i a ≡ b → (c : Bool) → ltb i (a + rows) ≡ c
        → Scaled (powers k n base (a + rows) t i) (at w i) (at v i)
    go i e true p true q = powered (at w i) (powers_done k n base a t i (ltb-true i a p) ∙ sym (powers_done k n base (a + rows) t i (ltb-true i (a + rows) q))) e
    go i e true p false q = absurd (omega (arith, ltb-true i a p, ltb-false i (a + rows) q))
    go i e false p true q =
        let l : a ≤ i = ltb-false i a p in
        let m : i < a + rows = ltb-true i (a + rows) q in
        let o : a + (i - a) ≡ i = omega arith in
        let zero : is_zero (at w i) ≡ true = subst (λ (j : ℕ). is_zero (at w j) ≡ true) o (z (i - a) (omega arith)) in
        equally (at w i) (powers k n base (a + rows) t i) (powers_done k n base (a + rows) t i m) (e ∙ zero_scaled (pos (powers k n base a t i)) (at w i) zero)
    go i e false p false q = powered (at w i) (rw (p, q)) e

-- ---- one column

module _ (k rows cols : ℕ) where
  column_alike : (j : ℕ) (w v : Vec) → j < cols → ColumnFine rows j w → ColumnFine rows j v
      → Alike (stage k rows cols (j * rows) j) w v
      → Alike (stage k rows cols ((j + 1) * rows) (j + 1)) (normal_step rows cols j w) (normal_step rows cols j v)
  unfolding normal_step
  column_alike j w v J f g h = go (lt zero64 x) refl
    where
      a : ℕ
      a = j * rows

      ends : a + rows ≤ rows * cols
      ends = subst (λ (n : ℕ). a + rows ≤ n) (mul_comm cols rows) (row_end cols rows j J)

      x : Float
      x = root (norm_sq a rows w)

      y : Float
      y = root (norm_sq a rows v)

      inside : (i : ℕ) → i < rows → Scaled k (at w (a + i)) (at v (a + i))
      inside i l = powered (at w (a + i)) (powers_in k (rows * cols) (rows * cols + cols * cols) a j (a + i) (omega arith) (omega (arith, ends))) (h.each (a + i))

      totals : Totals (k + k) (norm_sq a rows w) (norm_sq a rows v)
      totals = norm_both k a rows w v inside f.squares g.squares

      norms : Scaled k x y
      norms = root_scaled k (norm_sq a rows w) totals.by totals.left totals.right f.norm g.norm

      above : lt zero64 y ≡ lt zero64 x
      above = ap₂ lt (zero_is k) norms ∙ lt_scaled k zero64 x

      w1 : Vec
      w1 = set w (value_at rows cols j) x

      v1 : Vec
      v1 = set v (value_at rows cols j) y

      stored : Alike (stage k rows cols a (j + 1)) w1 v1
      stored =
          alike_put (stage k rows cols a j) (stage k rows cols a (j + 1)) w v (value_at rows cols j) x
          (λ i o. powers_put k (rows * cols) (rows * cols + cols * cols) a j i o) h
          (powered x (sym (powers_value k (rows * cols) (rows * cols + cols * cols) a j (omega (arith, ends)) (omega arith))) norms)

      next : (p q : Vec) → Alike (stage k rows cols (a + rows) (j + 1)) p q
          → Alike (stage k rows cols ((j + 1) * rows) (j + 1)) p q
      next p q =
          subst (λ (b : ℕ). Alike (stage k rows cols b (j + 1)) p q) (ap (λ (r : ℕ). j * rows + r) (sym (one-mul rows)) ∙ sym (add-mul j 1 rows))

      go : (b : Bool) → lt zero64 x ≡ b
          → Alike (stage k rows cols ((j + 1) * rows) (j + 1)) (cond (lt zero64 x) (divided a rows x w1) w1) (cond (lt zero64 y) (divided a rows y v1) v1)
      go true e = rw (above, e) (next _ _ (divided_alike k (rows * cols) (rows * cols + cols * cols) a rows (j + 1) x w1 v1 ends norms stored))
      go false e = rw (above, e) (next _ _ (zeros_alike k (rows * cols) (rows * cols + cols * cols) a rows (j + 1) w1 v1 zero stored))
        where
          zero : (i : ℕ) → i < rows → is_zero (at w1 (a + i)) ≡ true
          zero i l =
              ap is_zero (get_or-set_other w (value_at rows cols j) (a + i) x nan (λ o. omega (arith, ends, o)))
              ∙ (column_zero a rows w f.squares).all (root_above (norm_sq a rows w) totals.left f.norm e) i l

  -- ---- all columns

  normalised_alike : (w v : Vec) → ValuesFine rows cols w → ValuesFine rows cols v → Alike (under k (rows * cols)) w v
      → Alike (stage k rows cols (rows * cols) cols) (normalised rows cols w) (normalised rows cols v)
  unfolding normalised
  normalised_alike w v f g h =
      subst (λ (b : ℕ). Alike (stage k rows cols b cols) (upto (normal_step rows cols) 0 cols w) (upto (normal_step rows cols) 0 cols v)) (mul_comm cols rows)
      (along_both (λ j x y. Alike (stage k rows cols (j * rows) j) x y) (normal_step rows cols) (normal_step rows cols) (ColumnFine rows) (ColumnFine rows) 0 cols w v (omega arith) f g
      (λ j x y _ J c d e. column_alike j x y J c d e)
      (alike_as (under k (rows * cols)) (stage k rows cols (0 * rows) 0) w v (λ i e. powered (at w i) (start i) e) h))
    where
      start : (i : ℕ) → under k (rows * cols) i ≡ stage k rows cols (0 * rows) 0 i
      start i = sym (ap (λ (b : ℕ). stage k rows cols b 0 i) (zero-mul rows) ∙ powers_start k (rows * cols) (rows * cols + cols * cols) i)

  -- ---- the run

  all_same : (w v : Vec) → Match w v → all_bad rows cols v ≡ all_bad rows cols w
  unfolding all_bad factors_bad
  all_same w v h =
      let m = match_take cols (drop (value_at rows cols 0) w) (drop (value_at rows cols 0) v) (match_drop (value_at rows cols 0) w v h) in
      both_same (take cols (drop (value_at rows cols 0) w)) (factors rows cols w) (take cols (drop (value_at rows cols 0) v)) (factors rows cols v)
      m.long (bad_same _ _ m) (factors_same rows cols w v h)

  -- the four numbers agree; and where the answer is 0 both factors are the same, and the values differ by 2 ^ k
  pub record Ends (x y : Answer × Vec) : Type 0 where
    pub answers : y.0 ≡ x.0
    pub worked : passed x.0 ≡ true → Alike (stage k rows cols (rows * cols) cols) x.1 y.1

  pub jacobi_gain : (limit : ℕ) (w v : Vec) → RunFine rows cols limit w → RunFine rows cols limit v → Alike (under k (rows * cols)) w v
      → Ends (jacobi rows cols limit w) (jacobi rows cols limit v)
  unfolding jacobi finished
  jacobi_gain limit w v f g h = go (passed x.0) refl
    where
      x : Answer × Vec
      x = sweeps rows cols limit w

      y : Answer × Vec
      y = sweeps rows cols limit v

      runs : Runs k (rows * cols) x y
      runs = sweeps_runs k rows cols limit w v f.swept g.swept h

      ends : passed y.0 ≡ passed x.0
      ends = ap passed runs.answers

      done : Answer × Vec → Answer × Vec
      done z =
          let u = normalised rows cols z.1 in
          (marked 2 z.0.count (all_bad rows cols u), u)

      go : (b : Bool) → passed x.0 ≡ b → Ends (cond (passed x.0) (done x) x) (cond (passed y.0) (done y) y)
      go true e =
          let both = normalised_alike x.1 y.1 (f.valued e) (g.valued (ends ∙ e)) runs.both in
          rw (ends, e)
          (record {
            answers =
                ap₂ (λ (b : Option Bad) (a : Answer). marked 2 a.count b)
                (all_same _ _ (match (stage k rows cols (rows * cols) cols) _ _ both)) runs.answers;
            worked = λ _. both;
          })
      go false e = rw (ends, e) (record { answers = runs.answers; worked = λ p. absurd (true≢false (sym p ∙ e)) })
