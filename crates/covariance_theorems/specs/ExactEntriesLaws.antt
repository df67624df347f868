-- **symmetric**, **exact**: on 0 the matrix is the same bits on both sides of the diagonal, and each entry is the very whole number, with no rounding; and where 26 points. Laws only.
use Rattle.std.specs.Prelude.{◌≡◌, Bool, true, cond, List, ℕ, zero, suc, ◌+◌, ◌*◌, ◌-◌, ◌/◌, ◌%◌, ◌≤◌, ◌<◌, ltb, eqb, ℤ, pos, negsuc, nat_abs, Float}
use Rattle.std.proofs.Math.Path.{refl, ap, subst}
use Rattle.std.proofs.Common.{sym, ◌∙◌, true≢false, div-lt_iff_lt-mul, mod-lt, div-add-mod', arith, ltb-true, ltb-false, eqb-true}
use Rattle.std.proofs.Math.Bool.{false}
use Rattle.std.proofs.lemmas.Bool.{eqb-false}
use Rattle.std.specs.Float.Ieee.{binary64, of_int}
use Rattle.std.specs.Float.{nan, inf, fin}
use Rattle.std.specs.Float.Ieee.Back.{round_whole}
use Rattle.std.proofs.Math.ListN.{length}
use Rattle.grid.specs.Loop.{first, seek}
use Rattle.grid.specs.Real.{Vec, at}
use Rattle.grid.specs.Cell.{entry}
use Rattle.grid.specs.CellLaws.{cell}
use Rattle.grid.specs.TableLaws.{at_table, length_table, row_end}
use Rattle.leaves.specs.Leaf.{is_finite}
use Rattle.leaves.specs.Finite.{Finite}
use Rattle.answers.specs.declared.Answer.{Answer}
use Rattle.covariance.specs.MatrixEntries.{whole, cell_at}
use Rattle.covariance.specs.MatrixEntries.{first_over, matrix_of, computed}
use Rattle.covariance.specs.Covariance.{cov_checks, covariance}
use Rattle.covariance.specs.Over53.{over}
use Rattle.covariance_theorems.specs.ExactEntries.{Stands, Exactly, FirstOver}
use Rattle.covariance.specs.ChecksLaws.{Sizes, checked, few}
use Rattle.covariance.specs.SwappedEntries.{whole_swap, cell_is}

-- ---- the first entry over 2^53, and none before it

seek_before : (p : ℕ → Bool) (a m k : ℕ) → a ≤ k → k < seek p a m → p k ≡ false
unfolding seek
seek_before p a zero k h g = absurd (omega arith)
seek_before p a (suc m) k h g = go (p a) refl (λ i j. seek_before p (a + 1) m k i j)
  where
    later : (c : Bool) → ltb a k ≡ c → p a ≡ false → (a + 1 ≤ k → p k ≡ false) → p k ≡ false
    later true f e ih = let f' : a < k = ltb-true a k f in ih (omega arith)
    later false f e ih =
        let f' : k ≤ a = ltb-false a k f in
        let q : k ≡ a = omega arith in
        rw q e

    go : (b : Bool) → p a ≡ b → (a + 1 ≤ k → k < seek p (a + 1) m → p k ≡ false) → p k ≡ false
    go true e ih = let g' : k < a = rw e at g in absurd (omega arith)
    go false e ih = later (ltb a k) refl e (λ i. ih i (rw e at g))

seek_at : (p : ℕ → Bool) (a m : ℕ) → seek p a m < a + m → p (seek p a m) ≡ true
unfolding seek
seek_at p a zero l = absurd (omega arith)
seek_at p a (suc m) l = go (p a) refl (λ i. seek_at p (a + 1) m i)
  where
    go : (b : Bool) → p a ≡ b → (seek p (a + 1) m < a + 1 + m → p (seek p (a + 1) m) ≡ true) → p (cond (p a) a (seek p (a + 1) m)) ≡ true
    go true e ih = rw e e
    go false e ih = let l' : seek p (a + 1) m < a + suc m = rw e at l in rw e (ih (omega arith))

module _ (n N : ℕ) (samples : List ℤ) where
  pub before_first : (k : ℕ) → k < first_over n N samples → over (cell_at n N samples k) ≡ false
  unfolding first_over first
  before_first k g = seek_before (λ k. over (cell_at n N samples k)) 0 (n * n - 0) k (omega arith) g

  at_first : first_over n N samples < n * n → over (cell_at n N samples (first_over n N samples)) ≡ true
  unfolding first_over first
  at_first h = seek_at (λ k. over (cell_at n N samples k)) 0 (n * n - 0) (omega arith)

  -- below the diagonal the mirror image of the first stands before it, and would be over too
  on_or_above : (k : ℕ) → k < n * n → k ≡ first_over n N samples → k / n ≤ k % n
  on_or_above k l e = go (ltb (k % n) (k / n)) refl
    where
      rows : (n : ℕ) → k < n * n → (k / n < n) × (k % n < n)
      rows zero h = absurd (omega arith)
      rows (suc m) h = ((div-lt_iff_lt-mul {k = suc m} {x = k} {y = suc m} (omega arith)).1 h, mod-lt k (omega arith))

      go : (b : Bool) → ltb (k % n) (k / n) ≡ b → k / n ≤ k % n
      go false f = ltb-false (k % n) (k / n) f
      go true f =
          let h : k % n < k / n = ltb-true (k % n) (k / n) f in
          let r : k / n < n = (rows n l).0 in
          let b : k % n * n + k / n < k = omega (arith, row_end (k / n) n (k % n) h, div-add-mod' k n) in
          let o : over (whole samples N (k % n) (k / n)) ≡ false = ap over (sym (cell_is n N samples (k % n) (k / n) r)) ∙ before_first (k % n * n + k / n) (subst (λ (j : ℕ). k % n * n + k / n < j) e b) in
          let s : over (whole samples N (k / n) (k % n)) ≡ true = subst (λ (j : ℕ). over (cell_at n N samples j) ≡ true) (sym e) (at_first (subst (λ (j : ℕ). j < n * n) e l)) in
          absurd (true≢false (sym s ∙ ap over (whole_swap samples N (k / n) (k % n)) ∙ o))

  -- ---- an entry as a float

  entry_is : (x y : ℕ) → x < n → y < n → entry (matrix_of n N samples) n x y ≡ of_int binary64 (whole samples N x y)
  unfolding matrix_of
  entry_is x y h g =
      at_table (λ k. of_int binary64 (cell_at n N samples k)) (n * n) (x * n + y) (cell n n x y h g) ∙ ap (of_int binary64) (cell_is n N samples x y g)

pub small_enough : (z : ℤ) → over z ≡ false → nat_abs z ≤ 0x20_0000_0000_0000
unfolding over
small_enough z h = ltb-false 0x20_0000_0000_0000 (nat_abs z) h

pub stands : (z : ℤ) → over z ≡ false → Stands (of_int binary64 z) z
unfolding of_int
stands (pos m) h = round_whole binary64 false m (small_enough (pos m) h)
stands (negsuc m) h = round_whole binary64 true (suc m) (small_enough (negsuc m) h)

pub stands_finite : (x : Float) (z : ℤ) → Stands x z → is_finite x ≡ true
unfolding is_finite
stands_finite nan (pos m) h = absurd h
stands_finite nan (negsuc m) h = absurd h
stands_finite (inf s) (pos m) h = absurd h
stands_finite (inf s) (negsuc m) h = absurd h
stands_finite (fin s m e) z h = refl

-- ---- an outcome

module _ (n N : ℕ) (samples : List ℤ) (m : Vec) where
  -- where the answer is 0, the checks pass, no entry is over, and the matrix is there
  pub done_is : (covariance n N samples m).0.answer ≡ 0
      → ((covariance n N samples m).1 ≡ matrix_of n N samples) × (n * n ≤ first_over n N samples) × Sizes n N (length samples) (length m)
  unfolding covariance computed
  done_is h = go (eqb check.answer 0) refl (ltb (first_over n N samples) (n * n)) refl
    where
      check : Answer
      check = cov_checks n N (length samples) (length m)

      refusal : ◌≡◌ {A = ℕ} 26 0 → ⊥
      refusal q = omega arith

      go : (a : Bool) → eqb check.answer 0 ≡ a → (b : Bool) → ltb (first_over n N samples) (n * n) ≡ b
          → ((covariance n N samples m).1 ≡ matrix_of n N samples) × (n * n ≤ first_over n N samples) × Sizes n N (length samples) (length m)
      go true e true f = absurd (refusal (rw (e, f) at h))
      go true e false f = (rw (e, f), ltb-false _ _ f, checked n N (length samples) (length m) (eqb-true check.answer 0 e))
      go false e b f = absurd (eqb-false check.answer 0 e (rw e at h))

  pub covariance_sizes : (covariance n N samples m).0.answer ≡ 0 → Sizes n N (length samples) (length m)
  covariance_sizes h = (done_is h).2

  pub covariance_long : (covariance n N samples m).0.answer ≡ 0 → length (covariance n N samples m).1 ≡ n * n
  unfolding matrix_of
  covariance_long h = ap length (done_is h).0 ∙ length_table (λ k. of_int binary64 (cell_at n N samples k)) (n * n)

  is_entry : (covariance n N samples m).0.answer ≡ 0 → (x y : ℕ) → x < n → y < n → entry (covariance n N samples m).1 n x y ≡ of_int binary64 (whole samples N x y)
  is_entry h x y p q = ap (λ (v : Vec). entry v n x y) (done_is h).0 ∙ entry_is n N samples x y p q

  -- **symmetric**
  pub covariance_symmetric : (covariance n N samples m).0.answer ≡ 0 → (x y : ℕ) → x < n → y < n → entry (covariance n N samples m).1 n x y ≡ entry (covariance n N samples m).1 n y x
  covariance_symmetric h x y p q = is_entry h x y p q ∙ ap (of_int binary64) (whole_swap samples N x y) ∙ sym (is_entry h y x q p)

  -- **exact**
  pub covariance_exact : (covariance n N samples m).0.answer ≡ 0 → (x y : ℕ) → x < n → y < n → Exactly samples N x y (entry (covariance n N samples m).1 n x y)
  covariance_exact h x y p q =
      let c : x * n + y < n * n = cell n n x y p q in
      let o : over (whole samples N x y) ≡ false = ap over (sym (cell_is n N samples x y q)) ∙ before_first n N samples (x * n + y) (omega (arith, (done_is h).1)) in
      record {
        small = small_enough (whole samples N x y) o;
        stands = subst (λ (r : Float). Stands r (whole samples N x y)) (sym (is_entry h x y p q)) (stands (whole samples N x y) o);
      }

  -- **finite_out**
  pub covariance_finite_out : (covariance n N samples m).0.answer ≡ 0 → Finite (covariance n N samples m).1
  unfolding matrix_of
  covariance_finite_out h k l =
      let c : k < n * n = subst (λ (j : ℕ). k < j) (covariance_long h) l in
      let z = cell_at n N samples k in
      let o : over z ≡ false = before_first n N samples k (omega (arith, (done_is h).1)) in
      ap (λ (v : Vec). is_finite (at v k)) (done_is h).0
      ∙ ap is_finite (at_table (λ k. of_int binary64 (cell_at n N samples k)) (n * n) k c)
      ∙ stands_finite (of_int binary64 z) z (stands z o)

  -- **over_first**: 26 points at the first entry over 2^53
  pub covariance_over_first : (covariance n N samples m).0.answer ≡ 26 → FirstOver n N samples (covariance n N samples m).0.place
  unfolding covariance computed
  covariance_over_first h = go (eqb check.answer 0) refl (ltb (first_over n N samples) (n * n)) refl
    where
      check : Answer
      check = cov_checks n N (length samples) (length m)

      none : ◌≡◌ {A = ℕ} 0 26 → ⊥
      none q = omega arith

      go : (a : Bool) → eqb check.answer 0 ≡ a → (b : Bool) → ltb (first_over n N samples) (n * n) ≡ b → FirstOver n N samples (covariance n N samples m).0.place
      go true e true f = rw (e, f) (record {
        within = ltb-true _ _ f;
        seen = at_first n N samples (ltb-true _ _ f);
        before = before_first n N samples;
        above = on_or_above n N samples (first_over n N samples) (ltb-true _ _ f) refl;
      })
      go true e false f = absurd (none (rw (e, f) at h))
      go false e b f = absurd (few n N (length samples) (length m) (rw e at h))
