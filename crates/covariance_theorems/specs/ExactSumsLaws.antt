-- Calls of `sums` that meet its promise: o and p are what they came back with. **exact**: on 0 each number is the very sum of its band, with no rounding. Laws only.
use Rattle.std.specs.Prelude.{◌≡◌, Bool, true, false, cond, List, ℕ, zero, suc, ◌+◌, ◌*◌, ◌≤◌, ◌<◌, eqb, ℤ, pos, negsuc, nat_abs, ◌+ℤ◌, Float, drop}
use Rattle.std.proofs.Math.Path.{refl, ap, subst}
use Rattle.std.proofs.Common.{sym, ◌∙◌, ⊎_elim, inl, inr, le_trans, suc-mul, arith, eqb-true, get_or-take, get_or-drop}
use Rattle.std.proofs.lemmas.Bool.{eqb-false}
use Rattle.std.specs.Float.Ieee.{binary64, of_int}
use Rattle.std.proofs.Math.ListN.{length}
use Rattle.grid.specs.Loop.{upto}
use Rattle.grid.specs.LoopLaws.{upto_none}
use Rattle.grid.specs.Real.{Vec, at}
use Rattle.grid.specs.TableLaws.{at_table, length_table, row_end}
use Rattle.leaves.specs.Leaf.{is_finite}
use Rattle.leaves.specs.Finite.{Finite}
use Rattle.answers.specs.Answers.{done, passed}
use Rattle.answers.specs.declared.Answer.{Answer}
use Rattle.answers.specs.Checks.{lengths}
use Rattle.answers.specs.ChecksLaws.{lengths_index}
use Rattle.covariance.specs.MatrixEntries.{band}
use Rattle.covariance.specs.SampleSums.{sample_at, total}
use Rattle.covariance.specs.WholeNumbers.{Range, zero_in, wider, add_in, of_i16}
use Rattle.covariance_sums.specs.Sums.{sum_checks, sum_of, sums_of, sums}
use Rattle.covariance_sums.specs.SumsLaws.{Sizes, checked, numbers, sum_small}
use Rattle.covariance_theorems.specs.Diagonal.{upto_suc}
use Rattle.covariance_theorems.specs.ExactEntries.{Stands, Untouched}
use Rattle.covariance_theorems.specs.ExactEntriesLaws.{stands, stands_finite}
use Rattle.covariance_theorems.specs.ExactSums.{Sixteen, ExactSum}
use Rattle.covariance_theorems.specs.OneOutcome.{bands_index}

pub sums_one : (n N : ℕ) (samples : List ℤ) (out : Vec) (o p : Answer × Vec) → o ≡ sums n N samples out → p ≡ sums n N samples out → o ≡ p
sums_one n N samples out o p e f = e ∙ sym f

-- ---- the sum of samples of 16 bits

total_in : (a : List ℤ) (N : ℕ) → ((k : ℕ) → k < N → Range 32767 32768 (sample_at a k)) → Range (N * 32767) (N * 32768) (total N a)
unfolding total
total_in a zero s = rw (upto_none (λ k s. s +ℤ sample_at a k) 0 (pos 0)) (zero_in _ _)
total_in a (suc N) s = rw (upto_suc (λ k s. s +ℤ sample_at a k) N (pos 0)) (more (upto (λ k s. s +ℤ sample_at a k) 0 N (pos 0)) (total_in a N (λ k l. s k (omega arith))))
  where
    more : (z : ℤ) → Range (N * 32767) (N * 32768) z → Range (suc N * 32767) (suc N * 32768) (z +ℤ sample_at a N)
    more z r = wider (z +ℤ sample_at a N) (omega (arith, suc-mul N 32767)) (omega (arith, suc-mul N 32768)) (add_in z (sample_at a N) r (s N (omega arith)))

sum_in : (n N : ℕ) (samples : List ℤ) → length samples ≡ n * N → Sixteen samples → (x : ℕ) → x < n → Range (N * 32767) (N * 32768) (sum_of samples N x)
sum_in n N samples e s x l = total_in (band samples N x) N (λ k h. subst (Range 32767 32768) (sym (there k h)) (of_i16 _ (s (x * N + k) (omega (arith, row_end n N x l)))))
  where
    there : (k : ℕ) → k < N → sample_at (band samples N x) k ≡ sample_at samples (x * N + k)
    there k h = get_or-take N (drop (x * N) samples) k (pos 0) h ∙ get_or-drop (x * N) samples k (pos 0)

size_of : (N : ℕ) (z : ℤ) → N ≤ 65536 → Range (N * 32767) (N * 32768) z → nat_abs z ≤ 0x8000_0000
size_of N (pos m) h r = le_trans r.within (omega arith)
size_of N (negsuc m) h r = le_trans r.within (omega arith)

-- ---- an outcome

module _ (n N : ℕ) (samples : List ℤ) (out : Vec) (o : Answer × Vec) (p : o ≡ sums n N samples out) where
  checks_index : (s m : ℕ) → (sum_checks n N s m).index ≡ 0
  unfolding sum_checks
  checks_index s m = bands_index n N (lengths s (n * N) m n 0 0) (lengths_index s (n * N) m n 0 0)

  pub sums_index_zero : o.0.index ≡ 0
  unfolding sums
  sums_index_zero = ap (λ (r : Answer × Vec). r.0.index) p ∙ go (passed check)
    where
      check : Answer
      check = sum_checks n N (length samples) (length out)

      go : (a : Bool) → (cond {A = Answer × Vec} a (done 0, sums_of n N samples) (check, out)).0.index ≡ 0
      go true = refl
      go false = checks_index (length samples) (length out)

  -- where it is done
  module _ (z : o.0.answer ≡ 0) where
    done_is : (o.1 ≡ sums_of n N samples) × Sizes n N (length samples) (length out)
    unfolding sums
    done_is = go (eqb check.answer 0) refl (ap (λ (r : Answer × Vec). r.0.answer) (sym p) ∙ z)
      where
        check : Answer
        check = sum_checks n N (length samples) (length out)

        go : (a : Bool) → eqb check.answer 0 ≡ a → (sums n N samples out).0.answer ≡ 0 → (o.1 ≡ sums_of n N samples) × Sizes n N (length samples) (length out)
        go true e h = (ap (λ (r : Answer × Vec). r.1) p ∙ rw e, checked n N (length samples) (length out) (eqb-true check.answer 0 e))
        go false e h = absurd (eqb-false check.answer 0 e (rw e at h))

    is_sum : (x : ℕ) → x < n → at o.1 x ≡ of_int binary64 (sum_of samples N x)
    unfolding sums_of
    is_sum x l = ap (λ (v : Vec). at v x) done_is.0 ∙ at_table (λ k. of_int binary64 (sum_of samples N k)) n x l

    module _ (s : Sixteen samples) where
      in_range_lem : (x : ℕ) → x < n → Range (N * 32767) (N * 32768) (sum_of samples N x)
      in_range_lem x l = sum_in n N samples done_is.1.planes s x l

      exactly : (x : ℕ) → x < n → Stands (at o.1 x) (sum_of samples N x)
      exactly x l = subst (λ (y : Float). Stands y (sum_of samples N x)) (sym (is_sum x l)) (stands (sum_of samples N x) (sum_small N (sum_of samples N x) done_is.1.most (in_range_lem x l)))

      -- **exact**
      pub sums_exact : (x : ℕ) → x < n → ExactSum samples N x (at o.1 x)
      sums_exact x l = record { small = size_of N (sum_of samples N x) done_is.1.most (in_range_lem x l); stands = exactly x l }

      -- **finite_out**
      pub sums_finite_out : Finite o.1
      unfolding sums_of
      sums_finite_out k l =
          let c : k < n = subst (λ (j : ℕ). k < j) (ap length done_is.0 ∙ length_table (λ k. of_int binary64 (sum_of samples N k)) n) l in
          stands_finite (at o.1 k) (sum_of samples N k) (exactly k c)

-- two calls that differ in what `out` held before, x and y
pub sums_old_contents : (n N : ℕ) (samples : List ℤ) (x y : Vec) (o p : Answer × Vec) → length x ≡ length y
    → o ≡ sums n N samples x → p ≡ sums n N samples y → (Untouched o.0 → ⊥) → o ≡ p
unfolding sums
sums_old_contents n N samples x y o p l e f h = e ∙ go (passed check) refl ∙ sym f
  where
    check : Answer
    check = sum_checks n N (length samples) (length x)

    untouched : (check.answer ≡ 0 → ⊥) → Untouched check
    untouched d = ⊎_elim (λ f. inl (record { some = omega arith; few = f })) (λ e. inr e) (numbers n N (length samples) (length x))

    go : (b : Bool) → passed check ≡ b → sums n N samples x ≡ sums n N samples y
    go true g = rw (← l, g)
    go false g = absurd (h (subst (λ (r : Answer × Vec). Untouched r.0) (sym e) (rw g (untouched (eqb-false check.answer 0 g)))))
