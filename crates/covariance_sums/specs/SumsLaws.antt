-- What the checks leave where they pass, and that a sum is far below 2^53. Laws only.
use Rattle.std.specs.Prelude.{◌≡◌, false, ◌⊎◌, ℕ, suc, ◌*◌, ◌≤◌, Float, ℤ, pos, negsuc}
use Rattle.std.proofs.Common.{ap, sym, ◌∙◌, le_trans, arith}
use borrow.Author.Tests.{le-ltb}
use Rattle.std.specs.Float.{binary64}
use Rattle.std.specs.Float.Ieee.{of_int}
use Rattle.answers.specs.declared.Answer.{Answer}
use Rattle.answers.specs.Checks.{lengths}
use Rattle.answers.specs.ChecksLaws.{lengths_right, lengths_few}
use Rattle.covariance.specs.ChecksLaws.{bands_pass, bands_numbers}
use Rattle.covariance.specs.Over53.{over}
use Rattle.covariance.specs.WholeNumbers.{Range, held, held_is}
use Rattle.covariance_sums.specs.Sums.{sum_checks}

-- the sizes are right
pub record Sizes (n N s o : ℕ) : Type 0 where
  pub bands : n ≤ 256
  pub most : N ≤ 65536
  pub planes : s ≡ n * N
  pub places : o ≡ n

module _ (n N s o : ℕ) where
  pub checked : (sum_checks n N s o).answer ≡ 0 → Sizes n N s o
  unfolding sum_checks
  checked h =
      let b = bands_pass n N (lengths s (n * N) o n 0 0) h in
      let w = lengths_right s (n * N) o n 0 0 b.1 in
      record { bands = b.0.bands; most = b.0.most; planes = w.0; places = w.1 }

  pub sized : {r : Answer} → r ≡ sum_checks n N s o → r.answer ≡ 0 → (n ≤ 256) × (N ≤ 65536) × (s ≡ n * N) × (o ≡ n)
  sized e h =
      let z = checked (ap (λ (a : Answer). a.answer) (sym e) ∙ h) in
      (z.bands, z.most, z.planes, z.places)

  -- a check answers 0 to 6, or 25
  pub numbers : ((sum_checks n N s o).answer ≤ 6) ⊎ ((sum_checks n N s o).answer ≡ 25)
  unfolding sum_checks
  numbers = bands_numbers n N (lengths s (n * N) o n 0 0) (lengths_few s (n * N) o n 0 0)

-- ---- z, the sum of N samples

module _ (N : ℕ) (z : ℤ) (h : N ≤ 65536) (r : Range (N * 32767) (N * 32768) z) where
  within : {p q : ℕ} (z : ℤ) → p ≤ 0x20_0000_0000_0000 → q ≤ 0x20_0000_0000_0000 → Range p q z → over z ≡ false
  unfolding over
  within (pos m) f g r = le-ltb 0x20_0000_0000_0000 m (le_trans r.within f)
  within (negsuc m) f g r = le-ltb 0x20_0000_0000_0000 (suc m) (le_trans r.within g)

  pub sum_small : over z ≡ false
  sum_small = within z (omega arith) (omega arith) r

  held_sum : held z ≡ z
  held_sum = held_is z (omega arith) (omega arith) r

  -- as it goes through a local
  pub sum_fits : over (held z) ≡ false
  sum_fits = ap over held_sum ∙ sum_small

  pub sum_float : {t : ℤ} {x : Float} → z ≡ t → x ≡ of_int binary64 (held z) → x ≡ of_int binary64 t
  sum_float e g = g ∙ ap (of_int binary64) (held_sum ∙ e)
