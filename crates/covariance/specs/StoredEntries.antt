-- The sums of the bands in a list of their own, and the matrix as it stands before and after an entry is stored: shapes that inner contracts cite. Laws only.
use Rattle.std.specs.Prelude.{◌≡◌, false, cond, List, ℕ, ◌+◌, ◌*◌, ◌≤◌, ◌<◌, ℤ, pos, length, get_or, set}
use Rattle.std.proofs.Common.{ap, sym, subst, ◌∙◌, ⊎_elim, eq-or-lt_of_le, arith, get_or-set_same, get_or-set_other}
use Rattle.std.specs.Float.{binary64}
use Rattle.std.specs.Float.Ieee.{of_int}
use Rattle.grid.specs.Real.{Vec}
use Rattle.grid.specs.Cell.{entry, put_entry}
use Rattle.answers.specs.Answers.{done, refused, emptied}
use Rattle.answers.specs.declared.Answer.{Answer}
use Rattle.covariance.specs.WholeNumbers.{Range, held, held_is}
use Rattle.covariance.specs.MatrixEntries.{band, whole}
use Rattle.covariance.specs.SampleSums.{total}
use Rattle.covariance.specs.Over53.{over}

-- place j has the sum of band j
pub record Known (N : ℕ) (samples sums : List ℤ) (j : ℕ) : Type 0 where
  pub is : get_or sums j (pos 0) ≡ total N (band samples N j)
  pub range : Range (N * 32767) (N * 32768) (get_or sums j (pos 0))

pub record Totals (n N : ℕ) (samples sums : List ℤ) : Type 0 where
  pub known : (j : ℕ) → j < n → Known N samples sums j

pub none : (N : ℕ) (samples sums : List ℤ) → Totals 0 N samples sums
none N samples sums = record { known = λ j h. absurd (omega arith) }

-- r, the sum of band n, goes to place n by way of a local
pub one_more : (n N : ℕ) (samples sums : List ℤ) {t : List ℤ} (r : ℤ) → n < length sums → N ≤ 65536 → Totals n N samples sums
    → r ≡ total N (band samples N n) → Range (N * 32767) (N * 32768) r → t ≡ set sums n (held r) → Totals (n + 1) N samples t
one_more n N samples sums {t} r l h k e g q = record { known = λ j m. ⊎_elim (λ s. subst (Known N samples t) (sym s) here) (λ s. there j s) (eq-or-lt_of_le {n = j} {m = n} (omega arith)) }
  where
    back : held r ≡ r
    back = held_is r (omega arith) (omega arith) g

    at : get_or t n (pos 0) ≡ r
    at = ap (λ (v : List ℤ). get_or v n (pos 0)) q ∙ get_or-set_same sums n (held r) (pos 0) l ∙ back

    here : Known N samples t n
    here = record { is = at ∙ e; range = subst (Range (N * 32767) (N * 32768)) (sym at) g }

    there : (j : ℕ) → j < n → Known N samples t j
    there j m =
        let o : get_or t j (pos 0) ≡ get_or sums j (pos 0) = ap (λ (v : List ℤ). get_or v j (pos 0)) q ∙ get_or-set_other sums n j (held r) (pos 0) (λ s. omega arith) in
        record { is = o ∙ (k.known j m).is; range = subst (Range (N * 32767) (N * 32768)) (sym o) (k.known j m).range }

pub all_known : {j n : ℕ} (N : ℕ) (samples sums : List ℤ) → n ≤ j → Totals j N samples sums → Totals n N samples sums
all_known N samples sums h k = record { known = λ i m. k.known i (omega arith) }

-- ---- the matrix

-- entry (x, y) stored, or refusal 26
unfoldable pub stored : ℕ → ℕ → List ℤ → ℕ → ℕ → Vec → Answer × Vec
stored n N samples x y m =
    let z = whole samples N x y in
    cond (over z) (emptied (refused 26 (x * n + y)) m) (done 0, put_entry m n x y (of_int binary64 z))

-- left of the diagonal: the mirror image of entry (x, y) is stored, and was not over
pub record Above (n N : ℕ) (samples : List ℤ) (x y : ℕ) (m : Vec) : Type 0 where
  pub there : y < x → entry m n y x ≡ of_int binary64 (whole samples N y x)
  pub small : y < x → over (whole samples N y x) ≡ false
