-- What the checks of a call leave known of the sizes. Laws only.
use Rattle.std.specs.Prelude.{◌≡◌, refl, Bool, true, false, cond, ◌&&◌, ◌||◌, ℕ, ◌*◌, ◌≤◌, ltb, leb, eqb}
use Rattle.std.proofs.Common.{sym, true≢false, arith, ltb-false, leb-true, eqb-true}
use Rattle.grid.specs.Real.{Vec}
use Rattle.answers.specs.declared.Answer.{Answer}
use Rattle.answers.specs.Answers.{refused, done, least, decomposition_length}
use Rattle.answers.specs.AnswersLaws.{least_le}
use Rattle.answers.specs.Checks.{limit_good, lengths}
use Rattle.svd_jacobi_svd_tall.specs.SweepLengths.{Sized}
use Rattle.svd_sort_svd_descending.specs.Result.{longest, work_length}
use Rattle.svd.specs.Svd.{checks}
use Rattle.svd_sort_svd_descending.specs.ResultSizes.{Checked, longest_le}

pub sized : (m n want_u want_vt : ℕ) (work result : Vec) → Checked m n want_u want_vt work result → Sized (longest m n) (least m n) work
unfolding work_length
sized m n want_u want_vt work result c =
    record { tall = longest_le m n 256 c.tall c.wide; wide = least_le m n 256 c.tall c.wide; whole = c.works }

-- what is known where the checks pass
pub record Passed (m n want_u want_vt limit a b c : ℕ) : Type 0 where
  pub tall : m ≤ 256
  pub wide : n ≤ 256
  pub some : 1 ≤ limit
  pub few : limit ≤ 60
  pub matrix : a ≡ m * n
  pub work : b ≡ work_length m n
  pub result : c ≡ decomposition_length m n want_u want_vt

pub checks_passed : (m n want_u want_vt limit a b c : ℕ) → (checks m n want_u want_vt limit a b c).answer ≡ 0 → Passed m n want_u want_vt limit a b c
unfolding checks lengths limit_good
checks_passed m n want_u want_vt limit a b c z =
    let s = sizes (ltb 256 m) (ltb 256 n) (leb 1 limit && leb limit 60) (lengths a (m * n) b (work_length m n) c (decomposition_length m n want_u want_vt)) z in
    let l = both (leb 1 limit) (leb limit 60) s.2 in
    let e = three (eqb a (m * n)) (eqb b (work_length m n)) (eqb c (decomposition_length m n want_u want_vt)) s.3 in
    record {
      tall = ltb-false 256 m s.0;
      wide = ltb-false 256 n s.1;
      some = leb-true 1 limit l.0;
      few = leb-true limit 60 l.1;
      matrix = eqb-true a (m * n) e.0;
      work = eqb-true b (work_length m n) e.1;
      result = eqb-true c (decomposition_length m n want_u want_vt) e.2;
    }
  where
    sizes : (p q g : Bool) (x : Answer) → (cond (p || q) (refused 1 0) (cond g x (refused 2 0))).answer ≡ 0
        → (p ≡ false) × (q ≡ false) × (g ≡ true) × (x.answer ≡ 0)
    sizes true q g x z = absurd (omega arith)
    sizes false true g x z = absurd (omega arith)
    sizes false false true x z = (refl, refl, refl, z)
    sizes false false false x z = absurd (omega arith)

    both : (p q : Bool) → (p && q) ≡ true → (p ≡ true) × (q ≡ true)
    both true true z = (refl, refl)
    both true false z = absurd (true≢false (sym z))
    both false q z = absurd (true≢false (sym z))

    three : (p q r : Bool) → (cond p (cond q (cond r (done 0) (refused 6 2)) (refused 6 1)) (refused 6 0)).answer ≡ 0 → (p ≡ true) × (q ≡ true) × (r ≡ true)
    three true true true z = (refl, refl, refl)
    three true true false z = absurd (omega arith)
    three true false r z = absurd (omega arith)
    three false q r z = absurd (omega arith)
