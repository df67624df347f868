-- What a call of `svd` leaves in the arrays that it was lent. Laws only.
use Rattle.leaves.specs.declared.Bad.{Bad}
use Rattle.std.specs.Prelude.{◌≡◌, ◌⊎◌, Bool, true, false, cond, ℕ, length, Option, Some, None}
use Rattle.std.proofs.Math.Path.{refl}
use Rattle.std.proofs.Common.{ap, ⊎_elim, arith, ne_eqb}
use Rattle.std.proofs.lemmas.List.{length-replicate}
use Rattle.grid.specs.Real.{Vec, zero64, zeros}
use Rattle.leaves.specs.Scan.{first_bad}
use Rattle.leaves.specs.ScanLaws.{first_class}
use Rattle.answers.specs.Answers.{passed, least, refusal7}
use Rattle.answers.specs.Early.{Early}
use Rattle.answers.proofs.OutcomeLaws.{few_early}
use Rattle.answers.specs.declared.Answer.{Answer}
use Rattle.svd_jacobi_svd_tall.specs.JacobiSvdTall.{jacobi}
use Rattle.svd_sort_svd_descending.specs.Result.{longest, sorted_out}
use Rattle.svd.specs.Svd.{loaded, checks, ran, svd}
use Rattle.svd_theorems.specs.Outcome.{Outcome, begun}
use Rattle.svd_theorems.proofs.OutcomeLaws.{begun_long}
use Rattle.svd_theorems.specs.OldContents.{svd_checks_few}
use Rattle.svd_theorems.specs.SweepsOutcome.{RunGives, well, at_mark2, at_mark1, at_limit}
use Rattle.svd_theorems.proofs.SweepsOutcomeLaws.{run_gives, swept_class}
use Rattle.svd_gain_theorems.specs.Gained.{Left}

-- a run answers 0, 8, 9 or 10
late_class : (x : Answer) → (x.answer ≡ 8) ⊎ (x.answer ≡ 10) → Early x → ⊥
late_class x c e = ⊎_elim (λ (h : x.answer ≡ 8). omega (arith, e.few)) (λ (h : x.answer ≡ 10). omega (arith, e.few)) c

late : (rows cols limit : ℕ) (w : Vec) (o : Answer × Vec) → RunGives rows cols limit w o → Early o.0 → ⊥
late rows cols limit w o (well s f) e = omega (arith, e.some)
late rows cols limit w o (at_mark2 {a = a} s f) e = late_class o.0 (first_class _ _ _ a f) e
late rows cols limit w o (at_mark1 {a = a} {i = i} s) e = late_class o.0 (swept_class rows cols s a i refl) e
late rows cols limit w o (at_limit s) e = omega (arith, e.few)

seven : (b : Option Bad) → Early (refusal7 b) → ⊥
seven (Some bad) e = omega (arith, e.few)
seven None e = omega (arith, e.some)

module _ (m n want_u want_vt limit : ℕ) (matrix work result : Vec) where
  pub svd_left : Left work result (svd m n want_u want_vt limit matrix work result)
  unfolding svd ran
  svd_left = go (passed c) refl (passed b) refl
    where
      c : Answer
      c = checks m n want_u want_vt limit (length matrix) (length work) (length result)

      b : Answer
      b = refusal7 (first_bad matrix)

      x : Answer × Vec
      x = jacobi (longest m n) (least m n) limit (loaded m n matrix)

      again : (v : Vec) → zeros (length (zeros (length v))) ≡ zeros (length v)
      again v = ap zeros (length-replicate (length v) zero64)

      o : Outcome
      o = (x.0, zeros (length (zeros (length work))), cond (passed x.0) (sorted_out m n want_u want_vt x.1) (zeros (length result)))

      go : (p : Bool) → passed c ≡ p → (q : Bool) → passed b ≡ q → Left work result (cond p (cond q o (b, zeros (length work), zeros (length result))) (c, work, result))
      go true e true f =
          record {
            untouched = λ h. absurd (late' h);
            works = λ h. again work;
            cleared = λ h z. rw (ne_eqb x.0.answer 0 z);
          }
        where
          late' : Early x.0 → ⊥
          late' =
              late (longest m n) (least m n) limit (begun m n matrix) _ (run_gives (longest m n) (least m n) limit (begun m n matrix) (begun_long m n matrix))
      go true e false f = record { untouched = λ h. absurd (seven (first_bad matrix) h); works = λ h. refl; cleared = λ h z. refl }
      go false e q f =
          let early : Early c = few_early c (svd_checks_few m n want_u want_vt limit (length matrix) (length work) (length result)) e in
          record { untouched = λ h. (refl, refl); works = λ h. absurd (h early); cleared = λ h z. absurd (h early) }
