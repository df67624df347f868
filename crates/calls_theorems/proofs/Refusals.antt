-- 12 and 11 exactly: where `symmetric_eigen` refuses an edition, and where `solve` and `pseudo_inverse` refuse a tolerance. Laws only.
use Rattle.leaves.specs.declared.Bad.{Bad}
use Rattle.std.specs.Prelude.{◌≡◌, ◌↔◌, Bool, true, false, cond, not, ◌||◌, ◌++◌, ℕ, ◌+◌, ◌*◌, ◌≤◌, ltb, eqb, Float, length, Option, Some, None, is_some}
use Rattle.std.proofs.Math.Path.{refl}
use Rattle.std.proofs.Common.{sym, ap, ◌∙◌, subst, inl, inr, ⊎_elim, true≢false, arith, ltb-false, eqb-true}
use Rattle.std.proofs.lemmas.Bool.{eqb-false}
use Rattle.grid.specs.Real.{Vec, at, zeros}
use Rattle.leaves.specs.Scan.{first_bad, first_bad_lower}
use Rattle.leaves.specs.ScanLaws.{scan_class}
use Rattle.leaves.specs.FiniteLaws.{lower_finite}
use Rattle.answers.specs.Answers.{done, refused, passed, refusal7, emptied, marked, unless_bad, decomposition_length}
use Rattle.answers.proofs.OutcomeLaws.{none_seven}
use Rattle.answers.specs.IndexLaws.{refusal7_most}
use Rattle.answers.specs.declared.Answer.{Answer}
use Rattle.answers.specs.Checks.{limit_good, edition_good, tolerance_good, fitting, fitting_edition}
use Rattle.answers.specs.ChecksLaws.{limit_right, lengths_few}
use Rattle.answers.proofs.EditionLaws.{right_edition, edition_lengths, fitting_edition_right}
use Rattle.answers.specs.ToleranceLaws.{tolerance_refused_exactly, fitting_11, fitting_lengths}
use Rattle.eigen_symmetric_eigen.specs.SymmetricEigen.{cleared, given, decomposed, eigen_entered, eigen}
use Rattle.eigen_theorems.specs.Outcome.{Outcome, Promised, RunAnswer, Taken}
use Rattle.eigen_theorems.proofs.OutcomeLaws.{says}
use Rattle.eigen_theorems.proofs.Taken.{says_ran}
use Rattle.eigen_theorems.specs.Edition.{edition_refused}
use Rattle.solve.specs.Solution.{solution}
use Rattle.solve.specs.PseudoInverse.{inverted}
use Rattle.solve.specs.Solve.{solve_checks, inverse_checks, looked, solve, pseudo_inverse}
use Rattle.solve.specs.ChecksLaws.{solve_checks_last, inverse_checks_last}
use Rattle.calls_theorems.specs.Refusals.{Wrong12, Whole, Refused11}

-- ---- 12

only_12 : (n limit edition : ℕ) (a work result : Vec) → (eigen n limit edition a work result).0.answer ≡ 12 → Wrong12 n limit edition
unfolding eigen eigen_entered
only_12 n limit edition a work result h = one (ltb 256 n) refl (limit_good limit) refl (edition_good edition) refl (passed x) refl (passed b) refl h
  where
    x : Answer
    x = fitting_edition edition (length a) (n * n) (length work) n (length result) (n + n * n)

    b : Answer
    b = refusal7 (first_bad_lower n a)

    o : Outcome
    o = cond (eqb n 0) (cleared n (done 0)) (given n (decomposed n limit edition a (zeros n, zeros n)))

    ran : (y : Answer) → y.answer ≡ 12 → RunAnswer y → ⊥
    ran y e = ⊎_elim (λ f. omega arith) (⊎_elim (λ f. omega arith) (⊎_elim (λ f. omega arith) (λ f. omega arith)))

    one : (p : Bool) → ltb 256 n ≡ p → (q : Bool) → limit_good limit ≡ q → (g : Bool) → edition_good edition ≡ g → (r : Bool) → passed x ≡ r → (s : Bool) → passed b ≡ s
        → (cond p (refused 1 0, work, result) (cond (not q) (refused 2 0, work, result) (cond r (cond s o (cleared n b)) (x, work, result)))).0.answer ≡ 12 → Wrong12 n limit edition
    one true e q f g i r j s k z = absurd (omega arith)
    one false e false f g i r j s k z = absurd (omega arith)
    one false e true f false i r j s k z =
        let m = limit_right limit f in
        (ltb-false 256 n e, m.0, m.1, (λ d. true≢false (sym (right_edition edition (inl d)) ∙ i)), (λ d. true≢false (sym (right_edition edition (inr d)) ∙ i)))
    one false e true f true i false j s k z =
        absurd (omega (arith, z, ap (λ (y : Answer). y.answer) (edition_lengths edition (length a) (n * n) (length work) n (length result) (n + n * n) i), lengths_few (length a) (n * n) (length work) n (length result) (n + n * n)))
    one false e true f true i true j false k z = absurd (omega (arith, z, refusal7_most (first_bad_lower n a)))
    one false e true f true i true j true k z =
        let l = fitting_edition_right edition (length a) (n * n) (length work) n (length result) (n + n * n) (eqb-true x.answer 0 j) in
        let m = limit_right limit f in
        let t : Taken n limit edition a work result = record {
          fit = record { small = ltb-false 256 n e; least = m.0; most = m.1; choice = l.0; square = l.1; works = l.2; room = l.3 };
          finite = lower_finite n a l.1 (none_seven (first_bad_lower n a) (eqb-true b.answer 0 k));
        } in
        absurd (ran (eigen n limit edition a work result).0 h (says_ran n limit edition a (eigen n limit edition a work result) (says n limit edition a work result t)))

-- **edition_refused_exactly**
pub edition_refused_exactly : (n limit edition : ℕ) (a work result : Vec) → ((eigen n limit edition a work result).0.answer ≡ 12) ↔ Wrong12 n limit edition
edition_refused_exactly n limit edition a work result =
    (only_12 n limit edition a work result, λ w. ap (λ (o : Outcome). o.0.answer) (edition_refused n limit edition a work result w.0 w.1 w.2 w.3 w.4))

pub edition_refused_exactly_calls : (n limit edition : ℕ) (a work result : Vec) (x : Outcome) → Promised n limit edition a work result x → (x.0.answer ≡ 12) ↔ Wrong12 n limit edition
edition_refused_exactly_calls n limit edition a work result x p = subst (λ (o : Outcome). (o.0.answer ≡ 12) ↔ Wrong12 n limit edition) (sym p) (edition_refused_exactly n limit edition a work result)

-- ---- 11

looked_other : (x : Vec) → (looked x).0.answer ≡ 11 → ⊥
unfolding looked
looked_other x = go (first_bad x) refl
  where
    go : (b : Option Bad) → first_bad x ≡ b → (cond (is_some b) (emptied (marked 2 0 b) x) (done 0, x)).0.answer ≡ 11 → ⊥
    go (Some bad) e h = ⊎_elim (λ f. omega arith) (λ f. omega arith) (scan_class (at x) (length x) bad.index bad.class e)
    go None e h = omega arith

run_other : (b : Option Bad) (x y : Vec) → (unless_bad b x (looked y)).0.answer ≡ 11 → ⊥
run_other (Some bad) x y h = omega arith
run_other None x y h = looked_other y h

-- a check that refuses with 6 at the most, and what comes behind it
behind : (f : Answer) (o : Answer × Vec) (x : Vec) → f.answer ≤ 6 → (o.0.answer ≡ 11 → ⊥) → (cond (passed f) o (f, x)).0.answer ≡ 11 → ⊥
behind f o x few d = go (passed f)
  where
    go : (b : Bool) → (cond b o (f, x)).0.answer ≡ 11 → ⊥
    go true h = d h
    go false h = omega (arith, h, few)

fits_other : (tol : Float) (a wa b wb : ℕ) (o : Answer × Vec) (x : Vec) → tolerance_good tol ≡ true → (o.0.answer ≡ 11 → ⊥) → (cond (passed (fitting tol a wa b wb)) o (fitting tol a wa b wb, x)).0.answer ≡ 11 → ⊥
fits_other tol a wa b wb o x g = behind (fitting tol a wa b wb) o x (omega (arith, ap (λ (y : Answer). y.answer) (fitting_lengths tol a wa b wb g), lengths_few a wa b wb 0 0))

tolerance_of : (tol : Float) → (tolerance_good tol ≡ true → ⊥) → Refused11 tol
tolerance_of tol d = go (tolerance_good tol) refl
  where
    go : (g : Bool) → tolerance_good tol ≡ g → Refused11 tol
    go true e = absurd (d e)
    go false e = (tolerance_refused_exactly tol).0 e

module _ (m n u vt : ℕ) (tol : Float) where
  solve_only_11 : (d b x : Vec) → (solve m n u vt tol d b x).0.answer ≡ 11 → Whole m n u vt × (length b ≡ m) × Refused11 tol
  unfolding solve solve_checks
  solve_only_11 d b x = one (ltb 256 m) refl (ltb 256 n) refl (eqb u 0) refl (eqb vt 0) refl (eqb (length b) m) refl
    where
      f : Answer
      f = fitting tol (length d) (decomposition_length m n u vt) (length x) n

      o : Answer × Vec
      o = unless_bad (first_bad (d ++ b)) x (looked (solution m n tol d b))

      all : Bool → Bool → Bool → Bool → Bool → Answer
      all p q r s t = cond (p || q) (refused 1 0) (cond r (refused 3 0) (cond s (refused 4 0) (cond (not t) (refused 5 0) f)))

      one : (p : Bool) → ltb 256 m ≡ p → (q : Bool) → ltb 256 n ≡ q → (r : Bool) → eqb u 0 ≡ r → (s : Bool) → eqb vt 0 ≡ s → (t : Bool) → eqb (length b) m ≡ t
          → (cond (passed (all p q r s t)) o (all p q r s t, x)).0.answer ≡ 11 → Whole m n u vt × (length b ≡ m) × Refused11 tol
      one true a q c r e s g t i h = absurd (omega arith)
      one false a true c r e s g t i h = absurd (omega arith)
      one false a false c true e s g t i h = absurd (omega arith)
      one false a false c false e true g t i h = absurd (omega arith)
      one false a false c false e false g false i h = absurd (omega arith)
      one false a false c false e false g true i h = (
        (ltb-false 256 m a, ltb-false 256 n c, eqb-false u 0 e, eqb-false vt 0 g),
        eqb-true (length b) m i,
        tolerance_of tol (λ k. fits_other tol (length d) (decomposition_length m n u vt) (length x) n o x k (run_other (first_bad (d ++ b)) x (solution m n tol d b)) h),
      )

  inverse_only_11 : (d x : Vec) → (pseudo_inverse m n u vt tol d x).0.answer ≡ 11 → Whole m n u vt × Refused11 tol
  unfolding pseudo_inverse inverse_checks
  inverse_only_11 d x = one (ltb 256 m) refl (ltb 256 n) refl (eqb u 0) refl (eqb vt 0) refl
    where
      f : Answer
      f = fitting tol (length d) (decomposition_length m n u vt) (length x) (n * m)

      o : Answer × Vec
      o = unless_bad (first_bad d) x (looked (inverted m n tol d))

      all : Bool → Bool → Bool → Bool → Answer
      all p q r s = cond (p || q) (refused 1 0) (cond r (refused 3 0) (cond s (refused 4 0) f))

      one : (p : Bool) → ltb 256 m ≡ p → (q : Bool) → ltb 256 n ≡ q → (r : Bool) → eqb u 0 ≡ r → (s : Bool) → eqb vt 0 ≡ s
          → (cond (passed (all p q r s)) o (all p q r s, x)).0.answer ≡ 11 → Whole m n u vt × Refused11 tol
      one true a q c r e s g h = absurd (omega arith)
      one false a true c r e s g h = absurd (omega arith)
      one false a false c true e s g h = absurd (omega arith)
      one false a false c false e true g h = absurd (omega arith)
      one false a false c false e false g h = (
        (ltb-false 256 m a, ltb-false 256 n c, eqb-false u 0 e, eqb-false vt 0 g),
        tolerance_of tol (λ k. fits_other tol (length d) (decomposition_length m n u vt) (length x) (n * m) o x k (run_other (first_bad d) x (inverted m n tol d)) h),
      )

  solve_11 : (d b x : Vec) → Whole m n u vt × (length b ≡ m) × Refused11 tol → solve m n u vt tol d b x ≡ (refused 11 0, x)
  unfolding solve
  solve_11 d b x (w, l, t) =
      rw (solve_checks_last m n u vt tol (length d) (length x) w.0 w.1 w.2 w.3 (length b) l, fitting_11 tol (length d) (decomposition_length m n u vt) (length x) n ((tolerance_refused_exactly tol).1 t))

  inverse_11 : (d x : Vec) → Whole m n u vt × Refused11 tol → pseudo_inverse m n u vt tol d x ≡ (refused 11 0, x)
  unfolding pseudo_inverse
  inverse_11 d x (w, t) =
      rw (inverse_checks_last m n u vt tol (length d) (length x) w.0 w.1 w.2 w.3, fitting_11 tol (length d) (decomposition_length m n u vt) (length x) (n * m) ((tolerance_refused_exactly tol).1 t))

  -- **solve_11_exactly**: and then nothing is touched
  pub solve_11_exactly : (d b x : Vec) → ((solve m n u vt tol d b x).0.answer ≡ 11) ↔ (Whole m n u vt × (length b ≡ m) × Refused11 tol)
  solve_11_exactly d b x = (solve_only_11 d b x, λ w. ap (λ (o : Answer × Vec). o.0.answer) (solve_11 d b x w))

  pub solve_11_exactly_calls : (d b x : Vec) (o : Answer × Vec) → o ≡ solve m n u vt tol d b x
      → ((o.0.answer ≡ 11) ↔ (Whole m n u vt × (length b ≡ m) × Refused11 tol)) × (o.0.answer ≡ 11 → o ≡ (refused 11 0, x))
  solve_11_exactly_calls d b x o p =
      let e = subst (λ (y : Answer × Vec). (y.0.answer ≡ 11) ↔ (Whole m n u vt × (length b ≡ m) × Refused11 tol)) (sym p) (solve_11_exactly d b x) in
      (e, λ h. p ∙ solve_11 d b x (e.0 h))

  -- **pseudo_inverse_11_exactly**
  pub pseudo_inverse_11_exactly : (d x : Vec) → ((pseudo_inverse m n u vt tol d x).0.answer ≡ 11) ↔ (Whole m n u vt × Refused11 tol)
  pseudo_inverse_11_exactly d x = (inverse_only_11 d x, λ w. ap (λ (o : Answer × Vec). o.0.answer) (inverse_11 d x w))

  pub pseudo_inverse_11_exactly_calls : (d x : Vec) (o : Answer × Vec) → o ≡ pseudo_inverse m n u vt tol d x
      → ((o.0.answer ≡ 11) ↔ (Whole m n u vt × Refused11 tol)) × (o.0.answer ≡ 11 → o ≡ (refused 11 0, x))
  pseudo_inverse_11_exactly_calls d x o p =
      let e = subst (λ (y : Answer × Vec). (y.0.answer ≡ 11) ↔ (Whole m n u vt × Refused11 tol)) (sym p) (pseudo_inverse_11_exactly d x) in
      (e, λ h. p ∙ inverse_11 d x (e.0 h))
