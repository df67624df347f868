-- An svd that is done, with both factors, is taken by `pseudo_inverse` and by `solve`: neither refuses the decomposition, but only a tolerance or a right side. Laws only.
use Rattle.leaves.specs.declared.Bad.{Bad}
use Rattle.std.specs.Prelude.{◌≡◌, Bool, cond, ◌++◌, ℕ, ◌*◌, ◌<◌, Float, Option, Some, None, is_some}
use Rattle.std.proofs.Math.Path.{refl, ap}
use Rattle.std.proofs.Common.{sym, ◌∙◌, subst, inl, inr}
use Rattle.std.proofs.Math.Bool.{true, false}
use Rattle.std.proofs.Math.Decide.{ℕ_discrete}
use borrow.Author.Tests.{eq-eqb}
use Rattle.std.proofs.Math.ListN.{length}
use Rattle.grid.specs.Real.{Vec, at}
use Rattle.std.specs.Option.{option_or}
use Rattle.leaves.specs.Scan.{first_bad}
use Rattle.leaves.specs.ScanLaws.{behind, first_bad_none, first_bad_fine, scan_both, scan_class}
use Rattle.leaves.specs.Finite.{Finite}
use Rattle.answers.specs.Answers.{done, emptied, marked, unless_bad, least, decomposition_length}
use Rattle.answers.proofs.OutcomeLaws.{present_is}
use Rattle.answers.specs.Checks.{tolerance_good, lengths, fitting}
use Rattle.answers.specs.ToleranceLaws.{fitting_11, fitting_lengths}
use Rattle.svd_theorems.specs.Outcome.{Outcome, Promised, Taken}
use Rattle.svd_theorems.proofs.OutcomeLaws.{taken_of}
use Rattle.svd_theorems.proofs.Result.{svd_long, svd_finite_out}
use Rattle.svd.specs.Svd.{svd}
use Rattle.solve.specs.ChecksLaws.{solve_checks_5, solve_checks_last, inverse_checks_last}
use Rattle.solve.specs.Solve.{solve_checks, inverse_checks, looked, solve, pseudo_inverse}
use Rattle.solve.specs.Solution.{solution}
use Rattle.solve.specs.PseudoInverse.{inverted}
use Rattle.calls_theorems.specs.Sayings.{Ends, Weighs, refuses, takes, Says, length_wrong, tolerance_bad, not_finite, ends}

looked_ends : (x : Vec) → Ends (looked x).0
unfolding looked
looked_ends x = go (first_bad x) refl
  where
    go : (b : Option Bad) → first_bad x ≡ b → Ends (cond (is_some b) (emptied (marked 2 0 b) x) (done 0, x)).0
    go (Some bad) e = inr (bad.index, bad.class, scan_class (at x) (length x) bad.index bad.class e, refl)
    go None e = inl refl

-- what an svd that is done came back with, x, handed on with the same sizes and flags that are set
module _ (m n u vt has_u has_vt limit : ℕ) (matrix work result : Vec) (x : Outcome) (p : Promised m n u vt limit matrix work result x) (z : x.0.answer ≡ 0) (want_u : u ≡ 0 → ⊥) (want_vt : vt ≡ 0 → ⊥) (flag_u : has_u ≡ 0 → ⊥) (flag_vt : has_vt ≡ 0 → ⊥) where
  done0 : (svd m n u vt limit matrix work result).0.answer ≡ 0
  done0 = ap (λ (o : Outcome). o.0.answer) (sym p) ∙ z

  taken : Taken m n u vt limit matrix work result
  taken = taken_of m n u vt limit matrix work result done0

  long : length x.2 ≡ decomposition_length m n has_u has_vt
  unfolding decomposition_length
  long =
      ap (λ (o : Outcome). length o.2) p
      ∙ svd_long m n u vt limit matrix work result done0
      ∙ rw (present_is u (m * least m n) want_u, present_is vt (least m n * n) want_vt, present_is has_u (m * least m n) flag_u, present_is has_vt (least m n * n) flag_vt)

  clean : first_bad x.2 ≡ None
  clean = first_bad_fine x.2 (subst (λ (o : Outcome). Finite o.2) (sym p)
      (λ k l. svd_finite_out m n u vt limit matrix work result done0 k (subst (λ (j : ℕ). k < j) (svd_long m n u vt limit matrix work result done0) l)))

  -- with a right side behind it, what is found is found there
  seen : (b : Vec) → first_bad (x.2 ++ b) ≡ behind (length x.2) (first_bad b)
  seen b = scan_both x.2 b ∙ ap (λ (f : Option Bad). option_or f (behind (length x.2) (first_bad b))) clean

  -- the checks come to the tolerance and the lengths
  inverse_last : (tol : Float) (answer : Vec) → inverse_checks m n has_u has_vt tol (length x.2) (length answer) ≡ fitting tol (length x.2) (decomposition_length m n has_u has_vt) (length answer) (n * m)
  inverse_last tol answer = inverse_checks_last m n has_u has_vt tol (length x.2) (length answer) taken.tall taken.wide flag_u flag_vt

  solve_last : (tol : Float) (b answer : Vec) → length b ≡ m
      → solve_checks m n has_u has_vt tol (length x.2) (length b) (length answer) ≡ fitting tol (length x.2) (decomposition_length m n has_u has_vt) (length answer) n
  solve_last tol b answer = solve_checks_last m n has_u has_vt tol (length x.2) (length answer) taken.tall taken.wide flag_u flag_vt (length b)

  -- and the lengths are right
  fits : (tol : Float) (answer : Vec) (want : ℕ) → tolerance_good tol ≡ true → length answer ≡ want → fitting tol (length x.2) (decomposition_length m n has_u has_vt) (length answer) want ≡ done 0
  unfolding lengths
  fits tol answer want g l =
      fitting_lengths tol (length x.2) (decomposition_length m n has_u has_vt) (length answer) want g
      ∙ rw (eq-eqb (length x.2) (decomposition_length m n has_u has_vt) long, eq-eqb (length answer) want l)

  -- **svd_then_pseudo_inverse**
  pub svd_then_pseudo_inverse : (tol : Float) (answer : Vec) → length answer ≡ n * m → Weighs tol (pseudo_inverse m n has_u has_vt tol x.2 answer).0
  unfolding pseudo_inverse
  svd_then_pseudo_inverse tol answer l = go (tolerance_good tol) refl
    where
      go : (g : Bool) → tolerance_good tol ≡ g → Weighs tol (pseudo_inverse m n has_u has_vt tol x.2 answer).0
      go false g = refuses g (rw (inverse_last tol answer, fitting_11 tol (length x.2) (decomposition_length m n has_u has_vt) (length answer) (n * m) g))
      go true g = takes g (rw (inverse_last tol answer, fits tol answer (n * m) g l, clean) (looked_ends (inverted m n tol x.2)))

  -- **svd_then_solve**
  pub svd_then_solve : (tol : Float) (b answer : Vec) → length answer ≡ n → Says m (length x.2) tol b (solve m n has_u has_vt tol x.2 b answer).0
  unfolding solve
  svd_then_solve tol b answer l = elim (ℕ_discrete (length b) m) [
    | no d ↦ length_wrong d (rw (solve_checks_5 m n has_u has_vt tol (length x.2) (length answer) taken.tall taken.wide flag_u flag_vt (length b) d))
    | yes e ↦ go e (tolerance_good tol) refl
  ]
    where
      scanned : length b ≡ m → tolerance_good tol ≡ true → (bad : Option Bad) → first_bad b ≡ bad
          → Says m (length x.2) tol b (unless_bad (behind (length x.2) bad) answer (looked (solution m n tol x.2 b))).0
      scanned e g (Some bad) q = not_finite e g bad.index bad.class q refl
      scanned e g None q = ends e g (first_bad_none b q) (looked_ends (solution m n tol x.2 b))

      go : length b ≡ m → (g : Bool) → tolerance_good tol ≡ g → Says m (length x.2) tol b (solve m n has_u has_vt tol x.2 b answer).0
      go e false g = tolerance_bad e g (rw (solve_last tol b answer e, fitting_11 tol (length x.2) (decomposition_length m n has_u has_vt) (length answer) n g))
      go e true g = rw (solve_last tol b answer e, fits tol answer n g l, seen b) (scanned e g (first_bad b) refl)
