-- Where the answer is 0, every number of the answer array is finite, and at most k pairs are found (`lanczos_finite_out`, `lanczos_pairs`). Laws only.
use Rattle.leaves.specs.declared.Bad.{Bad}
use Rattle.std.specs.Prelude.{◌≡◌, refl, Bool, true, false, cond, ◌++◌, ℕ, ◌+◌, ◌*◌, ◌≤◌, ltb, length, Option, Some, None, is_some}
use Rattle.std.proofs.Common.{sym, ap, subst, ⊎_elim, arith, ltb-false}
use Rattle.std.proofs.lemmas.Bool.{eqb-false}
use Rattle.grid.specs.Real.{Vec, zeros}
use Rattle.leaves.specs.Leaf.{is_finite}
use Rattle.leaves.specs.Finite.{Finite}
use Rattle.leaves.specs.FiniteLaws.{scan_finite}
use Rattle.leaves.specs.Scan.{class_of, first_bad}
use Rattle.leaves.specs.ScanLaws.{class_cases, scan_class}
use Rattle.answers.specs.Answers.{answered, passed, refusal7, marked, least}
use Rattle.answers.specs.declared.Answer.{Answer}
use Rattle.gram_schmidt.specs.Gram.{norm}
use Rattle.lanczos_steps.specs.Krylov.{LanczosState}
use Rattle.lanczos_pairs.specs.LeadingPairs.{looked, selected}
use Rattle.lanczos.specs.Run.{none, paired, solved, ran}
use Rattle.lanczos.specs.Checks.{checks}
use Rattle.lanczos.specs.Lanczos.{lanczos}
use Rattle.lanczos_theorems.specs.Early.{Outcome, Promised}

-- of an outcome of the run with k pairs wanted
record Good (k : ℕ) (y : Answer × Vec) : Type 0 where
  finite : y.0.answer ≡ 0 → Finite y.1
  pairs : y.0.answer ≡ 0 → y.0.place ≤ k

refused_good : (k : ℕ) (x : Answer) (v : Vec) → (x.answer ≡ 0 → ⊥) → Good k (x, v)
refused_good k x v d = record { finite = λ e. absurd (d e); pairs = λ e. absurd (d e) }

-- a test, and a refusal where it fails
unless : (k : ℕ) (x : Answer) (y : Answer × Vec) (v : Vec) → Good k y → Good k (cond (passed x) y (x, v))
unless k x y v g = go (passed x) refl
  where
    go : (b : Bool) → passed x ≡ b → Good k (cond b y (x, v))
    go true e = g
    go false e = refused_good k x v (eqb-false x.answer 0 e)

looked_good : (k found count : ℕ) (x : Vec) → found ≤ k → Good k (looked found count x)
unfolding looked
looked_good k found count x l = go (first_bad x) refl
  where
    go : (b : Option Bad) → first_bad x ≡ b → Good k (cond (is_some b) (marked 6 count b, zeros (length x)) (answered 0 found 0 count, x))
    go (Some bad) e = refused_good k _ _ (λ (z : bad.class ≡ 0). ⊎_elim (λ s. omega arith) (λ s. omega arith) (scan_class _ _ bad.index bad.class e))
    go None e = record { finite = λ z. scan_finite x (ap is_some e); pairs = λ z. l }

least_first : (k m : ℕ) → least k m ≤ k
unfolding least
least_first k m = go (ltb k m) refl
  where
    go : (b : Bool) → ltb k m ≡ b → cond b k m ≤ k
    go true e = omega arith
    go false e = omega (arith, ltb-false k m e)

paired_good : (n k m : ℕ) (q : Vec) (r : Answer × Vec × Vec) → Good k (paired n k m q r)
unfolding paired selected
paired_good n k m q r = unless k r.0 _ (zeros (k + k * n)) (looked_good k (least k m) r.0.count _ (least_first k m))

solved_good : (n k limit edition : ℕ) (x : LanczosState) → Good k (solved n k limit edition x)
unfolding solved
solved_good n k limit edition x = unless k x.0.said _ (zeros (k + k * n)) (paired_good n k x.0.dim x.1 _)

ran_good : (n k limit edition : ℕ) (a b : Vec) → Good k (ran n k limit edition a b)
unfolding ran
ran_good n k limit edition a b = go (is_finite (norm n b)) (solved_good n k limit edition _)
  where
    go : (t : Bool) {y : Answer × Vec} → Good k y → Good k (cond t y (none n k (answered (class_of (norm n b)) 3 0 0)))
    go true g = g
    go false g = refused_good k _ _ (λ z. ⊎_elim (λ s. omega arith) (λ s. omega arith) (class_cases (norm n b)))

run_good : (n k limit edition : ℕ) (a b : Vec) → Good k (cond (passed (refusal7 (first_bad (a ++ b)))) (ran n k limit edition a b) (none n k (refusal7 (first_bad (a ++ b)))))
run_good n k limit edition a b = unless k (refusal7 (first_bad (a ++ b))) _ (zeros (k + k * n)) (ran_good n k limit edition a b)

call_good : (n k limit edition : ℕ) (a b work x : Vec) → Good k ((lanczos n k limit edition a b work x).0, (lanczos n k limit edition a b work x).2)
unfolding lanczos
call_good n k limit edition a b work x = go (passed c) refl
  where
    c : Answer
    c = checks n k limit edition (length a) (length b) (length work) (length x)

    o : Answer × Vec
    o = cond (passed (refusal7 (first_bad (a ++ b)))) (ran n k limit edition a b) (none n k (refusal7 (first_bad (a ++ b))))

    go : (t : Bool) → passed c ≡ t → Good k ((cond {A = Outcome} t (o.0, zeros (length work), o.1) (c, work, x)).0, (cond {A = Outcome} t (o.0, zeros (length work), o.1) (c, work, x)).2)
    go true e = run_good n k limit edition a b
    go false e = refused_good k c x (eqb-false c.answer 0 e)

-- **lanczos_finite_out**
pub lanczos_finite_out : (n k limit edition : ℕ) (a b work x : Vec) → (lanczos n k limit edition a b work x).0.answer ≡ 0 → Finite (lanczos n k limit edition a b work x).2
lanczos_finite_out n k limit edition a b work x = (call_good n k limit edition a b work x).finite

-- **lanczos_pairs**
pub lanczos_pairs : (n k limit edition : ℕ) (a b work x : Vec) → (lanczos n k limit edition a b work x).0.answer ≡ 0 → (lanczos n k limit edition a b work x).0.place ≤ k
lanczos_pairs n k limit edition a b work x = (call_good n k limit edition a b work x).pairs

-- of a call
pub lanczos_out_calls : (n k limit edition : ℕ) (a b work x : Vec) (y : Outcome) → Promised n k limit edition a b work x y → y.0.answer ≡ 0 → Finite y.2 × (y.0.place ≤ k)
lanczos_out_calls n k limit edition a b work x y p =
    subst (λ (o : Outcome). o.0.answer ≡ 0 → Finite o.2 × (o.0.place ≤ k)) (sym p)
    (λ z. (lanczos_finite_out n k limit edition a b work x z, lanczos_pairs n k limit edition a b work x z))
