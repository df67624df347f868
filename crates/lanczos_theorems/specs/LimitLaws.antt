-- What `lanczos_limit` rests on: each part of `lanczos` at two limits. Laws only.
use Rattle.std.specs.Prelude.{◌≡◌, Bool, true, false, cond, ◌++◌, ℕ, ◌+◌, ◌*◌, ◌≤◌, length, take, drop}
use Rattle.std.proofs.Math.Path.{refl, ap}
use Rattle.std.proofs.Common.{sym, arith, eqb-true}
use Rattle.grid.specs.Real.{Vec, zeros}
use Rattle.leaves.specs.Leaf.{is_finite}
use Rattle.leaves.specs.Scan.{first_bad}
use Rattle.answers.specs.Answers.{passed, refusal7}
use Rattle.answers.proofs.OutcomeLaws.{Settled, always, by_test}
use Rattle.answers.specs.declared.Answer.{Answer}
use Rattle.answers.specs.ChecksLaws.{right_limit}
use Rattle.eigen_theorems.proofs.Limit.{eigen_limit}
use Rattle.gram_schmidt.specs.Gram.{norm}
use Rattle.lanczos_steps.specs.Krylov.{LanczosState}
use Rattle.lanczos_pairs.specs.LeadingPairs.{selected}
use Rattle.lanczos_pairs.specs.TridiagonalMatrix.{tri}
use Rattle.lanczos_pairs.specs.TridiagonalEigen.{inward}
use Rattle.lanczos.specs.Run.{none, paired, solved, ran}
use Rattle.lanczos.specs.Checks.{checks}
use Rattle.lanczos.specs.Lanczos.{lanczos}
use Rattle.lanczos.specs.LanczosLaws.{lanczos_entered}
use Rattle.lanczos_theorems.specs.Early.{Outcome}

abbrev answer2 : Answer × Vec → ℕ
answer2 x = x.0.answer

abbrev pub answer3 : Outcome → ℕ
answer3 x = x.0.answer

-- the inner call's 9 comes out
paired_nine : (n k m : ℕ) (q : Vec) (r : Outcome) → r.0.answer ≡ 9 → (paired n k m q r).0.answer ≡ 9
unfolding paired
paired_nine n k m q r e = go (passed r.0) refl
  where
    go : (b : Bool) → passed r.0 ≡ b
        → (cond {A = Answer × Vec} b (selected n k m r.0.count q (take m r.2) (drop m r.2) (zeros (k + k * n))) (none n k r.0)).0.answer ≡ 9
    go true t = absurd (let z : r.0.answer ≡ 0 = eqb-true _ 0 t in omega arith)
    go false t = e

module _ (l h : ℕ) (low : 1 ≤ l) (up : l ≤ h) (high : h ≤ 60) where
  paired_limit : (n k m edition : ℕ) (q al be : Vec) → Settled answer2 (paired n k m q (inward m l edition al be)) (paired n k m q (inward m h edition al be))
  unfolding inward
  paired_limit n k m edition q al be =
      let s = eigen_limit m edition l h (tri m al be (zeros (m * m))) (zeros m) (zeros (m + m * m)) low up high in
      record { same = λ d. ap (paired n k m q) (s.same (λ e. d (paired_nine n k m q _ e))) }

  solved_limit : (n k edition : ℕ) (x : LanczosState) → Settled answer2 (solved n k l edition x) (solved n k h edition x)
  unfolding solved
  solved_limit n k edition x = by_test answer2 (passed x.0.said) _ refl (paired_limit n k x.0.dim edition x.1 x.2 x.3) (always answer2)

  ran_limit : (n k edition : ℕ) (a b : Vec) → Settled answer2 (ran n k l edition a b) (ran n k h edition a b)
  unfolding ran
  ran_limit n k edition a b = by_test answer2 (is_finite (norm n b)) _ refl (solved_limit n k edition _) (always answer2)

  entered_limit : (n k edition : ℕ) (a b work : Vec) → Settled answer3 (lanczos_entered n k l edition a b work) (lanczos_entered n k h edition a b work)
  entered_limit n k edition a b work =
      let s = by_test answer2 (passed (refusal7 (first_bad (a ++ b)))) _ refl (ran_limit n k edition a b) (always answer2 {x = none n k (refusal7 (first_bad (a ++ b)))}) in
      record { same = λ d. ap (λ (y : Answer × Vec). (y.0, zeros (length work), y.1)) (s.same d) }

  checks_limit : (n k edition a b work x : ℕ) → checks n k l edition a b work x ≡ checks n k h edition a b work x
  unfolding checks
  checks_limit n k edition a b work x = rw (right_limit l low (omega arith), right_limit h (omega arith) high)

  pub limit_settled : (n k edition : ℕ) (a b work x : Vec) → Settled answer3 (lanczos n k l edition a b work x) (lanczos n k h edition a b work x)
  unfolding lanczos
  limit_settled n k edition a b work x =
      let e = checks_limit n k edition (length a) (length b) (length work) (length x) in
      by_test answer3 (passed (checks n k l edition (length a) (length b) (length work) (length x))) _ (ap (λ (y : Answer). passed y) e) (entered_limit n k edition a b work)
      (record { same = λ d. ap (λ (y : Answer). (y, work, x)) (sym e) })
