-- Answer, place, index, count and values don't depend on the flags, nor U on V^T's, nor V^T on U's. Laws only.
use Rattle.std.specs.Prelude.{◌≡◌, refl, Bool, true, false, cond, ◌||◌, ℕ, ◌*◌, ◌<◌, ltb, eqb, length}
use Rattle.std.proofs.Common.{sym, ap, ◌∙◌, eq-eqb}
use Rattle.grid.specs.Real.{Vec, at, zeros}
use Rattle.leaves.specs.Scan.{first_bad}
use Rattle.answers.specs.Answers.{refused, done, passed, least, decomposition_length, refusal7}
use Rattle.answers.specs.declared.Answer.{Answer}
use Rattle.answers.specs.Checks.{limit_good, lengths}
use Rattle.svd_jacobi_svd_tall.specs.JacobiSvdTall.{jacobi}
use Rattle.svd_sort_svd_descending.specs.Result.{longest, work_length}
use Rattle.svd.specs.Svd.{loaded, checks, ran, svd}
use Rattle.svd_theorems.specs.Outcome.{Outcome, u_cell, vt_cell}
use Rattle.svd_theorems.proofs.Promise.{svd_values}
use Rattle.svd_theorems.proofs.Result.{svd_cells_u, svd_cells_vt}

-- the four numbers of a call
numbers : (m n want_u want_vt limit : ℕ) (matrix work result : Vec)
    → (svd m n want_u want_vt limit matrix work result).0
    ≡ cond (passed (checks m n want_u want_vt limit (length matrix) (length work) (length result)))
    (cond (passed (refusal7 (first_bad matrix))) (jacobi (longest m n) (least m n) limit (loaded m n matrix)).0 (refusal7 (first_bad matrix)))
    (checks m n want_u want_vt limit (length matrix) (length work) (length result))
unfolding svd ran
numbers m n want_u want_vt limit matrix work result = go (passed c) (passed b)
  where
    c : Answer
    c = checks m n want_u want_vt limit (length matrix) (length work) (length result)

    b : Answer
    b = refusal7 (first_bad matrix)

    o : Outcome
    o = ran m n want_u want_vt limit matrix (zeros (length work)) (zeros (length result))

    go : (p q : Bool) → (cond p (cond q o (b, zeros (length work), zeros (length result))) (c, work, result)).0 ≡ cond p (cond q o.0 b) c
    go true true = refl
    go true false = refl
    go false q = refl

-- where the result has the length that the flags ask for, the checks say the same
checks_flags : (m n u vt limit a b : ℕ) → checks m n u vt limit a b (decomposition_length m n u vt)
    ≡ cond (ltb 256 m || ltb 256 n) (refused 1 0) (cond (limit_good limit) (cond (eqb a (m * n)) (cond (eqb b (work_length m n)) (done 0) (refused 6 1)) (refused 6 0)) (refused 2 0))
unfolding checks lengths
checks_flags m n u vt limit a b = rw (eq-eqb (decomposition_length m n u vt) (decomposition_length m n u vt) refl)

-- two calls that differ in their flags, in what work and result held before, and in the length that the flags ask of the result
module _ (m n u vt u' vt' limit : ℕ) (matrix work result work' result' : Vec) (lw : length work ≡ length work') (lr : length result ≡ decomposition_length m n u vt) (lr' : length result' ≡ decomposition_length m n u' vt') where
  checks_same : checks m n u vt limit (length matrix) (length work) (length result) ≡ checks m n u' vt' limit (length matrix) (length work') (length result')
  checks_same =
      ap (checks m n u vt limit (length matrix) (length work)) lr
      ∙ checks_flags m n u vt limit (length matrix) (length work)
      ∙ sym (checks_flags m n u' vt' limit (length matrix) (length work))
      ∙ (λ i. checks m n u' vt' limit (length matrix) (lw i) (sym lr' i))

  -- **svd_flags**: answer, place, index and count are the same, refusals too
  pub svd_flags_numbers : (svd m n u vt limit matrix work result).0 ≡ (svd m n u' vt' limit matrix work' result').0
  svd_flags_numbers =
      numbers m n u vt limit matrix work result
      ∙ (λ i. cond (passed (checks_same i))
      (cond (passed (refusal7 (first_bad matrix))) (jacobi (longest m n) (least m n) limit (loaded m n matrix)).0 (refusal7 (first_bad matrix)))
      (checks_same i))
      ∙ sym (numbers m n u' vt' limit matrix work' result')

  module _ (z : (svd m n u vt limit matrix work result).0.answer ≡ 0) where
    z' : (svd m n u' vt' limit matrix work' result').0.answer ≡ 0
    z' = ap (λ (t : Answer). t.answer) (sym svd_flags_numbers) ∙ z

    -- the values are the same
    pub svd_flags_values : (k : ℕ) → k < least m n → at (svd m n u vt limit matrix work result).2 k ≡ at (svd m n u' vt' limit matrix work' result').2 k
    svd_flags_values k h = svd_values m n u vt limit matrix work result z k h ∙ sym (svd_values m n u' vt' limit matrix work' result' z' k h)

    -- U is the same wherever both have it, and so is V^T
    pub svd_flags_u : (u ≡ 0 → ⊥) → (u' ≡ 0 → ⊥) → (i k : ℕ) → i < m → k < least m n
        → at (svd m n u vt limit matrix work result).2 (u_cell m n i k) ≡ at (svd m n u' vt' limit matrix work' result').2 (u_cell m n i k)
    svd_flags_u f f' i k p q = svd_cells_u m n u vt limit matrix work result z f i k p q ∙ sym (svd_cells_u m n u' vt' limit matrix work' result' z' f' i k p q)

    pub svd_flags_vt : (vt ≡ 0 → ⊥) → (vt' ≡ 0 → ⊥) → (k j : ℕ) → k < least m n → j < n
        → at (svd m n u vt limit matrix work result).2 (vt_cell m n u k j) ≡ at (svd m n u' vt' limit matrix work' result').2 (vt_cell m n u' k j)
    svd_flags_vt f f' k j p q = svd_cells_vt m n u vt limit matrix work result z f k j p q ∙ sym (svd_cells_vt m n u' vt' limit matrix work' result' z' f' k j p q)
