-- What the index of `svd` says: it points at the number that a mark met (`svd_index_points`), and is 0 on every other answer (`svd_index_zero`). Laws only.
use Rattle.std.specs.Prelude.{◌≡◌, Bool, true, false, cond, ◌||◌, ℕ, ◌*◌, ltb, length}
use Rattle.std.proofs.Math.Path.{refl}
use Rattle.std.proofs.Common.{⊎_elim, arith}
use Rattle.grid.specs.Real.{Vec, zeros}
use Rattle.leaves.specs.Scan.{first_bad}
use Rattle.leaves.specs.ScanLaws.{first_class}
use Rattle.answers.specs.Answers.{refused, passed, least, decomposition_length, refusal7}
use Rattle.answers.specs.Index.{AtMark, Indexed}
use Rattle.answers.specs.IndexLaws.{refuse_index, unless_index, refusal7_index, refusal7_most, none, below, pointed}
use Rattle.answers.specs.declared.Answer.{Answer}
use Rattle.answers.specs.Checks.{limit_good, lengths}
use Rattle.answers.specs.ChecksLaws.{lengths_index}
use Rattle.svd_theorems.specs.SweepsOutcome.{RunGives, well, at_mark2, at_mark1, at_limit}
use Rattle.svd_theorems.proofs.SweepsOutcomeLaws.{run_gives, swept_class, swept_seen}
use Rattle.svd_sort_svd_descending.specs.Result.{longest, work_length}
use Rattle.svd.specs.Svd.{checks, ran, svd}
use Rattle.svd_theorems.specs.Outcome.{Outcome, begun}
use Rattle.svd_theorems.proofs.OutcomeLaws.{begun_long}
use Rattle.svd_theorems.specs.OldContents.{svd_checks_few}
use Rattle.svd_theorems.specs.Index.{Points, in_factors, in_all}

checks_index : (m n want_u want_vt limit a b c : ℕ) → (checks m n want_u want_vt limit a b c).index ≡ 0
unfolding checks
checks_index m n want_u want_vt limit a b c =
    let l : Answer = lengths a (m * n) b (work_length m n) c (decomposition_length m n want_u want_vt) in
    refuse_index (ltb 256 m || ltb 256 n) 1 0 (cond (limit_good limit) l (refused 2 0))
    (unless_index (limit_good limit) 2 0 l (lengths_index a (m * n) b (work_length m n) c (decomposition_length m n want_u want_vt)))

gives_indexed : (m n limit : ℕ) (matrix : Vec) (o : Answer × Vec) → RunGives (longest m n) (least m n) limit (begun m n matrix) o → Indexed (Points m n limit matrix) o.0
gives_indexed m n limit matrix o (well s w) = below (Points m n limit matrix) _ (omega arith) refl
gives_indexed m n limit matrix o (at_mark2 {a = a} {y = y} s f) =
    pointed (Points m n limit matrix) _ (first_class _ _ _ a f) (in_all refl (record { last = y; sweeps_to = s; seen = f }))
gives_indexed m n limit matrix o (at_mark1 {a = a} {i = i} {y = y} s) =
    pointed (Points m n limit matrix) _ (swept_class (longest m n) (least m n) s a i refl)
    (in_factors refl (record { last = y; sweeps_to = s }) (swept_seen (longest m n) (least m n) s a i refl))
gives_indexed m n limit matrix o (at_limit s) = none (Points m n limit matrix) _ (⊎_elim (λ e. omega arith) (λ e. omega arith)) refl

module _ (m n want_u want_vt limit : ℕ) (matrix work result : Vec) where
  indexed : Indexed (Points m n limit matrix) (svd m n want_u want_vt limit matrix work result).0
  unfolding svd ran
  indexed = go (passed c) refl (passed b) refl
    where
      c : Answer
      c = checks m n want_u want_vt limit (length matrix) (length work) (length result)

      b : Answer
      b = refusal7 (first_bad matrix)

      o : Outcome
      o = ran m n want_u want_vt limit matrix (zeros (length work)) (zeros (length result))

      go : (p : Bool) → passed c ≡ p → (q : Bool) → passed b ≡ q
          → Indexed (Points m n limit matrix) (cond p (cond q o (b, zeros (length work), zeros (length result))) (c, work, result)).0
      go true e true f =
          gives_indexed m n limit matrix _ (run_gives (longest m n) (least m n) limit (begun m n matrix) (begun_long m n matrix))
      go true e false f = below (Points m n limit matrix) b (refusal7_most (first_bad matrix)) (refusal7_index (first_bad matrix))
      go false e q f =
          below (Points m n limit matrix) c (omega (arith, svd_checks_few m n want_u want_vt limit (length matrix) (length work) (length result)))
          (checks_index m n want_u want_vt limit (length matrix) (length work) (length result))

  pub svd_index_points : AtMark (svd m n want_u want_vt limit matrix work result).0 → Points m n limit matrix (svd m n want_u want_vt limit matrix work result).0
  svd_index_points = indexed.points

  pub svd_index_zero : (AtMark (svd m n want_u want_vt limit matrix work result).0 → ⊥) → (svd m n want_u want_vt limit matrix work result).0.index ≡ 0
  svd_index_zero = indexed.zero
