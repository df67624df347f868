-- Answer 0 with count c, 9 and each 8 and 10 come exactly where the sweeps, the marks and the limit say: `svd_done_exactly`, `svd_limit_exactly`, `svd_mark1_exactly`, `svd_mark2_exactly`. Laws only.
use Rattle.std.specs.Prelude.{◌≡◌, refl, ◌↔◌, ◌⊎◌, Bool, true, false, cond, ℕ, ◌+◌, ◌*◌, length}
use Rattle.std.proofs.Common.{sym, ◌∙◌, subst, ⊎_elim, arith, le-ltb, le-leb, eq-eqb, eqb-true}
use Rattle.std.proofs.Math.Path.{ap}
use Rattle.std.proofs.lemmas.Bool.{eqb-false}
use Rattle.std.proofs.lemmas.List.{length-replicate}
use Rattle.grid.specs.Real.{Vec, zero64, zeros}
use Rattle.leaves.specs.Scan.{first_bad}
use Rattle.leaves.specs.ScanLaws.{first_bad_none, first_bad_fine, first_class}
use Rattle.answers.specs.Answers.{answered, done, passed, least, decomposition_length, refusal7}
use Rattle.answers.proofs.OutcomeLaws.{none_seven}
use Rattle.answers.specs.declared.Answer.{Answer}
use Rattle.answers.specs.Checks.{limit_good, lengths}
use Rattle.svd_jacobi_svd_tall.specs.SingularValues.{normalised}
use Rattle.svd_jacobi_svd_tall.specs.JacobiSvdTall.{jacobi}
use Rattle.svd_theorems.specs.SweepsOutcome.{Seen2, here, bad, used, Swept, RunGives, well, at_mark2, at_mark1, at_limit}
use Rattle.svd_theorems.proofs.SweepsOutcomeLaws.{run_gives, gives_once, used_all, swept_class}
use Rattle.svd_sort_svd_descending.specs.Result.{longest, work_length, sorted_out}
use Rattle.svd.specs.Svd.{checks, ran, svd}
use Rattle.svd.specs.LoadedLaws.{loaded_long}
use Rattle.svd.specs.Sizes.{checks_passed}
use Rattle.svd_theorems.specs.Outcome.{Outcome, Taken, begun, given, Done, Broken2, Halted}

-- ---- a call that is done has passed every check

pub taken_by : (m n want_u want_vt limit : ℕ) (matrix work result : Vec) → passed (checks m n want_u want_vt limit (length matrix) (length work) (length result)) ≡ true
    → passed (refusal7 (first_bad matrix)) ≡ true → Taken m n want_u want_vt limit matrix work result
taken_by m n want_u want_vt limit matrix work result e f =
    let s = checks_passed m n want_u want_vt limit (length matrix) (length work) (length result) (eqb-true (checks m n want_u want_vt limit (length matrix) (length work) (length result)).answer 0 e) in
    record {
      tall = s.tall;
      wide = s.wide;
      least_limit = s.some;
      most = s.few;
      whole = s.matrix;
      works = s.work;
      room = s.result;
      finite = first_bad_none matrix (none_seven (first_bad matrix) (eqb-true (refusal7 (first_bad matrix)).answer 0 f));
    }

pub taken_of : (m n want_u want_vt limit : ℕ) (matrix work result : Vec) → (svd m n want_u want_vt limit matrix work result).0.answer ≡ 0 → Taken m n want_u want_vt limit matrix work result
unfolding svd
taken_of m n want_u want_vt limit matrix work result z = go (passed c) refl (passed b) refl _ _ _ z
  where
    c : Answer
    c = checks m n want_u want_vt limit (length matrix) (length work) (length result)

    b : Answer
    b = refusal7 (first_bad matrix)

    go : (p : Bool) → passed c ≡ p → (q : Bool) → passed b ≡ q → (o : Outcome) (v w : Vec) → (cond p (cond q o (b, v, w)) (c, work, result)).0.answer ≡ 0
        → Taken m n want_u want_vt limit matrix work result
    go true e true f o v w z = taken_by m n want_u want_vt limit matrix work result e f
    go true e false f o v w z = absurd (eqb-false b.answer 0 f z)
    go false e q f o v w z = absurd (eqb-false c.answer 0 e z)

-- ---- the outcome of a call that passes them

pub begun_long : (m n : ℕ) (matrix : Vec) → length (begun m n matrix) ≡ longest m n * least m n + least m n * least m n + least m n
begun_long m n matrix = loaded_long m n matrix

pub runs : (m n want_u want_vt limit : ℕ) (matrix work result : Vec) → Taken m n want_u want_vt limit matrix work result
    → svd m n want_u want_vt limit matrix work result ≡ given m n want_u want_vt (jacobi (longest m n) (least m n) limit (begun m n matrix))
unfolding svd ran given checks limit_good lengths
runs m n want_u want_vt limit matrix work result f =
    simp (le-ltb 256 m f.tall, le-ltb 256 n f.wide, le-leb 1 limit f.least_limit, le-leb limit 60 f.most, eq-eqb (length matrix) (m * n) f.whole, eq-eqb (length work) (work_length m n) f.works, eq-eqb (length result) (decomposition_length m n want_u want_vt) f.room, first_bad_fine matrix f.finite)
    (rw (f.works, f.room, length-replicate (work_length m n) zero64))

-- ---- done exactly where, and the others

not_nine : (a : ℕ) → (a ≡ 8) ⊎ (a ≡ 10) → a ≡ 9 → ⊥
not_nine a k z = ⊎_elim (λ e. omega arith) (λ e. omega arith) k

module _ (m n limit : ℕ) (matrix : Vec) where
  gives_done : (c : ℕ) (o : Answer × Vec) → RunGives (longest m n) (least m n) limit (begun m n matrix) o → o.0 ≡ done c → Done m n limit matrix c
  gives_done c o (well {y = y} s w) q = record { last = y; sweeps_to = subst (λ (k : ℕ). Swept (longest m n) (least m n) limit k (begun m n matrix) here y) (ap (λ (t : Answer). t.count) q) s; whole = w }
  gives_done c o (at_mark2 s w) q = absurd (omega (arith, ap (λ (t : Answer). t.place) q))
  gives_done c o (at_mark1 s) q = absurd (omega (arith, ap (λ (t : Answer). t.place) q))
  gives_done c o (at_limit s) q = absurd (omega (arith, ap (λ (t : Answer). t.answer) q))

  told_mark2 : (a i c : ℕ) → (a ≡ 8) ⊎ (a ≡ 10) → (o : Answer × Vec) → RunGives (longest m n) (least m n) limit (begun m n matrix) o → o.0 ≡ answered a 2 i c → Broken2 m n limit matrix c a i
  told_mark2 a i c k o (well s w) q = absurd (omega (arith, ap (λ (t : Answer). t.place) q))
  told_mark2 a i c k o (at_mark2 {y = y} s w) q = record {
    last = y;
    sweeps_to = subst (λ (j : ℕ). Swept (longest m n) (least m n) limit j (begun m n matrix) here y) (ap (λ (t : Answer). t.count) q) s;
    seen = subst (λ (t : Answer). Seen2 (longest m n) (least m n) (normalised (longest m n) (least m n) y) t.index t.answer) q w;
  }
  told_mark2 a i c k o (at_mark1 s) q = absurd (omega (arith, ap (λ (t : Answer). t.place) q))
  told_mark2 a i c k o (at_limit s) q = absurd (not_nine a k (sym (ap (λ (t : Answer). t.answer) q)))

  told_mark1 : (a i c : ℕ) → (a ≡ 8) ⊎ (a ≡ 10) → (o : Answer × Vec) → RunGives (longest m n) (least m n) limit (begun m n matrix) o → o.0 ≡ answered a 1 i c → Halted m n limit matrix (bad a i) c
  told_mark1 a i c k o (well s w) q = absurd (omega (arith, ap (λ (t : Answer). t.place) q))
  told_mark1 a i c k o (at_mark2 s w) q = absurd (omega (arith, ap (λ (t : Answer). t.place) q))
  told_mark1 a i c k o (at_mark1 {y = y} s) q =
      record { last = y; sweeps_to = subst (λ (t : Answer). Swept (longest m n) (least m n) limit t.count (begun m n matrix) (bad t.answer t.index) y) q s }
  told_mark1 a i c k o (at_limit s) q = absurd (not_nine a k (sym (ap (λ (t : Answer). t.answer) q)))

  gives_limit : (p i c : ℕ) (o : Answer × Vec) → RunGives (longest m n) (least m n) limit (begun m n matrix) o → o.0 ≡ answered 9 p i c → (p ≡ c) × (i ≡ 0) × Halted m n limit matrix used c
  gives_limit p i c o (well s w) q = absurd (omega (arith, ap (λ (t : Answer). t.answer) q))
  gives_limit p i c o (at_mark2 {a = a} s w) q = absurd (not_nine a (first_class _ _ _ a w) (ap (λ (t : Answer). t.answer) q))
  gives_limit p i c o (at_mark1 {a = a} {i = j} s) q = absurd (not_nine a (swept_class (longest m n) (least m n) s a j refl) (ap (λ (t : Answer). t.answer) q))
  gives_limit p i c o (at_limit {y = y} s) q = (
    sym (ap (λ (t : Answer). t.place) q) ∙ ap (λ (t : Answer). t.count) q,
    sym (ap (λ (t : Answer). t.index) q),
    record { last = y; sweeps_to = subst (λ (k : ℕ). Swept (longest m n) (least m n) limit k (begun m n matrix) used y) (ap (λ (t : Answer). t.count) q) s },
  )

module _ (m n want_u want_vt limit : ℕ) (matrix work result : Vec) (f : Taken m n want_u want_vt limit matrix work result) where
  tells : RunGives (longest m n) (least m n) limit (begun m n matrix) (jacobi (longest m n) (least m n) limit (begun m n matrix))
  tells = run_gives (longest m n) (least m n) limit (begun m n matrix) (begun_long m n matrix)

  pub answer_is : (svd m n want_u want_vt limit matrix work result).0 ≡ (jacobi (longest m n) (least m n) limit (begun m n matrix)).0
  unfolding given
  answer_is = ap (λ (t : Outcome). t.0) (runs m n want_u want_vt limit matrix work result f)

  -- the outcome is that of what the run gives
  outcome_is : (o : Answer × Vec) → RunGives (longest m n) (least m n) limit (begun m n matrix) o → svd m n want_u want_vt limit matrix work result ≡ given m n want_u want_vt o
  outcome_is o t = runs m n want_u want_vt limit matrix work result f ∙ ap (given m n want_u want_vt) (gives_once (longest m n) (least m n) limit (begun m n matrix) _ o tells t)

  -- **svd_done_exactly**
  pub svd_done_exactly : (c : ℕ) → ((svd m n want_u want_vt limit matrix work result).0 ≡ done c) ↔ Done m n limit matrix c
  unfolding given
  svd_done_exactly c = (
    λ q. gives_done m n limit matrix c _ tells (sym answer_is ∙ q),
    λ d. ap (λ (t : Outcome). t.0) (outcome_is _ (well d.sweeps_to d.whole)),
  )

  -- and then the whole outcome is theirs
  pub svd_done_result : (c : ℕ) (d : Done m n limit matrix c) → svd m n want_u want_vt limit matrix work result
      ≡ (done c, zeros (work_length m n), sorted_out m n want_u want_vt (normalised (longest m n) (least m n) d.last))
  unfolding given
  svd_done_result c d = outcome_is _ (well d.sweeps_to d.whole)

  -- 9, with as many sweeps as the limit; 8 or 10 after a sweep; 8 or 10 after normalising
  pub svd_limit_exactly : (c : ℕ) → ((svd m n want_u want_vt limit matrix work result).0 ≡ answered 9 c 0 c) ↔ Halted m n limit matrix used c
  unfolding given
  svd_limit_exactly c = (
    λ q. (gives_limit m n limit matrix c 0 c _ tells (sym answer_is ∙ q)).2,
    λ d. ap (λ (t : Outcome). t.0) (outcome_is _ (at_limit d.sweeps_to)),
  )

  -- refused with 9, it has run as many sweeps as the limit, and the place and the count say so
  pub svd_limit_spent : (p i c : ℕ) → (svd m n want_u want_vt limit matrix work result).0 ≡ answered 9 p i c → (p ≡ limit) × (i ≡ 0) × (c ≡ limit)
  svd_limit_spent p i c q =
      let t = gives_limit m n limit matrix p i c _ tells (sym answer_is ∙ q) in
      let e = used_all (longest m n) (least m n) t.2.sweeps_to refl in
      (t.0 ∙ e, t.1, e)

  pub svd_mark1_exactly : (a i c : ℕ) → (a ≡ 8) ⊎ (a ≡ 10) → ((svd m n want_u want_vt limit matrix work result).0 ≡ answered a 1 i c) ↔ Halted m n limit matrix (bad a i) c
  unfolding given
  svd_mark1_exactly a i c k = (
    λ q. told_mark1 m n limit matrix a i c k _ tells (sym answer_is ∙ q),
    λ d. ap (λ (t : Outcome). t.0) (outcome_is _ (at_mark1 d.sweeps_to)),
  )

  pub svd_mark2_exactly : (a i c : ℕ) → (a ≡ 8) ⊎ (a ≡ 10) → ((svd m n want_u want_vt limit matrix work result).0 ≡ answered a 2 i c) ↔ Broken2 m n limit matrix c a i
  unfolding given
  svd_mark2_exactly a i c k = (
    λ q. told_mark2 m n limit matrix a i c k _ tells (sym answer_is ∙ q),
    λ d. ap (λ (t : Outcome). t.0) (outcome_is _ (at_mark2 d.sweeps_to d.seen)),
  )
