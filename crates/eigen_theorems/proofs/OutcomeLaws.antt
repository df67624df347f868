-- Answer 0 with count c, 9 and each 8 and 10 with its index come exactly where the loops, the marks and the limit say: `done_exactly`, `limit_exactly`, `mark0_exactly`, `mark1_exactly`, `mark2_exactly`. Laws only.
-- So a definition that refused more than the scope allows could not have them.
use Rattle.leaves.specs.declared.Bad.{Bad}
use Rattle.std.specs.Prelude.{◌≡◌, refl, ◌↔◌, Bool, true, false, cond, [], ◌++◌, ℕ, ◌+◌, ◌*◌, ◌<◌, eqb, length, Option, Some, None, is_some}
use Rattle.std.proofs.Math.Path.{sym, ap, subst}
use Rattle.std.proofs.Common.{◌∙◌, ⊎_elim, arith, ne_eqb, eqb-true}
use Rattle.std.proofs.lemmas.Bool.{eqb-false}
use Rattle.std.proofs.lemmas.List.{length-replicate}
use Rattle.grid.specs.Real.{Vec, at, zero64, zeros}
use Rattle.leaves.specs.Scan.{by_rows, bad_at}
use Rattle.leaves.specs.ScanLaws.{first_bad_none, scan_first}
use Rattle.leaves.specs.FiniteLaws.{both_finite, finite_both, by_rows_at, by_rows_long, cells_finite, finite_rows, none_lower}
use Rattle.answers.specs.Answers.{answered, done, passed, marked}
use Rattle.answers.specs.Index.{Class}
use Rattle.answers.specs.declared.Answer.{Answer}
use Rattle.answers.proofs.EditionLaws.{right_edition}
use Rattle.eigen_tred2_definition.proofs.Sizes.{tred2_square, tred2_diagonal, tred2_beside}
use Rattle.eigen_tql2.specs.Sort.{sorted}
use Rattle.eigen_tql2.specs.Tql2.{tql2}
use Rattle.eigen_theorems.specs.Tql2Document.{Carried, begun}
use Rattle.eigen_theorems.specs.Tql2Lengths.{tql2_square}
use Rattle.eigen_theorems.specs.Tql2Outcome.{FirstIn, list1, list2, bad, used, Turned, Ran, Whole, RunGives, well, at_mark2, at_mark1, at_limit}
use Rattle.eigen_theorems.proofs.Tql2OutcomeLaws.{first_class, class_above, none_first, one_first, mark1_sees, gives_once, ran_document}
use Rattle.eigen_theorems.proofs.Tql2Marks.{run_gives}
use Rattle.eigen_symmetric_eigen.specs.AfterTred2.{mark0, after_tred}
use Rattle.eigen_symmetric_eigen.specs.SymmetricEigen.{decomposed, cleared, given, eigen_entered, eigen}
use Rattle.eigen_symmetric_eigen.specs.PartsLaws.{checks_pass}
use Rattle.eigen_theorems.specs.Outcome.{Outcome, Fit, Taken, reduced, list0, Reduced, Reached, Done, empty, worked, Halted, Broken0, Broken2, Says, nothing, at_mark0, runs, finished_with, Some as Made}
use Rattle.eigen_theorems.specs.Document as Doc
use Rattle.eigen_symmetric_eigen.specs.LayoutLaws.{same_entries, columns_long}

-- ---- the checks

pub enters : (n limit edition : ℕ) (a work result : Vec) → Fit n limit edition a work result → eigen n limit edition a work result ≡ eigen_entered n limit edition a
enters n limit edition a work result f = checks_pass n limit edition a work result f.small f.least f.most (right_edition edition f.choice) f.square f.works f.room

-- ---- the outcome that the run gives

pub square : (n : ℕ) (a : Vec) → length (reduced n a).0 ≡ n * n
square n a = tred2_square n _ ∙ columns_long n a

pub diagonal : (n : ℕ) (a : Vec) → length (reduced n a).1 ≡ n
diagonal n a = tred2_diagonal n _ ∙ length-replicate n zero64

pub beside : (n : ℕ) (a : Vec) → length (reduced n a).2 ≡ n
beside n a = tred2_beside n _ ∙ length-replicate n zero64

mark0_reduced : (n : ℕ) (a : Vec) → mark0 n (reduced n a).0 (reduced n a).1 (reduced n a).2 ≡ None → Reduced (reduced n a)
unfolding mark0
mark0_reduced n a h =
    let x = reduced n a in
    let o = finite_both (x.1 ++ x.2) (by_rows n x.0) (first_bad_none (list0 n x) h) in
    let p = finite_both x.1 x.2 o.0 in
    record { vectors = cells_finite n n x.0 (square n a) o.1; values = p.0; beside = p.1 }

mark0_first : (n : ℕ) (a : Vec) (b i : ℕ) → mark0 n (reduced n a).0 (reduced n a).1 (reduced n a).2 ≡ bad_at i b → FirstIn (list0 n (reduced n a)) b i
unfolding mark0
mark0_first n a b i h = scan_first (at (list0 n (reduced n a))) (length (list0 n (reduced n a))) i b h

not_reduced : (n : ℕ) (a : Vec) {b i : ℕ} → Broken0 n a b i → Reduced (reduced n a) → ⊥
not_reduced n a {b = b} {i = i} h s =
    let x = reduced n a in
    none_first (list0 n x) b i h.seen
    (both_finite (x.1 ++ x.2) (by_rows n x.0) (both_finite x.1 x.2 s.values s.beside) (finite_rows n x.0 s.vectors))

pub says_once : (n limit edition : ℕ) (a : Vec) (o p : Outcome) → Says n limit edition a o → Says n limit edition a p → o ≡ p
says_once n limit edition a o p (nothing z) (nothing y) = refl
says_once n limit edition a o p (nothing z) (at_mark0 b) = absurd (omega (arith, b.some))
says_once n limit edition a o p (nothing z) (runs y s t) = absurd (omega arith)
says_once n limit edition a o p (at_mark0 b) (nothing z) = absurd (omega (arith, b.some))
says_once n limit edition a o p (at_mark0 {b = s} {i = i} b) (at_mark0 {b = t} {i = j} c) =
    let q = one_first (list0 n (reduced n a)) s i t j b.seen c.seen in λ k. cleared n (answered (q k).0 0 (q k).1 0)
says_once n limit edition a o p (at_mark0 b) (runs y s t) = absurd (not_reduced n a b s)
says_once n limit edition a o p (runs y s t) (nothing z) = absurd (omega arith)
says_once n limit edition a o p (runs y s t) (at_mark0 b) = absurd (not_reduced n a b s)
says_once n limit edition a o p (runs y s t) (runs z r u) = ap (given n) (gives_once n limit edition (reduced n a) _ _ t u)

pub says : (n limit edition : ℕ) (a work result : Vec) → Taken n limit edition a work result → Says n limit edition a (eigen n limit edition a work result)
unfolding eigen_entered decomposed after_tred given
says n limit edition a work result f = subst (Says n limit edition a) (sym (enters n limit edition a work result f.fit ∙ unrefused)) (go (eqb n 0) refl)
  where
    x : Vec × Vec × Vec
    x = reduced n a

    after : Option Bad → Answer × Vec × Vec × Vec
    after b = cond (is_some b) (marked 0 0 b, x.0, x.1, x.2) (tql2 n limit edition x)

    body : Outcome
    body = cond (eqb n 0) (cleared n (done 0)) (given n (after (mark0 n x.0 x.1 x.2)))

    unrefused : eigen_entered n limit edition a ≡ body
    unrefused = rw (none_lower n a f.fit.square f.finite)

    above : (n ≡ 0 → ⊥) → 0 < n
    above d = omega arith

    -- a class is not 0, so it refuses
    refuses : (b i : ℕ) → FirstIn (list0 n x) b i → given n (answered b 0 i 0, x.0, x.1, x.2) ≡ cleared n (answered b 0 i 0)
    refuses b i s = ap (λ (t : Bool). cond t (answered b 0 i 0, zeros n, x.1 ++ by_rows n x.0) (cleared n (answered b 0 i 0))) (ne_eqb b 0 (λ e. omega (arith, class_above (list0 n x) b i s)))

    then : 0 < n → (b : Option Bad) → mark0 n x.0 x.1 x.2 ≡ b → Says n limit edition a (given n (after b))
    then z (Some seen) e =
        let s = mark0_first n a seen.class seen.index e in
        subst (Says n limit edition a) (sym (refuses seen.class seen.index s)) (at_mark0 (record { some = z; seen = s }))
    then z None e = runs z (mark0_reduced n a e) (run_gives n limit edition x z (square n a) (beside n a))

    go : (b : Bool) → eqb n 0 ≡ b → Says n limit edition a body
    go true e = rw e (nothing (eqb-true n 0 e))
    go false e = rw e (then (above (eqb-false n 0 e)) (mark0 n x.0 x.1 x.2) refl)

-- ---- done exactly where

pub given_answer : (n : ℕ) (x : Answer × Vec × Vec × Vec) → (given n x).0 ≡ x.0
unfolding given
given_answer n x = go (passed x.0)
  where
    go : (b : Bool) → (cond b (x.0, zeros n, x.2 ++ by_rows n x.1) (cleared n x.0)).0 ≡ x.0
    go true = refl
    go false = refl

module _ (n limit edition : ℕ) (a : Vec) where
  -- v after the sort
  sorted_square : (z : 0 < n) {c : ℕ} {y : Carried} → Ran n limit edition (begun n (reduced n a)) n c y → length (sorted n (y.v, y.d)).0 ≡ n * n
  sorted_square z {y = y} r =
      tql2_square n edition (reduced n a) ((sorted n (y.v, y.d)).0, (sorted n (y.v, y.d)).1, y.e) (record { last = y; ran = ran_document n limit edition r; values = refl }) ∙ square n a

  run_worked : 0 < n → Reduced (reduced n a) → {c : ℕ} {y : Carried} → Ran n limit edition (begun n (reduced n a)) n c y → Whole y
      → Reached n limit edition a c (sorted n (y.v, y.d)).1 (by_rows n (sorted n (y.v, y.d)).0)
  run_worked z s {y = y} r w =
      let l = sorted_square z r in
      record {
        some = z;
        sound = s;
        last = y;
        ran = r;
        whole = w;
        values_are = refl;
        long = by_rows_long n n _ l;
        vectors_are = by_rows_at n n _ l;
      }

  gives_done : (c : ℕ) (o : Answer × Vec × Vec × Vec) → 0 < n → Reduced (reduced n a) → RunGives n limit edition (reduced n a) o → o.0 ≡ done c → Made n limit edition a c (given n o).2
  unfolding given
  gives_done c o z s (well {c = b} {y = y} r w) q =
      record {
        values = (sorted n (y.v, y.d)).1;
        vectors = by_rows n (sorted n (y.v, y.d)).0;
        exactly = worked (run_worked z s (subst (λ (k : ℕ). Ran n limit edition (begun n (reduced n a)) n k y) (ap (λ (t : Answer). t.count) q) r) w);
        whole = refl;
      }
  gives_done c o z s (at_mark2 {b = b} {i = i} {y = y} r f) q = absurd (omega (arith, class_above (list2 n y) b i f, ap (λ (t : Answer). t.answer) q))
  gives_done c o z s (at_mark1 {l = l} {b = b} {i = i} {z = y} h r t) q = absurd (omega (arith, class_above (list1 y) b i (mark1_sees n limit edition l t), ap (λ (t : Answer). t.answer) q))
  gives_done c o z s (at_limit h r t) q = absurd (omega (arith, ap (λ (t : Answer). t.answer) q))

  pub says_done : (c : ℕ) (o : Outcome) → Says n limit edition a o → o.0 ≡ done c → Made n limit edition a c o.2
  says_done c o (nothing z) q =
      record { values = []; vectors = []; exactly = empty z (sym (ap (λ (t : Answer). t.count) q)) refl refl; whole = ap (λ (k : ℕ). zeros (k + k * k)) z }
  says_done c o (at_mark0 {b = b} {i = i} h) q = absurd (omega (arith, class_above (list0 n (reduced n a)) b i h.seen, ap (λ (t : Answer). t.answer) q))
  says_done c o (runs {o = p} z s t) q = gives_done c p z s t (sym (given_answer n p) ∙ q)

  done_says : (c : ℕ) (values vectors : Vec) → Done n limit edition a c values vectors → Says n limit edition a (finished_with n c values vectors)
  unfolding given
  done_says c values vectors (empty z k p q) =
      subst (Says n limit edition a) (λ i. (done (sym k i), zeros n, whole i)) (nothing z)
    where
      whole : zeros (n + n * n) ≡ values ++ vectors
      whole = ap (λ (k : ℕ). zeros (k + k * k)) z ∙ (λ i. sym p i ++ sym q i)
  done_says c values vectors (worked w) = subst (Says n limit edition a) (λ i. (done c, zeros n, sym w.values_are i ++ sym vectors_are i)) got
    where
      vectors_are : vectors ≡ by_rows n (sorted n (w.last.v, w.last.d)).0
      vectors_are =
          let l = sorted_square w.some w.ran in
          same_entries n vectors _ w.long (by_rows_long n n _ l) (λ i j p q. w.vectors_are i j p q ∙ sym (by_rows_at n n _ l i j p q))

      got : Says n limit edition a (finished_with n c (sorted n (w.last.v, w.last.d)).1 (by_rows n (sorted n (w.last.v, w.last.d)).0))
      got = runs w.some w.sound (well w.ran w.whole)

-- **done_exactly**: the answer is 0 with count c exactly where document 000's loops, refined so, come to their end after c passes
pub done_exactly : (n limit edition : ℕ) (a work result : Vec) → Taken n limit edition a work result → (c : ℕ)
    → ((eigen n limit edition a work result).0 ≡ done c) ↔ ((values : Vec) × (vectors : Vec) × Done n limit edition a c values vectors)
done_exactly n limit edition a work result f c = (
  λ q. (let s = says_done n limit edition a c (eigen n limit edition a work result) (says n limit edition a work result f) q in (s.values, s.vectors, s.exactly)),
  λ s. ap (λ (t : Outcome). t.0) (says_once n limit edition a _ _ (says n limit edition a work result f) (done_says n limit edition a c s.0 s.1 s.2)),
)

-- and then the whole outcome is theirs
pub done_result : (n limit edition : ℕ) (a work result : Vec) → Taken n limit edition a work result → (c : ℕ) (values vectors : Vec) → Done n limit edition a c values vectors
    → eigen n limit edition a work result ≡ finished_with n c values vectors
done_result n limit edition a work result f c values vectors d = says_once n limit edition a _ _ (says n limit edition a work result f) (done_says n limit edition a c values vectors d)

-- ---- 9, 8 and 10 exactly where

pub above_zero : (b : ℕ) → Class b → b ≡ 0 → ⊥
above_zero b c e = ⊎_elim (λ q. omega arith) (λ q. omega arith) c

pub not_nine : (b : ℕ) → Class b → b ≡ 9 → ⊥
not_nine b c e = ⊎_elim (λ q. omega arith) (λ q. omega arith) c

module _ (n limit edition : ℕ) (a : Vec) where
  gives_limit : (l c : ℕ) (o : Answer × Vec × Vec × Vec) → 0 < n → Reduced (reduced n a) → RunGives n limit edition (reduced n a) o → o.0 ≡ answered 9 l 0 c → Halted n limit edition a used l c
  gives_limit l c o z s (well r w) q = absurd (omega (arith, ap (λ (t : Answer). t.answer) q))
  gives_limit l c o z s (at_mark2 {b = b} {i = i} {y = y} r f) q = absurd (not_nine b (first_class (list2 n y) b i f) (ap (λ (t : Answer). t.answer) q))
  gives_limit l c o z s (at_mark1 {l = k} {b = b} {i = i} {z = y} h r t) q = absurd (not_nine b (first_class (list1 y) b i (mark1_sees n limit edition k t)) (ap (λ (t : Answer). t.answer) q))
  gives_limit l c o z s (at_limit {l = k} {c = b} {k = j} {y = y} {z = w} h r t) q =
      subst (λ (k : ℕ). Halted n limit edition a used k c) (ap (λ (t : Answer). t.place) q)
      (record { some = z; sound = s; below = h; count = b; before = y; ran = r; passes = j; after = w; turned = t; in_all = ap (λ (t : Answer). t.count) q })

  told_mark1 : (b i c : ℕ) (o : Answer × Vec × Vec × Vec) → Class b → 0 < n → Reduced (reduced n a) → RunGives n limit edition (reduced n a) o → o.0 ≡ answered b 1 i c
      → (l : ℕ) × Halted n limit edition a (bad b i) l c
  told_mark1 b i c o u z s (well r w) q = absurd (above_zero b u (sym (ap (λ (t : Answer). t.answer) q)))
  told_mark1 b i c o u z s (at_mark2 r f) q = absurd (omega (arith, ap (λ (t : Answer). t.place) q))
  told_mark1 b i c o u z s (at_mark1 {l = k} {c = m} {k = j} {y = y} {z = w} h r t) q = (
    k,
    record {
      some = z;
      sound = s;
      below = h;
      count = m;
      before = y;
      ran = r;
      passes = j;
      after = w;
      turned = subst (λ (p : ℕ × ℕ). Turned n limit edition k y j (bad p.0 p.1) w) (λ v. ((q v).answer, (q v).index)) t;
      in_all = ap (λ (t : Answer). t.count) q;
    },
  )
  told_mark1 b i c o u z s (at_limit h r t) q = absurd (not_nine b u (sym (ap (λ (t : Answer). t.answer) q)))

  told_mark2 : (b i c : ℕ) (o : Answer × Vec × Vec × Vec) → Class b → 0 < n → Reduced (reduced n a) → RunGives n limit edition (reduced n a) o → o.0 ≡ answered b 2 i c → Broken2 n limit edition a b i c
  told_mark2 b i c o u z s (well r w) q = absurd (above_zero b u (sym (ap (λ (t : Answer). t.answer) q)))
  told_mark2 b i c o u z s (at_mark2 {y = y} r f) q =
      record {
        some = z;
        sound = s;
        last = y;
        ran = subst (λ (k : ℕ). Ran n limit edition (begun n (reduced n a)) n k y) (ap (λ (t : Answer). t.count) q) r;
        seen = subst (λ (p : ℕ × ℕ). FirstIn (list2 n y) p.0 p.1) (λ v. ((q v).answer, (q v).index)) f;
      }
  told_mark2 b i c o u z s (at_mark1 h r t) q = absurd (omega (arith, ap (λ (t : Answer). t.place) q))
  told_mark2 b i c o u z s (at_limit h r t) q = absurd (not_nine b u (sym (ap (λ (t : Answer). t.answer) q)))

  gives_place : (b i c : ℕ) (o : Answer × Vec × Vec × Vec) → Class b → RunGives n limit edition (reduced n a) o → o.0 ≡ answered b 0 i c → ⊥
  gives_place b i c o u (well r w) q = above_zero b u (sym (ap (λ (t : Answer). t.answer) q))
  gives_place b i c o u (at_mark2 r f) q = omega (arith, ap (λ (t : Answer). t.place) q)
  gives_place b i c o u (at_mark1 h r t) q = omega (arith, ap (λ (t : Answer). t.place) q)
  gives_place b i c o u (at_limit h r t) q = not_nine b u (sym (ap (λ (t : Answer). t.answer) q))

  -- an outcome of a refusal that the run meets comes of the run
  record Of (o : Outcome) : Type 0 where
    from : Answer × Vec × Vec × Vec
    some : 0 < n
    sound : Reduced (reduced n a)
    tells : RunGives n limit edition (reduced n a) from
    same : from.0 ≡ o.0

  -- mark 0 answers 8 or 10, with place 0
  record Mark0 (x : Answer) : Type 0 where
    class : Class x.answer
    place : x.place ≡ 0

  of_run : (o : Outcome) → Says n limit edition a o → (o.0.answer ≡ 0 → ⊥) → (Mark0 o.0 → ⊥) → Of o
  of_run o (nothing z) p q = absurd (p refl)
  of_run o (at_mark0 {b = b} {i = i} h) p q = absurd (q (record { class = first_class (list0 n (reduced n a)) b i h.seen; place = refl }))
  of_run o (runs {o = f} z s t) p q = record { from = f; some = z; sound = s; tells = t; same = sym (given_answer n f) }

  says_mark0 : (b i : ℕ) (o : Outcome) → Class b → Says n limit edition a o → o.0 ≡ answered b 0 i 0 → Broken0 n a b i
  says_mark0 b i o u (nothing z) q = absurd (above_zero b u (sym (ap (λ (t : Answer). t.answer) q)))
  says_mark0 b i o u (at_mark0 h) q = subst (λ (p : ℕ × ℕ). Broken0 n a p.0 p.1) (λ v. ((q v).answer, (q v).index)) h
  says_mark0 b i o u (runs {o = f} z s t) q = absurd (gives_place b i 0 f u t (sym (given_answer n f) ∙ q))

  halted_limit : (l c : ℕ) → Halted n limit edition a used l c → (o : Outcome) → Says n limit edition a o → o.0 ≡ answered 9 l 0 c
  halted_limit l c h o s =
      ap (λ (t : Outcome). t.0) (says_once n limit edition a o _ s (runs h.some h.sound (at_limit h.below h.ran h.turned))) ∙ given_answer n _ ∙ ap (answered 9 l 0) h.in_all

  halted_mark1 : (b i l c : ℕ) → Halted n limit edition a (bad b i) l c → (o : Outcome) → Says n limit edition a o → o.0 ≡ answered b 1 i c
  halted_mark1 b i l c h o s =
      ap (λ (t : Outcome). t.0) (says_once n limit edition a o _ s (runs h.some h.sound (at_mark1 h.below h.ran h.turned))) ∙ given_answer n _ ∙ ap (answered b 1 i) h.in_all

  broken_mark2 : (b i c : ℕ) → Broken2 n limit edition a b i c → (o : Outcome) → Says n limit edition a o → o.0 ≡ answered b 2 i c
  broken_mark2 b i c h o s =
      ap (λ (t : Outcome). t.0) (says_once n limit edition a o _ s (runs h.some h.sound (at_mark2 h.ran h.seen))) ∙ given_answer n _

module _ (n limit edition : ℕ) (a work result : Vec) (f : Taken n limit edition a work result) where
  -- **9**: exactly where the limit is used up at l, everything finite so far
  pub limit_exactly : (l c : ℕ) → ((eigen n limit edition a work result).0 ≡ answered 9 l 0 c) ↔ Halted n limit edition a used l c
  limit_exactly l c = (
    λ q. (let o = of_run n limit edition a _ (says n limit edition a work result f) (λ e. omega (arith, e, ap (λ (t : Answer). t.answer) q)) (λ m. not_nine _ m.class (ap (λ (t : Answer). t.answer) q)) in
        gives_limit n limit edition a l c o.from o.some o.sound o.tells (o.same ∙ q)),
    λ h. halted_limit n limit edition a l c h _ (says n limit edition a work result f),
  )

  -- **8** and **10**: exactly where number i is the first that is not finite, and of that class, of what mark 0 looks at; after a pass; after the last l
  pub mark0_exactly : (b i : ℕ) → Class b → ((eigen n limit edition a work result).0 ≡ answered b 0 i 0) ↔ Broken0 n a b i
  mark0_exactly b i u = (
    λ q. says_mark0 n limit edition a b i _ u (says n limit edition a work result f) q,
    λ h. ap (λ (t : Outcome). t.0) (says_once n limit edition a _ _ (says n limit edition a work result f) (at_mark0 h)),
  )

  pub mark1_exactly : (b i c : ℕ) → Class b → ((eigen n limit edition a work result).0 ≡ answered b 1 i c) ↔ ((l : ℕ) × Halted n limit edition a (bad b i) l c)
  mark1_exactly b i c u = (
    λ q. (let o = of_run n limit edition a _ (says n limit edition a work result f) (λ e. above_zero b u (sym (ap (λ (t : Answer). t.answer) q) ∙ e)) (λ m. omega (arith, m.place, ap (λ (t : Answer). t.place) q)) in
        told_mark1 n limit edition a b i c o.from u o.some o.sound o.tells (o.same ∙ q)),
    λ h. halted_mark1 n limit edition a b i h.0 c h.1 _ (says n limit edition a work result f),
  )

  pub mark2_exactly : (b i c : ℕ) → Class b → ((eigen n limit edition a work result).0 ≡ answered b 2 i c) ↔ Broken2 n limit edition a b i c
  mark2_exactly b i c u = (
    λ q. (let o = of_run n limit edition a _ (says n limit edition a work result f) (λ e. above_zero b u (sym (ap (λ (t : Answer). t.answer) q) ∙ e)) (λ m. omega (arith, m.place, ap (λ (t : Answer). t.place) q)) in
        told_mark2 n limit edition a b i c o.from u o.some o.sound o.tells (o.same ∙ q)),
    λ h. broken_mark2 n limit edition a b i c h _ (says n limit edition a work result f),
  )

-- ---- what is done so is document 000's own

pub done_document : (n limit edition : ℕ) (a : Vec) (c : ℕ) (values vectors : Vec) → Done n limit edition a c values vectors → Doc.SymmetricEigen n edition a values vectors
done_document n limit edition a c values vectors (empty z k p q) = Doc.empty z p q
done_document n limit edition a c values vectors (worked w) = Doc.computed (record {
  some = w.some;
  last = ((sorted n (w.last.v, w.last.d)).0, (sorted n (w.last.v, w.last.d)).1, w.last.e);
  ran = record { last = w.last; ran = ran_document n limit edition w.ran; values = refl };
  values_are = w.values_are;
  long = w.long;
  vectors_are = w.vectors_are;
})
