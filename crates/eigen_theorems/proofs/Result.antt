-- Where a call is done it has passed every check (`taken_of`), its values ascend, its values and columns are the run's by one permutation, and every number is finite. Laws only.
use Rattle.std.specs.Prelude.{◌≡◌, refl, ◌⊎◌, Bool, true, false, cond, not, ◌++◌, ℕ, zero, suc, ◌+◌, ◌*◌, ◌-◌, ◌/◌, ◌%◌, ◌≤◌, ◌<◌, ltb, eqb, length}
use Rattle.std.proofs.Common.{sym, ap, ◌∙◌, subst, inl, inr, ⊎_elim, div-add-mod', mod-lt, div-lt_iff_lt-mul, arith, ltb-false, eqb-true, get_or-append-add}
use Rattle.std.proofs.Math.Decide.{dec_lt}
use Rattle.std.proofs.lemmas.Bool.{eqb-false}
use Rattle.std.specs.Float.{nan}
use Rattle.std.specs.Float.Ieee.{lt, le}
use Rattle.std.proofs.Math.ListN.{get_or-append}
use Rattle.grid.specs.Real.{Vec, at, zeros}
use Rattle.grid.specs.Cell.{at2, entry}
use Rattle.grid.specs.CellLaws.{cell}
use Rattle.leaves.specs.Leaf.{is_finite}
use Rattle.leaves.specs.Compare.{le_of_not}
use Rattle.leaves.specs.Scan.{first_bad_lower}
use Rattle.leaves.specs.FiniteLaws.{lower_finite}
use Rattle.answers.specs.Answers.{refused, done, passed, refusal7}
use Rattle.answers.proofs.OutcomeLaws.{none_seven}
use Rattle.answers.specs.IndexLaws.{refusal7_index, refusal7_most}
use Rattle.answers.specs.declared.Answer.{Answer}
use Rattle.answers.specs.Checks.{limit_good, fitting_edition}
use Rattle.answers.proofs.EditionLaws.{Checked12, edition_checked, fitting_edition_right}
use Rattle.answers.specs.ChecksLaws.{limit_right}
use Rattle.eigen_tql2.specs.Sort.{sorted}
use Rattle.eigen_theorems.specs.Tql2Document.{Carried, begun}
use Rattle.eigen_theorems.specs.Tql2Lengths.{ran_long}
use Rattle.eigen_theorems.specs.Tql2Outcome.{list1, list2, Ran, Whole, RunGives, well, at_mark2, at_mark1, at_limit}
use Rattle.eigen_theorems.proofs.Tql2OutcomeLaws.{class_above, mark1_sees, ran_document}
use Rattle.eigen_theorems.specs.Permutation.{Arranged}
use Rattle.eigen_theorems.specs.Tql2SortLaws.{sorted_arranged, sorted_ascends}
use Rattle.eigen_symmetric_eigen.specs.SymmetricEigen.{decomposed, cleared, given, eigen_entered, eigen}
use Rattle.eigen_theorems.specs.Outcome.{Outcome, Taken, reduced, list0, Done, empty, worked, Says, nothing, at_mark0, runs, Some, Columns}
use Rattle.eigen_theorems.proofs.OutcomeLaws.{says, says_done, square, diagonal, given_answer}

-- ---- the checks

-- a refusal before the run: 1 to 7, or 12
pub record Refused (x : Answer) : Type 0 where
  pub some : 1 ≤ x.answer
  pub few : (x.answer ≤ 7) ⊎ (x.answer ≡ 12)
  pub none : x.index ≡ 0

-- a call is taken, or refused before the run
pub checked : (n limit edition : ℕ) (a work result : Vec) → Taken n limit edition a work result ⊎ Refused (eigen n limit edition a work result).0
unfolding eigen eigen_entered
checked n limit edition a work result = one (ltb 256 n) refl (limit_good limit) refl (passed x) refl (passed b) refl
  where
    x : Answer
    x = fitting_edition edition (length a) (n * n) (length work) n (length result) (n + n * n)

    checks : Checked12 x
    checks = edition_checked edition (length a) (n * n) (length work) n (length result) (n + n * n)

    b : Answer
    b = refusal7 (first_bad_lower n a)

    o : Outcome
    o = cond (eqb n 0) (cleared n (done 0)) (given n (decomposed n limit edition a (zeros n, zeros n)))

    above : (k : ℕ) → (k ≡ 0 → ⊥) → 1 ≤ k
    above k d = omega arith

    one : (p : Bool) → ltb 256 n ≡ p → (q : Bool) → limit_good limit ≡ q → (r : Bool) → passed x ≡ r → (s : Bool) → passed b ≡ s
        → Taken n limit edition a work result ⊎ Refused (cond p (refused 1 0, work, result) (cond (not q) (refused 2 0, work, result) (cond r (cond s o (cleared n b)) (x, work, result)))).0
    one true e q f r g s h = inr (record { some = omega arith; few = inl (omega arith); none = refl })
    one false e false f r g s h = inr (record { some = omega arith; few = inl (omega arith); none = refl })
    one false e true f false g s h =
        inr (record {
          some = above x.answer (eqb-false x.answer 0 g);
          few = ⊎_elim (λ t. inl (omega (arith, t.few))) inr (checks.early g);
          none = checks.none;
        })
    one false e true f true g false h = inr (record { some = above b.answer (eqb-false b.answer 0 h); few = inl (refusal7_most (first_bad_lower n a)); none = refusal7_index (first_bad_lower n a) })
    one false e true f true g true h =
        let l = fitting_edition_right edition (length a) (n * n) (length work) n (length result) (n + n * n) (eqb-true x.answer 0 g) in
        let m = limit_right limit f in
        inl (record {
          fit = record { small = ltb-false 256 n e; least = m.0; most = m.1; choice = l.0; square = l.1; works = l.2; room = l.3 };
          finite = lower_finite n a l.1 (none_seven (first_bad_lower n a) (eqb-true b.answer 0 h));
        })

-- a call that is done has passed every check
pub taken_of : (n limit edition : ℕ) (a work result : Vec) → (eigen n limit edition a work result).0.answer ≡ 0 → Taken n limit edition a work result
taken_of n limit edition a work result z = ⊎_elim (λ f. f) (λ r. absurd (omega (arith, r.some))) (checked n limit edition a work result)

-- ---- the result

-- the run of a call that is done, with n above 0: what it left, and that the result is that, sorted
pub record Ran0 (n limit edition : ℕ) (a : Vec) (c : ℕ) (result : Vec) : Type 0 where
  pub last : Carried
  pub ran : Ran n limit edition (begun n (reduced n a)) n c last
  pub whole : Whole last
  pub vectors : Vec
  pub long : length vectors ≡ n * n
  pub vectors_are : (i j : ℕ) → i < n → j < n → entry vectors n i j ≡ at2 (sorted n (last.v, last.d)).0 n i j
  pub is : result ≡ (sorted n (last.v, last.d)).1 ++ vectors

done_ran0 : (n limit edition : ℕ) (a : Vec) (c : ℕ) (result values vectors : Vec) → 0 < n → Done n limit edition a c values vectors → result ≡ values ++ vectors → Ran0 n limit edition a c result
done_ran0 n limit edition a c result values vectors z (empty e k p q) r = absurd (omega arith)
done_ran0 n limit edition a c result values vectors z (worked w) r =
    record { last = w.last; ran = w.ran; whole = w.whole; vectors = vectors; long = w.long; vectors_are = w.vectors_are; is = r ∙ ap (λ (t : Vec). t ++ vectors) w.values_are }

gives_zero : (n limit edition : ℕ) (x : Vec × Vec × Vec) (o : Answer × Vec × Vec × Vec) → RunGives n limit edition x o → o.0.answer ≡ 0 → o.0 ≡ done o.0.count
gives_zero n limit edition x o (well r w) e = refl
gives_zero n limit edition x o (at_mark2 {b = b} {i = i} {y = y} r f) e = absurd (omega (arith, class_above (list2 n y) b i f))
gives_zero n limit edition x o (at_mark1 {l = l} {b = b} {i = i} {z = z} h r t) e = absurd (omega (arith, class_above (list1 z) b i (mark1_sees n limit edition l t)))
gives_zero n limit edition x o (at_limit h r t) e = absurd (omega arith)

says_zero : (n limit edition : ℕ) (a : Vec) (o : Outcome) → Says n limit edition a o → o.0.answer ≡ 0 → o.0 ≡ done o.0.count
says_zero n limit edition a o (nothing z) e = refl
says_zero n limit edition a o (at_mark0 {b = b} {i = i} h) e = absurd (omega (arith, class_above (list0 n (reduced n a)) b i h.seen))
says_zero n limit edition a o (runs {o = f} z s t) e =
    let g = given_answer n f in
    g ∙ gives_zero n limit edition (reduced n a) f t (ap (λ (x : Answer). x.answer) (sym g) ∙ e) ∙ ap (λ (x : Answer). done x.count) (sym g)

module _ (n limit edition : ℕ) (a work result : Vec) (zero_answer : (eigen n limit edition a work result).0.answer ≡ 0) where
  -- what it gave, and that it is exactly that
  pub gave : Some n limit edition a (eigen n limit edition a work result).0.count (eigen n limit edition a work result).2
  gave =
      let o = eigen n limit edition a work result in
      let s = says n limit edition a work result (taken_of n limit edition a work result zero_answer) in
      says_done n limit edition a o.0.count o s (says_zero n limit edition a o s zero_answer)

  pub ran0 : 0 < n → Ran0 n limit edition a (eigen n limit edition a work result).0.count (eigen n limit edition a work result).2
  ran0 z = done_ran0 n limit edition a _ _ gave.values gave.vectors z gave.exactly gave.whole

-- of a run that is done
module _ (n limit edition : ℕ) (a : Vec) (c : ℕ) (result : Vec) (z : 0 < n) (r : Ran0 n limit edition a c result) where
  x_square : length r.last.v ≡ n * n
  x_square = (ran_long n edition (ran_document n limit edition r.ran)).vectors ∙ square n a

  x_long : length r.last.d ≡ n
  x_long = (ran_long n edition (ran_document n limit edition r.ran)).values ∙ diagonal n a

  x_finite : (k : ℕ) → k < n → is_finite (at r.last.d k) ≡ true
  x_finite k l = r.whole.values k (omega (arith, x_long))

  arranged : Arranged n (r.last.v, r.last.d) (sorted n (r.last.v, r.last.d))
  arranged = sorted_arranged n (r.last.v, r.last.d) x_square x_long x_finite

  value_at_lem : (k : ℕ) → k < n → at result k ≡ at (sorted n (r.last.v, r.last.d)).1 k
  value_at_lem k l = ap (λ (t : Vec). at t k) r.is ∙ get_or-append (sorted n (r.last.v, r.last.d)).1 r.vectors nan k (omega (arith, arranged.long))

  vector_at : (i k : ℕ) → i < n → k < n → at result (n + (i * n + k)) ≡ at2 (sorted n (r.last.v, r.last.d)).0 n i k
  vector_at i k p q =
      ap (λ (t : Vec). at t (n + (i * n + k))) r.is
      ∙ ap (λ (t : ℕ). at ((sorted n (r.last.v, r.last.d)).1 ++ r.vectors) (t + (i * n + k))) (sym arranged.long)
      ∙ get_or-append-add (sorted n (r.last.v, r.last.d)).1 r.vectors (i * n + k) nan
      ∙ r.vectors_are i k p q

  values_finite : (k : ℕ) → k < n → is_finite (at result k) ≡ true
  values_finite k l = ap is_finite (value_at_lem k l ∙ arranged.values k l) ∙ x_finite (arranged.π k) (arranged.permutes.within k l)

  vectors_finite : (i k : ℕ) → i < n → k < n → is_finite (at result (n + (i * n + k))) ≡ true
  vectors_finite i k p q =
      ap is_finite (vector_at i k p q ∙ arranged.vectors i k p q)
      ∙ r.whole.vectors (arranged.π k * n + i) (subst (λ (t : ℕ). arranged.π k * n + i < t) (sym x_square) (cell n n (arranged.π k) i (arranged.permutes.within k q) p))

  ascends : (p q : ℕ) → p < q → q < n → le (at result p) (at result q) ≡ true
  ascends p q l h =
      le_of_not (at result q) (at result p) (values_finite q h) (values_finite p (omega arith))
      ((λ t. lt (value_at_lem q h t) (value_at_lem p (omega arith) t)) ∙ sorted_ascends n (r.last.v, r.last.d) x_square x_long x_finite p q l h)

module _ (n limit edition : ℕ) (a work result : Vec) (z : (eigen n limit edition a work result).0.answer ≡ 0) where
  -- **values_ascend**: no later value is below an earlier one
  pub values_ascend : (p q : ℕ) → p < q → q < n → le (at (eigen n limit edition a work result).2 p) (at (eigen n limit edition a work result).2 q) ≡ true
  values_ascend p q l h = ascends n limit edition a _ _ (omega arith) (ran0 n limit edition a work result z (omega arith)) p q l h

  -- **columns_with_values**: the run's values and columns, by one permutation
  pub columns_with_values : 0 < n → Columns n limit edition a (eigen n limit edition a work result).0.count (eigen n limit edition a work result).2
  columns_with_values s =
      let r = ran0 n limit edition a work result z s in
      let w = arranged n limit edition a _ _ s r in
      record {
        last = r.last;
        ran = r.ran;
        π = w.π;
        σ = w.σ;
        permutes = w.permutes;
        values = λ k l. value_at_lem n limit edition a _ _ s r k l ∙ w.values k l;
        vectors = λ i k p q. vector_at n limit edition a _ _ s r i k p q ∙ w.vectors i k p q;
      }

  -- **finite_out**: every number of the result is finite
  pub finite_out : (k : ℕ) → k < n + n * n → is_finite (at (eigen n limit edition a work result).2 k) ≡ true
  finite_out k l = elim (dec_lt k n) [
    | yes h ↦ values_finite n limit edition a _ _ (omega arith) (ran0 n limit edition a work result z (omega arith)) k h
    | no h ↦
        let s : 0 < n = some n k l in
        let i : ℕ = (k - n) / n in
        let j : ℕ = (k - n) % n in
        let e : n + (i * n + j) ≡ k = omega (arith, div-add-mod' (k - n) n) in
        subst (λ (t : ℕ). is_finite (at (eigen n limit edition a work result).2 t) ≡ true) e
        (vectors_finite n limit edition a _ _ s (ran0 n limit edition a work result z s) i j ((div-lt_iff_lt-mul s).1 (omega arith)) (mod-lt (k - n) s))
  ]
    where
      some : (n k : ℕ) → k < n + n * n → 0 < n
      some zero k l = absurd (omega arith)
      some (suc n) k l = omega arith
