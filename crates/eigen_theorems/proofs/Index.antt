-- What the index says, for every input: on 8 and 10 it points (`index_points`), on every other answer it is 0 (`index_zero`). Laws only.
use Rattle.std.specs.Prelude.{◌≡◌, refl, false, ℕ, ◌+◌, ◌≤◌, Float}
use Rattle.std.proofs.Common.{sym, ap, ◌∙◌, subst, ⊎_elim, true≢false, arith}
use Rattle.std.specs.Float.{nan, inf, fin}
use Rattle.grid.specs.Real.{Vec, at}
use Rattle.leaves.specs.Leaf.{is_finite}
use Rattle.leaves.specs.Scan.{class_of}
use Rattle.answers.specs.Answers.{answered}
use Rattle.answers.specs.Index.{Class}
use Rattle.answers.specs.declared.Answer.{Answer}
use Rattle.eigen_theorems.specs.Tql2Outcome.{FirstIn, list1, list2, RunGives, well, at_mark2, at_mark1, at_limit}
use Rattle.eigen_theorems.proofs.Tql2OutcomeLaws.{first_class, mark1_sees}
use Rattle.eigen_symmetric_eigen.specs.SymmetricEigen.{eigen}
use Rattle.eigen_theorems.specs.Outcome.{Outcome, reduced, list0, Says, nothing, at_mark0, runs, Looked, after_tred_lem, after_pass_lem, after_last, Infinite, Points}
use Rattle.eigen_theorems.proofs.OutcomeLaws.{says, given_answer, above_zero, not_nine}
use Rattle.eigen_theorems.proofs.Result.{checked}

-- ---- a number that is not finite, by its class

infinite_of : (x : Float) → is_finite x ≡ false → class_of x ≡ 8 → Infinite x
unfolding is_finite class_of
infinite_of nan s e = absurd (omega arith)
infinite_of (inf t) s e = (t, refl)
infinite_of (fin t m e) s q = absurd (true≢false s)

nan_of : (x : Float) → is_finite x ≡ false → class_of x ≡ 10 → x ≡ nan
unfolding is_finite class_of
nan_of nan s e = refl
nan_of (inf t) s e = absurd (omega arith)
nan_of (fin t m e) s q = absurd (true≢false s)

-- ---- 8 and 10

module _ (n limit edition : ℕ) (a : Vec) where
  first_points : (x : Vec) (b p i c : ℕ) → FirstIn x b i → Looked n limit edition a p c x → Points n limit edition a (answered b p i c)
  first_points x b p i c f l =
      record {
        list = x;
        looked = l;
        within = f.within;
        infinite = λ e. infinite_of (at x i) f.seen (sym f.class ∙ e);
        not_number = λ e. nan_of (at x i) f.seen (sym f.class ∙ e);
        before = f.before;
      }

  gives_points : (o : Answer × Vec × Vec × Vec) → RunGives n limit edition (reduced n a) o → Class o.0.answer → Points n limit edition a o.0
  gives_points o (well r w) u = absurd (above_zero 0 u refl)
  gives_points o (at_mark2 {c = c} {b = b} {i = i} {y = y} r f) u = first_points (list2 n y) b 2 i c f (after_last r)
  gives_points o (at_mark1 {l = l} {c = c} {k = k} {b = b} {i = i} {z = z} h r t) u = first_points (list1 z) b 1 i (c + k) (mark1_sees n limit edition l t) (after_pass_lem h r t)
  gives_points o (at_limit h r t) u = absurd (not_nine 9 u refl)

  says_points : (o : Outcome) → Says n limit edition a o → Class o.0.answer → Points n limit edition a o.0
  says_points o (nothing z) u = absurd (above_zero 0 u refl)
  says_points o (at_mark0 {b = b} {i = i} h) u = first_points (list0 n (reduced n a)) b 0 i 0 h.seen after_tred_lem
  says_points o (runs {o = f} z s t) u =
      let g = given_answer n f in
      subst (Points n limit edition a) (sym g) (gives_points f t (subst (λ (x : Answer). Class x.answer) g u))

  -- ---- every other answer

  gives_index : (o : Answer × Vec × Vec × Vec) → RunGives n limit edition (reduced n a) o → (Class o.0.answer → ⊥) → o.0.index ≡ 0
  gives_index o (well r w) u = refl
  gives_index o (at_mark2 {b = b} {i = i} {y = y} r f) u = absurd (u (first_class (list2 n y) b i f))
  gives_index o (at_mark1 {l = l} {b = b} {i = i} {z = z} h r t) u = absurd (u (first_class (list1 z) b i (mark1_sees n limit edition l t)))
  gives_index o (at_limit h r t) u = refl

  says_index : (o : Outcome) → Says n limit edition a o → (Class o.0.answer → ⊥) → o.0.index ≡ 0
  says_index o (nothing z) u = refl
  says_index o (at_mark0 {b = b} {i = i} h) u = absurd (u (first_class (list0 n (reduced n a)) b i h.seen))
  says_index o (runs {o = f} z s t) u =
      let g = given_answer n f in
      ap (λ (x : Answer). x.index) g ∙ gives_index f t (λ v. u (subst (λ (x : Answer). Class x.answer) (sym g) v))

-- **index_points**: on 8 and 10 the number at the index of what the place's mark looks at is infinite, or NaN, and every number before it is finite
pub index_points : (n limit edition : ℕ) (a work result : Vec) → Class (eigen n limit edition a work result).0.answer → Points n limit edition a (eigen n limit edition a work result).0
index_points n limit edition a work result u = ⊎_elim (λ f. says_points n limit edition a _ (says n limit edition a work result f) u) (λ r. absurd (⊎_elim (λ h. few h u) (λ h. other h u) r.few)) (checked n limit edition a work result)
  where
    few : {k : ℕ} → k ≤ 7 → Class k → ⊥
    few h = ⊎_elim (λ e. omega arith) (λ e. omega arith)

    other : {k : ℕ} → k ≡ 12 → Class k → ⊥
    other h = ⊎_elim (λ e. omega arith) (λ e. omega arith)

-- **index_zero**: on every other answer it is 0
pub index_zero : (n limit edition : ℕ) (a work result : Vec) → (Class (eigen n limit edition a work result).0.answer → ⊥) → (eigen n limit edition a work result).0.index ≡ 0
index_zero n limit edition a work result u = ⊎_elim (λ f. says_index n limit edition a _ (says n limit edition a work result f) u) (λ r. r.none) (checked n limit edition a work result)
