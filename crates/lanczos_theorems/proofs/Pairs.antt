-- Where the answer of `lanczos` is 0: the place is how many pairs there are, the smaller of k and the steps run; the values descend; and all behind the pairs is +0.0. Laws only.
use Rattle.std.specs.Prelude.{◌≡◌, refl, Bool, true, false, cond, ◌++◌, ℕ, ◌+◌, ◌-◌, ◌*◌, ◌<◌, ◌≤◌, ltb, length, set, take, drop}
use Rattle.std.proofs.Common.{sym, ◌∙◌, ⊎_elim, mul-le-mul_right, arith, ltb-true, ltb-false, length-set, length-append, length-drop, length-take-le, get_or-take, get_or-drop, get_or-append-add}
use Rattle.std.proofs.Math.Path.{ap, subst}
use Rattle.std.proofs.Math.Nat.{add-mul}
use Rattle.std.proofs.Math.Decide.{ℕ_discrete}
use Rattle.std.proofs.lemmas.Bool.{eqb-false}
use Rattle.std.specs.Float.Ieee.{Float, nan, le, lt}
use Rattle.std.proofs.Math.ListN.{length-replicate, get_or-replicate, get_or-append}
use Rattle.std.proofs.Math.Seq.{get_or-set_same, get_or-set_other}
use Rattle.grid.specs.LoopLaws.{upto_both, upto_keeps}
use Rattle.grid.specs.Real.{Vec, at, zero64, zeros, epsilon, ◌⊘◌, ◌⊕◌, ◌⊗◌}
use Rattle.grid.specs.Cell.{entry}
use Rattle.leaves.specs.Leaf.{is_finite}
use Rattle.leaves.specs.ScanLaws.{class_cases, first_class}
use Rattle.answers.specs.Answers.{passed, least}
use Rattle.answers.specs.declared.Answer.{Answer}
use Rattle.gram_schmidt.specs.Gram.{norm}
use Rattle.gram_schmidt.specs.Unit.{over}
use Rattle.matvec.specs.Matvec.{row_of, replaced, added}
use Rattle.svd_sort_svd_descending.specs.Order.{order}
use Rattle.svd_theorems.specs.Order.{order_sorted}
use Rattle.lanczos_pairs.specs.RitzPairs.{ritz, levelled, pair, pairs}
use Rattle.lanczos_pairs.specs.TridiagonalEigen.{inward}
use Rattle.eigen_theorems.proofs.Result.{finite_out}
use Rattle.lanczos.specs.Checks.{size, checks}
use Rattle.lanczos.specs.Lanczos.{lanczos}
use Rattle.lanczos_theorems.specs.Early.{Outcome, Promised}
use Rattle.lanczos_theorems.proofs.OldContents.{lanczos_untouched}
use Rattle.lanczos_theorems.specs.RunOutcome.{state_at, alpha_at, beta_at, Stepped, matrix_of, inner_of, values_of, found_of, Says, at_number, at_norm, at_alpha, at_beta, inner, at_answer, found, Fit}
use Rattle.lanczos_theorems.proofs.RunOutcomeLaws.{lanczos_says, checks_fit}
use Rattle.lanczos_theorems.specs.Pairs.{Pairs}

-- ---- a part of a list that is replaced

module _ (a n : ℕ) (ys d : Vec) (l : length ys ≡ n) (h : a + n ≤ length d) where
  front : length (take a d) ≡ a
  front = length-take-le a d (omega arith)

  replaced_long : length (replaced a (a + n) ys d) ≡ length d
  replaced_long = omega (arith, h, l, front, length-append (take a d) (ys ++ drop (a + n - a) (drop a d)), length-append ys (drop (a + n - a) (drop a d)), length-drop (a + n - a) (drop a d), length-drop a d)

  at_before : (p : ℕ) → p < a → at (replaced a (a + n) ys d) p ≡ at d p
  at_before p g = get_or-append (take a d) (ys ++ drop (a + n - a) (drop a d)) nan p (omega (arith, front)) ∙ get_or-take a d p nan g

  at_behind : (p : ℕ) → a + n ≤ p → at (replaced a (a + n) ys d) p ≡ at d p
  at_behind p g =
      let e1 : p ≡ length (take a d) + (p - a) = omega (arith, front) in
      let e2 : p - a ≡ length ys + (p - a - n) = omega (arith, l) in
      let e3 : a + (a + n - a + (p - a - n)) ≡ p = omega arith in
      ap (at (replaced a (a + n) ys d)) e1
      ∙ get_or-append-add (take a d) (ys ++ drop (a + n - a) (drop a d)) (p - a) nan
      ∙ ap (at (ys ++ drop (a + n - a) (drop a d))) e2
      ∙ get_or-append-add ys (drop (a + n - a) (drop a d)) (p - a - n) nan
      ∙ get_or-drop (a + n - a) (drop a d) (p - a - n) nan
      ∙ get_or-drop a d (a + n - a + (p - a - n)) nan
      ∙ ap (at d) e3

-- ---- a row has n numbers

added_long : (n : ℕ) (f : Float) (u w : Vec) → length (added n f u w) ≡ length w
unfolding added
added_long n f u w = upto_keeps (λ s t. length s ≡ length w) (λ i w. set w i (at w i ⊕ f ⊗ at u i)) (λ i w. set w i (at w i ⊕ f ⊗ at u i)) 0 n w w (λ j s t p q h. length-set s j _ ∙ h) refl

over_long : (n : ℕ) (by : Float) (c : Vec) → length (over n by c) ≡ length c
unfolding over
over_long n by c = upto_keeps (λ s t. length s ≡ length c) (λ row c. set c row (at c row ⊘ by)) (λ row c. set c row (at c row ⊘ by)) 0 n c c (λ j s t p q h. length-set s j _ ∙ h) refl

ritz_long : (n m : ℕ) (q vecs : Vec) (c : ℕ) → length (ritz n m q vecs c) ≡ n
unfolding ritz
ritz_long n m q vecs c =
    upto_keeps (λ s t. length s ≡ n) (λ j x. added n (entry vecs m j c) (row_of n j q) x) (λ j x. added n (entry vecs m j c) (row_of n j q) x) 0 m (zeros n) (zeros n) (λ j s t p o h. added_long n (entry vecs m j c) (row_of n j q) s ∙ h) (length-replicate n zero64)

levelled_long : (n : ℕ) (c : Vec) → length c ≡ n → length (levelled n c) ≡ n
unfolding levelled
levelled_long n c l = go (lt epsilon (norm n c))
  where
    go : (t : Bool) → length (cond t (over n (norm n c) c) c) ≡ n
    go true = over_long n (norm n c) c ∙ l
    go false = l

-- ---- t pairs are laid out

record Laid (n k : ℕ) (vals : Vec) (o : ℕ → ℕ) (t : ℕ) (x : Vec) : Type 0 where
  long : length x ≡ k + k * n
  values : (p : ℕ) → p < t → at x p ≡ at vals (o p)
  rest : (p : ℕ) → t ≤ p → p < k → at x p ≡ zero64
  rows : (i : ℕ) → k + t * n ≤ i → i < k + k * n → at x i ≡ zero64

module _ (n k m : ℕ) (q vals vecs : Vec) (o : ℕ → ℕ) where
  one_laid : (t : ℕ) (x : Vec) → t < k → Laid n k vals o t x → Laid n k vals o (t + 1) (pair n k m q vals vecs (o t) t x)
  unfolding pair
  one_laid t x l h = record {
    long = replaced_long (k + t * n) n ys d lys room ∙ ld;
    values = λ p g. elim (ℕ_discrete p t) [
      | yes e ↦ at_before (k + t * n) n ys d lys room p (omega arith) ∙ ap (at d) e ∙ get_or-set_same x t v nan (omega (arith, h.long)) ∙ ap (λ (j : ℕ). at vals (o j)) (sym e)
      | no f ↦ at_before (k + t * n) n ys d lys room p (omega arith) ∙ get_or-set_other x t p v nan f ∙ h.values p (omega arith)
    ];
    rest = λ p g s. at_before (k + t * n) n ys d lys room p (omega arith) ∙ get_or-set_other x t p v nan (λ e. omega arith) ∙ h.rest p (omega arith) s;
    rows = λ i g s. at_behind (k + t * n) n ys d lys room i (omega (arith, add-mul t 1 n)) ∙ get_or-set_other x t i v nan (λ e. omega arith) ∙ h.rows i (omega (arith, add-mul t 1 n)) s;
  }
    where
      v : Float
      v = at vals (o t)

      d : Vec
      d = set x t v

      ys : Vec
      ys = levelled n (ritz n m q vecs (o t))

      lys : length ys ≡ n
      lys = levelled_long n (ritz n m q vecs (o t)) (ritz_long n m q vecs (o t))

      ld : length d ≡ k + k * n
      ld = length-set x t v ∙ h.long

      more : (t + 1) * n ≤ k * n
      more = mul-le-mul_right n (omega arith)

      room : k + t * n + n ≤ length d
      room = omega (arith, ld, more, add-mul t 1 n)

  all_laid : (t : ℕ) → t ≤ k → Laid n k vals o t (pairs n k m t q vals vecs o (zeros (k + k * n)))
  unfolding pairs
  all_laid t l = upto_both (λ j x y. Laid n k vals o j x) (λ t x. pair n k m q vals vecs (o t) t x) (λ t x. pair n k m q vals vecs (o t) t x) 0 t (zeros (k + k * n)) (zeros (k + k * n)) (omega arith)
      (λ j x y p g h. one_laid j x (omega arith) h)
      (record {
        long = length-replicate (k + k * n) zero64;
        values = λ p g. absurd (omega arith);
        rest = λ p g s. get_or-replicate (k + k * n) p zero64 nan (omega arith);
        rows = λ i g s. get_or-replicate (k + k * n) i zero64 nan s;
      })

-- ---- of a call that is done

least_both : (k m : ℕ) → (least k m ≤ k) × (least k m ≤ m)
unfolding least
least_both k m = go (ltb k m) refl
  where
    go : (b : Bool) → ltb k m ≡ b → (cond b k m ≤ k) × (cond b k m ≤ m)
    go true e = (omega arith, omega (arith, ltb-true k m e))
    go false e = (omega (arith, ltb-false k m e), omega arith)

module _ (n k limit edition : ℕ) (a b : Vec) (f : Fit n k limit edition) where
  found_pairs : (m : ℕ) → m ≤ n → Stepped n k a b m → (inner_of n k limit edition a b m).0.answer ≡ 0 → Pairs n k limit edition a b (least k m) (found_of n k limit edition a b m)
  unfolding inward
  found_pairs m l s z = record {
    run = m;
    few = l;
    stepped = s;
    place_is = refl;
    array = refl;
    long = h.long;
    descends = λ i j p g.
        let w = order_sorted (at vals) m fine (omega (arith, f.small)) in
        subst (λ (y : Float). le y (at (found_of n k limit edition a b m) i) ≡ true) (sym (h.values j g)) (subst (λ (y : Float). le (at vals (o j)) y ≡ true) (sym (h.values i (omega arith))) (w.descends i j p (omega (arith, (least_both k m).1))));
    values_rest = h.rest;
    rows_rest = h.rows;
  }
    where
      vals : Vec
      vals = values_of n k limit edition a b m

      o : ℕ → ℕ
      o = order (at vals) m

      fine : (i : ℕ) → i < m → is_finite (at vals i) ≡ true
      fine i g = ap is_finite (get_or-take m (inner_of n k limit edition a b m).2 i nan g) ∙ finite_out m limit edition (matrix_of n k a b m) (zeros m) (zeros (m + m * m)) z i (omega arith)

      h : Laid n k vals o (least k m) (found_of n k limit edition a b m)
      h = all_laid n k m (state_at n k a b (size n k)).1 vals (drop m (inner_of n k limit edition a b m).2) o (least k m) (least_both k m).0

  says_pairs : (y : Answer × Vec) → Says n k limit edition a b y → y.0.answer ≡ 0 → Pairs n k limit edition a b y.0.place y.1
  says_pairs y (at_number g) z = absurd (omega arith)
  says_pairs y (at_norm g e) z = absurd (⊎_elim (λ c. omega arith) (λ c. omega arith) (class_cases (norm n b)))
  says_pairs y (at_alpha g s j l c e) z = absurd (⊎_elim (λ c. omega arith) (λ c. omega arith) (class_cases (alpha_at n k a b j)))
  says_pairs y (at_beta g s j l c e d) z = absurd (⊎_elim (λ c. omega arith) (λ c. omega arith) (class_cases (beta_at n k a b j)))
  says_pairs y (inner g s m l p d) z = absurd (d z)
  says_pairs y (at_answer g s m l p q {i = i} {c = c} r) z = absurd (⊎_elim (λ e. omega arith) (λ e. omega arith) (first_class (at (found_of n k limit edition a b m)) (length (found_of n k limit edition a b m)) i c r))
  says_pairs y (found g s m l p q r) z = found_pairs m l p q

-- **lanczos_found**
pub lanczos_found : (n k limit edition : ℕ) (a b work x : Vec) → (lanczos n k limit edition a b work x).0.answer ≡ 0
    → Pairs n k limit edition a b (lanczos n k limit edition a b work x).0.place (lanczos n k limit edition a b work x).2
lanczos_found n k limit edition a b work x z = go (passed c) refl
  where
    c : Answer
    c = checks n k limit edition (length a) (length b) (length work) (length x)

    o : Outcome
    o = lanczos n k limit edition a b work x

    go : (t : Bool) → passed c ≡ t → Pairs n k limit edition a b o.0.place o.2
    go true e = says_pairs n k limit edition a b (checks_fit n k limit edition (length a) (length b) (length work) (length x) e) (o.0, o.2) (lanczos_says n k limit edition a b work x e) z
    go false e = absurd (eqb-false c.answer 0 e (ap (λ (y : Outcome). y.0.answer) (sym (lanczos_untouched n k limit edition a b work x e)) ∙ z))

-- of a call
pub lanczos_found_calls : (n k limit edition : ℕ) (a b work x : Vec) (y : Outcome) → Promised n k limit edition a b work x y → y.0.answer ≡ 0 → Pairs n k limit edition a b y.0.place y.2
lanczos_found_calls n k limit edition a b work x y p =
    subst (λ (o : Outcome). o.0.answer ≡ 0 → Pairs n k limit edition a b o.0.place o.2) (sym p) (lanczos_found n k limit edition a b work x)
