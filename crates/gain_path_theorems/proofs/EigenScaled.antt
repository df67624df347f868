-- **Gain does not move the eigenvectors** (`gain_keeps_eigenvectors`): two calls of `symmetric_eigen`, of a matrix and of 2 ^ k times it, k of either sign. Laws only.
use Rattle.std.specs.Prelude.{◌≡◌, refl, Bool, true, false, cond, not, ◌++◌, map, ◌⊎◌, ℕ, suc, ◌+◌, ◌*◌, ◌-◌, ◌/◌, ◌%◌, ◌≤◌, ◌<◌, ltb, leb, eqb, ℤ, pos, negsuc, Float, is_some}
use Rattle.std.proofs.Common.{sym, ap, ap₂, ◌∙◌, subst, subst₂, true≢false, inl, inr, ⊎_elim, arith, ltb-true, ltb-false, eqb-true, eq-eqb, ne_eqb, length-append, get_or-append-add}
use Rattle.std.proofs.lemmas.Bool.{eqb-false}
use Rattle.std.specs.Float.{nan}
use Rattle.std.proofs.Math.ListN.{length, length-replicate, get_or-append, get_or-eq_default}
use Rattle.std.proofs.lemmas.List.{length-map}
use Rattle.grid.specs.Real.{Vec, at, zero64, zeros}
use Rattle.grid.specs.Table.{table}
use Rattle.grid.specs.TableLaws.{length_table, at_table, zeros_table}
use Rattle.leaves.specs.Leaf.{is_finite}
use Rattle.leaves.specs.Scan.{class_of, scan, place_of, lower_of, first_bad, first_bad_lower, by_rows}
use Rattle.leaves.specs.ScanLaws.{lower_at}
use Rattle.leaves.specs.FiniteLaws.{lower_finite}
use Rattle.answers.specs.Answers.{refused, done, passed, refusal7, marked}
use Rattle.answers.proofs.OutcomeLaws.{none_seven}
use Rattle.answers.specs.declared.Answer.{Answer}
use Rattle.answers.specs.Checks.{limit_good, fitting_edition}
use Rattle.answers.specs.ChecksLaws.{limit_right}
use Rattle.answers.proofs.EditionLaws.{fitting_edition_right}
use Rattle.eigen_tql2.specs.Tql2.{tql2}
use Rattle.eigen_symmetric_eigen.specs.Layout.{columns}
use Rattle.eigen_symmetric_eigen.specs.LayoutLaws.{columns_long}
use Rattle.eigen_symmetric_eigen.specs.AfterTred2.{mark0, after_tred}
use Rattle.eigen_symmetric_eigen.specs.SymmetricEigen.{decomposed, cleared, given, eigen_entered, eigen}
use Rattle.eigen_theorems.specs.Outcome.{Outcome, Promised, Taken, reduced}
use Rattle.eigen_theorems.proofs.OutcomeLaws.{square, diagonal, beside}
use Rattle.eigen_theorems.specs.Tql2Lengths.{ran_long}
use Rattle.eigen_theorems.proofs.Tql2Marks.{run_gives}
use Rattle.eigen_theorems.specs.Tql2Outcome.{list1, list2, RunGives, well, at_mark2, at_mark1, at_limit}
use Rattle.eigen_theorems.proofs.Tql2OutcomeLaws.{class_above, mark1_sees, ran_document}
use Rattle.eigen_theorems.specs.Tql2SortLaws.{sorted_arranged}
use Rattle.svd_gain_theorems.specs.Scale.{scale, Scaled}
use Rattle.svd_gain_theorems.specs.Alike.{Alike, under}
use Rattle.svd_gain_theorems.specs.AlikeLaws.{under_in, under_out, equally, powered}
use Rattle.svd_gain_theorems.specs.Found.{match, scan_match, bad_same, both_same}
use Rattle.svd_gain_theorems.proofs.Out.{zeros_alike}
use Rattle.svd_gain_theorems.proofs.Gain.{scale_back, at_map, Results, values_of, factors_of, results_up, results_down}
use Rattle.gain_path_theorems.specs.Numbers.{Number, Doubles, Pair, pair_at, zero_n, table_fits}
use Rattle.gain_path_theorems.proofs.Tred2Scaled.{tred2_scaled}
use Rattle.gain_path_theorems.specs.Tred2Fine.{Reduced}
use Rattle.gain_path_theorems.specs.Tql2Fine.{Tql2Fine}
use Rattle.gain_path_theorems.proofs.Tql2Scaled.{Ends, tql2_scaled}
use Rattle.gain_path_theorems.specs.EigenFine.{RunFine, EigenFine, Untouched, Emptied, EigenGained}

-- ---- in: zeros, and the matrix column by column

table_pair : (k : ℕ) (f g : ℕ → Float) (n : ℕ) → ((i : ℕ) → Number k (f i) (g i)) → Pair k (table f n) (table g n)
unfolding scale
table_pair k f g n h = record {
  alike = record { long = length_table g n ∙ sym (length_table f n); each = λ i. go i (ltb i n) refl };
  first = table_fits f n (λ i. (h i).first);
  second = table_fits g n (λ i. (h i).second);
}
  where
    out : (f : ℕ → Float) (i : ℕ) → n ≤ i → at (table f n) i ≡ nan
    out f i l = get_or-eq_default (table f n) nan (omega (arith, length_table f n))

    go : (i : ℕ) (b : Bool) → ltb i n ≡ b → Scaled k (at (table f n) i) (at (table g n) i)
    go i true e = rw (at_table f n i (ltb-true i n e), at_table g n i (ltb-true i n e)) (h i).is
    go i false e = rw (out f i (ltb-false i n e), out g i (ltb-false i n e))

zeros_pair : (k n : ℕ) → Pair k (zeros n) (zeros n)
zeros_pair k n = subst (λ (z : Vec). Pair k z z) (sym (zeros_table n)) (table_pair k (λ j. zero64) (λ j. zero64) n (λ _. zero_n k))

columns_pair : (k n : ℕ) (a b : Vec) → Pair k a b → Pair k (columns n a) (columns n b)
unfolding columns
columns_pair k n a b P = table_pair k _ _ (n * n) (λ i. pair_at k a b (i % n * n + i / n) P)

-- ---- what is looked at: the lower triangle, and at mark 0 d, e and v

lower_scaled : (k n : ℕ) (a b : Vec) → Alike (λ i. k) a b → first_bad_lower n b ≡ first_bad_lower n a
unfolding first_bad_lower lower_of place_of
lower_scaled k n a b h =
    let m = match (λ i. k) a b h in
    ap (scan (lower_at n b)) h.long ∙ scan_match (lower_at n a) (lower_at n b) (length a) (λ i. below is_finite i (m.finite i)) (λ i. below class_of i (m.class i))
  where
    below : {A : Type 0} (f : Float → A) (i : ℕ) → f (at b i) ≡ f (at a i) → f (lower_at n b i) ≡ f (lower_at n a i)
    below f i e = go (leb (place_of n i).j (place_of n i).i)
      where
        go : (t : Bool) → f (cond t (at b i) zero64) ≡ f (cond t (at a i) zero64)
        go true = e
        go false = refl

mark0_scaled : (k n : ℕ) (x x' : Vec × Vec × Vec) → Reduced k x x' → mark0 n x'.0 x'.1 x'.2 ≡ mark0 n x.0 x.1 x.2
unfolding mark0
mark0_scaled k n (v, d, e) (v', d', e') r =
    ap (λ (w : Vec). first_bad (d' ++ e' ++ by_rows n w)) r.v
    ∙ both_same (d ++ e) (by_rows n v) (d' ++ e') (by_rows n v)
    (length-append d' e' ∙ ap₂ ◌+◌ r.d.alike.long r.e.alike.long ∙ sym (length-append d e))
    (both_same d e d' e' r.d.alike.long (bad_same d d' (match (λ i. k) d d' r.d.alike)) (bad_same e e' (match (λ i. k) e e' r.e.alike))) refl

-- ---- the run

after_scaled : (k n limit edition : ℕ) (x x' : Vec × Vec × Vec) → Reduced k x x' → (is_some (mark0 n x.0 x.1 x.2) ≡ false → Tql2Fine n limit edition x)
    → (is_some (mark0 n x'.0 x'.1 x'.2) ≡ false → Tql2Fine n limit edition x') → Ends k (after_tred n limit edition x) (after_tred n limit edition x')
unfolding after_tred
after_scaled k n limit edition (v, d, e) (v', d', e') r F F' = go (is_some (mark0 n v d e)) refl
  where
    same : mark0 n v' d' e' ≡ mark0 n v d e
    same = mark0_scaled k n (v, d, e) (v', d', e') r

    go : (b : Bool) → is_some (mark0 n v d e) ≡ b
        → Ends k (cond (is_some (mark0 n v d e)) (marked 0 0 (mark0 n v d e), v, d, e) (tql2 n limit edition (v, d, e)))
        (cond (is_some (mark0 n v' d' e')) (marked 0 0 (mark0 n v' d' e'), v', d', e') (tql2 n limit edition (v', d', e')))
    go true p = rw (ap is_some same, p) (record { answers = ap (marked 0 0) same; v = r.v; d = r.d; e = r.e })
    go false p =
        rw (ap is_some same, p)
        (subst (λ (w : Vec). Ends k (tql2 n limit edition (v, d, e)) (tql2 n limit edition (w, d', e'))) (sym r.v)
        (tql2_scaled k n limit edition v d e d' e' r.d r.e (F p) (subst (λ (w : Vec). Tql2Fine n limit edition (w, d', e')) r.v (F' (ap is_some same ∙ p)))))

-- where a run is done it has n values
gives_long : (n limit edition : ℕ) (x : Vec × Vec × Vec) (o : Answer × Vec × Vec × Vec) → length x.0 ≡ n * n → length x.1 ≡ n → RunGives n limit edition x o → o.0.answer ≡ 0
    → length o.2 ≡ n
gives_long n limit edition x o s l (well {y = y} r w) z =
    let long = ran_long n edition (ran_document n limit edition r) in
    let values : length y.d ≡ n = long.values ∙ l in
    (sorted_arranged n (y.v, y.d) (long.vectors ∙ s) values (λ k q. w.values k (omega arith))).long
gives_long n limit edition x o s l (at_mark2 {b = b} {i = i} {y = y} r f) z = absurd (omega (arith, class_above (list2 n y) b i f))
gives_long n limit edition x o s l (at_mark1 {l = t} {b = b} {i = i} {z = y} h r u) z = absurd (omega (arith, class_above (list1 y) b i (mark1_sees n limit edition t u)))
gives_long n limit edition x o s l (at_limit h r t) z = absurd (omega arith)

after_long : (n limit edition : ℕ) (a : Vec) → 0 < n → passed (after_tred n limit edition (reduced n a)).0 ≡ true → length (after_tred n limit edition (reduced n a)).2 ≡ n
unfolding after_tred
after_long n limit edition a s = go (is_some (mark0 n x.0 x.1 x.2))
  where
    x : Vec × Vec × Vec
    x = reduced n a

    o : Bool → Answer × Vec × Vec × Vec
    o b = cond b (marked 0 0 (mark0 n x.0 x.1 x.2), x.0, x.1, x.2) (tql2 n limit edition x)

    go : (b : Bool) → passed (o b).0 ≡ true → length (o b).2 ≡ n
    go true p = diagonal n a
    go false p = gives_long n limit edition x (tql2 n limit edition x) (square n a) (diagonal n a) (run_gives n limit edition x s (square n a) (beside n a)) (eqb-true _ 0 p)

-- ---- out

-- the four numbers agree, and on 0 the results are alike: the values by 2 ^ k, and what comes behind them the same; else both are as Q says
record Both (k n : ℕ) (Q : Type 0) (x y : Outcome) : Type 0 where
  answers : y.0 ≡ x.0
  results : passed x.0 ≡ true → Alike (under k n) x.2 y.2
  others : passed x.0 ≡ false → Q

laid_alike : (k n : ℕ) (d d' r : Vec) → length d ≡ n → Pair k d d' → Alike (under k n) (d ++ r) (d' ++ r)
laid_alike k n d d' r l h = record {
  long = length-append d' r ∙ ap (λ (m : ℕ). m + length r) h.alike.long ∙ sym (length-append d r);
  each = λ i. go i (ltb i n) refl;
}
  where
    go : (i : ℕ) (b : Bool) → ltb i n ≡ b → Scaled (under k n i) (at (d ++ r) i) (at (d' ++ r) i)
    go i true e =
        let p : i < n = ltb-true i n e in
        let q : i < length d = omega arith in
        let q' : i < length d' = omega (arith, h.alike.long) in
        powered _ (sym (under_in k n i p)) (get_or-append d' r nan i q' ∙ h.alike.each i ∙ ap (scale (pos k)) (sym (get_or-append d r nan i q)))
    go i false e =
        let p : n ≤ i = ltb-false i n e in
        equally _ _ (under_out k n i p) (behind d' (h.alike.long ∙ l) p ∙ sym (behind d l p))
      where
        behind : (d : Vec) → length d ≡ n → n ≤ i → at (d ++ r) i ≡ at r (i - n)
        behind d l p =
            let e : i ≡ length d + (i - n) = omega arith in
            ap (at (d ++ r)) e ∙ get_or-append-add d r (i - n) nan

given_scaled : (k n : ℕ) (x x' : Answer × Vec × Vec × Vec) → Ends k x x' → (passed x.0 ≡ true → length x.2 ≡ n) → Both k n (Emptied n (given n x) × Emptied n (given n x')) (given n x) (given n x')
unfolding given
given_scaled k n (x, v, d, e) (x', v', d', e') h long = go (passed x) refl
  where
    end : Answer → Vec → Vec → Outcome
    end x v d = cond (passed x) (x, zeros n, d ++ by_rows n v) (cleared n x)

    go : (b : Bool) → passed x ≡ b → Both k n (Emptied n (end x v d) × Emptied n (end x' v' d')) (end x v d) (end x' v' d')
    go true p =
        rw (ap passed h.answers, p)
        (record { answers = h.answers; results = λ _. rw h.v (laid_alike k n d d' (by_rows n v) (long p) h.d); others = λ z. absurd (true≢false (sym p ∙ z)) })
    go false p = rw (ap passed h.answers, p) (record { answers = h.answers; results = λ z. absurd (true≢false (sym z ∙ p)); others = λ _. ((refl, refl), (refl, refl)) })

-- ---- up

-- what two calls leave on another answer than 0
abbrev Others : ℕ → Vec → Vec → Vec → Vec → Outcome → Outcome → Type 0
Others n w r w' r' x y = (Untouched w r x × Untouched w' r' y) ⊎ (Emptied n x × Emptied n y)

-- the checks in their order, the numbers given, n = 0, and the run
called : ℕ → Bool → Bool → Bool → Answer → Answer → Outcome → Vec → Vec → Outcome
called n p q z c d o w r =
    cond p (refused 1 0, w, r) (cond (not q) (refused 2 0, w, r) (cond (passed c) (cond (passed d) (cond z (cleared n (done 0)) o) (cleared n d)) (c, w, r)))

choose : (k n : ℕ) (p q z : Bool) (c c' d d' : Answer) (o o' : Outcome) (w r w' r' : Vec) → c' ≡ c → d' ≡ d
    → (p ≡ false → q ≡ true → passed c ≡ true → passed d ≡ true → z ≡ false → Both k n (Emptied n o × Emptied n o') o o')
    → Both k n (Others n w r w' r' (called n p q z c d o w r) (called n p q z c' d' o' w' r')) (called n p q z c d o w r) (called n p q z c' d' o' w' r')
unfolding called
choose k n true q z c c' d d' o o' w r w' r' e f h = record { answers = refl; results = λ t. absurd (true≢false (sym t)); others = λ _. inl ((refl, refl), (refl, refl)) }
choose k n false false z c c' d d' o o' w r w' r' e f h = record { answers = refl; results = λ t. absurd (true≢false (sym t)); others = λ _. inl ((refl, refl), (refl, refl)) }
choose k n false true z c c' d d' o o' w r w' r' e f h = go (passed c) refl (passed d) refl z refl
  where
    call : Bool → Answer → Answer → Outcome → Vec → Vec → Outcome
    call z c d o w r = cond (passed c) (cond (passed d) (cond z (cleared n (done 0)) o) (cleared n d)) (c, w, r)

    go : (s : Bool) → passed c ≡ s → (t : Bool) → passed d ≡ t → (u : Bool) → z ≡ u
        → Both k n (Others n w r w' r' (call z c d o w r) (call z c' d' o' w' r')) (call z c d o w r) (call z c' d' o' w' r')
    go true a true b true g = rw (ap passed e, a, ap passed f, b, g) (record { answers = refl; results = λ _. zeros_alike (under k n) (n + n * n); others = λ t. absurd (true≢false t) })
    go true a true b false g =
        let m = h refl refl a b g in
        rw (ap passed e, a, ap passed f, b, g) (record { answers = m.answers; results = m.results; others = λ t. inr (m.others t) })
    go true a false b u g = rw (ap passed e, a, ap passed f, b) (record { answers = f; results = λ t. absurd (true≢false (sym t ∙ b)); others = λ _. inr ((refl, refl), (refl, refl)) })
    go false a t b u g = rw (ap passed e, a) (record { answers = e; results = λ t. absurd (true≢false (sym t ∙ a)); others = λ _. inl ((refl, refl), (refl, refl)) })

module _ (k n limit edition : ℕ) (a b work work' result result' : Vec) (P : Pair k a b) (works : length work' ≡ length work) (results : length result' ≡ length result) where
  ran : Vec → Outcome
  unfolding decomposed
  ran a = given n (decomposed n limit edition a (zeros n, zeros n))

  run_scaled : 0 < n → RunFine n limit edition a → RunFine n limit edition b → Both k n (Emptied n (ran a) × Emptied n (ran b)) (ran a) (ran b)
  unfolding ran
  run_scaled s F F' =
      let long : length (zeros n) ≡ n = length-replicate n zero64 in
      let r : Reduced k (reduced n a) (reduced n b) =
      tred2_scaled n k s (columns n a) (columns n b) (zeros n) (zeros n) (zeros n) (zeros n) (columns_pair k n a b P) (zeros_pair k n)
      (columns_long n a) long long F.reduces F'.reduces in
      given_scaled k n _ _ (after_scaled k n limit edition (reduced n a) (reduced n b) r F.iterates F'.iterates) (after_long n limit edition a s)

  up : EigenFine n limit edition a work result → EigenFine n limit edition b work' result'
      → Both k n (Others n work result work' result' (eigen n limit edition a work result) (eigen n limit edition b work' result')) (eigen n limit edition a work result) (eigen n limit edition b work' result')
  unfolding eigen eigen_entered called ran
  up f g =
      choose k n (ltb 256 n) (limit_good limit) (eqb n 0) (check a work result) (check b work' result') (scanned a) (scanned b) (ran a) (ran b) work result work' result' checked seen
      (λ p q c d z.
      let s : 0 < n = above (eqb-false n 0 z) in
      run_scaled s (f (taken a work result p q c d) s) (g (taken b work' result' p q (ap passed checked ∙ c) (ap passed seen ∙ d)) s))
    where
      check : Vec → Vec → Vec → Answer
      check a work result = fitting_edition edition (length a) (n * n) (length work) n (length result) (n + n * n)

      scanned : Vec → Answer
      scanned a = refusal7 (first_bad_lower n a)

      checked : check b work' result' ≡ check a work result
      checked = rw (P.alike.long, works, results)

      seen : scanned b ≡ scanned a
      seen = ap refusal7 (lower_scaled k n a b P.alike)

      above : (n ≡ 0 → ⊥) → 0 < n
      above d = omega arith

      taken : (a work result : Vec) → ltb 256 n ≡ false → limit_good limit ≡ true → passed (check a work result) ≡ true → passed (scanned a) ≡ true → Taken n limit edition a work result
      taken a work result p q c d =
          let l = fitting_edition_right edition (length a) (n * n) (length work) n (length result) (n + n * n) (eqb-true _ 0 c) in
          let m = limit_right limit q in
          record {
            fit = record { small = ltb-false 256 n p; least = m.0; most = m.1; choice = l.0; square = l.1; works = l.2; room = l.3 };
            finite = lower_finite n a l.1 (none_seven (first_bad_lower n a) (eqb-true _ 0 d));
          }

-- ---- down, with the two calls in each other's place

-- x and y are what eigen gives
record Between (k : ℤ) (n : ℕ) (Q : Type 0) (x y : Outcome) : Type 0 where
  numbers : y.0 ≡ x.0
  results : x.0.answer ≡ 0 → Results k n x.2 y.2
  others : (x.0.answer ≡ 0 → ⊥) → Q

module _ (n limit edition : ℕ) (a work work' result result' : Vec) (works : length work' ≡ length work) (results : length result' ≡ length result) (D : Doubles a) where
  between : (k : ℤ) → Doubles (map (scale k) a) → EigenFine n limit edition a work result → EigenFine n limit edition (map (scale k) a) work' result'
      → Between k n (Others n work result work' result' (eigen n limit edition a work result) (eigen n limit edition (map (scale k) a) work' result')) (eigen n limit edition a work result)
      (eigen n limit edition (map (scale k) a) work' result')
  between (pos k) E f g =
      let b = map (scale (pos k)) a in
      let h = up k n limit edition a b work work' result result' (record { alike = record { long = length-map a (scale (pos k)); each = at_map (pos k) a }; first = D; second = E }) works results f g in
      record { numbers = h.answers; results = λ z. results_up k n _ _ (h.results (eq-eqb _ 0 z)); others = λ z. h.others (ne_eqb _ 0 z) }
  between (negsuc j) E f g =
      let b = map (scale (negsuc j)) a in
      let back : (i : ℕ) → Scaled (suc j) (at b i) (at a i) = λ i. sym (ap (scale (pos (suc j))) (at_map (negsuc j) a i) ∙ scale_back (negsuc j) (at a i)) in
      let h = up (suc j) n limit edition b a work' work result' result (record { alike = record { long = sym (length-map a (scale (negsuc j))); each = back }; first = E; second = D }) (sym works) (sym results) g f in
      record {
        numbers = sym h.answers;
        results = λ z. results_down j n _ _ (h.results (eq-eqb _ 0 (sym (ap (λ (q : Answer). q.answer) h.answers) ∙ z)));
        others = λ z. ⊎_elim (λ t. inl (t.1, t.0)) (λ t. inr (t.1, t.0)) (h.others (ne_eqb _ 0 (λ e. z (ap (λ (q : Answer). q.answer) h.answers ∙ e))));
      }

-- **gain_keeps_eigenvectors**: x and y are what two calls came back with that meet symmetric_eigen's promise
pub gain_keeps_eigenvectors : (k : ℤ) (n limit edition : ℕ) (matrix work result work' result' : Vec) (x y : Outcome) → length work' ≡ length work → length result' ≡ length result
    → Doubles matrix → Doubles (map (scale k) matrix) → Promised n limit edition matrix work result x → Promised n limit edition (map (scale k) matrix) work' result' y
    → EigenFine n limit edition matrix work result → EigenFine n limit edition (map (scale k) matrix) work' result' → EigenGained k n work result work' result' x y
gain_keeps_eigenvectors k n limit edition matrix work result work' result' x y works results D E p q f g =
    let h = between n limit edition matrix work work' result result' works results D k E f g in
    subst₂ (λ (o o' : Outcome). EigenGained k n work result work' result' o o') (sym p) (sym q)
    (record { numbers = h.numbers; values = λ z. values_of k n _ _ (h.results z); vectors = λ z. factors_of k n _ _ (h.results z); others = h.others })
