-- **tql2_gain**: `tql2` of d and e and of 2 ^ k times them, with the same v. Laws only.
use Rattle.leaves.specs.declared.Bad.{Bad}
use Rattle.std.specs.Prelude.{◌≡◌, Bool, true, false, not, ◌++◌, map, ℕ, zero, suc, ◌+◌, ◌-◌, ◌≤◌, ◌<◌, T, ltb, eqb, pos, Float, set, Option, is_some}
use Rattle.std.proofs.Math.Path.{refl, ap}
use Rattle.std.proofs.Common.{sym, ap₂, ◌∙◌, subst, arith, ltb-true, ltb-false, eqb-true, ext_get_or}
use Rattle.std.proofs.Math.Bool.{cond}
use Rattle.std.specs.Float.{nan}
use Rattle.std.specs.Float.Ieee.{lt}
use Rattle.std.proofs.lemmas.List.{length-map}
use Rattle.grid.specs.Loop.{upto, first, seek, rounds}
use Rattle.grid.specs.LoopLaws.{upto_keeps}
use Rattle.grid.specs.Real.{Vec, at, zero64, ◌⊕◌}
use Rattle.leaves.specs.Leaf.{magnitude, larger}
use Rattle.leaves.specs.Scan.{first_bad, by_rows}
use Rattle.answers.specs.Answers.{done, answered, marked}
use Rattle.answers.specs.declared.Answer.{Answer}
use Rattle.eigen_tql2_pass.specs.Pass.{tiny, going, converged, limit_used, pass}
use Rattle.eigen_tql2_pass.specs.declared.Run.{Run}
use Rattle.eigen_tql2.specs.LStartEnd.{State, fresh, stopping, split, opened, ended, released, closed}
use Rattle.eigen_tql2.specs.RunOverL.{iterated, stage, turn, run}
use Rattle.eigen_tql2.specs.Sort.{least_from, swapped, sort_step, sorted}
use Rattle.eigen_tql2.specs.SortSteps.{better}
use Rattle.eigen_tql2.specs.Finish.{mark2, ql_finished}
use Rattle.eigen_tql2.specs.Tql2.{moved_up, tql2}
use Rattle.eigen_tql2.specs.Tql2Steps.{up_step}
use Rattle.eigen_tql2.specs.declared.sort.Best.{Best}
use Rattle.svd_gain_theorems.specs.Scale.{scale, fine}
use Rattle.svd_gain_theorems.specs.Along.{Along, Rounds}
use Rattle.svd_gain_theorems.specs.AlongLaws.{rounds_both}
use Rattle.svd_gain_theorems.specs.Found.{match, bad_same, both_same}
use Rattle.svd_gain_theorems.proofs.Gain.{at_map}
use Rattle.gain_path_theorems.specs.PassFine.{PassFine}
use Rattle.gain_path_theorems.specs.Numbers.{Number, Doubles, Pair, add_n, lt_n, magnitude_n, pair_set, pair_at, zero_n}
use Rattle.gain_path_theorems.proofs.PassScaled.{Runs, States, tiny_same, pass_scaled, along_keeps}
use Rattle.gain_path_theorems.specs.Tql2Fine.{OpenFine, at_l, passed, StageFine, TurnFine, Tql2Fine, Tql2Gained}

-- ---- the run comes to l

larger_n : (k : ℕ) (x y : Float) {x' y' : Float} → Number k x x' → Number k y y' → Number k (larger x y) (larger x' y')
unfolding larger
larger_n k x y {x'} {y'} p q = go (lt x y) (lt x' y') (lt_n k x y p q)
  where
    go : (b c : Bool) → c ≡ b → Number k (cond b y x) (cond c y' x')
    go true c e = rw e q
    go false c e = rw e p

seek_same : (p q : ℕ → Bool) (a m : ℕ) → ((i : ℕ) → q i ≡ p i) → seek q a m ≡ seek p a m
unfolding seek
seek_same p q a zero h = refl
seek_same p q a (suc m) h = ap₂ (λ (b : Bool) (r : ℕ). cond b a r) (h a) (seek_same p q (a + 1) m h)

first_same : (p q : ℕ → Bool) (a b : ℕ) → (a < b → (i : ℕ) → q i ≡ p i) → first q a b ≡ first p a b
unfolding first seek
first_same p q a b h = go (ltb a b) refl
  where
    none : (p : ℕ → Bool) → b ≤ a → seek p a (b - a) ≡ a
    none p l =
        let e : b - a ≡ 0 = omega arith in
        rw e

    go : (c : Bool) → ltb a b ≡ c → seek q a (b - a) ≡ seek p a (b - a)
    go true e = seek_same p q a (b - a) (h (ltb-true a b e))
    go false e = none q (ltb-false a b e) ∙ sym (none p (ltb-false a b e))

module _ (k n limit edition : ℕ) where
  opened_scaled : (l : ℕ) (r r' : Run) (d e d' e' : Vec) → Runs k r r' → Pair k d d' → Pair k e e' → OpenFine n l r d e → OpenFine n l r' d' e'
      → Runs k (opened n l r d e) (opened n l r' d' e')
  unfolding opened split
  opened_scaled l r r' d e d' e' R D E F F' =
      let size = add_n k (magnitude (at d l)) (magnitude (at e l)) (magnitude_n k (at d l) (pair_at k d d' l D)) (magnitude_n k (at e l) (pair_at k e e' l E)) F.size F'.size in
      let t = larger r.tst1 (magnitude (at d l) ⊕ magnitude (at e l)) in
      let t' = larger r'.tst1 (magnitude (at d' l) ⊕ magnitude (at e' l)) in
      let T1 : Number k t t' = larger_n k r.tst1 (magnitude (at d l) ⊕ magnitude (at e l)) R.tst1 size in
      let m : first (tiny e' t') l (n - 1) ≡ first (tiny e t) l (n - 1) = first_same (tiny e t) (tiny e' t') l (n - 1) (λ h i. tiny_same k e e' t E T1 (F.bound h) (F'.bound h) i) in
      record {
        l = refl;
        m = m;
        f = R.f;
        tst1 = T1;
        passes = refl;
        count = R.count;
        stop = ap (λ (m : ℕ). cond (ltb l m) going converged) m;
        index = refl;
      }

  -- ---- the passes

  ended_same : (x x' : State) → States k x x' → ended x' ≡ ended x
  ended_same x x' h = ap (λ (s : ℕ). not (eqb s going)) h.run.stop

  iterated_scaled : (x x' : State) → (ended x ≡ false → Rounds (pass n edition) ended (PassFine n edition) limit x) → (ended x' ≡ false → Rounds (pass n edition) ended (PassFine n edition) limit x')
      → States k x x' → States k (iterated n limit edition x) (iterated n limit edition x')
  unfolding iterated
  iterated_scaled x x' F F' h = go (ended x) refl
    where
      same : ended x' ≡ ended x
      same = ended_same x x' h

      go : (b : Bool) → ended x ≡ b → States k (cond (ended x) x (rounds (pass n edition) ended limit x)) (cond (ended x') x' (rounds (pass n edition) ended limit x'))
      go true e = rw (same, e) h
      go false e =
          rw (same, e) (rounds_both (States k) (pass n edition) ended (PassFine n edition) limit x x' (F e) (F' (same ∙ e)) (λ y y' f f' r. pass_scaled k n edition y y' f f' r) (λ y y' r. ended_same y y' r) h)

  -- ---- the run leaves l

  stopping_runs : (r r' : Run) (s s' : ℕ) → Runs k r r' → s' ≡ s → Runs k (stopping r s) (stopping r' s')
  stopping_runs r r' s s' R e = record { l = R.l; m = R.m; f = R.f; tst1 = R.tst1; passes = R.passes; count = R.count; stop = e; index = refl }

  closed_scaled : (x x' : State) → States k x x' → (x.0.stop ≡ converged → T (fine (at x.2 x.0.l ⊕ x.0.f))) → (x'.0.stop ≡ converged → T (fine (at x'.2 x'.0.l ⊕ x'.0.f)))
      → States k (closed x) (closed x')
  unfolding closed
  closed_scaled (r, v, d, e) (r', v', d', e') h F F' = go (eqb r.stop converged) refl (eqb r.stop going) refl
    where
      R : Runs k r r'
      R = h.run

      one : eqb r'.stop converged ≡ eqb r.stop converged
      one = ap (λ (s : ℕ). eqb s converged) R.stop

      two : eqb r'.stop going ≡ eqb r.stop going
      two = ap (λ (s : ℕ). eqb s going) R.stop

      free : r.stop ≡ converged → States k (released (r, v, d, e)) (released (r', v', d', e'))
      free c = record {
        run = stopping_runs r r' going going R refl;
        v = h.v;
        d =
            subst (λ (l : ℕ). Pair k (set d r.l (at d r.l ⊕ r.f)) (set d' l (at d' l ⊕ r'.f))) (sym R.l)
            (pair_set k d d' r.l (at d r.l ⊕ r.f) h.d
            (add_n k (at d r.l) r.f (pair_at k d d' r.l h.d) R.f (F c) (subst (λ (l : ℕ). T (fine (at d' l ⊕ r'.f))) R.l (F' (R.stop ∙ c)))));
        e = subst (λ (l : ℕ). Pair k (set e r.l zero64) (set e' l zero64)) (sym R.l) (pair_set k e e' r.l zero64 h.e (zero_n k));
      }

      go : (b : Bool) → eqb r.stop converged ≡ b → (c : Bool) → eqb r.stop going ≡ c
          → States k (cond (eqb r.stop converged) (released (r, v, d, e)) (cond (eqb r.stop going) (stopping r limit_used, v, d, e) (r, v, d, e)))
          (cond (eqb r'.stop converged) (released (r', v', d', e')) (cond (eqb r'.stop going) (stopping r' limit_used, v', d', e') (r', v', d', e')))
      go true p c q = rw (one, p) (free (eqb-true r.stop converged p))
      go false p true q = rw (one, p, two, q) (record { run = stopping_runs r r' limit_used limit_used R refl; v = h.v; d = h.d; e = h.e })
      go false p false q = rw (one, p, two, q) h

  -- ---- every l

  stage_scaled : (l : ℕ) (x x' : State) → StageFine n limit edition l x → StageFine n limit edition l x' → States k x x' → States k (stage n limit edition l x) (stage n limit edition l x')
  unfolding stage
  stage_scaled l (r, v, d, e) (r', v', d', e') F F' h =
      let o = opened_scaled l r r' d e d' e' h.run h.d h.e F.begin F'.begin in
      let i = iterated_scaled (at_l n l (r, v, d, e)) (at_l n l (r', v', d', e')) F.passes F'.passes (record { run = o; v = h.v; d = h.d; e = h.e }) in
      closed_scaled (passed n limit edition l (r, v, d, e)) (passed n limit edition l (r', v', d', e')) i F.value F'.value

  turn_scaled : (l : ℕ) (x x' : State) → TurnFine n limit edition l x → TurnFine n limit edition l x' → States k x x' → States k (turn n limit edition l x) (turn n limit edition l x')
  unfolding turn
  turn_scaled l x x' F F' h = go (ended x) refl
    where
      same : ended x' ≡ ended x
      same = ended_same x x' h

      go : (b : Bool) → ended x ≡ b → States k (cond (ended x) x (stage n limit edition l x)) (cond (ended x') x' (stage n limit edition l x'))
      go true e = rw (same, e) h
      go false e = rw (same, e) (stage_scaled l x x' (F e) (F' (same ∙ e)) h)

  run_scaled : (x x' : State) → Along (turn n limit edition) (TurnFine n limit edition) 0 n x → Along (turn n limit edition) (TurnFine n limit edition) 0 n x'
      → States k x x' → States k (run n limit edition x) (run n limit edition x')
  unfolding run
  run_scaled x x' F F' h =
      along_keeps (States k) (turn n limit edition) (turn n limit edition) (TurnFine n limit edition) (TurnFine n limit edition) 0 n x x' F F' (λ l y y' _ _ f f' r. turn_scaled l y y' f f' r) h

-- ---- before and after

up_scaled : (k n : ℕ) (e e' : Vec) → Pair k e e' → Pair k (moved_up n e) (moved_up n e')
unfolding moved_up
up_scaled k n e e' E =
    pair_set k (upto up_step 1 n e) (upto up_step 1 n e') (n - 1) zero64
    (upto_keeps (Pair k) up_step up_step 1 n e e' (λ i x y _ _ r. pair_set k x y (i - 1) (at x i) r (pair_at k x y i r)) E) (zero_n k)

record Bests (k : ℕ) (b b' : Best) : Type 0 where
  at_k : b'.k ≡ b.k
  p : Number k b.p b'.p

best_scaled : (k n i : ℕ) (d d' : Vec) → Pair k d d' → Bests k (least_from n i d) (least_from n i d')
unfolding least_from
best_scaled k n i d d' D =
    upto_keeps (Bests k) (better d) (better d') (i + 1) n (record { k = i; p = at d i }) (record { k = i; p = at d' i })
    (λ j b b' _ _ r. pick j b b' r (lt (at d j) b.p) (lt (at d' j) b'.p) (lt_n k (at d j) b.p (pair_at k d d' j D) r.p))
    (record { at_k = refl; p = pair_at k d d' i D })
  where
    pick : (j : ℕ) (b b' : Best) → Bests k b b' → (s t : Bool) → t ≡ s → Bests k (cond s (record { k = j; p = at d j }) b) (cond t (record { k = j; p = at d' j }) b')
    pick j b b' r true t e = rw e (record { at_k = refl; p = pair_at k d d' j D })
    pick j b b' r false t e = rw e r

record Sorts (k : ℕ) (x x' : Vec × Vec) : Type 0 where
  v : x'.0 ≡ x.0
  d : Pair k x.1 x'.1

sort_step_lem : (k n i : ℕ) (x x' : Vec × Vec) → Sorts k x x' → Sorts k (sort_step n i x) (sort_step n i x')
unfolding sort_step
sort_step_lem k n i (v, d) (v', d') h =
    go (least_from n i d) (least_from n i d') (best_scaled k n i d d' h.d)
  where
    go : (b b' : Best) → Bests k b b'
        → Sorts k (cond (eqb b.k i) (v, d) (swapped n i b.k v, set (set d b.k (at d i)) i b.p)) (cond (eqb b'.k i) (v', d') (swapped n i b'.k v', set (set d' b'.k (at d' i)) i b'.p))
    go b b' r =
        subst (λ (j : ℕ). Sorts k (cond (eqb b.k i) (v, d) (swapped n i b.k v, set (set d b.k (at d i)) i b.p)) (cond (eqb j i) (v', d') (swapped n i j v', set (set d' j (at d' i)) i b'.p))) (sym r.at_k)
        (at_j b.k (eqb b.k i))
      where
        at_j : (j : ℕ) (c : Bool) → Sorts k (cond c (v, d) (swapped n i j v, set (set d j (at d i)) i b.p)) (cond c (v', d') (swapped n i j v', set (set d' j (at d' i)) i b'.p))
        at_j j true = h
        at_j j false =
            record { v = ap (swapped n i j) h.v; d = pair_set k (set d j (at d i)) (set d' j (at d' i)) i b.p (pair_set k d d' j (at d i) h.d (pair_at k d d' i h.d)) r.p }

sorted_scaled : (k n : ℕ) (x x' : Vec × Vec) → Sorts k x x' → Sorts k (sorted n x) (sorted n x')
unfolding sorted
sorted_scaled k n x x' h = upto_keeps (Sorts k) (sort_step n) (sort_step n) 0 (n - 1) x x' (λ i y y' _ _ r. sort_step_lem k n i y y' r) h

-- ---- how it ends

pub record Ends (k : ℕ) (x x' : Answer × Vec × Vec × Vec) : Type 0 where
  pub answers : x'.0 ≡ x.0
  pub v : x'.1 ≡ x.1
  pub d : Pair k x.2 x'.2
  pub e : Pair k x.3 x'.3

finished_scaled : (k n : ℕ) (x x' : State) → States k x x' → Ends k (ql_finished n x) (ql_finished n x')
unfolding ql_finished mark2
finished_scaled k n (r, v, d, e) (r', v', d', e') h = go (eqb r.stop limit_used) refl (eqb r.stop going) refl (is_some (mark d v)) refl
  where
    R : Runs k r r'
    R = h.run

    mark : Vec → Vec → Option Bad
    mark d v = first_bad (d ++ by_rows n v)

    seen : mark d' v' ≡ mark d v
    seen =
        ap (mark d') h.v
        ∙ both_same d (by_rows n v) d' (by_rows n v) h.d.alike.long (bad_same d d' (match (λ i. k) d d' h.d.alike)) refl

    one : eqb r'.stop limit_used ≡ eqb r.stop limit_used
    one = ap (λ (s : ℕ). eqb s limit_used) R.stop

    two : eqb r'.stop going ≡ eqb r.stop going
    two = ap (λ (s : ℕ). eqb s going) R.stop

    three : is_some (mark d' v') ≡ is_some (mark d v)
    three = ap is_some seen

    s : Sorts k (sorted n (v, d)) (sorted n (v', d'))
    s = sorted_scaled k n (v, d) (v', d') (record { v = h.v; d = h.d })

    end : Run → Vec → Vec → Vec → Answer × Vec × Vec × Vec
    end r v d e =
        cond (eqb r.stop limit_used) (answered 9 r.l 0 r.count, v, d, e)
        (cond (not (eqb r.stop going)) (answered r.stop 1 r.index r.count, v, d, e)
        (cond (is_some (mark d v)) (marked 2 r.count (mark d v), v, d, e) (done r.count, (sorted n (v, d)).0, (sorted n (v, d)).1, e)))

    go : (a : Bool) → eqb r.stop limit_used ≡ a → (b : Bool) → eqb r.stop going ≡ b → (c : Bool) → is_some (mark d v) ≡ c → Ends k (end r v d e) (end r' v' d' e')
    go true p b q c t =
        rw (one, p) (record { answers = ap₂ (λ (l m : ℕ). answered 9 l 0 m) R.l R.count; v = h.v; d = h.d; e = h.e })
    go false p false q c t =
        rw (one, p, two, q) (record { answers = ap (λ (s : ℕ). answered s 1 r'.index r'.count) R.stop ∙ ap₂ (λ (i m : ℕ). answered r.stop 1 i m) R.index R.count; v = h.v; d = h.d; e = h.e })
    go false p true q true t =
        rw (one, p, two, q, three, t) (record { answers = ap₂ (marked 2) R.count seen; v = h.v; d = h.d; e = h.e })
    go false p true q false t =
        rw (one, p, two, q, three, t) (record { answers = ap done R.count; v = s.v; d = s.d; e = h.e })

-- ---- the theorem

fresh_runs : (k : ℕ) → Runs k fresh fresh
fresh_runs k = record { l = refl; m = refl; f = zero_n k; tst1 = zero_n k; passes = refl; count = refl; stop = refl; index = refl }

pub tql2_scaled : (k n limit edition : ℕ) (v d e d' e' : Vec) → Pair k d d' → Pair k e e' → Tql2Fine n limit edition (v, d, e) → Tql2Fine n limit edition (v, d', e')
    → Ends k (tql2 n limit edition (v, d, e)) (tql2 n limit edition (v, d', e'))
unfolding tql2
tql2_scaled k n limit edition v d e d' e' D E F F' =
    finished_scaled k n (run n limit edition (fresh, v, d, moved_up n e)) (run n limit edition (fresh, v, d', moved_up n e'))
    (run_scaled k n limit edition (fresh, v, d, moved_up n e) (fresh, v, d', moved_up n e') F F' (record { run = fresh_runs k; v = refl; d = D; e = up_scaled k n e e' E }))

pair_of : (k : ℕ) (d : Vec) → Doubles d → Doubles (map (scale (pos k)) d) → Pair k d (map (scale (pos k)) d)
pair_of k d F F' = record { alike = record { long = length-map d (scale (pos k)); each = at_map (pos k) d }; first = F; second = F' }

as_map : (k : ℕ) (d d' : Vec) → Pair k d d' → d' ≡ map (scale (pos k)) d
as_map k d d' h =
    ext_get_or nan d' (map (scale (pos k)) d) (h.alike.long ∙ sym (length-map d (scale (pos k)))) (λ i _. h.alike.each i ∙ sym (at_map (pos k) d i))

-- **tql2_gain**
pub tql2_gain : (k n limit edition : ℕ) (v d e : Vec) → Doubles d → Doubles e → Doubles (map (scale (pos k)) d) → Doubles (map (scale (pos k)) e)
    → Tql2Fine n limit edition (v, d, e) → Tql2Fine n limit edition (v, map (scale (pos k)) d, map (scale (pos k)) e)
    → Tql2Gained k (tql2 n limit edition (v, d, e)) (tql2 n limit edition (v, map (scale (pos k)) d, map (scale (pos k)) e))
tql2_gain k n limit edition v d e D E D' E' F F' =
    let h = tql2_scaled k n limit edition v d e (map (scale (pos k)) d) (map (scale (pos k)) e) (pair_of k d D D') (pair_of k e E E') F F' in
    record { numbers = h.answers; vectors = h.v; values = as_map k _ _ h.d; rest = as_map k _ _ h.e }
