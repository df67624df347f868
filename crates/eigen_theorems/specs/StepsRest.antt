-- What is left of a run: `rest` is what `tql2`'s own definition still does from where the machine stands, and a step changes nothing of what that comes to (`step_whole`). Laws only.
use Rattle.std.specs.Prelude.{◌≡◌, Bool, ◌&&◌, eqb, is_some}
use Rattle.std.proofs.Math.Path.{refl, sym, ap, subst}
use Rattle.std.proofs.Common.{◌∙◌, add-zero}
use Rattle.std.proofs.Math.Bool.{true, false, cond, not}
use Prim.Native.Nat.{ℕ, zero, suc, ◌+◌, ◌-◌, ◌≤◌, ◌<◌}
use Rattle.std.proofs.Math.Decide.{dec_lt}
use native.Mathlib.Omega.{arith}
use borrow.Author.Tests.{ltb-true, ltb-false, lt-ltb, le-ltb, ne_eqb, eqb-true, eqb-false}
use Rattle.std.proofs.Math.Dec.{ltb}
use Rattle.grid.specs.Loop.{times, upto, rounds}
use Rattle.grid.specs.LoopLaws.{upto_keeps, rounds_done}
use Rattle.grid.specs.Real.{Vec}
use Rattle.answers.specs.Answers.{answered, done, marked}
use Rattle.answers.specs.declared.Answer.{Answer}
use Rattle.eigen_tql2_pass.specs.Pass.{pass}
use Rattle.eigen_tql2_pass.specs.declared.Run.{Run}
use Rattle.eigen_tql2.specs.LStartEnd.{State, opened, ended, released, closed}
use Rattle.eigen_tql2.specs.RunOverL.{iterated, stage, turn}
use Rattle.eigen_tql2.specs.Finish.{mark2, ql_finished}
use Rattle.eigen_tql2.specs.Sort.{sorted}
use Rattle.eigen_tql2_step.specs.SkipSettled.{next_l, gone_on, come, skipped, found_l}
use Rattle.eigen_tql2_step.specs.Advance.{step}
use Rattle.eigen_tql2_step.specs.SkipSettledLaws.{undecided, decided, going_on, onward_ended, onward_going, closed_settled, closed_l, passed_over, Coming, settles, stays, coming}

-- ---- a loop, its first turn in front

module _ {S : Type 0} where
  times_first : (f : ℕ → S → S) (a k : ℕ) (s : S) → times (λ j. f (a + j)) (suc k) s ≡ times (λ j. f (a + 1 + j)) k (f a s)
  unfolding times
  times_first f a zero s = ap (λ (j : ℕ). f j s) (add-zero a)
  times_first f a (suc k) s =
      let e : a + suc k ≡ a + 1 + k = omega arith in
      ap (λ (j : ℕ). f j (times (λ j. f (a + j)) (suc k) s)) e ∙ ap (f (a + 1 + k)) (times_first f a k s)

  upto_first : (f : ℕ → S → S) (a b : ℕ) (s : S) → a < b → upto f a b s ≡ upto f (a + 1) b (f a s)
  unfolding upto
  upto_first f a b s h =
      let e : b - a ≡ suc (b - (a + 1)) = omega arith in
      rw e (times_first f a (b - (a + 1)) s)

  upto_past : (f : ℕ → S → S) (a b : ℕ) (s : S) → b ≤ a → upto f a b s ≡ s
  unfolding upto times
  upto_past f a b s h =
      let e : b - a ≡ 0 = omega arith in
      rw e

-- ---- a run that has ended, and one that goes on

module _ (n limit edition : ℕ) where
  turn_ended : (l : ℕ) (x : State) → ended x ≡ true → turn n limit edition l x ≡ x
  unfolding turn
  turn_ended l x e = λ i. cond (e i) x (stage n limit edition l x)

  turn_going : (l : ℕ) (x : State) → ended x ≡ false → turn n limit edition l x ≡ stage n limit edition l x
  unfolding turn
  turn_going l x e = λ i. cond (e i) x (stage n limit edition l x)

  run_ended : (a : ℕ) (x : State) → ended x ≡ true → upto (turn n limit edition) a n x ≡ x
  run_ended a x e =
      upto_keeps (λ s t. s ≡ x) (turn n limit edition) (turn n limit edition) a n x x (λ j s t p r q. ap (turn n limit edition j) q ∙ turn_ended j x e) refl

-- ---- the next l forgets l, m and the passes of the last

-- what a run comes to that has not ended when its last l is done
abbrev ending : ℕ → ℕ → Vec → Vec → Vec → Answer × Vec × Vec × Vec
ending n c v d e = cond (is_some (mark2 n v d)) (marked 2 c (mark2 n v d), v, d, e) (done c, (sorted n (v, d)).0, (sorted n (v, d)).1, e)

pub finished_going : (n : ℕ) (x : State) → x.0.stop ≡ 0 → ql_finished n x ≡ ending n x.0.count x.1 x.2 x.3
unfolding ql_finished
finished_going n x q = λ i.
    cond (eqb (q i) 9)
    (answered 9 x.0.l 0 x.0.count, x.1, x.2, x.3)
    (cond (not (eqb (q i) 0)) (answered (q i) 1 x.0.index x.0.count, x.1, x.2, x.3) (ending n x.0.count x.1 x.2 x.3))

module _ (n limit edition : ℕ) where
  next_turn : (l : ℕ) (r : Run) (v d e : Vec) → r.stop ≡ 0 → turn n limit edition l (next_l r, v, d, e) ≡ turn n limit edition l (r, v, d, e)
  next_turn l r v d e q =
      let same : stage n limit edition l (next_l r, v, d, e) ≡ stage n limit edition l (r, v, d, e) = unfold stage opened in refl in
      turn_going n limit edition l (next_l r, v, d, e) (going_on (next_l r, v, d, e) q)
      ∙ same
      ∙ sym (turn_going n limit edition l (r, v, d, e) (going_on (r, v, d, e) q))

  next_whole : (a : ℕ) (r : Run) (v d e : Vec) → r.stop ≡ 0
      → ql_finished n (upto (turn n limit edition) a n (next_l r, v, d, e)) ≡ ql_finished n (upto (turn n limit edition) a n (r, v, d, e))
  next_whole a r v d e q = elim (dec_lt a n) [
    | yes h ↦
        ap (ql_finished n) (upto_first (turn n limit edition) a n (next_l r, v, d, e) h)
        ∙ ap (λ (s : State). ql_finished n (upto (turn n limit edition) (a + 1) n s)) (next_turn a r v d e q)
        ∙ ap (ql_finished n) (sym (upto_first (turn n limit edition) a n (r, v, d, e) h))
    | no h ↦
        ap (ql_finished n) (upto_past (turn n limit edition) a n (next_l r, v, d, e) (omega arith))
        ∙ finished_going n (next_l r, v, d, e) q
        ∙ sym (finished_going n (r, v, d, e) q)
        ∙ ap (ql_finished n) (sym (upto_past (turn n limit edition) a n (r, v, d, e) (omega arith)))
  ]

-- ---- what is left

-- from an l that is worked on
unfoldable pub worked : ℕ → ℕ → ℕ → State → State
worked n limit edition x = upto (turn n limit edition) (x.0.l + 1) n (closed (rounds (pass n edition) ended (limit - x.0.passes) x))

-- from where the machine stands between steps
unfoldable pub rest : ℕ → ℕ → ℕ → State → State
rest n limit edition x = cond (ended x) x (cond (eqb x.0.passes 0) (upto (turn n limit edition) x.0.l n x) (worked n limit edition x))

-- from an l that it has come to, or from behind the last
unfoldable pub after : ℕ → ℕ → ℕ → State → State
after n limit edition x = cond (ltb x.0.l n) (worked n limit edition x) x

module _ (n limit edition : ℕ) where
  pub rest_ended : (x : State) → ended x ≡ true → rest n limit edition x ≡ x
  unfolding rest
  rest_ended x e = λ i. cond (e i) x (cond (eqb x.0.passes 0) (upto (turn n limit edition) x.0.l n x) (worked n limit edition x))

  pub rest_fresh : (x : State) → x.0.stop ≡ 0 → x.0.passes ≡ 0 → rest n limit edition x ≡ upto (turn n limit edition) x.0.l n x
  unfolding rest
  rest_fresh x q p = λ i. cond (going_on x q i) x (cond (eqb (p i) 0) (upto (turn n limit edition) x.0.l n x) (worked n limit edition x))

  rest_worked : (x : State) → x.0.stop ≡ 0 → eqb x.0.passes 0 ≡ false → rest n limit edition x ≡ worked n limit edition x
  unfolding rest
  rest_worked x q p = λ i. cond (going_on x q i) x (cond (p i) (upto (turn n limit edition) x.0.l n x) (worked n limit edition x))

  -- behind the last l nothing is left
  pub rest_last : (x : State) → x.0.stop ≡ 0 → x.0.passes ≡ 0 → n ≤ x.0.l → rest n limit edition x ≡ x
  rest_last x q p h = rest_fresh x q p ∙ upto_past (turn n limit edition) x.0.l n x h

  after_within : (x : State) → x.0.l < n → after n limit edition x ≡ worked n limit edition x
  unfolding after
  after_within x h = λ i. cond (lt-ltb x.0.l n h i) (worked n limit edition x) x

  after_past : (x : State) → n ≤ x.0.l → after n limit edition x ≡ x
  unfolding after
  after_past x h = λ i. cond (le-ltb x.0.l n h i) (worked n limit edition x) x

  -- ---- to the next l

  onward_whole : (x : State) → ql_finished n (rest n limit edition (gone_on x)) ≡ ql_finished n (upto (turn n limit edition) (x.0.l + 1) n x)
  onward_whole x = go (eqb x.0.stop 0) refl
    where
      go : (b : Bool) → eqb x.0.stop 0 ≡ b → ql_finished n (rest n limit edition (gone_on x)) ≡ ql_finished n (upto (turn n limit edition) (x.0.l + 1) n x)
      go true t =
          let q : x.0.stop ≡ 0 = eqb-true _ _ t in
          ap (λ (s : State). ql_finished n (rest n limit edition s)) (onward_going x q)
          ∙ ap (ql_finished n) (rest_fresh (next_l x.0, x.1, x.2, x.3) q refl)
          ∙ next_whole n limit edition (x.0.l + 1) x.0 x.1 x.2 x.3 q
      go false t =
          let e : ended x ≡ true = ap not t in
          ap (λ (s : State). ql_finished n (rest n limit edition s)) (onward_ended x e)
          ∙ ap (ql_finished n) (rest_ended x e ∙ sym (run_ended n limit edition (x.0.l + 1) x e))

  -- ---- what the run does at an l that it comes to

  stage_settled : (x : State) → (come n x).0.stop ≡ 1 → stage n limit edition x.0.l x ≡ released (come n x)
  unfolding stage iterated
  stage_settled x q =
      (λ i. closed (cond (not (eqb (q i) 0)) (come n x) (rounds (pass n edition) ended limit (come n x)))) ∙ closed_settled (come n x) q

  stage_stays : (x : State) → (come n x).0.stop ≡ 0 → stage n limit edition x.0.l x ≡ closed (rounds (pass n edition) ended limit (come n x))
  unfolding stage iterated
  stage_stays x q = λ i. closed (cond (not (eqb (q i) 0)) (come n x) (rounds (pass n edition) ended limit (come n x)))

-- x with settled l skipped is y
pub record Skip (n limit edition : ℕ) (x y : State) : Type 0 where
  pub whole : ql_finished n (upto (turn n limit edition) x.0.l n x) ≡ ql_finished n (after n limit edition y)
  pub going : y.0.stop ≡ 0
  pub none : y.0.passes ≡ 0

module _ (n limit edition : ℕ) where
  skip : (k : ℕ) (x : State) → x.0.l + k ≡ n → x.0.stop ≡ 0 → x.0.passes ≡ 0 → Skip n limit edition x (skipped n k x)
  unfolding skipped
  skip zero x h q p =
      record {
        whole = ap (ql_finished n) (upto_past (turn n limit edition) x.0.l n x (omega arith) ∙ sym (after_past n limit edition x (omega arith)));
        going = q;
        none = p;
      }
  skip (suc k) x h q p = go (coming n k x) (skip k (passed_over n x) (unfold opened in omega arith) refl (unfold opened in refl))
    where
      front : ql_finished n (upto (turn n limit edition) x.0.l n x) ≡ ql_finished n (upto (turn n limit edition) (x.0.l + 1) n (stage n limit edition x.0.l x))
      front =
          ap (ql_finished n) (upto_first (turn n limit edition) x.0.l n x (omega arith))
          ∙ ap (λ (s : State). ql_finished n (upto (turn n limit edition) (x.0.l + 1) n s)) (turn_going n limit edition x.0.l x (going_on x q))

      go : Coming n k x → Skip n limit edition (passed_over n x) (skipped n k (passed_over n x)) → Skip n limit edition x (skipped n (suc k) x)
      go (settles s e) r = subst (Skip n limit edition x) (sym e) (later r)
        where
          y : State
          y = released (come n x)

          here : ql_finished n (upto (turn n limit edition) (x.0.l + 1) n (stage n limit edition x.0.l x)) ≡ ql_finished n (upto (turn n limit edition) (x.0.l + 1) n (passed_over n x))
          here =
              ap (λ (s : State). ql_finished n (upto (turn n limit edition) (x.0.l + 1) n s)) (stage_settled n limit edition x s)
              ∙ sym (next_whole n limit edition (x.0.l + 1) y.0 y.1 y.2 y.3 refl)

          later : Skip n limit edition (passed_over n x) (skipped n k (passed_over n x)) → Skip n limit edition x (skipped n k (passed_over n x))
          later r = unfold opened in record { whole = front ∙ here ∙ r.whole; going = r.going; none = r.none }
      go (stays s b e) r = subst (Skip n limit edition x) (sym e) (record { whole = front ∙ here; going = s; none = unfold opened in refl })
        where
          here : ql_finished n (upto (turn n limit edition) (x.0.l + 1) n (stage n limit edition x.0.l x)) ≡ ql_finished n (after n limit edition (come n x))
          here = unfold opened worked in
              ap (λ (s : State). ql_finished n (upto (turn n limit edition) (x.0.l + 1) n s)) (stage_stays n limit edition x s)
              ∙ ap (λ (j : ℕ). ql_finished n (upto (turn n limit edition) (x.0.l + 1) n (closed (rounds (pass n edition) ended j (come n x))))) (omega arith)
              ∙ ap (ql_finished n) (sym (after_within n limit edition (come n x) (omega arith)))

  -- ---- one pass

  pass_passes : (x : State) → (pass n edition x).0.passes ≡ x.0.passes + 1
  unfolding pass
  pass_passes x = refl

  pass_l : (x : State) → (pass n edition x).0.l ≡ x.0.l
  unfolding pass
  pass_l x = refl

  decided_whole : (x : State) → x.0.passes < limit → ql_finished n (rest n limit edition (decided limit (pass n edition x))) ≡ ql_finished n (worked n limit edition x)
  decided_whole x h = go (eqb y.0.stop 0) refl (ltb y.0.passes limit) refl
    where
      y : State
      y = pass n edition x

      k : ℕ
      k = limit - y.0.passes

      -- what is left at this l
      one : {b : Bool} → ended y ≡ b → rounds (pass n edition) ended (limit - x.0.passes) x ≡ cond b y (rounds (pass n edition) ended k y)
      one e = unfold rounds in
          let s : limit - x.0.passes ≡ suc k = omega (arith, pass_passes x) in
          rw s (λ i. cond (e i) y (rounds (pass n edition) ended k y))

      at_l_lem : State → Answer × Vec × Vec × Vec
      at_l_lem z = ql_finished n (upto (turn n limit edition) (x.0.l + 1) n (closed z))

      pick : {b : Bool} → undecided limit y.0 ≡ b → decided limit y ≡ cond b y (gone_on (closed y))
      pick e = λ i. cond (e i) y (gone_on (closed y))

      closes_at : (closed y).0.l ≡ x.0.l
      closes_at = closed_l y ∙ pass_l x

      -- the passes at this l are over
      leaves : undecided limit y.0 ≡ false → rounds (pass n edition) ended (limit - x.0.passes) x ≡ y → ql_finished n (rest n limit edition (decided limit y)) ≡ ql_finished n (worked n limit edition x)
      leaves u r = unfold worked in
          ap (λ (s : State). ql_finished n (rest n limit edition s)) (pick u)
          ∙ onward_whole n limit edition (closed y)
          ∙ ap (λ (j : ℕ). ql_finished n (upto (turn n limit edition) (j + 1) n (closed y))) closes_at
          ∙ ap at_l_lem (sym r)

      go : (a : Bool) → eqb y.0.stop 0 ≡ a → (b : Bool) → ltb y.0.passes limit ≡ b → ql_finished n (rest n limit edition (decided limit y)) ≡ ql_finished n (worked n limit edition x)
      go false s b t = unfold worked in leaves (λ i. s i && ltb y.0.passes limit) (one (ap not s))
      go true s false t = unfold worked in
          let z : k ≡ 0 = omega (arith, ltb-false y.0.passes limit t) in
          let none : y ≡ rounds (pass n edition) ended k y = rounds_done (pass n edition) ended k (omega arith) refl in
          leaves (λ i. s i && t i) (one (ap not s) ∙ sym none)
      go true s true t = unfold worked in
          ap (λ (s : State). ql_finished n (rest n limit edition s)) (pick (λ i. s i && t i))
          ∙ ap (ql_finished n) (rest_worked n limit edition y (eqb-true _ _ s) (ne_eqb _ _ (λ (q : y.0.passes ≡ 0). omega (arith, pass_passes x))))
          ∙ ap (λ (j : ℕ). ql_finished n (upto (turn n limit edition) (j + 1) n (closed (rounds (pass n edition) ended k y)))) (pass_l x)
          ∙ ap at_l_lem (sym (one (ap not s)))

  -- ---- one step

  pub step_whole : (x : State) → x.0.stop ≡ 0 → x.0.l ≤ n → x.0.passes < limit → ((x.0.passes ≡ 0 → ⊥) → x.0.l < n)
      → ql_finished n (rest n limit edition (step n limit edition x)) ≡ ql_finished n (rest n limit edition x)
  step_whole x q l p w = first (eqb x.0.passes 0) refl
    where
      pick : {b : Bool} → ltb (found_l n x).0.l n ≡ b → step n limit edition x ≡ cond b (decided limit (pass n edition (found_l n x))) (found_l n x)
      pick e = unfold step in λ i. cond (e i) (decided limit (pass n edition (found_l n x))) (found_l n x)

      -- y is where the pass is run
      from : (y : State) → found_l n x ≡ y → y.0.stop ≡ 0 → y.0.passes < limit → (n ≤ y.0.l → y.0.passes ≡ 0)
          → ql_finished n (rest n limit edition x) ≡ ql_finished n (after n limit edition y) → ql_finished n (rest n limit edition (step n limit edition x)) ≡ ql_finished n (rest n limit edition x)
      from y f s b z g = go (ltb y.0.l n) refl
        where
          go : (t : Bool) → ltb y.0.l n ≡ t → ql_finished n (rest n limit edition (step n limit edition x)) ≡ ql_finished n (rest n limit edition x)
          go true t =
              ap (λ (s : State). ql_finished n (rest n limit edition s)) (pick (ap (λ (s : State). ltb s.0.l n) f ∙ t) ∙ ap (λ (s : State). decided limit (pass n edition s)) f)
              ∙ decided_whole y b
              ∙ ap (ql_finished n) (sym (after_within n limit edition y (ltb-true _ _ t)))
              ∙ sym g
          go false t =
              let h : n ≤ y.0.l = ltb-false _ _ t in
              ap (λ (s : State). ql_finished n (rest n limit edition s)) (pick (ap (λ (s : State). ltb s.0.l n) f ∙ t) ∙ f)
              ∙ ap (ql_finished n) (rest_last n limit edition y s (z h) h ∙ sym (after_past n limit edition y h))
              ∙ sym g

      look : {b : Bool} → eqb x.0.passes 0 ≡ b → found_l n x ≡ cond b (skipped n (n - x.0.l) x) x
      look e = unfold found_l in λ i. cond (e i) (skipped n (n - x.0.l) x) x

      first : (b : Bool) → eqb x.0.passes 0 ≡ b → ql_finished n (rest n limit edition (step n limit edition x)) ≡ ql_finished n (rest n limit edition x)
      first true t =
          let z : x.0.passes ≡ 0 = eqb-true _ _ t in
          let s = skip (n - x.0.l) x (omega arith) q z in
          from (skipped n (n - x.0.l) x) (look t) s.going (omega (arith, s.none)) (λ h. s.none) (ap (ql_finished n) (rest_fresh n limit edition x q z) ∙ s.whole)
      first false t =
          let h : x.0.l < n = w (eqb-false _ _ t) in
          from x (look t) q p (λ g. absurd (omega arith)) (ap (ql_finished n) (rest_worked n limit edition x q t ∙ sym (after_within n limit edition x h)))
