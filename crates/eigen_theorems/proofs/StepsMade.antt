-- The invariant of a run that a start and steps have made (`Made`): it has ended as the one call does, or what is left of it comes to what the one call gives. Laws only.
-- A start makes it, a step keeps it, and a finish then gives the one call's outcome.
use Rattle.leaves.specs.declared.Bad.{Bad}
use Rattle.std.specs.Prelude.{◌≡◌, ◌⊎◌, Bool, not, ◌&&◌, ◌++◌, ltb, Float, set, take, drop, Option, Some, None, is_some}
use Rattle.std.proofs.Math.Path.{refl, sym, ap}
use Rattle.std.proofs.Common.{◌∙◌, subst, ⊎_elim, true≢false, suc-mul, mul-le-mul_right, arith, length-set, length-append, get_or-set_same, get_or-set_other, take_at, drop_at}
use Rattle.std.proofs.Math.Bool.{true, false, cond}
use Prim.Native.Nat.{ℕ, zero, suc, ◌+◌, ◌-◌, ◌*◌, ◌≤◌, ◌<◌}
use Rattle.std.proofs.Math.Decide.{ℕ_discrete}
use borrow.Author.Tests.{ltb-true, ltb-false, lt-ltb, le-ltb, eq-eqb, eqb-true, eqb-false, not-false}
use Rattle.std.proofs.Math.Dec.{eqb}
use Rattle.std.specs.Float.{nan}
use Rattle.std.specs.Float.Ieee.{of_bits}
use Rattle.std.proofs.Math.ListN.{length, length-replicate}
use Rattle.grid.specs.Loop.{upto}
use Rattle.grid.specs.LoopLaws.{upto_both}
use Rattle.grid.specs.Real.{Vec, zero64, zeros, at}
use Rattle.leaves.specs.Leaf.{is_finite}
use Rattle.leaves.specs.Scan.{by_rows, first_bad_lower}
use Rattle.leaves.specs.ScanLaws.{first_bad_none, scan_class}
use Rattle.leaves.specs.FiniteLaws.{finite_both}
use Rattle.answers.specs.Answers.{answered, done, refused, passed, refusal7, marked}
use Rattle.answers.specs.declared.Answer.{Answer}
use Rattle.answers.specs.Checks.{limit_good, edition_good, lengths, fitting_edition}
use Rattle.answers.proofs.EditionLaws.{fitting_edition_right, right_edition}
use Rattle.answers.specs.ChecksLaws.{limit_right}
use Rattle.eigen_tred2_definition.specs.Tred2.{tred2}
use Rattle.eigen_tred2_definition.proofs.Sizes.{tred2_square, tred2_diagonal, tred2_beside}
use Rattle.eigen_tql2.specs.LStartEnd.{State, fresh}
use Rattle.eigen_tql2.specs.RunOverL.{run}
use Rattle.eigen_tql2.specs.Tql2.{moved_up, tql2}
use Rattle.eigen_tql2.specs.Tql2Steps.{up_step}
use Rattle.eigen_tql2.specs.LStartEnd as LStartEnd
use Rattle.eigen_tql2.specs.Finish.{ql_finished}
use Rattle.eigen_theorems.specs.Tql2Invariant.{plus_zero, moved_last}
use Rattle.eigen_symmetric_eigen.specs.Layout.{columns}
use Rattle.eigen_symmetric_eigen.specs.AfterTred2.{mark0, after_tred}
use Rattle.eigen_symmetric_eigen.specs.SymmetricEigen.{decomposed, cleared, given, eigen}
use Rattle.eigen_symmetric_eigen.specs.SymmetricEigen as SymmetricEigen
use Rattle.eigen_symmetric_eigen.specs.LayoutLaws.{columns_long}
use Rattle.eigen_tql2_step.specs.Advance.{step}
use Rattle.eigen_tql2_step.specs.Checks.{checked}
use Rattle.eigen_tql2_step.specs.CheckLaws.{Open}
use Rattle.eigen_steps.specs.Arrays.{state_of, closed_up}
use Rattle.eigen_steps.specs.Steps.{Outcome, running, recorded, answering, ends_as, ends_with, begun, start_entered, started, moved, stepped, finished}
use Rattle.eigen_theorems.specs.StepsRuns.{walked, arrived, reply, Reached}
use Rattle.eigen_theorems.specs.StepsRest.{rest, rest_ended, rest_fresh, rest_last, step_whole}
use Rattle.eigen_theorems.proofs.StepsKept.{Body, Next, halts, goes, step_next, in_range_lem, is_sound}

-- ---- a run that was made by a start and steps, of which the one call gives whole

pub record Fit (n limit edition : ℕ) : Type 0 where
  pub some : 0 < n
  pub small : n ≤ 256
  pub limits : limit_good limit ≡ true
  pub editions : edition_good edition ≡ true

-- where it goes on, e stands in work, d at the front of result, and v behind
abbrev pub stands : ℕ → ℕ → ℕ → State → Outcome
stands n limit edition x = (recorded n limit edition x.0 (done x.0.count), x.3, x.2 ++ x.1)

pub data Made (n limit edition : ℕ) (whole : Answer × Vec × Vec) (t : Outcome) : Type 0 where
  over : running t.0 ≡ false → reply t ≡ whole → Made n limit edition whole t
  runs : (x : State) → t ≡ stands n limit edition x → Fit n limit edition → Open n limit x.0 → Body n x → given n (ql_finished n (rest n limit edition x)) ≡ whole
      → Made n limit edition whole t

-- what is lent is what it was
state_is : (n : ℕ) (x : State) → length x.2 ≡ n → state_of n x.0 x.3 (x.2 ++ x.1) ≡ x
state_is n x h =
    let p : drop n (x.2 ++ x.1) ≡ x.1 = drop_at x.2 x.1 n h in
    let q : take n (x.2 ++ x.1) ≡ x.2 = take_at x.2 x.1 n h in
    λ i. (x.0, p i, q i, x.3)

-- what a step has brought a run to
abbrev brought : ℕ → ℕ → ℕ → State → Outcome
brought n limit edition y = cond (eqb y.0.stop 0) (stands n limit edition y) (ends_as n limit edition y.0 (closed_up n y.0 y.3 (y.2 ++ y.1)))

module _ (n limit edition : ℕ) (x : State) (f : Fit n limit edition) (o : Open n limit x.0) (b : Body n x) where
  same : state_of n x.0 x.3 (x.2 ++ x.1) ≡ x
  same = state_is n x b.sized.diagonal

  result_long : length (x.2 ++ x.1) ≡ n + n * n
  result_long = length-append x.2 x.1 ∙ (λ i. b.sized.diagonal i + b.sized.square i)

  passes_checks : checked n limit edition x.0 x.3 (x.2 ++ x.1) ≡ done 0
  unfolding checked lengths
  passes_checks =
      simp (eq-eqb (length x.3) n b.sized.beside, eq-eqb (length (x.2 ++ x.1)) (n + n * n) result_long, in_range_lem n limit edition x.0 f.some f.small f.limits f.editions o, is_sound n x.0 x.3 (x.2 ++ x.1) (omega (arith, result_long)) o.at_most (subst (Body n) (sym same) b))

  is_going : running (stands n limit edition x).0 ≡ true
  is_going = ap (λ (s : ℕ). eqb s 0) o.going

  -- no pass has been run at n
  none_left : n ≤ x.0.l → x.0.passes ≡ 0
  none_left h = elim (ℕ_discrete x.0.passes 0) [
    | yes q ↦ q
    | no q ↦ absurd (omega (arith, o.above q, o.within))
  ]

  step_is : stepped (recorded n limit edition x.0 (done x.0.count)) x.3 (x.2 ++ x.1) ≡ brought n limit edition (step n limit edition x)
  unfolding stepped moved
  step_is =
      let q = recorded n limit edition x.0 (done x.0.count) in
      let r = x.2 ++ x.1 in
      (λ i. cond (is_going i)
      (cond (passed (passes_checks i)) (brought n limit edition (step n limit edition (state_of n x.0 x.3 r))) (recorded n limit edition x.0 (passes_checks i), x.3, r))
      (q, x.3, r))
      ∙ ap (λ (s : State). brought n limit edition (step n limit edition s)) same

  -- a finish, by whether an l is left
  finish_by : (b : Bool) → ltb x.0.l n ≡ b
      → finished (recorded n limit edition x.0 (done x.0.count)) x.3 (x.2 ++ x.1)
      ≡ cond b (recorded n limit edition x.0 (refused 13 0), x.3, x.2 ++ x.1) (ends_as n limit edition (LStartEnd.stopping x.0 1) (closed_up n x.0 x.3 (x.2 ++ x.1)))
  unfolding finished
  finish_by b e =
      let q = recorded n limit edition x.0 (done x.0.count) in
      let r = x.2 ++ x.1 in
      λ i. cond (is_going i)
      (cond (passed (passes_checks i))
      (cond (e i) (answering q (refused 13 0), x.3, r) (ends_as n limit edition (LStartEnd.stopping x.0 1) (closed_up n x.0 x.3 r)))
      (answering q (passes_checks i), x.3, r))
      (q, x.3, r)

  finish_to : n ≤ x.0.l
      → finished (recorded n limit edition x.0 (done x.0.count)) x.3 (x.2 ++ x.1) ≡ ends_as n limit edition (LStartEnd.stopping x.0 1) (closed_up n x.0 x.3 (x.2 ++ x.1))
  finish_to h = finish_by false (le-ltb x.0.l n h)

  finish_is : n ≤ x.0.l → reply (finished (recorded n limit edition x.0 (done x.0.count)) x.3 (x.2 ++ x.1)) ≡ given n (ql_finished n x)
  unfolding closed_up
  finish_is h = ap reply (finish_to h) ∙ ap (λ (s : State). given n (ql_finished n s)) same

  early_is : x.0.l < n
      → finished (recorded n limit edition x.0 (done x.0.count)) x.3 (x.2 ++ x.1) ≡ (recorded n limit edition x.0 (refused 13 0), x.3, x.2 ++ x.1)
  early_is h = finish_by true (lt-ltb x.0.l n h)

  kept_whole : given n (ql_finished n (rest n limit edition (step n limit edition x))) ≡ given n (ql_finished n (rest n limit edition x))
  kept_whole =
      ap (given n) (step_whole n limit edition x o.going o.at_most o.fewer (λ q. omega (arith, o.above q, o.within)))

-- ---- a step

brought_on : (n limit edition : ℕ) (y : State) → y.0.stop ≡ 0 → brought n limit edition y ≡ stands n limit edition y
brought_on n limit edition y q = λ i. cond (eqb (q i) 0) (stands n limit edition y) (ends_as n limit edition y.0 (closed_up n y.0 y.3 (y.2 ++ y.1)))

brought_over : (n limit edition : ℕ) (y : State) → eqb y.0.stop 0 ≡ false → brought n limit edition y ≡ ends_as n limit edition y.0 (closed_up n y.0 y.3 (y.2 ++ y.1))
brought_over n limit edition y q = λ i. cond (q i) (stands n limit edition y) (ends_as n limit edition y.0 (closed_up n y.0 y.3 (y.2 ++ y.1)))

-- a run that has ended stays as it is
pub stays_over : (t : Outcome) → running t.0 ≡ false → stepped t.0 t.1 t.2 ≡ t
unfolding stepped
stays_over t g =
    let q = t.0 in
    let x = checked q.n q.limit q.edition q.run t.1 t.2 in
    λ i. cond (g i) (cond (passed x) (moved q.n q.limit q.edition q.run t.1 t.2) (answering q x, t.1, t.2)) t

pub finish_over : (t : Outcome) → running t.0 ≡ false → finished t.0 t.1 t.2 ≡ t
unfolding finished
finish_over t g =
    let q = t.0 in
    let x = checked q.n q.limit q.edition q.run t.1 t.2 in
    λ i. cond (g i)
    (cond (passed x)
    (cond (ltb q.run.l q.n) (answering q (refused 13 0), t.1, t.2) (ends_as q.n q.limit q.edition (LStartEnd.stopping q.run 1) (closed_up q.n q.run t.1 t.2)))
    (answering q x, t.1, t.2)) t

abbrev pub step_t : Outcome → Outcome
step_t t = stepped t.0 t.1 t.2

module _ (n limit edition : ℕ) (whole : Answer × Vec × Vec) where
  -- a step of a run that goes on
  ran : (x : State) → Fit n limit edition → Open n limit x.0 → Body n x → given n (ql_finished n (rest n limit edition x)) ≡ whole
      → Made n limit edition whole (brought n limit edition (step n limit edition x))
  ran x f o b w = go (step_next n limit edition x o b)
    where
      y : State
      y = step n limit edition x

      left : given n (ql_finished n (rest n limit edition y)) ≡ whole
      left = kept_whole n limit edition x f o b ∙ w

      ends : length y.2 ≡ n → closed_up n y.0 y.3 (y.2 ++ y.1) ≡ given n (ql_finished n y)
      ends l = unfold closed_up in ap (λ (s : State). given n (ql_finished n s)) (state_is n y l)

      go : Next n limit x y → Made n limit edition whole (brought n limit edition y)
      go (halts s l) =
          subst (Made n limit edition whole) (sym (brought_over n limit edition y s))
          (over s (ends l ∙ ap (λ (u : State). given n (ql_finished n u)) (sym (rest_ended n limit edition y (ap not s))) ∙ left))
      go (goes p c r) = runs y (brought_on n limit edition y p.going) f p c left

  step_made : (t : Outcome) → Made n limit edition whole t → Made n limit edition whole (step_t t)
  step_made t (over g e) = subst (Made n limit edition whole) (sym (stays_over t g)) (over g e)
  step_made t (runs x e f o b w) = subst (Made n limit edition whole) (sym (ap step_t e ∙ step_is n limit edition x f o b)) (ran x f o b w)

  pub walk_made : (k : ℕ) (t : Outcome) → Made n limit edition whole t → Made n limit edition whole (walked k t)
  unfolding walked
  walk_made zero t m = m
  walk_made (suc k) t m = walk_made k (step_t t) (step_made t m)

  -- ---- a finish

  behind_last : (x : State) → Open n limit x.0 → arrived (stands n limit edition x).0 ≡ true → n ≤ x.0.l
  behind_last x o a = go (ltb x.0.l n) refl
    where
      go : (b : Bool) → ltb x.0.l n ≡ b → n ≤ x.0.l
      go true t = absurd (true≢false (sym a ∙ (λ i. not (eqb (o.going i) 0 && t i))))
      go false t = ltb-false x.0.l n t

  pub finish_made : (t : Outcome) → Made n limit edition whole t → arrived t.0 ≡ true → reply (finished t.0 t.1 t.2) ≡ whole
  finish_made t (over g e) a = ap reply (finish_over t g) ∙ e
  finish_made t (runs x e f o b w) a =
      let h : n ≤ x.0.l = behind_last x o (subst (λ (u : Outcome). arrived u.0 ≡ true) e a) in
      ap (λ (u : Outcome). reply (finished u.0 u.1 u.2)) e
      ∙ finish_is n limit edition x f o b h
      ∙ ap (λ (u : State). given n (ql_finished n u)) (sym (rest_last n limit edition x o.going (none_left n limit edition x f o b h) h))
      ∙ w

  -- and it has ended
  pub finish_ends : (t : Outcome) → Made n limit edition whole t → arrived t.0 ≡ true → running (finished t.0 t.1 t.2).0 ≡ false
  finish_ends t (over g e) a = ap (λ (u : Outcome). running u.0) (finish_over t g) ∙ g
  finish_ends t (runs x e f o b w) a =
      let h : n ≤ x.0.l = behind_last x o (subst (λ (u : Outcome). arrived u.0 ≡ true) e a) in
      ap (λ (u : Outcome). running (finished u.0 u.1 u.2).0) e ∙ ap (λ (u : Outcome). running u.0) (finish_to n limit edition x f o b h)

  -- it comes before the last l is done
  pub early_made : (t : Outcome) → Made n limit edition whole t → arrived t.0 ≡ false → finished t.0 t.1 t.2 ≡ (answering t.0 (refused 13 0), t.1, t.2)
  early_made t (over g e) a = absurd (true≢false (sym (λ i. not (g i && ltb t.0.run.l t.0.n)) ∙ a))
  early_made t (runs x e f o b w) a = subst
      (λ (u : Outcome). finished u.0 u.1 u.2 ≡ (answering u.0 (refused 13 0), u.1, u.2))
      (sym e)
      (early_is n limit edition x f o b (ltb-true x.0.l n (within (ltb x.0.l n) refl)))
    where
      within : (c : Bool) → ltb x.0.l n ≡ c → c ≡ true
      within true q = refl
      within false q = absurd (true≢false (sym (λ i. not (eqb (o.going i) 0 && q i)) ∙ subst (λ (u : Outcome). arrived u.0 ≡ false) e a))

-- ---- how many steps it takes

-- where it has not arrived it goes on, with fewer passes than n times limit
below : (n limit edition : ℕ) (whole : Answer × Vec × Vec) (t : Outcome) → Made n limit edition whole t → arrived t.0 ≡ false → t.0.run.count < n * limit
below n limit edition whole t (over g e) a = absurd (true≢false (sym (λ i. not (g i && ltb t.0.run.l t.0.n)) ∙ a))
below n limit edition whole t (runs x e f o b w) a = subst (λ (u : Outcome). u.0.run.count < n * limit) (sym e) (few (ltb x.0.l n) refl)
  where
    few : (c : Bool) → ltb x.0.l n ≡ c → x.0.count < n * limit
    few true q =
        let h : x.0.l < n = ltb-true x.0.l n q in
        let m : suc x.0.l * limit ≤ n * limit = mul-le-mul_right limit h in
        omega (arith, m, suc-mul x.0.l limit, o.bounded, o.fewer)
    few false q = absurd (true≢false (sym (λ i. not (eqb (o.going i) 0 && q i)) ∙ subst (λ (u : Outcome). arrived u.0 ≡ false) e a))

-- and its limit is one
pub limit_of_lem : (n limit edition : ℕ) (whole : Answer × Vec × Vec) (t : Outcome) → Made n limit edition whole t → arrived t.0 ≡ false → limit ≤ 60
limit_of_lem n limit edition whole t (over g e) a = absurd (true≢false (sym (λ i. not (g i && ltb t.0.run.l t.0.n)) ∙ a))
limit_of_lem n limit edition whole t (runs x e f o b w) a = (limit_right limit f.limits).1

module _ (n limit edition : ℕ) (whole : Answer × Vec × Vec) where
  -- a step from there runs a pass, or arrives
  pub gains : (t : Outcome) → Made n limit edition whole t → arrived t.0 ≡ false → arrived (step_t t).0 ≡ false → (step_t t).0.run.count ≡ t.0.run.count + 1
  gains t (over g e) a c = absurd (true≢false (sym (λ i. not (g i && ltb t.0.run.l t.0.n)) ∙ a))
  gains t (runs x e f o b w) a c = subst (λ (u : Outcome). (step_t u).0.run.count ≡ u.0.run.count + 1) (sym e) (subst (λ (u : Outcome). u.0.run.count ≡ x.0.count + 1) (sym is) (go (step_next n limit edition x o b)))
    where
      y : State
      y = step n limit edition x

      is : step_t (stands n limit edition x) ≡ brought n limit edition y
      is = step_is n limit edition x f o b

      left : arrived (brought n limit edition y).0 ≡ false
      left = subst (λ (u : Outcome). arrived u.0 ≡ false) (ap step_t e ∙ is) c

      go : Next n limit x y → (brought n limit edition y).0.run.count ≡ x.0.count + 1
      go (halts s l) = absurd (true≢false (sym (λ i. not (s i && ltb y.0.l n)) ∙ subst (λ (u : Outcome). arrived u.0 ≡ false) (brought_over n limit edition y s) left))
      go (goes p k r) = subst (λ (u : Outcome). u.0.run.count ≡ x.0.count + 1) (sym (brought_on n limit edition y p.going)) (r (near (ltb y.0.l n) refl))
        where
          near : (d : Bool) → ltb y.0.l n ≡ d → y.0.l < n
          near true q = ltb-true y.0.l n q
          near false q = absurd (true≢false (sym (λ i. not (eqb (p.going i) 0 && q i)) ∙ subst (λ (u : Outcome). arrived u.0 ≡ false) (brought_on n limit edition y p.going) left))

  pub reach : (j : ℕ) (t : Outcome) → Made n limit edition whole t → (arrived t.0 ≡ false → n * limit ≤ t.0.run.count + j) → Reached j t
  unfolding walked
  reach zero t m h = go (arrived t.0) refl
    where
      go : (a : Bool) → arrived t.0 ≡ a → Reached zero t
      go true a = record { steps = 0; few = omega arith; there = a }
      go false a = absurd (omega (arith, below n limit edition whole t m a, h a))
  reach (suc j) t m h = go (arrived t.0) refl (λ a. reach j (step_t t) (step_made n limit edition whole t m) (λ c. omega (arith, gains t m a c, h a)))
    where
      go : (a : Bool) → arrived t.0 ≡ a → (arrived t.0 ≡ false → Reached j (step_t t)) → Reached (suc j) t
      go true a later = record { steps = 0; few = omega arith; there = a }
      go false a later =
          let r = later a in
          record { steps = suc r.steps; few = omega (arith, r.few); there = r.there }

-- ---- a start

ends_made : (n limit edition : ℕ) (x : Answer × Vec × Vec) → Made n limit edition x (ends_with n limit edition x)
ends_made n limit edition x = over refl refl

-- two choices by one test
both : {n limit edition : ℕ} {p q : Answer × Vec × Vec} {s t : Outcome} (b : Bool) → (b ≡ true → Made n limit edition p s) → (b ≡ false → Made n limit edition q t)
    → Made n limit edition (cond b p q) (cond b s t)
both true f g = f refl
both false f g = g refl

-- e moved up is finite
zero_finite : is_finite zero64 ≡ true
unfolding is_finite of_bits
zero_finite = refl

record Fine (n : ℕ) (e : Vec) : Type 0 where
  long : length e ≡ n
  all : (k : ℕ) → k < n → is_finite (at e k) ≡ true

set_fine : (n j : ℕ) (e : Vec) (x : Float) → is_finite x ≡ true → Fine n e → Fine n (set e j x)
set_fine n j e x h f = record {
  long = length-set e j x ∙ f.long;
  all = λ k l. elim (ℕ_discrete k j) [
    | yes q ↦ rw q (rw (get_or-set_same e j x nan (omega (arith, f.long))) h)
    | no q ↦ rw (get_or-set_other e j k x nan q) (f.all k l)
  ];
}

moved_fine : (n : ℕ) (e : Vec) → 0 < n → Fine n e → Fine n (moved_up n e)
unfolding moved_up
moved_fine n e z f =
    set_fine n (n - 1) (upto up_step 1 n e) zero64 zero_finite
    (upto_both (λ j u t. Fine n u) up_step up_step 1 n e e (omega arith) (λ j u t a b q. set_fine n (j - 1) u (at u j) (q.all j b) q) f)

fresh_open : (n limit : ℕ) → 0 < n → 1 ≤ limit → Open n limit fresh
fresh_open n limit s l = record {
  going = refl;
  at_most = omega arith;
  within = s;
  fewer = l;
  above = λ q. absurd (q refl);
  counted = omega arith;
  bounded = omega arith;
  unmarked = refl;
}

module _ (n limit edition : ℕ) (a : Vec) (f : Fit n limit edition) where
  first : Vec × Vec × Vec
  first = (columns n a, zeros n, zeros n)

  begun_body : (x : Vec × Vec × Vec) → x ≡ tred2 n first → mark0 n x.0 x.1 x.2 ≡ None → Body n (fresh, x.0, x.1, moved_up n x.2)
  unfolding mark0 first
  begun_body x e h =
      let p = (finite_both (x.1 ++ x.2) (by_rows n x.0) (first_bad_none (x.1 ++ x.2 ++ by_rows n x.0) h)).0 in
      let q = finite_both x.1 x.2 p in
      let ld : length x.1 ≡ n = ap (λ (y : Vec × Vec × Vec). length y.1) e ∙ tred2_diagonal n first ∙ length-replicate n zero64 in
      let le : length x.2 ≡ n = ap (λ (y : Vec × Vec × Vec). length y.2) e ∙ tred2_beside n first ∙ length-replicate n zero64 in
      let lv : length x.0 ≡ n * n = ap (λ (y : Vec × Vec × Vec). length y.0) e ∙ tred2_square n first ∙ columns_long n a in
      let m = moved_fine n x.2 f.some (record { long = le; all = λ k l. q.1 k (omega (arith, le)) }) in
      record {
        sized = record { square = lv; diagonal = ld; beside = m.long };
        grows = plus_zero;
        last = moved_last n x.2 f.some le;
        values = λ k s l. q.0 k (omega (arith, ld));
        besides = λ k s l. m.all k l;
      }

  begun_made : Made n limit edition (given n (decomposed n limit edition a (zeros n, zeros n))) (begun n limit edition a)
  unfolding decomposed after_tred begun
  begun_made = go (mark0 n x.0 x.1 x.2) refl
    where
      x : Vec × Vec × Vec
      x = tred2 n (columns n a, zeros n, zeros n)

      s : State
      s = (fresh, x.0, x.1, moved_up n x.2)

      -- a class is not 0
      refuses : (k c : ℕ) → eqb c 0 ≡ false → cleared n (answered c 0 k 0) ≡ given n (answered c 0 k 0, x.0, x.1, x.2)
      refuses k c z = unfold given in sym (λ i. cond (z i) (answered c 0 k 0, zeros n, x.1 ++ by_rows n x.0) (cleared n (answered c 0 k 0)))

      go : (m : Option Bad) → mark0 n x.0 x.1 x.2 ≡ m
          → Made n limit edition (given n (cond (is_some m) (marked 0 0 m, x.0, x.1, x.2) (tql2 n limit edition x))) (cond (is_some m) (ends_with n limit edition (cleared n (marked 0 0 m))) (recorded n limit edition fresh (done 0), moved_up n x.2, x.1 ++ x.0))
      go (Some bad) h =
          let s : (bad.class ≡ 8) ⊎ (bad.class ≡ 10) = unfold mark0 in scan_class (at (x.1 ++ x.2 ++ by_rows n x.0)) (length (x.1 ++ x.2 ++ by_rows n x.0)) bad.index bad.class h in
          over refl (refuses bad.index bad.class (⊎_elim (λ (e : bad.class ≡ 8). ap (λ (j : ℕ). eqb j 0) e) (λ (e : bad.class ≡ 10). ap (λ (j : ℕ). eqb j 0) e) s))
      go None h =
          runs s refl f (fresh_open n limit f.some (limit_right limit f.limits).0) (begun_body x (unfold first in refl) h)
          (ap (λ (u : State). given n (ql_finished n u)) (rest_fresh n limit edition s refl refl) ∙ (unfold tql2 run in refl))

pub started_made : (n limit edition : ℕ) (a work result : Vec) → Made n limit edition (eigen n limit edition a work result) (started n limit edition a work result)
unfolding eigen started SymmetricEigen.eigen_entered start_entered
started_made n limit edition a work result =
    both (ltb 256 n) (λ b. ends_made n limit edition _)
    (λ s. both (not (limit_good limit)) (λ b. ends_made n limit edition _)
    (λ g. both (passed x)
    (λ p. both (passed (refusal7 (first_bad_lower n a)))
    (λ q. both (eqb n 0) (λ z. ends_made n limit edition _) (λ z. begun_made n limit edition a (fit s (not-false _ g) p (eqb-false n 0 z))))
    (λ q. ends_made n limit edition _))
    (λ p. ends_made n limit edition _)))
  where
    x : Answer
    x = fitting_edition edition (length a) (n * n) (length work) n (length result) (n + n * n)

    fit : ltb 256 n ≡ false → limit_good limit ≡ true → passed x ≡ true → (n ≡ 0 → ⊥) → Fit n limit edition
    fit s g p z = record {
      some = omega arith;
      small = ltb-false 256 n s;
      limits = g;
      editions = right_edition edition (fitting_edition_right edition (length a) (n * n) (length work) n (length result) (n + n * n) (eqb-true x.answer 0 p)).0;
    }
