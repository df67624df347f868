-- The outcome of tql2 is the one that the run gives (`run_gives`), so marks and limit only stop document 000's own (`tql2_document`); and at each l that a run comes to, document 000's test holds at n - 1 (`test_at_last`). Laws only.
use Rattle.leaves.specs.declared.Bad.{Bad}
use Rattle.std.specs.Prelude.{◌≡◌, ◌⊎◌, Bool, true, false, cond, not, ltb, eqb, Float, length, Option, Some, None, is_some}
use Rattle.std.proofs.Math.Path.{refl, sym, subst}
use Rattle.std.proofs.Common.{ap, ◌∙◌, add-one, arith, ltb-true, length-set, get_or-set_same, get_or-set_other}
use Rattle.std.proofs.Math.Logic.{⊎_elim, inl, inr}
use Prim.Native.Nat.{ℕ, zero, suc, ◌+◌, ◌*◌, ◌-◌, ◌≤◌, ◌<◌}
use Rattle.std.proofs.Math.Decide.{ℕ_discrete}
use Rattle.std.specs.Float.{nan}
use Rattle.grid.specs.Loop.{rounds, upto}
use Rattle.grid.specs.LoopLaws.{upto_both}
use Rattle.grid.specs.Real.{Vec, zero64, at, ◌⊕◌}
use Rattle.leaves.specs.Leaf.{magnitude, larger}
use Rattle.leaves.specs.Scan.{by_rows, bad_at}
use Rattle.leaves.specs.ScanLaws.{first_bad_none, scan_first}
use Rattle.leaves.specs.FiniteLaws.{finite_both, cells_finite}
use Rattle.answers.specs.Answers.{answered, done}
use Rattle.answers.specs.Answers as answers
use Rattle.eigen_tql2_pass.specs.Pass as pa
use Rattle.eigen_tql2_pass.specs.Transform.{transformed}
use Rattle.eigen_tql2_pass.specs.Pass.{tiny, mark1, judged, verdict, pass}
use Rattle.eigen_tql2.specs.LStartEnd.{State, fresh, opened, ended, stopping, released, closed}
use Rattle.eigen_tql2.specs.RunOverL.{iterated, stage, turn, run}
use Rattle.eigen_tql2.specs.RunOverLBounds.{come}
use Rattle.eigen_tql2.specs.Finish.{mark2, ql_finished}
use Rattle.eigen_tql2.specs.Tql2.{moved_up, tql2}
use Rattle.eigen_tql2.specs.Sort.{sorted}
use Rattle.eigen_tql2.specs.LStartEndBounds.{split_below}
use Rattle.eigen_theorems.specs.Tql2Invariant.{plus, nought, plus_zero, nought_zero, plus_larger, tiny_last, split_is, transformed_ended, moved_long, moved_last}
use Rattle.eigen_theorems.specs.Tql2Document.{Carried, begun, grown, searched, settled, valued, Tql2}
use Rattle.eigen_theorems.specs.Tql2Lengths.{ran_long}
use Rattle.eigen_theorems.specs.Tql2Outcome.{Sound, FirstIn, list1, list2, End, here, bad, used, Looped, no_more, stop, once, again, Turned, at_once, by_passes, by_mark, by_limit, Ran, none, more, Whole, RunGives, well, at_mark2, at_mark1, at_limit}
use Rattle.eigen_theorems.proofs.Tql2OutcomeLaws.{Ended, code, pointer, first_class, looped_sees, ran_document, gives_document}

-- what document 000 carries, of a run's state
abbrev carried : State → Carried
carried x = record { f = x.0.f; tst1 = x.0.tst1; v = x.1; d = x.2; e = x.3 }

-- what a run keeps: the last of e is a zero, and tst1 has no minus sign
record Fine (n : ℕ) (x : State) : Type 0 where
  long : length x.3 ≡ n
  last : nought (at x.3 (n - 1)) ≡ true
  grows : plus x.0.tst1 ≡ true

-- ---- one pass

mark1_sound : (x : Carried) → mark1 x.d x.e ≡ None → Sound x
unfolding mark1
mark1_sound x h =
    let o = finite_both x.d x.e (first_bad_none (list1 x) h) in
    record { values = o.0; beside = o.1 }

mark1_first : (x : Carried) (b i : ℕ) → mark1 x.d x.e ≡ bad_at i b → FirstIn (list1 x) b i
unfolding mark1
mark1_first x b i h = scan_first (at (list1 x)) (length (list1 x)) i b h

-- a mark stopped the run
Stopped : State → Type 0
Stopped x = (x.0.stop ≡ 8) ⊎ (x.0.stop ≡ 10)

-- what one pass comes to
data Passed (n : ℕ) (x y : State) : Type 0 where
  sees : FirstIn (list1 (carried y)) y.0.stop y.0.index → Passed n x y
  settles : y.0.stop ≡ 1 → y.0.index ≡ 0 → Sound (carried y) → settled x.0.l (carried y) ≡ true → Fine n y → Passed n x y
  on : y.0.stop ≡ 0 → y.0.index ≡ 0 → Sound (carried y) → settled x.0.l (carried y) ≡ false → Fine n y → Passed n x y

one_pass : (n edition : ℕ) (x : State) → x.0.l < x.0.m → x.0.m < n → Fine n x → Passed n x (pass n edition x)
unfolding pass verdict pa.settled
one_pass n edition x h g p = go (mark1 y.2 y.3) refl (tiny y.3 x.0.tst1 x.0.l) refl
  where
    y : Float × Vec × Vec × Vec
    y = transformed n edition x.0.l x.0.m (x.1, x.2, x.3)

    fine : Sound (carried (pass n edition x)) → Fine n (pass n edition x)
    fine s =
        let r = transformed_ended n edition x.0.l x.0.m (n - 1) x.1 x.2 x.3 h (omega arith) (omega (arith, p.long)) in
        record {
          long = r.long ∙ p.long;
          last = r.zero p.last (s.beside (n - 1) (omega (arith, r.long, p.long)));
          grows = p.grows;
        }

    -- what the pass leaves, by mark 1 and the test
    left : Option Bad → Bool → ℕ × ℕ
    left a b = ((judged a (cond b 1 0)).stop, (judged a (cond b 1 0)).index)

    go : (a : Option Bad) → mark1 y.2 y.3 ≡ a → (b : Bool) → tiny y.3 x.0.tst1 x.0.l ≡ b → Passed n x (pass n edition x)
    go (Some seen) q b s =
        let e : ◌≡◌ {A = ℕ × ℕ} (seen.class, seen.index) ((pass n edition x).0.stop, (pass n edition x).0.index) = ap (λ (a : Option Bad). left a (tiny y.3 x.0.tst1 x.0.l)) (sym q) in
        sees (subst (λ (t : ℕ × ℕ). FirstIn (list1 (carried (pass n edition x))) t.0 t.1) e (mark1_first (carried (pass n edition x)) seen.class seen.index q))
    go None q true s =
        let f = mark1_sound (carried (pass n edition x)) q in
        settles (λ i. (left (q i) (s i)).0) (λ i. (left (q i) (s i)).1) f s (fine f)
    go None q false s =
        let f = mark1_sound (carried (pass n edition x)) q in
        on (λ i. (left (q i) (s i)).0) (λ i. (left (q i) (s i)).1) f s (fine f)

-- ---- the passes at one l

record Came (n edition k : ℕ) (x y : State) : Type 0 where
  c : ℕ
  e : End
  looped : Looped n edition x.0.l x.0.m k c (carried x) e (carried y)
  stops : y.0.stop ≡ code e
  points : y.0.index ≡ pointer e
  counts : y.0.count ≡ x.0.count + c
  stays : y.0.l ≡ x.0.l
  fine : y.0.stop ≡ 1 → Fine n y

rounds_came : (n edition k : ℕ) (x : State) → x.0.l < x.0.m → x.0.m < n → x.0.stop ≡ 0 → x.0.index ≡ 0 → Fine n x → Came n edition k x (rounds (pass n edition) ended k x)
unfolding rounds pass code pointer
rounds_came n edition zero x h g z o p = record { c = 0; e = used; looped = no_more; stops = z; points = o; counts = omega arith; stays = refl; fine = λ q. absurd (omega arith) }
rounds_came n edition (suc k) x h g z o p = go (one_pass n edition x h g p) (λ q r. rounds_came n edition k (pass n edition x) h g q r)
  where
    y : State
    y = pass n edition x

    rest : State
    rest = rounds (pass n edition) ended k y

    over : {s : ℕ} → y.0.stop ≡ s → Came n edition (suc k) x (cond (not (eqb s 0)) y rest) → Came n edition (suc k) x (cond (ended y) y rest)
    over q a = subst (λ (s : ℕ). Came n edition (suc k) x (cond (not (eqb s 0)) y rest)) (sym q) a

    go : Passed n x y → (y.0.stop ≡ 0 → y.0.index ≡ 0 → Fine n y → Came n edition k y rest) → Came n edition (suc k) x (cond (ended y) y rest)
    go (sees f) later = ⊎_elim (λ q. over q (saw (omega (arith, q)))) (λ q. over q (saw (omega (arith, q)))) (first_class (list1 (carried y)) y.0.stop y.0.index f)
      where
        saw : 7 < y.0.stop → Came n edition (suc k) x y
        saw q = record { c = 1; e = bad y.0.stop y.0.index; looped = stop f; stops = refl; points = refl; counts = refl; stays = refl; fine = λ o. absurd (omega (arith, q, o)) }
    go (settles q t f s r) later =
        over q (record { c = 1; e = here; looped = once f s; stops = q; points = t; counts = refl; stays = refl; fine = λ o. r })
    go (on q t f s r) later =
        let w = later q t r in
        over q (record { c = suc w.c; e = w.e; looped = again f s w.looped; stops = w.stops; points = w.points; counts = w.counts ∙ omega arith; stays = w.stays; fine = w.fine })

-- ---- one l

-- a run that has stopped before l
record Halted (n limit edition : ℕ) (first : Carried) (e : End) (l : ℕ) (s : State) : Type 0 where
  place : ℕ
  count : ℕ
  passes : ℕ
  before : Carried
  below : place < l
  ran : Ran n limit edition first place count before
  turned : Turned n limit edition place before passes e (carried s)
  counts : s.0.count ≡ count + passes
  stays : s.0.l ≡ place

-- where a run stands before l
data Stood (n limit edition : ℕ) (first : Carried) (l : ℕ) (s : State) : Type 0 where
  marked : Stopped s → Halted n limit edition first (bad s.0.stop s.0.index) l s → Stood n limit edition first l s
  spent : s.0.stop ≡ 9 → Halted n limit edition first used l s → Stood n limit edition first l s
  going : s.0.stop ≡ 0 → Fine n s → Ran n limit edition first l s.0.count (carried s) → Stood n limit edition first l s

-- ---- the run comes to l

come_carried : (n l : ℕ) (x : State) → carried (come n l x) ≡ grown l (carried x)
unfolding opened
come_carried n l x = refl

come_fine : (n l : ℕ) (x : State) → Fine n x → Fine n (come n l x)
unfolding opened
come_fine n l x p = record { long = p.long; last = p.last; grows = plus_larger x.0.tst1 _ p.grows }

come_last : (n l : ℕ) (x : State) → Fine n x → settled (n - 1) (grown l (carried x)) ≡ true
come_last n l x p =
    let q = come_fine n l x p in
    ap (settled (n - 1)) (sym (come_carried n l x)) ∙ tiny_last n x.3 (come n l x).0.tst1 q.last q.grows

come_m : (n l : ℕ) (x : State) → l < n → Fine n x → (come n l x).0.m ≡ searched n l (grown l (carried x))
unfolding opened
come_m n l x h p = split_is n l x.3 _ h (come_last n l x p)

-- and leaves it with its value
released_fine : (n : ℕ) (x : State) → x.0.l < n → Fine n x → Fine n (released x)
released_fine n x h p =
    let l = x.0.l in
    record {
      long = length-set x.3 l zero64 ∙ p.long;
      last = elim (ℕ_discrete (n - 1) l) [
        | yes q ↦ rw q (rw (get_or-set_same x.3 l zero64 nan (omega (arith, p.long))) nought_zero)
        | no q ↦ rw (get_or-set_other x.3 l (n - 1) zero64 nan q) p.last
      ];
      grows = p.grows;
    }

closed_here : (x : State) → x.0.stop ≡ 1 → closed x ≡ released x
unfolding closed
closed_here x q = λ i. cond (eqb (q i) 1) (released x) (cond (eqb (q i) 0) (stopping x.0 9, x.1, x.2, x.3) x)

closed_bad : (x : State) → Stopped x → closed x ≡ x
unfolding closed Stopped
closed_bad x = ⊎_elim
    (λ q i. cond (eqb (q i) 1) (released x) (cond (eqb (q i) 0) (stopping x.0 9, x.1, x.2, x.3) x))
    (λ q i. cond (eqb (q i) 1) (released x) (cond (eqb (q i) 0) (stopping x.0 9, x.1, x.2, x.3) x))

pub closed_used : (x : State) → x.0.stop ≡ 0 → closed x ≡ (stopping x.0 9, x.1, x.2, x.3)
unfolding closed
closed_used x q = λ i. cond (eqb (q i) 1) (released x) (cond (eqb (q i) 0) (stopping x.0 9, x.1, x.2, x.3) x)

module _ (n limit edition l : ℕ) (first : Carried) (y : State) (h : l < n) (p : Fine n y) (r : Ran n limit edition first l y.0.count (carried y)) where
  -- settled at l, by passes or at once
  left : (z : State) (k : ℕ) → z.0.stop ≡ 1 → z.0.l ≡ l → z.0.count ≡ y.0.count + k → Fine n z → Turned n limit edition l (carried y) k here (valued l (carried z)) → Stood n limit edition first (suc l) (closed z)
  left z k q e c f w = subst (Stood n limit edition first (suc l)) (sym (closed_here z q))
      (going refl (released_fine n z (rw e h) f) (subst (λ (j : ℕ). Ran n limit edition first (suc l) j (carried (released z))) (sym c)
      (more r (subst (λ (j : ℕ). Turned n limit edition l (carried y) k here (valued j (carried z))) (sym e) w))))

  -- stopped there
  halts : (z : State) (k : ℕ) (e : End) → z.0.l ≡ l → z.0.count ≡ y.0.count + k → Turned n limit edition l (carried y) k e (carried z) → Halted n limit edition first e (suc l) z
  halts z k e s c t =
      record { place = l; count = y.0.count; passes = k; before = carried y; below = omega arith; ran = r; turned = t; counts = c; stays = s }

  by_came : (z : State) → ltb l (searched n l (grown l (carried y))) ≡ true → (come n l y).0.m ≡ searched n l (grown l (carried y)) → Came n edition limit (come n l y) z → Stood n limit edition first (suc l) (closed z)
  unfolding opened code pointer Stopped
  by_came z b m w = go w.e w.stops w.points (subst (λ (j : ℕ). Looped n edition l j limit w.c (grown l (carried y)) w.e (carried z)) m w.looped)
    where
      go : (e : End) → z.0.stop ≡ code e → z.0.index ≡ pointer e → Looped n edition l (searched n l (grown l (carried y))) limit w.c (grown l (carried y)) e (carried z) → Stood n limit edition first (suc l) (closed z)
      go here q o a = left z w.c q w.stays w.counts (w.fine q) (by_passes b a)
      go (bad k i) q o a =
          let s : Stopped z = ⊎_elim (λ e. inl (q ∙ e)) (λ e. inr (q ∙ e)) (first_class (list1 (carried z)) k i (looped_sees n edition l (searched n l (grown l (carried y))) a)) in
          let t = subst (λ (t : ℕ × ℕ). Turned n limit edition l (carried y) w.c (bad t.0 t.1) (carried z)) (λ j. (sym q j, sym o j)) (by_mark b a) in
          subst (Stood n limit edition first (suc l)) (sym (closed_bad z s)) (marked s (halts z w.c (bad z.0.stop z.0.index) w.stays w.counts t))
      go used q o a =
          subst (Stood n limit edition first (suc l)) (sym (closed_used z q))
          (spent refl (halts (stopping z.0 9, z.1, z.2, z.3) w.c used w.stays w.counts (by_limit b a)))

  stage_stood : Stood n limit edition first (suc l) (stage n limit edition l y)
  unfolding stage iterated opened
  stage_stood = go (ltb l m) refl
    where
      m : ℕ
      m = (come n l y).0.m

      same : m ≡ searched n l (grown l (carried y))
      same = come_m n l y h p

      rest : State
      rest = rounds (pass n edition) ended limit (come n l y)

      over : {b : Bool} → ltb l m ≡ b → Stood n limit edition first (suc l) (closed (cond (not (eqb (cond b 0 1) 0)) (come n l y) rest))
          → Stood n limit edition first (suc l) (closed (cond (not (eqb (cond (ltb l m) 0 1) 0)) (come n l y) rest))
      over b s = subst (λ (c : Bool). Stood n limit edition first (suc l) (closed (cond (not (eqb (cond c 0 1) 0)) (come n l y) rest))) (sym b) s

      go : (b : Bool) → ltb l m ≡ b → Stood n limit edition first (suc l) (closed (cond (not (eqb (cond (ltb l m) 0 1) 0)) (come n l y) rest))
      go true b =
          over b (by_came rest (ap (ltb l) (sym same) ∙ b) same
          (rounds_came n edition limit (come n l y) (ltb-true l m b) (split_below n l _ y.3 h) (ap (λ (c : Bool). cond c 0 1) b) refl (come_fine n l y p)))
      go false b = over b (left (come n l y) 0 (ap (λ (c : Bool). cond c 0 1) b) refl (omega arith) (come_fine n l y p) (at_once (ap (ltb l) (sym same) ∙ b)))

-- a run that has stopped stays as it is
later : {n limit edition : ℕ} {first : Carried} {e : End} {l : ℕ} {s : State} → Halted n limit edition first e l s → Halted n limit edition first e (suc l) s
later h = record { place = h.place; count = h.count; passes = h.passes; before = h.before; below = omega (arith, h.below); ran = h.ran; turned = h.turned; counts = h.counts; stays = h.stays }

turn_stood : (n limit edition l : ℕ) (first : Carried) (y : State) → l < n → Stood n limit edition first l y → Stood n limit edition first (suc l) (turn n limit edition l y)
unfolding turn Stopped
turn_stood n limit edition l first y h s = go s
  where
    over : {b : ℕ} → y.0.stop ≡ b → Stood n limit edition first (suc l) (cond (not (eqb b 0)) y (stage n limit edition l y)) → Stood n limit edition first (suc l) (cond (ended y) y (stage n limit edition l y))
    over q a = subst (λ (b : ℕ). Stood n limit edition first (suc l) (cond (not (eqb b 0)) y (stage n limit edition l y))) (sym q) a

    go : Stood n limit edition first l y → Stood n limit edition first (suc l) (cond (ended y) y (stage n limit edition l y))
    go (marked q w) = ⊎_elim (λ e. over e (marked q (later w))) (λ e. over e (marked q (later w))) q
    go (spent q w) = over q (spent q (later w))
    go (going q p r) = over q (stage_stood n limit edition l first y h p r)

-- ---- the run

-- a run before its first l
started : ℕ → Vec × Vec × Vec → State
started n x = (fresh, x.0, x.1, moved_up n x.2)

-- before any l
stands : (n limit edition l : ℕ) (x : Vec × Vec × Vec) → 0 < n → l ≤ n → length x.2 ≡ n → Stood n limit edition (begun n x) l (upto (turn n limit edition) 0 l (started n x))
unfolding started
stands n limit edition l x z h e =
    upto_both (λ j s t. Stood n limit edition (begun n x) j s) (turn n limit edition) (turn n limit edition) 0 l (started n x) (started n x) (omega arith)
    (λ j s t a b q. subst (λ (i : ℕ). Stood n limit edition (begun n x) i (turn n limit edition j s)) (sym (add-one j)) (turn_stood n limit edition j (begun n x) s (omega arith) q))
    (going refl (record { long = moved_long n x.2 e; last = moved_last n x.2 z e; grows = plus_zero }) none)

-- at each l that a run comes to, with tst1 as it is there, document 000's test holds at n - 1
pub test_at_last : (n limit edition l : ℕ) (v d e : Vec) → l < n → length e ≡ n →
    let s = upto (turn n limit edition) 0 l (fresh, v, d, moved_up n e) in
    s.0.stop ≡ 0 → tiny s.3 (larger s.0.tst1 (magnitude (at s.2 l) ⊕ magnitude (at s.3 l))) (n - 1) ≡ true
unfolding started Stopped
test_at_last n limit edition l v d e h g q = go (stands n limit edition l (v, d, e) (omega arith) (omega arith) g)
  where
    s : State
    s = upto (turn n limit edition) 0 l (fresh, v, d, moved_up n e)

    go : Stood n limit edition (begun n (v, d, e)) l s → settled (n - 1) (grown l (carried s)) ≡ true
    go (marked z w) = absurd (⊎_elim (λ e. omega arith) (λ e. omega arith) z)
    go (spent z w) = absurd (omega arith)
    go (going z p r) = come_last n l s p

-- ---- the whole

mark2_whole : (n : ℕ) (x : Carried) → length x.v ≡ n * n → mark2 n x.v x.d ≡ None → Whole x
unfolding mark2
mark2_whole n x l h =
    let o = finite_both x.d (by_rows n x.v) (first_bad_none (list2 n x) h) in
    record { values = o.0; vectors = cells_finite n n x.v l o.1 }

mark2_first : (n : ℕ) (x : Carried) (b i : ℕ) → mark2 n x.v x.d ≡ bad_at i b → FirstIn (list2 n x) b i
unfolding mark2
mark2_first n x b i h = scan_first (at (list2 n x)) (length (list2 n x)) i b h

finished_gives : (n limit edition : ℕ) (x : Vec × Vec × Vec) (y : State) → length x.0 ≡ n * n → Stood n limit edition (begun n x) n y → RunGives n limit edition x (ql_finished n y)
unfolding ql_finished Stopped
finished_gives n limit edition x y long s = go s
  where
    end : Option Bad → Ended
    end b = cond (is_some b) (answers.marked 2 y.0.count b, y.1, y.2, y.3) (done y.0.count, (sorted n (y.1, y.2)).0, (sorted n (y.1, y.2)).1, y.3)

    after : ℕ → Ended
    after s =
        cond (eqb s 9) (answered 9 y.0.l 0 y.0.count, y.1, y.2, y.3)
        (cond (not (eqb s 0)) (answered y.0.stop 1 y.0.index y.0.count, y.1, y.2, y.3) (end (mark2 n y.1 y.2)))

    over : {s : ℕ} → y.0.stop ≡ s → RunGives n limit edition x (after s) → RunGives n limit edition x (after y.0.stop)
    over q a = subst (λ (s : ℕ). RunGives n limit edition x (after s)) (sym q) a

    last : Ran n limit edition (begun n x) n y.0.count (carried y) → length y.1 ≡ n * n → (b : Option Bad) → mark2 n y.1 y.2 ≡ b → RunGives n limit edition x (end b)
    last r l (Some seen) e = at_mark2 r (mark2_first n (carried y) seen.class seen.index e)
    last r l None e = well r (mark2_whole n (carried y) l e)

    stopped : Halted n limit edition (begun n x) (bad y.0.stop y.0.index) n y → RunGives n limit edition x (answered y.0.stop 1 y.0.index y.0.count, y.1, y.2, y.3)
    stopped w =
        subst (λ (k : ℕ). RunGives n limit edition x (answered y.0.stop 1 y.0.index k, y.1, y.2, y.3)) (sym w.counts) (at_mark1 w.below w.ran w.turned)

    go : Stood n limit edition (begun n x) n y → RunGives n limit edition x (after y.0.stop)
    go (marked q w) = ⊎_elim (λ e. over e (stopped w)) (λ e. over e (stopped w)) q
    go (spent q w) =
        over q (subst (λ (t : ℕ × ℕ). RunGives n limit edition x (answered 9 t.0 0 t.1, y.1, y.2, y.3)) (λ i. (sym w.stays i, sym w.counts i)) (at_limit w.below w.ran w.turned))
    go (going q f r) = over q (last r ((ran_long n edition (ran_document n limit edition r)).vectors ∙ long) (mark2 n y.1 y.2) refl)

-- **the outcome of tql2 is the one that the run gives**
pub run_gives : (n limit edition : ℕ) (x : Vec × Vec × Vec) → 0 < n → length x.0 ≡ n * n → length x.2 ≡ n → RunGives n limit edition x (tql2 n limit edition x)
unfolding tql2 run started
run_gives n limit edition x z long e = finished_gives n limit edition x _ long (stands n limit edition n x z (omega arith) e)

-- **marks and limit only stop**: where an outcome is done, it is document 000's
pub tql2_document : (n limit edition : ℕ) (x : Vec × Vec × Vec) → 0 < n → length x.0 ≡ n * n → length x.2 ≡ n → (tql2 n limit edition x).0.answer ≡ 0
    → Tql2 n edition x ((tql2 n limit edition x).1, (tql2 n limit edition x).2, (tql2 n limit edition x).3)
tql2_document n limit edition x z long e = gives_document n limit edition x (tql2 n limit edition x) (run_gives n limit edition x z long e)
