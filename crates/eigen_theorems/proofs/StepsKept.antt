-- What a run made by a start and steps keeps between steps (`Open`, `Body`), and what a step comes to (`step_next`): it goes on, with one pass more or behind the last l, or a mark or the limit has ended it. Laws only.
-- So none of what 13 refuses ever comes about (`in_range_lem`, `is_sound`).
use Rattle.leaves.specs.declared.Bad.{Bad}
use Rattle.std.specs.Prelude.{◌≡◌, refl, ◌⊎◌, Bool, true, false, cond, not, ◌&&◌, ◌||◌, ◌++◌, ℕ, ◌+◌, ◌-◌, ◌*◌, ◌≤◌, ◌<◌, ltb, eqb, Float, length, take, drop, Option, Some, None}
use Rattle.std.proofs.Common.{sym, ap, ◌∙◌, subst, inl, inr, ⊎_elim, arith, ltb-true, ltb-false, lt-ltb, le-leb, eq-eqb, length-set, length-drop, get_or-set_same, get_or-set_other, get_or-take, get_or-drop}
use Rattle.std.proofs.Math.Decide.{ℕ_discrete}
use Rattle.std.proofs.lemmas.Bool.{eqb-false}
use Rattle.std.specs.Float.{nan}
use Rattle.std.specs.Float.Ieee.{eq}
use Rattle.grid.specs.Real.{Vec, zero64, at, ◌⊕◌}
use Rattle.grid.specs.CellLaws.{Sized}
use Rattle.grid.specs.Table.{part}
use Rattle.grid.specs.TableLaws.{length_part}
use Rattle.leaves.specs.Leaf.{is_finite}
use Rattle.leaves.specs.Scan.{first_bad}
use Rattle.leaves.specs.ScanLaws.{first_bad_none, first_bad_fine, scan_class}
use Rattle.leaves.specs.Finite.{Finite}
use Rattle.leaves.specs.FiniteLaws.{finite_both}
use Rattle.answers.specs.Checks.{limit_good, edition_good}
use Rattle.eigen_tql2_pass.specs.Transform.{transformed}
use Rattle.eigen_tql2_pass.specs.Pass.{tiny, mark1, settled, judged, verdict, pass}
use Rattle.eigen_tql2_pass.specs.declared.Run.{Run}
use Rattle.eigen_tql2.specs.LStartEnd.{State, opened, stopping, released, closed}
use Rattle.eigen_theorems.specs.Tql2Document.{Carried}
use Rattle.eigen_theorems.specs.Tql2Invariant.{plus, nought, nought_zero, plus_larger, plus_le, nought_eq, transformed_ended}
use Rattle.eigen_theorems.specs.Tql2Lengths.{body_long}
use Rattle.eigen_theorems.proofs.Tql2Marks.{closed_used}
use Rattle.eigen_tql2_step.specs.SkipSettled.{gone_on, come, found_l}
use Rattle.eigen_tql2_step.specs.Advance.{step}
use Rattle.eigen_tql2_step.specs.Checks.{in_range, sound}
use Rattle.eigen_tql2_step.specs.CheckLaws.{Open}
use Rattle.eigen_tql2_step.specs.SkipSettledLaws.{decided, left, left_open, Found, found_found, closed_settled, onward_going, onward_ended}

-- ---- what is kept

pub record Body (n : ℕ) (x : State) : Type 0 where
  pub sized : Sized n x.1 x.2 x.3
  pub grows : plus x.0.tst1 ≡ true
  pub last : nought (at x.3 (n - 1)) ≡ true
  pub values : (k : ℕ) → x.0.l ≤ k → k < n → is_finite (at x.2 k) ≡ true
  pub besides : (k : ℕ) → x.0.l ≤ k → k < n → is_finite (at x.3 k) ≡ true

left_body : (n : ℕ) (x : State) → x.0.l < n → Body n x → Body n (left x)
left_body n x h b =
    let l = x.0.l in
    record {
      sized = record { square = b.sized.square; diagonal = length-set x.2 l _ ∙ b.sized.diagonal; beside = length-set x.3 l zero64 ∙ b.sized.beside };
      grows = b.grows;
      last = elim (ℕ_discrete (n - 1) l) [
        | yes q ↦ rw q (rw (get_or-set_same x.3 l zero64 nan (omega (arith, b.sized.beside))) nought_zero)
        | no q ↦ rw (get_or-set_other x.3 l (n - 1) zero64 nan q) b.last
      ];
      values = λ k p q. rw (get_or-set_other x.2 l k (at x.2 l ⊕ x.0.f) nan (λ e. omega arith)) (b.values k (omega arith) q);
      besides = λ k p q. rw (get_or-set_other x.3 l k zero64 nan (λ e. omega arith)) (b.besides k (omega arith) q);
    }

come_body : (n : ℕ) (x : State) → Body n x → Body n (come n x)
unfolding opened
come_body n x b = record { sized = b.sized; grows = plus_larger x.0.tst1 _ b.grows; last = b.last; values = b.values; besides = b.besides }

-- ---- one pass

-- what mark 1 says where it sees nothing
all_finite_lem : (d e : Vec) → mark1 d e ≡ None → Finite d × Finite e
unfolding mark1
all_finite_lem d e h = finite_both d e (first_bad_none (d ++ e) h)

data Passed (n : ℕ) (y : State) : Type 0 where
  bad : (y.0.stop ≡ 8) ⊎ (y.0.stop ≡ 10) → length y.2 ≡ n → Passed n y
  here : y.0.stop ≡ 1 → Body n y → Passed n y
  on : y.0.stop ≡ 0 → y.0.index ≡ 0 → Body n y → Passed n y

one_pass : (n edition : ℕ) (x : State) → x.0.l < x.0.m → x.0.m < n → Body n x → Passed n (pass n edition x)
unfolding pass verdict settled mark1
one_pass n edition x h g b = go (mark1 y.2 y.3) refl (tiny y.3 x.0.tst1 x.0.l) refl
  where
    y : Float × Vec × Vec × Vec
    y = transformed n edition x.0.l x.0.m (x.1, x.2, x.3)

    carried : Carried
    carried = record { f = x.0.f; tst1 = x.0.tst1; v = x.1; d = x.2; e = x.3 }

    square : length y.1 ≡ n * n
    square = (body_long n edition x.0.l x.0.m carried).vectors ∙ b.sized.square

    diagonal : length y.2 ≡ n
    diagonal = (body_long n edition x.0.l x.0.m carried).values ∙ b.sized.diagonal

    fine : mark1 y.2 y.3 ≡ None → Body n (pass n edition x)
    fine q =
        let r = transformed_ended n edition x.0.l x.0.m (n - 1) x.1 x.2 x.3 h (omega arith) (omega (arith, b.sized.beside)) in
        let a = all_finite_lem y.2 y.3 q in
        record {
          sized = record { square = square; diagonal = diagonal; beside = r.long ∙ b.sized.beside };
          grows = b.grows;
          last = r.zero b.last (a.1 (n - 1) (omega (arith, r.long, b.sized.beside)));
          values = λ k p s. a.0 k (omega (arith, diagonal));
          besides = λ k p s. a.1 k (omega (arith, r.long, b.sized.beside));
        }

    -- what the pass leaves, by mark 1 and the test
    why : Option Bad → Bool → ℕ × ℕ
    why a t = ((judged a (cond t 1 0)).stop, (judged a (cond t 1 0)).index)

    go : (a : Option Bad) → mark1 y.2 y.3 ≡ a → (t : Bool) → tiny y.3 x.0.tst1 x.0.l ≡ t → Passed n (pass n edition x)
    go (Some found) q t s =
        let e : (pass n edition x).0.stop ≡ found.class = ap (λ (a : Option Bad). (why a (tiny y.3 x.0.tst1 x.0.l)).0) q in
        bad (⊎_elim (λ (p : found.class ≡ 8). inl (e ∙ p)) (λ (p : found.class ≡ 10). inr (e ∙ p)) (scan_class (at (y.2 ++ y.3)) (length (y.2 ++ y.3)) found.index found.class q)) diagonal
    go None q true s = here (λ i. (why (q i) (s i)).0) (fine q)
    go None q false s = on (λ i. (why (q i) (s i)).0) (λ i. (why (q i) (s i)).1) (fine q)

record Same (x y : Run) : Type 0 where
  l : y.l ≡ x.l
  m : y.m ≡ x.m
  passes : y.passes ≡ x.passes + 1
  count : y.count ≡ x.count + 1

pass_same : (n edition : ℕ) (x : State) → Same x.0 (pass n edition x).0
unfolding pass
pass_same n edition x = record { l = refl; m = refl; passes = refl; count = refl }

-- ---- one step

-- what a step comes to
pub data Next (n limit : ℕ) (x y : State) : Type 0 where
  halts : eqb y.0.stop 0 ≡ false → length y.2 ≡ n → Next n limit x y
  goes : Open n limit y.0 → Body n y → (y.0.l < n → y.0.count ≡ x.0.count + 1) → Next n limit x y

closed_marked : (x : State) (c : ℕ) → x.0.stop ≡ c → eqb c 1 ≡ false → eqb c 0 ≡ false → closed x ≡ x
unfolding closed
closed_marked x c q a b =
    (λ i. cond (eqb (q i) 1) (released x) (cond (eqb (q i) 0) (stopping x.0 9, x.1, x.2, x.3) x))
    ∙ (λ i. cond (a i) (released x) (cond (b i) (stopping x.0 9, x.1, x.2, x.3) x))

decided_next : (n limit edition : ℕ) (x : State) → Open n limit x.0 → Body n x → x.0.l < n → x.0.l < x.0.m → Next n limit x (decided limit (pass n edition x))
decided_next n limit edition x o b h a = go (one_pass n edition x a o.within b)
  where
    y : State
    y = pass n edition x

    s : Same x.0 y.0
    s = pass_same n edition x

    -- over all ways to stop
    over : (c : ℕ) → y.0.stop ≡ c → {d : Bool} → ltb y.0.passes limit ≡ d
        → Next n limit x (cond (eqb c 0 && d) y (gone_on (closed y))) → Next n limit x (cond (eqb y.0.stop 0 && ltb y.0.passes limit) y (gone_on (closed y)))
    over c q t r = subst (λ (c : ℕ). Next n limit x (cond (eqb c 0 && ltb y.0.passes limit) y (gone_on (closed y)))) (sym q)
        (subst (λ (d : Bool). Next n limit x (cond (eqb c 0 && d) y (gone_on (closed y)))) (sym t) r)

    most : y.0.count ≤ y.0.l * limit + limit
    most = subst (λ (l : ℕ). y.0.count ≤ l * limit + limit) (sym s.l) (omega (arith, s.count, o.bounded, o.fewer))

    marked : (c : ℕ) → y.0.stop ≡ c → eqb c 1 ≡ false → eqb c 0 ≡ false → length y.2 ≡ n → Next n limit x (gone_on (closed y))
    marked c q f z e =
        let w : eqb y.0.stop 0 ≡ false = ap (λ (k : ℕ). eqb k 0) q ∙ z in
        subst (Next n limit x) (sym (ap gone_on (closed_marked y c q f z) ∙ onward_ended y (ap not w))) (halts w e)

    go : Passed n y → Next n limit x (cond (eqb y.0.stop 0 && ltb y.0.passes limit) y (gone_on (closed y)))
    go (bad q e) = ⊎_elim (λ (p : y.0.stop ≡ 8). over 8 p refl (marked 8 p refl refl e)) (λ (p : y.0.stop ≡ 10). over 10 p refl (marked 10 p refl refl e)) q
    go (here q f) =
        over 1 q refl (subst (Next n limit x) (sym (ap gone_on (closed_settled y q) ∙ onward_going (released y) refl))
        (goes (left_open n limit y (omega (arith, s.l)) (omega (arith, s.m, o.within)) (omega (arith, o.fewer)) most) (left_body n y (omega (arith, s.l)) f) (λ i. s.count)))
    go (on q u f) = more (ltb y.0.passes limit) refl
      where
        more : (t : Bool) → ltb y.0.passes limit ≡ t → Next n limit x (cond (eqb y.0.stop 0 && ltb y.0.passes limit) y (gone_on (closed y)))
        more true t = over 0 q t (goes (record {
          going = q;
          at_most = omega (arith, s.l);
          within = omega (arith, s.m, o.within);
          fewer = ltb-true y.0.passes limit t;
          above = λ i. omega (arith, s.l, s.m);
          counted = omega (arith, s.passes, s.count, o.counted);
          bounded = subst (λ (l : ℕ). y.0.count ≤ l * limit + y.0.passes) (sym s.l) (omega (arith, s.passes, s.count, o.bounded));
          unmarked = u;
        }) f (λ i. s.count))
        more false t =
            over 0 q t (subst (Next n limit x) (sym (ap gone_on (closed_used y q) ∙ onward_ended (stopping y.0 9, y.1, y.2, y.3) refl)) (halts refl f.sized.diagonal))

pub step_next : (n limit edition : ℕ) (x : State) → Open n limit x.0 → Body n x → Next n limit x (step n limit edition x)
unfolding step
step_next n limit edition x o b = from (found_found n limit (Body n) (left_body n) (come_body n) x o b)
  where
    y : State
    y = found_l n x

    again : {z : State} → y.0.count ≡ x.0.count → Next n limit y z → Next n limit x z
    again e (halts q l) = halts q l
    again {z} e (goes p q r) = goes p q (λ i. r i ∙ ap (λ (c : ℕ). c + 1) e)

    from : Found n limit x y × Body n y → Next n limit x (cond (ltb y.0.l n) (decided limit (pass n edition y)) y)
    from f = go (ltb y.0.l n) refl
      where
        go : (t : Bool) → ltb y.0.l n ≡ t → Next n limit x (cond t (decided limit (pass n edition y)) y)
        go true t =
            let h : y.0.l < n = ltb-true _ _ t in
            again f.0.count (decided_next n limit edition y f.0.opens f.1 h (f.0.above h))
        go false t = goes f.0.opens f.1 (λ i. absurd (omega (arith, ltb-false y.0.l n t)))

-- ---- none of what 13 refuses

pub in_range_lem : (n limit edition : ℕ) (r : Run) → 0 < n → n ≤ 256 → limit_good limit ≡ true → edition_good edition ≡ true → Open n limit r → in_range n limit edition r ≡ true
unfolding in_range
in_range_lem n limit edition r z s a e o =
    simp (le-leb 1 n z, le-leb n 256 s, a, e, le-leb r.l n o.at_most, lt-ltb r.m n o.within, lt-ltb r.passes limit o.fewer, le-leb r.passes r.count o.counted, le-leb r.count (r.l * limit + r.passes) o.bounded, eq-eqb r.index 0 o.unmarked) (go (eqb r.passes 0) refl)
  where
    go : (t : Bool) → eqb r.passes 0 ≡ t → (eqb r.passes 0 || ltb r.l r.m) ≡ true
    go true t = λ i. t i || ltb r.l r.m
    go false t = (λ i. t i || ltb r.l r.m) ∙ lt-ltb r.l r.m (o.above (eqb-false _ _ t))

-- the parts that are looked at, of e in work and of d in front of the result
pub is_sound : (n : ℕ) (r : Run) (work result : Vec) → n ≤ length result → r.l ≤ n → Body n (r, drop n result, take n result, work) → sound n r work result ≡ true
unfolding sound
is_sound n r work result h l b =
    simp (plus_le r.tst1 b.grows, zeroed, front, behind)
  where
    zeroed : eq (at work (n - 1)) zero64 ≡ true
    zeroed = nought_eq (at work (n - 1)) b.last

    front : first_bad (part r.l n result) ≡ None
    front = first_bad_fine (part r.l n result) (λ k p.
        let q : k < n - r.l = omega (arith, length_part r.l n result l h) in
        rw (get_or-take (n - r.l) (drop r.l result) k nan q, get_or-drop r.l result k nan, ← get_or-take n result (r.l + k) nan (omega arith)) (b.values (r.l + k) (omega arith) (omega arith)))

    behind : first_bad (drop r.l work) ≡ None
    behind = first_bad_fine (drop r.l work) (λ k p. rw (get_or-drop r.l work k nan) (b.besides (r.l + k) (omega arith) (omega (arith, length-drop r.l work, b.sized.beside))))
