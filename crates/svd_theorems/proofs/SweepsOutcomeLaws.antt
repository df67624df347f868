-- What `jacobi` gives is what the run gives (`run_gives`), which is one outcome at most (`gives_once`), and the sweeps that settle are document 000's own (`swept_document`). Laws only.
use Rattle.leaves.specs.declared.Bad.{Bad}
use Rattle.std.specs.Prelude.{◌≡◌, ◌⊎◌, Bool, true, false, cond, not, eqb, Float, length, take, drop, Option, Some, None, is_some}
use Rattle.std.proofs.Math.Path.{refl, ap, subst}
use Rattle.std.proofs.Common.{sym, ◌∙◌, ⊎_elim, true≢false, arith, ne_eqb, length-drop, get_or-take, get_or-drop, length-take-le, take_all}
use Prim.Native.Nat.{ℕ, zero, suc, ◌+◌, ◌*◌, ◌≤◌, ◌<◌}
use Rattle.std.proofs.Math.Decide.{dec_lt}
use Rattle.std.specs.Float.{nan}
use Rattle.grid.specs.Loop.{rounds}
use Rattle.grid.specs.Real.{Vec, at}
use Rattle.leaves.specs.Leaf.{is_finite}
use Rattle.leaves.specs.Scan.{by_rows}
use Rattle.leaves.specs.Finite.{Finite, First}
use Rattle.leaves.specs.FiniteLaws.{scan_finite, finite_scan, cells_finite, finite_rows, both_finite, finite_both}
use Rattle.leaves.specs.ScanLaws.{scan_first, first_once, first_class, fine_no_first}
use Rattle.answers.specs.Answers.{answered, done, passed, marked}
use Rattle.answers.specs.declared.Answer.{Answer}
use Rattle.svd_jacobi_svd_tall.specs.Marks.{factors, factors_bad, values_factors, all_bad}
use Rattle.svd_jacobi_svd_tall.specs.SingularValues.{normalised}
use Rattle.svd_jacobi_svd_tall.specs.JacobiSvdTall.{going_after, verdict, swept, ended, sweeps, finished, jacobi}
use Rattle.svd_jacobi_svd_tall.specs.Sweep.{value_at, sweep}
use Rattle.svd_theorems.specs.Document.{plain_sweep, unchanged, plain_sweeps, plain}
use Rattle.svd_theorems.specs.Lengths.{rounds_length, normalised_length}
use Rattle.svd_jacobi_svd_tall.specs.SweepLengths.{sweep_length}
use Rattle.svd_theorems.specs.SweepsOutcome.{Sound, Whole, Seen1, Seen2, End, here, bad, used, Swept, no_more, stop, once, again, RunGives, well, at_mark2, at_mark1, at_limit}

-- ---- the marks

take_most : (n : ℕ) (w : Vec) → length (take n w) ≤ n
take_most n w = elim (dec_lt n (length w)) [
  | yes h ↦ omega (arith, length-take-le n w (omega arith))
  | no h ↦ omega (arith, ap length (take_all n w (omega arith)))
]

-- the part of w from a on, so many numbers
module _ (w : Vec) (a n : ℕ) (fits : a + n ≤ length w) where
  part_long : length (take n (drop a w)) ≡ n
  part_long = length-take-le n (drop a w) (omega (arith, length-drop a w))

  part_at : (k : ℕ) → k < n → at (take n (drop a w)) k ≡ at w (a + k)
  part_at k l = get_or-take n (drop a w) k nan l ∙ get_or-drop a w k nan

  part_of : Finite (take n (drop a w)) → (k : ℕ) → k < n → is_finite (at w (a + k)) ≡ true
  part_of f k l = ap is_finite (sym (part_at k l)) ∙ f k (omega (arith, part_long))

-- the numbers of w from a on, so many of them at the most, are finite
part_fine : (w : Vec) (a n : ℕ) → ((k : ℕ) → k < n → is_finite (at w (a + k)) ≡ true) → Finite (take n (drop a w))
part_fine w a n f k l =
    let h : k < n = omega (arith, take_most n (drop a w)) in
    ap is_finite (get_or-take n (drop a w) k nan h ∙ get_or-drop a w k nan) ∙ f k h

-- what the marks look at is finite, whatever the length of w
module _ (rows cols : ℕ) (w : Vec) where
  sound_fine : Sound rows cols w → Finite (factors rows cols w)
  sound_fine s =
      both_finite (by_rows cols (take (rows * cols) w)) (by_rows cols (take (cols * cols) (drop (rows * cols) w)))
      (finite_rows cols (take (rows * cols) w) front)
      (finite_rows cols (take (cols * cols) (drop (rows * cols) w)) (part_fine w (rows * cols) (cols * cols) s.second))
    where
      front : Finite (take (rows * cols) w)
      front k l =
          let h : k < rows * cols = omega (arith, take_most (rows * cols) w) in
          ap is_finite (get_or-take (rows * cols) w k nan h) ∙ s.first k h

  whole_fine : Whole rows cols w → Finite (values_factors rows cols w)
  whole_fine s =
      both_finite (take cols (drop (value_at rows cols 0) w)) (factors rows cols w)
      (part_fine w (value_at rows cols 0) cols (λ k l. subst (λ (t : ℕ). is_finite (at w t) ≡ true) (omega arith) (s.values k l)))
      (sound_fine s.factors)

  sound_unseen : (i a : ℕ) → Sound rows cols w → Seen1 rows cols w i a → ⊥
  sound_unseen i a s = fine_no_first (factors rows cols w) i a (sound_fine s)

  whole_unseen : (i a : ℕ) → Whole rows cols w → Seen2 rows cols w i a → ⊥
  whole_unseen i a s = fine_no_first (values_factors rows cols w) i a (whole_fine s)

module _ (rows cols : ℕ) (w : Vec) (long : length w ≡ rows * cols + cols * cols + cols) where
  front_long : length (take (rows * cols) w) ≡ rows * cols
  front_long = length-take-le (rows * cols) w (omega arith)

  fine_sound : Finite (factors rows cols w) → Sound rows cols w
  fine_sound h =
      let o = finite_both (by_rows cols (take (rows * cols) w)) (by_rows cols (take (cols * cols) (drop (rows * cols) w))) h in
      let f = cells_finite rows cols (take (rows * cols) w) front_long o.0 in
      let g = cells_finite cols cols (take (cols * cols) (drop (rows * cols) w)) (part_long w (rows * cols) (cols * cols) (omega arith)) o.1 in
      record {
        first = λ k l. ap is_finite (sym (get_or-take (rows * cols) w k nan l)) ∙ f k (omega (arith, front_long));
        second = part_of w (rows * cols) (cols * cols) (omega arith) g;
      }

  pub sound_of : is_some (factors_bad rows cols w) ≡ false → Sound rows cols w
  unfolding factors_bad
  sound_of h = fine_sound (scan_finite (factors rows cols w) h)

  pub of_sound : Sound rows cols w → is_some (factors_bad rows cols w) ≡ false
  unfolding factors_bad
  of_sound s = finite_scan (factors rows cols w) (sound_fine rows cols w s)

  pub whole_of : is_some (all_bad rows cols w) ≡ false → Whole rows cols w
  unfolding all_bad
  whole_of h =
      let o = finite_both (take cols (drop (value_at rows cols 0) w)) (factors rows cols w) (scan_finite (values_factors rows cols w) h) in
      record {
        factors = fine_sound o.1;
        values = λ k l. (let g = part_of w (value_at rows cols 0) cols (omega arith) o.0 k l in
            subst (λ (t : ℕ). is_finite (at w t) ≡ true) (omega arith) g);
      }

  pub of_whole : Whole rows cols w → is_some (all_bad rows cols w) ≡ false
  unfolding all_bad
  of_whole s = finite_scan (values_factors rows cols w) (whole_fine rows cols w s)

-- ---- one outcome at most

pub swept_within : (rows cols : ℕ) {k c : ℕ} {w : Vec} {e : End} {y : Vec} → Swept rows cols k c w e y → c ≤ k
swept_within rows cols no_more = omega arith
swept_within rows cols (stop b) = omega arith
swept_within rows cols (once f s) = omega arith
swept_within rows cols (again f s a) = omega (arith, swept_within rows cols a)

code : End → ℕ
code here = 1
code (bad a i) = 8
code used = 9

kind : End → ℕ
kind here = 0
kind (bad a i) = a
kind used = 0

number : End → ℕ
number here = 0
number (bad a i) = i
number used = 0

-- the limit is used up after just so many
pub used_all : (rows cols : ℕ) {k c : ℕ} {w : Vec} {e : End} {y : Vec} → Swept rows cols k c w e y → e ≡ used → c ≡ k
unfolding code
used_all rows cols no_more q = refl
used_all rows cols (stop b) q = absurd (omega (arith, ap code q))
used_all rows cols (once f s) q = absurd (omega (arith, ap code q))
used_all rows cols (again f s a) q = ap suc (used_all rows cols a q)

-- the four numbers after so many sweeps
numbers : End → ℕ → Answer
numbers here c = done c
numbers (bad a i) c = answered a 1 i c
numbers used c = answered 9 c 0 c

abbrev Left : Type 0
Left = ℕ × End × Vec

next : Left → Left
next t = (suc t.0, t.1, t.2)

-- what mark 1 saw
halt : Option Bad → End
halt (Some found) = bad found.class found.index
halt None = here

swept_once : (rows cols : ℕ) {k c : ℕ} {w : Vec} {e : End} {y : Vec} {b : ℕ} {f : End} {z : Vec} → Swept rows cols k c w e y → Swept rows cols k b w f z
    → ◌≡◌ {A = Left} (c, e, y) (b, f, z)
unfolding next halt
swept_once rows cols no_more no_more = refl
swept_once rows cols (stop {w = w} p) (stop q) = λ j. (1, halt (first_once _ _ _ _ _ _ p q j), (sweep rows cols w).1)
swept_once rows cols (stop p) (once q s) = absurd (sound_unseen rows cols _ _ _ q p)
swept_once rows cols (stop p) (again q s b) = absurd (sound_unseen rows cols _ _ _ q p)
swept_once rows cols (once p s) (stop q) = absurd (sound_unseen rows cols _ _ _ p q)
swept_once rows cols (once p s) (once q t) = refl
swept_once rows cols (once p s) (again q t b) = absurd (true≢false (sym t ∙ s))
swept_once rows cols (again p s a) (stop q) = absurd (sound_unseen rows cols _ _ _ p q)
swept_once rows cols (again p s a) (once q t) = absurd (true≢false (sym s ∙ t))
swept_once rows cols (again p s a) (again q t b) = ap next (swept_once rows cols a b)

abbrev Ended : Type 0
Ended = Answer × Vec

pub gives_once : (rows cols limit : ℕ) (w : Vec) (o p : Ended) → RunGives rows cols limit w o → RunGives rows cols limit w p → o ≡ p
unfolding code numbers
gives_once rows cols limit w o p (well a f) (well b g) = ap (λ (t : Left). (done t.0, normalised rows cols t.2)) (swept_once rows cols a b)
gives_once rows cols limit w o p (well a f) (at_mark2 b g) = absurd (whole_unseen rows cols _ _ _ (subst (λ (y : Vec). Whole rows cols (normalised rows cols y)) (ap (λ (t : Left). t.2) (swept_once rows cols a b)) f) g)
gives_once rows cols limit w o p (well a f) (at_mark1 b) = absurd (omega (arith, ap (λ (t : Left). code t.1) (swept_once rows cols a b)))
gives_once rows cols limit w o p (well a f) (at_limit b) = absurd (omega (arith, ap (λ (t : Left). code t.1) (swept_once rows cols a b)))
gives_once rows cols limit w o p (at_mark2 a f) (well b g) = absurd (whole_unseen rows cols _ _ _ (subst (λ (y : Vec). Whole rows cols (normalised rows cols y)) (ap (λ (t : Left). t.2) (swept_once rows cols b a)) g) f)
gives_once rows cols limit w o p (at_mark2 {a = k} {i = i} a f) (at_mark2 b g) =
    let e = swept_once rows cols a b in
    let q = first_once _ _ _ _ _ _ (subst (λ (y : Vec). Seen2 rows cols (normalised rows cols y) i k) (ap (λ (t : Left). t.2) e) f) g in
    λ j. (marked 2 (e j).0 (q j), normalised rows cols (e j).2)
gives_once rows cols limit w o p (at_mark2 a f) (at_mark1 b) = absurd (omega (arith, ap (λ (t : Left). code t.1) (swept_once rows cols a b)))
gives_once rows cols limit w o p (at_mark2 a f) (at_limit b) = absurd (omega (arith, ap (λ (t : Left). code t.1) (swept_once rows cols a b)))
gives_once rows cols limit w o p (at_mark1 a) (well b g) = absurd (omega (arith, ap (λ (t : Left). code t.1) (swept_once rows cols a b)))
gives_once rows cols limit w o p (at_mark1 a) (at_mark2 b g) = absurd (omega (arith, ap (λ (t : Left). code t.1) (swept_once rows cols a b)))
gives_once rows cols limit w o p (at_mark1 a) (at_mark1 b) = ap (λ (t : Left). (numbers t.1 t.0, t.2)) (swept_once rows cols a b)
gives_once rows cols limit w o p (at_mark1 a) (at_limit b) = absurd (omega (arith, ap (λ (t : Left). code t.1) (swept_once rows cols a b)))
gives_once rows cols limit w o p (at_limit a) (well b g) = absurd (omega (arith, ap (λ (t : Left). code t.1) (swept_once rows cols a b)))
gives_once rows cols limit w o p (at_limit a) (at_mark2 b g) = absurd (omega (arith, ap (λ (t : Left). code t.1) (swept_once rows cols a b)))
gives_once rows cols limit w o p (at_limit a) (at_mark1 b) = absurd (omega (arith, ap (λ (t : Left). code t.1) (swept_once rows cols a b)))
gives_once rows cols limit w o p (at_limit a) (at_limit b) = ap (λ (t : Left). (answered 9 t.0 0 t.0, t.2)) (swept_once rows cols a b)

-- ---- what a run does is what it gives by `RunGives`

-- a class is not 0 and not 9
not_done : {x : ℕ → Float} {n i a : ℕ} → First x n i a → a ≡ 0 → ⊥
not_done {x} {n} {i} {a} f z = ⊎_elim (λ e. omega arith) (λ e. omega arith) (first_class x n i a f)

not_going : {x : ℕ → Float} {n i a : ℕ} → First x n i a → a ≡ 9 → ⊥
not_going {x} {n} {i} {a} f z = ⊎_elim (λ e. omega arith) (λ e. omega arith) (first_class x n i a f)

-- nor is that of a run that mark 1 stopped
pub swept_class : (rows cols : ℕ) {k c : ℕ} {w : Vec} {e : End} {y : Vec} → Swept rows cols k c w e y → (a i : ℕ) → e ≡ bad a i → (a ≡ 8) ⊎ (a ≡ 10)
unfolding code kind
swept_class rows cols no_more a i q = absurd (omega (arith, ap code q))
swept_class rows cols (stop f) a i q = subst (λ (k : ℕ). (k ≡ 8) ⊎ (k ≡ 10)) (ap kind q) (first_class _ _ _ _ f)
swept_class rows cols (once f s) a i q = absurd (omega (arith, ap code q))
swept_class rows cols (again f s b) a i q = swept_class rows cols b a i q

-- and what it saw is the first number of the last factors that is not finite
pub swept_seen : (rows cols : ℕ) {k c : ℕ} {w : Vec} {e : End} {y : Vec} → Swept rows cols k c w e y → (a i : ℕ) → e ≡ bad a i → Seen1 rows cols y i a
unfolding code kind number
swept_seen rows cols no_more a i q = absurd (omega (arith, ap code q))
swept_seen rows cols (stop {w = w} f) a i q = subst (λ (t : End). Seen1 rows cols (sweep rows cols w).1 (number t) (kind t)) q f
swept_seen rows cols (once f s) a i q = absurd (omega (arith, ap code q))
swept_seen rows cols (again f s b) a i q = swept_seen rows cols b a i q

record Came (rows cols k : ℕ) (x y : Ended) : Type 0 where
  c : ℕ
  e : End
  swept_to : Swept rows cols k c x.1 e y.1
  gives : y.0 ≡ numbers e (x.0.count + c)

-- one sweep
data Once (rows cols : ℕ) (x y : Ended) : Type 0 where
  sees : (a i : ℕ) → y.0 ≡ answered a 1 i (x.0.count + 1) → Seen1 rows cols y.1 i a → Once rows cols x y
  settles : y.0 ≡ done (x.0.count + 1) → Sound rows cols y.1 → (sweep rows cols x.1).0 ≡ false → Once rows cols x y
  on : y.0 ≡ going_after (x.0.count + 1) → Sound rows cols y.1 → (sweep rows cols x.1).0 ≡ true → Once rows cols x y

module _ (rows cols : ℕ) where
  one_sweep : (x : Ended) → length x.1 ≡ rows * cols + cols * cols + cols → Once rows cols x (swept rows cols x)
  unfolding swept verdict factors_bad
  one_sweep x l = go (factors_bad rows cols w) refl (sweep rows cols x.1).0 refl
    where
      w : Vec
      w = (sweep rows cols x.1).1

      long : length w ≡ rows * cols + cols * cols + cols
      long = sweep_length _ rows cols x.1 l

      n : ℕ
      n = x.0.count + 1

      go : (b : Option Bad) → factors_bad rows cols w ≡ b → (q : Bool) → (sweep rows cols x.1).0 ≡ q → Once rows cols x (swept rows cols x)
      go (Some found) e q f = sees found.class found.index (λ j. cond (is_some (e j)) (marked 1 n (e j)) (cond (sweep rows cols x.1).0 (going_after n) (done n))) (scan_first _ _ found.index found.class e)
      go None e true f = on (λ j. cond (is_some (e j)) (marked 1 n (e j)) (cond (f j) (going_after n) (done n))) (sound_of rows cols w long (ap is_some e)) f
      go None e false f = settles (λ j. cond (is_some (e j)) (marked 1 n (e j)) (cond (f j) (going_after n) (done n))) (sound_of rows cols w long (ap is_some e)) f

  rounds_came : (k : ℕ) (x : Ended) → x.0 ≡ going_after x.0.count → length x.1 ≡ rows * cols + cols * cols + cols
      → Came rows cols k x (rounds (swept rows cols) ended k x)
  unfolding rounds swept numbers
  rounds_came zero x a l = record { c = 0; e = used; swept_to = no_more; gives = a ∙ ap going_after (omega arith) }
  rounds_came (suc k) x a l = go (one_sweep x l) (λ q. rounds_came k y q (sweep_length _ rows cols x.1 l))
    where
      y : Ended
      y = swept rows cols x

      rest : Ended
      rest = rounds (swept rows cols) ended k y

      over : {s : Answer} → y.0 ≡ s → Came rows cols (suc k) x (cond (not (eqb s.answer 9)) y rest) → Came rows cols (suc k) x (cond (ended y) y rest)
      over q w = subst (λ (s : Answer). Came rows cols (suc k) x (cond (not (eqb s.answer 9)) y rest)) (sym q) w

      go : Once rows cols x y → (y.0 ≡ going_after y.0.count → Came rows cols k y rest) → Came rows cols (suc k) x (cond (ended y) y rest)
      go (sees a i q f) later = over q (rw (ne_eqb a 9 (not_going f)) (record { c = 1; e = bad a i; swept_to = stop f; gives = q }))
      go (settles q f s) later = over q (record { c = 1; e = here; swept_to = once f s; gives = q })
      go (on q f s) later =
          let n : y.0.count ≡ x.0.count + 1 = ap (λ (t : Answer). t.count) q in
          let w = later (q ∙ ap going_after (sym n)) in
          over q (record { c = suc w.c; e = w.e; swept_to = again f s w.swept_to; gives = w.gives ∙ ap (numbers w.e) (omega arith) })

-- **what jacobi gives is what the run gives**
pub run_gives : (rows cols limit : ℕ) (w : Vec) → length w ≡ rows * cols + cols * cols + cols → RunGives rows cols limit w (jacobi rows cols limit w)
unfolding jacobi sweeps finished numbers all_bad
run_gives rows cols limit w l = go a.e a.swept_to (a.gives ∙ ap (numbers a.e) (omega arith))
  where
    x : Ended
    x = rounds (swept rows cols) ended limit (going_after 0, w)

    a : Came rows cols limit (going_after 0, w) x
    a = rounds_came rows cols limit (going_after 0, w) refl l

    v : Vec
    v = normalised rows cols x.1

    long : length v ≡ rows * cols + cols * cols + cols
    long = normalised_length _ rows cols x.1 (rounds_length _ rows cols limit (going_after 0, w) l)

    end : Answer → Ended
    end s = cond (passed s) (marked 2 s.count (all_bad rows cols v), v) (s, x.1)

    settled : Swept rows cols limit a.c w here x.1 → (b : Option Bad) → all_bad rows cols v ≡ b → RunGives rows cols limit w (marked 2 a.c b, v)
    settled s (Some found) e = at_mark2 s (scan_first _ _ found.index found.class e)
    settled s None e = well s (whole_of rows cols v long (ap is_some e))

    go : (e : End) → Swept rows cols limit a.c w e x.1 → x.0 ≡ numbers e a.c → RunGives rows cols limit w (end x.0)
    go here s q = subst (λ (t : Answer). RunGives rows cols limit w (end t)) (sym q) (settled s (all_bad rows cols v) refl)
    go (bad k i) s q =
        subst (λ (t : Answer). RunGives rows cols limit w (end t)) (sym q)
        (rw (ne_eqb k 0 (λ z. ⊎_elim (λ e. omega arith) (λ e. omega arith) (swept_class rows cols s k i refl))) (at_mark1 s))
    go used s q = subst (λ (t : Answer). RunGives rows cols limit w (end t)) (sym q) (at_limit s)

-- ---- the sweeps that settle are document 000's own

sweeps_settle : (rows cols : ℕ) {k c : ℕ} {w : Vec} {e : End} {y : Vec} (l : ℕ) (b : Bool) → k ≤ l → e ≡ here → Swept rows cols k c w e y
    → (rounds (plain_sweep rows cols) unchanged l (b, w)).1 ≡ y
unfolding rounds code
sweeps_settle rows cols zero b h q no_more = absurd (omega (arith, ap code q))
sweeps_settle rows cols zero b h q (stop p) = absurd (omega arith)
sweeps_settle rows cols zero b h q (once f s) = absurd (omega arith)
sweeps_settle rows cols zero b h q (again f s a) = absurd (omega arith)
sweeps_settle rows cols (suc l) b h q no_more = absurd (omega (arith, ap code q))
sweeps_settle rows cols (suc l) b h q (stop p) = absurd (omega (arith, ap code q))
sweeps_settle rows cols (suc l) b h q (once {w = w} f s) =
    λ i. (cond (not (s i)) (sweep rows cols w) (rounds (plain_sweep rows cols) unchanged l (sweep rows cols w))).1
sweeps_settle rows cols (suc l) b h q (again {k = k} {w = w} f s a) =
    (λ i. (cond (not (s i)) (sweep rows cols w) (rounds (plain_sweep rows cols) unchanged l (sweep rows cols w))).1) ∙ sweeps_settle rows cols {k = k} l (sweep rows cols w).0 (omega arith) q a

pub swept_document : (rows cols limit c : ℕ) (w y : Vec) → limit ≤ 60 → Swept rows cols limit c w here y → (plain_sweeps rows cols w).1 ≡ y
unfolding plain_sweeps
swept_document rows cols limit c w y h s = sweeps_settle rows cols 60 true h refl s

-- ---- where the answer is 0

pub jacobi_whole : (rows cols limit : ℕ) (w : Vec) → length w ≡ rows * cols + cols * cols + cols → (jacobi rows cols limit w).0.answer ≡ 0
    → Whole rows cols (jacobi rows cols limit w).1
jacobi_whole rows cols limit w l = go (jacobi rows cols limit w) (run_gives rows cols limit w l)
  where
    go : (o : Ended) → RunGives rows cols limit w o → o.0.answer ≡ 0 → Whole rows cols o.1
    go o (well s f) z = f
    go o (at_mark2 s f) z = absurd (not_done f z)
    go o (at_mark1 {a = k} {i = i} s) z = absurd (⊎_elim (λ e. omega arith) (λ e. omega arith) (swept_class rows cols s k i refl))
    go o (at_limit s) z = absurd (omega arith)

-- **marks and limit only stop**: the values and the factors are those of document 000's own composition
pub jacobi_plain : (rows cols limit : ℕ) (w : Vec) → length w ≡ rows * cols + cols * cols + cols → limit ≤ 60 → (jacobi rows cols limit w).0.answer ≡ 0
    → (jacobi rows cols limit w).1 ≡ plain rows cols w
unfolding plain
jacobi_plain rows cols limit w l h = go (jacobi rows cols limit w) (run_gives rows cols limit w l)
  where
    go : (o : Ended) → RunGives rows cols limit w o → o.0.answer ≡ 0 → o.1 ≡ normalised rows cols (plain_sweeps rows cols w).1
    go o (well {y = y} s f) z = ap (normalised rows cols) (sym (swept_document rows cols limit _ w y h s))
    go o (at_mark2 s f) z = absurd (not_done f z)
    go o (at_mark1 {a = k} {i = i} s) z = absurd (⊎_elim (λ e. omega arith) (λ e. omega arith) (swept_class rows cols s k i refl))
    go o (at_limit s) z = absurd (omega arith)
