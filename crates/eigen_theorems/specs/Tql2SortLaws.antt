-- tql2's sort: the values come to ascend (`sorted_ascends`), and values and columns change places by one permutation (`sorted_arranged`). Laws only.
use Rattle.std.specs.Prelude.{◌≡◌, Bool, true, cond, ℕ, ◌+◌, ◌*◌, ◌-◌, ◌≤◌, ◌<◌, eqb, Float, length, set}
use Rattle.std.proofs.Math.Path.{refl, subst}
use Rattle.std.proofs.Common.{sym, ap, ◌∙◌, eqb-true, eq-eqb, ne_eqb, length-set, get_or-set_same, get_or-set_other}
use Rattle.std.proofs.Math.Bool.{false}
use Rattle.std.proofs.Math.Decide.{ℕ_discrete}
use native.Mathlib.Omega.{arith}
use Rattle.std.proofs.lemmas.Bool.{eqb-false}
use Rattle.std.specs.Float.{nan}
use Rattle.std.specs.Float.Ieee.{lt}
use Rattle.grid.specs.LoopLaws.{upto_both}
use Rattle.grid.specs.Real.{Vec, at}
use Rattle.grid.specs.Cell.{at2, put2}
use Rattle.grid.specs.CellLaws.{put_here, put_elsewhere}
use Rattle.leaves.specs.Leaf.{is_finite}
use Rattle.leaves.specs.Compare.{lt_self, lt_chain, lt_turn}
use Rattle.eigen_tql2.specs.Sort.{least_from, swapped, sort_step, sorted}
use Rattle.eigen_tql2.specs.SortSteps.{better, swap_step}
use Rattle.eigen_tql2.specs.declared.sort.Best.{Best}
use Rattle.eigen_theorems.specs.Permutation.{Arranged, Ascends}

-- ---- two indices change places

pub swap : ℕ → ℕ → ℕ → ℕ
swap i m k = cond (eqb k i) m (cond (eqb k m) i k)

swap_first : (i m : ℕ) → swap i m i ≡ m
unfolding swap
swap_first i m = rw (eq-eqb i i refl)

swap_second : (i m : ℕ) → swap i m m ≡ i
unfolding swap
swap_second i m = elim (ℕ_discrete m i) [
  | yes e ↦ rw (eq-eqb m i e) e
  | no d ↦ rw (ne_eqb m i d, eq-eqb m m refl)
]

swap_other : (i m k : ℕ) → (k ≡ i → ⊥) → (k ≡ m → ⊥) → swap i m k ≡ k
unfolding swap
swap_other i m k p q = rw (ne_eqb k i p, ne_eqb k m q)

-- what holds at m, at i and elsewhere holds of the index that k changes to
swap_at : (P : ℕ → Type 0) (i m k : ℕ) → (k ≡ i → P m) → (k ≡ m → P i) → ((k ≡ i → ⊥) → (k ≡ m → ⊥) → P k) → P (swap i m k)
swap_at P i m k a b c = elim (ℕ_discrete k i) [
  | yes e ↦ subst P (sym (ap (swap i m) e ∙ swap_first i m)) (a e)
  | no d ↦ elim (ℕ_discrete k m) [
    | yes f ↦ subst P (sym (ap (swap i m) f ∙ swap_second i m)) (b f)
    | no g ↦ subst P (sym (swap_other i m k d g)) (c d g)
  ]
]

swap_twice : (i m k : ℕ) → swap i m (swap i m k) ≡ k
swap_twice i m k = swap_at (λ t. swap i m t ≡ k) i m k (λ e. swap_second i m ∙ sym e) (λ e. swap_first i m ∙ sym e) (λ d g. swap_other i m k d g)

swap_below : (n i m k : ℕ) → i < n → m < n → k < n → swap i m k < n
swap_below n i m k a b c = swap_at (λ t. t < n) i m k (λ e. b) (λ e. a) (λ d g. c)

-- ---- the least of d from i on

pub record Least (n i : ℕ) (d : Vec) (j : ℕ) (b : Best) : Type 0 where
  pub from : i ≤ b.k
  pub below : b.k < n
  pub value : b.p ≡ at d b.k
  pub low : (q : ℕ) → i ≤ q → q < j → lt (at d q) b.p ≡ false

module _ (n i : ℕ) (d : Vec) (f : (k : ℕ) → k < n → is_finite (at d k) ≡ true) where
  better_least_from : (j : ℕ) (b : Best) → i < j → j < n → Least n i d j b → Least n i d (j + 1) (better d j b)
  better_least_from j b h g s = go (lt (at d j) b.p) refl
    where
      old : is_finite b.p ≡ true
      old = ap is_finite s.value ∙ f b.k s.below

      go : (t : Bool) → lt (at d j) b.p ≡ t → Least n i d (j + 1) (cond t (record { k = j; p = at d j }) b)
      go true e = record { from = omega arith; below = g; value = refl; low = lower }
        where
          lower : (q : ℕ) → i ≤ q → q < j + 1 → lt (at d q) (at d j) ≡ false
          lower q a c = elim (ℕ_discrete q j) [
            | yes r ↦ subst (λ (t : ℕ). lt (at d t) (at d j) ≡ false) (sym r) (lt_self (at d j))
            | no r ↦ lt_chain (at d q) b.p (at d j) (f q (omega arith)) old (f j g) (s.low q a (omega arith)) (lt_turn (at d j) b.p e)
          ]
      go false e = record { from = s.from; below = s.below; value = s.value; low = lower }
        where
          lower : (q : ℕ) → i ≤ q → q < j + 1 → lt (at d q) b.p ≡ false
          lower q a c = elim (ℕ_discrete q j) [
            | yes r ↦ subst (λ (t : ℕ). lt (at d t) b.p ≡ false) (sym r) e
            | no r ↦ s.low q a (omega arith)
          ]

  pub least_from_is : i < n → Least n i d n (least_from n i d)
  unfolding least_from
  least_from_is h =
      upto_both (λ j s t. Least n i d j s) (better d) (better d) (i + 1) n (record { k = i; p = at d i }) (record { k = i; p = at d i }) (omega arith) (λ j s t a b r. better_least_from j s (omega arith) b r)
      (record { from = omega arith; below = h; value = refl; low = alone })
    where
      alone : (q : ℕ) → i ≤ q → q < i + 1 → lt (at d q) (at d i) ≡ false
      alone q a b =
          let e : i ≡ q = omega arith in
          subst (λ (t : ℕ). lt (at d t) (at d i) ≡ false) e (lt_self (at d i))

-- ---- two columns change places

module _ (n i m : ℕ) (v : Vec) (p : i < n) (q : m < n) (apart : i ≡ m → ⊥) where
  record Rows (j : ℕ) (w : Vec) : Type 0 where
    long : length w ≡ n * n
    past : (r c : ℕ) → r < n → c < n → r < j → at2 w n r c ≡ at2 v n r (swap i m c)
    left : (r c : ℕ) → r < n → c < n → j ≤ r → at2 w n r c ≡ at2 v n r c

  one_row : (j : ℕ) (w : Vec) → j < n → Rows j w → Rows (j + 1) (swap_step n i m j w)
  one_row j w h s = record { long = length-set one _ x ∙ length-set w _ y ∙ s.long; past = now; left = λ r c a b g. other r c a (λ e. omega arith) ∙ s.left r c a b (omega arith) }
    where
      x : Float
      x = at2 w n j i

      y : Float
      y = at2 w n j m

      one : Vec
      one = put2 w n j i y

      -- another row
      other : (r c : ℕ) → r < n → (j ≡ r → ⊥) → at2 (put2 one n j m x) n r c ≡ at2 w n r c
      other r c a d = put_elsewhere one n j m r c x h a (λ e. d e.0) ∙ put_elsewhere w n j i r c y h a (λ e. d e.0)

      here : (c : ℕ) → c < n → at2 (put2 one n j m x) n j c ≡ at2 v n j (swap i m c)
      here c b = swap_at (λ t. at2 (put2 one n j m x) n j c ≡ at2 v n j t) i m c
          (λ e. subst (λ (t : ℕ). at2 (put2 one n j m x) n j t ≡ at2 v n j m) (sym e)
          (put_elsewhere one n j m j i x h h (λ o. apart (sym o.1)) ∙ put_here w n j i y s.long h p ∙ s.left j m h q (omega arith)))
          (λ e. subst (λ (t : ℕ). at2 (put2 one n j m x) n j t ≡ at2 v n j i) (sym e)
          (put_here one n j m x (length-set w _ y ∙ s.long) h q ∙ s.left j i h p (omega arith)))
          (λ d g. put_elsewhere one n j m j c x h h (λ o. g (sym o.1)) ∙ put_elsewhere w n j i j c y h h (λ o. d (sym o.1)) ∙ s.left j c h b (omega arith))

      now : (r c : ℕ) → r < n → c < n → r < j + 1 → at2 (put2 one n j m x) n r c ≡ at2 v n r (swap i m c)
      now r c a b g = elim (ℕ_discrete j r) [
        | yes e ↦ subst (λ (t : ℕ). at2 (put2 one n j m x) n t c ≡ at2 v n t (swap i m c)) e (here c b)
        | no d ↦ other r c a d ∙ s.past r c a b (omega arith)
      ]

  swapped_rows : length v ≡ n * n → Rows n (swapped n i m v)
  unfolding swapped
  swapped_rows l =
      upto_both (λ j s t. Rows j s) (swap_step n i m) (swap_step n i m) 0 n v v (omega arith) (λ j s t a b r. one_row j s b r)
      (record { long = l; past = λ r c a b g. absurd (omega arith); left = λ r c a b g. refl })

-- ---- one step of the sort

-- the least from i on is at m; i and m change places
record Step (n i : ℕ) (x y : Vec × Vec) : Type 0 where
  m : ℕ
  from : i ≤ m
  below : m < n
  low : (q : ℕ) → i ≤ q → q < n → lt (at x.1 q) (at x.1 m) ≡ false
  square : length y.0 ≡ n * n
  long : length y.1 ≡ n
  values : (k : ℕ) → k < n → at y.1 k ≡ at x.1 (swap i m k)
  vectors : (r k : ℕ) → r < n → k < n → at2 y.0 n r k ≡ at2 x.0 n r (swap i m k)

one_step : (n i : ℕ) (x : Vec × Vec) → i < n → length x.0 ≡ n * n → length x.1 ≡ n → ((k : ℕ) → k < n → is_finite (at x.1 k) ≡ true) → Step n i x (sort_step n i x)
unfolding sort_step
one_step n i x h lv ld f = go (eqb b.k i) refl
  where
    b : Best
    b = least_from n i x.1

    s : Least n i x.1 n b
    s = least_from_is n i x.1 f h

    low : (q : ℕ) → i ≤ q → q < n → lt (at x.1 q) (at x.1 b.k) ≡ false
    low q a c = ap (lt (at x.1 q)) (sym s.value) ∙ s.low q a c

    still : (k : ℕ) → b.k ≡ i → swap i b.k k ≡ k
    still k e = swap_at (λ t. t ≡ k) i b.k k (λ o. e ∙ sym o) (λ o. sym e ∙ sym o) (λ d g. refl)

    d : Vec
    d = set (set x.1 b.k (at x.1 i)) i b.p

    one : Vec
    one = set x.1 b.k (at x.1 i)

    inner : length one ≡ n
    inner = length-set x.1 b.k (at x.1 i) ∙ ld

    moved : (b.k ≡ i → ⊥) → (k : ℕ) → k < n → at d k ≡ at x.1 (swap i b.k k)
    moved o k l = swap_at (λ t. at d k ≡ at x.1 t) i b.k k
        (λ e. subst (λ (t : ℕ). at d t ≡ at x.1 b.k) (sym e) (get_or-set_same one i b.p nan (omega (arith, inner)) ∙ s.value))
        (λ e. subst (λ (t : ℕ). at d t ≡ at x.1 i) (sym e)
        (get_or-set_other one i b.k b.p nan o ∙ get_or-set_same x.1 b.k (at x.1 i) nan (omega (arith, s.below))))
        (λ e g. get_or-set_other one i k b.p nan e ∙ get_or-set_other x.1 b.k k (at x.1 i) nan g)

    go : (t : Bool) → eqb b.k i ≡ t → Step n i x (cond t x (swapped n i b.k x.0, d))
    go true e =
        let same : b.k ≡ i = eqb-true b.k i e in
        record {
          m = b.k;
          from = s.from;
          below = s.below;
          low = low;
          square = lv;
          long = ld;
          values = λ k l. ap (at x.1) (sym (still k same));
          vectors = λ r k a l. ap (at2 x.0 n r) (sym (still k same));
        }
    go false e =
        let o = eqb-false b.k i e in
        let w = swapped_rows n i b.k x.0 h s.below (λ g. o (sym g)) lv in
        record {
          m = b.k;
          from = s.from;
          below = s.below;
          low = low;
          square = w.long;
          long = length-set one i b.p ∙ inner;
          values = moved o;
          vectors = λ r k a l. w.past r k a l a;
        }

-- ---- the sort

arranged_step : (n i : ℕ) (x y z : Vec × Vec) → i < n → Arranged n x y → Step n i y z → Arranged n x z
arranged_step n i x y z h a s =
    let m = s.m in
    let b : (k : ℕ) → k < n → swap i m k < n = λ k l. swap_below n i m k h s.below l in
    record {
      π = λ k. a.π (swap i m k);
      σ = λ k. swap i m (a.σ k);
      permutes = record {
        within = λ k l. a.permutes.within (swap i m k) (b k l);
        within' = λ k l. b (a.σ k) (a.permutes.within' k l);
        there = λ k l. ap a.π (swap_twice i m (a.σ k)) ∙ a.permutes.there k l;
        back = λ k l. ap (swap i m) (a.permutes.back (swap i m k) (b k l)) ∙ swap_twice i m k;
      };
      values = λ k l. s.values k l ∙ a.values (swap i m k) (b k l);
      vectors = λ r k p l. s.vectors r k p l ∙ a.vectors r (swap i m k) p (b k l);
      square = s.square;
      long = s.long;
    }

ascends_step : (n i : ℕ) (x y : Vec × Vec) → i < n → Step n i x y → Ascends n i x.1 → Ascends n (i + 1) y.1
unfolding Ascends
ascends_step n i x y h s a p q l g c =
    (λ t. lt (s.values q c t) (s.values p (omega arith) t)) ∙ elim (ℕ_discrete p i) [
      | yes e ↦
          subst (λ (t : ℕ). lt (at x.1 (swap i m q)) (at x.1 (swap i m t)) ≡ false) (sym e)
          (ap (λ (t : ℕ). lt (at x.1 (swap i m q)) (at x.1 t)) (swap_first i m)
          ∙ s.low (swap i m q) (swap_at (λ t. i ≤ t) i m q (λ o. s.from) (λ o. omega arith) (λ o r. omega arith)) (swap_below n i m q h s.below c))
      | no d ↦
          ap (λ (t : ℕ). lt (at x.1 (swap i m q)) (at x.1 t)) (swap_other i m p d (λ o. omega (arith, s.from)))
          ∙ a p (swap i m q) (swap_at (λ t. p < t) i m q (λ o. omega (arith, s.from)) (λ o. omega arith) (λ o r. l)) (omega arith) (swap_below n i m q h s.below c)
    ]
  where
    m : ℕ
    m = s.m

record Sorting (n : ℕ) (x : Vec × Vec) (i : ℕ) (y : Vec × Vec) : Type 0 where
  arranged : Arranged n x y
  ascends : Ascends n i y.1

module _ (n : ℕ) (x : Vec × Vec) (lv : length x.0 ≡ n * n) (ld : length x.1 ≡ n) (f : (k : ℕ) → k < n → is_finite (at x.1 k) ≡ true) where
  sorting_step : (i : ℕ) (y : Vec × Vec) → i < n → Sorting n x i y → Sorting n x (i + 1) (sort_step n i y)
  sorting_step i y h s =
      let a = s.arranged in
      let w = one_step n i y h a.square a.long (λ k l. ap is_finite (a.values k l) ∙ f (a.π k) (a.permutes.within k l)) in
      record { arranged = arranged_step n i x y _ h a w; ascends = ascends_step n i y _ h w s.ascends }

  sorting : Sorting n x (n - 1) (sorted n x)
  unfolding sorted Ascends
  sorting =
      upto_both (λ i s t. Sorting n x i s) (sort_step n) (sort_step n) 0 (n - 1) x x (omega arith) (λ i s t a b r. sorting_step i s (omega arith) r)
      (record {
        arranged = record {
          π = λ k. k;
          σ = λ k. k;
          permutes = record { within = λ k l. l; within' = λ k l. l; there = λ k l. refl; back = λ k l. refl };
          values = λ k l. refl;
          vectors = λ r k p l. refl;
          square = lv;
          long = ld;
        };
        ascends = λ p q l g c. absurd (omega arith);
      })

  -- **one permutation for values and columns**
  pub sorted_arranged : Arranged n x (sorted n x)
  sorted_arranged = sorting.arranged

  -- **no later value is below an earlier one**
  pub sorted_ascends : (p q : ℕ) → p < q → q < n → lt (at (sorted n x).1 q) (at (sorted n x).1 p) ≡ false
  unfolding Ascends
  sorted_ascends p q l h = sorting.ascends p q l (omega arith) h
