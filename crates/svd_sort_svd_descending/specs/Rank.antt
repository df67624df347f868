-- A column's place is below r, and so is the column that comes to a place; and the list in which the code notes the columns at their places. Laws only.
use Rattle.std.specs.Prelude.{◌≡◌, refl, Bool, true, false, cond, List, ℕ, zero, suc, ◌+◌, ◌<◌, ◌≤◌, ltb, eqb, Float, length, set, get_or, replicate, fold, sum_by, count_by}
use Rattle.std.specs.List.{range_with_len}
use Rattle.std.proofs.Common.{sym, ap, ◌∙◌, add-one, add-zero, zero-add, arith, le-ltb, eqb-true, ltb-true, ltb-false, length-set, get_or-set_same, get_or-set_other}
use Rattle.std.proofs.lemmas.Bool.{eqb-false}
use Rattle.std.proofs.lemmas.List.{length-replicate, get_or-replicate}
use Rattle.std.proofs.Math.ListN.{get_or-eq_default}
use Rattle.grid.specs.Loop.{upto}
use Rattle.grid.specs.LoopLaws.{upto_none, upto_more, upto_keeps}
use Rattle.leaves.specs.Compare.{lt_self}
use Rattle.svd_sort_svd_descending.specs.Order.{ahead, rank, order}

-- every place below r has a column below r
abbrev pub Below : ℕ → List ℕ → Type 0
Below r o = (k : ℕ) → k < r → get_or o k 0 < r

-- ---- how many of the first r: the sum of numbers that are 0 or 1

unfoldable pub total : (ℕ → ℕ) → ℕ → ℕ
total f r = upto (λ j n. n + f j) 0 r 0

pub total_none : (f : ℕ → ℕ) → total f 0 ≡ 0
unfolding total
total_none f = upto_none (λ j n. n + f j) 0 0

pub total_more : (f : ℕ → ℕ) (r : ℕ) → total f (suc r) ≡ total f r + f r
unfolding total
total_more f r = ap (total f) (sym (add-one r)) ∙ upto_more (λ j n. n + f j) 0 r 0 (omega arith)

pub total_le : (f : ℕ → ℕ) (r : ℕ) → ((j : ℕ) → f j ≤ 1) → total f r ≤ r
total_le f zero b = omega (arith, total_none f)
total_le f (suc r) b = omega (arith, total_more f r, total_le f r b, b r)

-- one of them is 0
pub total_lt : (f : ℕ → ℕ) (k r : ℕ) → ((j : ℕ) → f j ≤ 1) → f k ≡ 0 → k < r → total f r < r
total_lt f k zero b e h = absurd (omega arith)
total_lt f k (suc r) b e h = go (ltb k r) refl (λ l. total_lt f k r b e l)
  where
    go : (t : Bool) → ltb k r ≡ t → (k < r → total f r < r) → total f (suc r) < suc r
    go true q below = omega (arith, below (ltb-true k r q), total_more f r, b r)
    go false q below =
        let same : k ≡ r = omega (arith, ltb-false k r q) in
        omega (arith, total_more f r, total_le f r b, ap f same)

abbrev pub one : Bool → ℕ
one b = cond b 1 0

pub one_le : (b : Bool) → one b ≤ 1
one_le true = omega arith
one_le false = omega arith

-- ---- the place of a column

pub ahead_self : (s : ℕ → Float) (k : ℕ) → ahead s k k ≡ false
ahead_self s k = rw (lt_self (s k), le-ltb k k (omega arith))

pub rank_total : (s : ℕ → Float) (r k : ℕ) → rank s r k ≡ total (λ j. one (ahead s j k)) r
unfolding rank total
rank_total s r k = refl

pub rank_lt : (s : ℕ → Float) (r k : ℕ) → k < r → rank s r k < r
rank_lt s r k h =
    rw (rank_total s r k)
    (total_lt (λ j. one (ahead s j k)) k r (λ j. one_le (ahead s j k)) (ap one (ahead_self s k)) h)

-- the sum along a range, and so the count of those before column k
range_more : (f : ℕ → ℕ) (b a n : ℕ) → fold (λ c x. c + f x) b (range_with_len a (suc n)) ≡ fold (λ c x. c + f x) b (range_with_len a n) + f (a + n)
range_more f b a zero = ap (λ (k : ℕ). b + f k) (sym (add-zero a))
range_more f b a (suc n) =
    let e : a + 1 + n ≡ a + suc n = omega arith in
    range_more f (b + f a) (a + 1) n ∙ ap (λ (k : ℕ). fold (λ c x. c + f x) (b + f a) (range_with_len (a + 1) n) + f k) e

range_total : (f : ℕ → ℕ) (r : ℕ) → sum_by f (range_with_len 0 r) ≡ total f r
range_total f zero = sym (total_none f)
range_total f (suc r) = omega (arith, range_more f 0 0 r, range_total f r, total_more f r, ap f (zero-add r))

pub rank_counted : (s : ℕ → Float) (r k : ℕ) → count_by (λ j. ahead s j k) (range_with_len 0 r) ≡ rank s r k
rank_counted s r k = range_total (λ j. one (ahead s j k)) r ∙ sym (rank_total s r k)

-- ---- the column at a place

pub set_below : (x : List ℕ) (p j k r : ℕ) → j < r → get_or x k 0 < r → get_or (set x p j) k 0 < r
set_below x p j k r a b = go (eqb k p) refl
  where
    here : (t : Bool) → ltb p (length x) ≡ t → k ≡ p → get_or (set x p j) k 0 < r
    here true q e = rw (e, get_or-set_same x p j 0 (ltb-true p (length x) q)) a
    here false q e =
        let past : length (set x p j) ≤ k = omega (arith, ltb-false p (length x) q, length-set x p j) in
        rw (get_or-eq_default (set x p j) 0 past) (omega arith)

    go : (t : Bool) → eqb k p ≡ t → get_or (set x p j) k 0 < r
    go true q = here (ltb p (length x)) refl (eqb-true _ _ q)
    go false q = rw (get_or-set_other x p k j 0 (eqb-false _ _ q)) b

-- each column is noted at its place
abbrev pub note_step : (ℕ → Float) → ℕ → ℕ → List ℕ → List ℕ
note_step s r k o = set o (rank s r k) k

unfoldable pub noted : (ℕ → Float) → ℕ → List ℕ → List ℕ
noted s r o = upto (note_step s r) 0 r o

pub noted_below : (s : ℕ → Float) (r : ℕ) → r ≤ 256 → Below r (noted s r (replicate 256 0))
unfolding noted
noted_below s r h =
    upto_keeps (λ x y. Below r x) (note_step s r) (note_step s r) 0 r (replicate 256 0) (replicate 256 0)
    (λ j x y a b below k l. set_below x (rank s r j) j k r b (below k l))
    (λ k l. rw (get_or-replicate {A = ℕ} 256 k 0 0 (omega arith)) (omega arith))

abbrev pub place_step : (ℕ → Float) → ℕ → ℕ → ℕ → ℕ → ℕ
place_step s r t k c = cond (eqb (rank s r k) t) k c

pub order_below : (s : ℕ → Float) (r k : ℕ) → k < r → order s r k < r
unfolding order
order_below s r k l = upto_keeps (λ x y. x < r) (place_step s r k) (place_step s r k) 0 r 0 0 (λ j x y a b h. either (eqb (rank s r j) k) j x b h) (omega arith)
  where
    either : (t : Bool) (i j : ℕ) → i < r → j < r → cond t i j < r
    either true i j p q = p
    either false i j p q = q

set_there : (x : List ℕ) (p j t : ℕ) → t < length x → get_or (set x p j) t 0 ≡ cond (eqb p t) j (get_or x t 0)
set_there x p j t h = go (eqb p t) refl
  where
    go : (b : Bool) → eqb p t ≡ b → get_or (set x p j) t 0 ≡ cond b j (get_or x t 0)
    go true e = ap (λ (q : ℕ). get_or (set x p j) q 0) (sym (eqb-true p t e)) ∙ get_or-set_same x p j 0 (rw (eqb-true p t e) h)
    go false e = get_or-set_other x p t j 0 (λ q. eqb-false p t e (sym q))

module _ (s : ℕ → Float) (r t : ℕ) (o : List ℕ) (h : t < length o) where
  there : (j : ℕ) → (length (upto (note_step s r) 0 j o) ≡ length o) × (get_or (upto (note_step s r) 0 j o) t 0 ≡ upto (place_step s r t) 0 j (get_or o t 0))
  there zero = (ap length (upto_none (note_step s r) 0 o), ap (λ (x : List ℕ). get_or x t 0) (upto_none (note_step s r) 0 o) ∙ sym (upto_none (place_step s r t) 0 (get_or o t 0)))
  there (suc j) =
      let x : List ℕ = upto (note_step s r) 0 j o in
      let p = there j in
      rw (← add-one j) (
        ap length (upto_more (note_step s r) 0 j o (omega arith)) ∙ length-set x (rank s r j) j ∙ p.0,
        ap (λ (y : List ℕ). get_or y t 0) (upto_more (note_step s r) 0 j o (omega arith)) ∙ set_there x (rank s r j) j t (omega (arith, h, p.0))
            ∙ ap (cond (eqb (rank s r j) t) j) p.1 ∙ sym (upto_more (place_step s r t) 0 j (get_or o t 0) (omega arith)),
      )

-- what is noted at a place is the column that comes to it
pub order_noted : (s : ℕ → Float) (r t : ℕ) → t < 256 → get_or (noted s r (replicate 256 0)) t 0 ≡ order s r t
unfolding noted order
order_noted s r t h =
    (there s r t (replicate 256 0) (omega (arith, length-replicate {A = ℕ} 256 0)) r).1
    ∙ ap (upto (place_step s r t) 0 r) (get_or-replicate {A = ℕ} 256 t 0 0 h)
