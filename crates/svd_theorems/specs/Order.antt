-- T7: the order is the stable descending one. Laws only.
-- Counting gives each column a place of its own, before every column that comes after it; and as many places as columns leave none free.
use Rattle.std.specs.Prelude.{◌≡◌, Bool, ℕ, zero, suc, ◌+◌, ◌<◌, ◌≤◌, ltb, Float}
use Rattle.std.proofs.Math.Path.{refl}
use Rattle.std.proofs.Common.{sym, ap, ◌∙◌, true≢false, arith}
use Rattle.std.proofs.Math.Bool.{true, false, cond}
use borrow.Author.Tests.{ltb-true, ltb-false, lt-ltb, eqb-true, eqb-false}
use Rattle.std.proofs.Math.Dec.{eqb}
use Rattle.std.specs.Float.Ieee.{lt}
use Rattle.grid.specs.LoopLaws.{upto_both}
use Rattle.leaves.specs.Leaf.{is_finite}
use Rattle.svd_sort_svd_descending.specs.Order.{ahead, rank, order}
use Rattle.svd_sort_svd_descending.specs.Rank.{total, total_none, total_more, one, ahead_self, rank_total, rank_lt, place_step, order_below}
use Rattle.svd_theorems.specs.Document.{Sorted}
use Rattle.leaves.specs.Compare.{lt_chain, lt_turn, le_of_not, not_of_eq}

-- ---- sums that differ

total_same_or_less : (f g : ℕ → ℕ) (r : ℕ) → ((j : ℕ) → j < r → f j ≤ g j) → total f r ≤ total g r
total_same_or_less f g zero h = omega (arith, total_none f, total_none g)
total_same_or_less f g (suc r) h =
    omega (arith, total_more f r, total_more g r, h r (omega arith), total_same_or_less f g r (λ j l. h j (omega arith)))

total_less : (f g : ℕ → ℕ) (r i : ℕ) → ((j : ℕ) → j < r → f j ≤ g j) → i < r → f i < g i → total f r < total g r
total_less f g zero i h l e = absurd (omega arith)
total_less f g (suc r) i h l e = go (ltb i r) refl (λ b. total_less f g r i (λ j l. h j (omega arith)) b e)
  where
    go : (t : Bool) → ltb i r ≡ t → (i < r → total f r < total g r) → total f (suc r) < total g (suc r)
    go true q rest = omega (arith, rest (ltb-true i r q), total_more f r, total_more g r, h r (omega arith))
    go false q rest =
        let same : i ≡ r = omega (arith, ltb-false i r q) in
        omega (arith, total_more f r, total_more g r, ap f same, ap g same, total_same_or_less f g r (λ j l. h j (omega arith)))

-- ---- as many places as columns, and no place twice: none is free

-- f with n taken out of its values: where f gives n it gives what f gives at n
moved : (ℕ → ℕ) → ℕ → ℕ → ℕ
moved f n i = cond (eqb (f i) n) (f n) (f i)

moved_there : (f : ℕ → ℕ) (n i : ℕ) → eqb (f i) n ≡ true → moved f n i ≡ f n
unfolding moved
moved_there f n i e = rw e

moved_not : (f : ℕ → ℕ) (n i : ℕ) → eqb (f i) n ≡ false → moved f n i ≡ f i
unfolding moved
moved_not f n i e = rw e

full : (n : ℕ) (f : ℕ → ℕ) → ((i : ℕ) → i < n → f i < n) → ((i j : ℕ) → i < n → j < n → f i ≡ f j → i ≡ j)
    → (p : ℕ) → p < n → (i : ℕ) × (i < n) × (f i ≡ p)
full zero f b d p l = absurd (omega arith)
full (suc n) f b d p l = go (eqb (f n) p) refl (full n (moved f n) small apart)
  where
    small : (i : ℕ) → i < n → moved f n i < n
    small i h = pick (eqb (f i) n) refl
      where
        pick : (t : Bool) → eqb (f i) n ≡ t → moved f n i < n
        pick true e =
            let other : f n ≡ n → ⊥ = λ q. omega (arith, d i n (omega arith) (omega arith) (eqb-true (f i) n e ∙ sym q)) in
            rw (moved_there f n i e) (omega (arith, b n (omega arith), other))
        pick false e = rw (moved_not f n i e) (omega (arith, b i (omega arith), eqb-false (f i) n e))

    apart : (i j : ℕ) → i < n → j < n → moved f n i ≡ moved f n j → i ≡ j
    apart i j h k q = pick (eqb (f i) n) refl (eqb (f j) n) refl
      where
        pick : (t : Bool) → eqb (f i) n ≡ t → (u : Bool) → eqb (f j) n ≡ u → i ≡ j
        pick true e true g = d i j (omega arith) (omega arith) (eqb-true (f i) n e ∙ sym (eqb-true (f j) n g))
        pick true e false g =
            let same : n ≡ j = d n j (omega arith) (omega arith) (sym (moved_there f n i e) ∙ q ∙ moved_not f n j g) in
            absurd (omega arith)
        pick false e true g =
            let same : i ≡ n = d i n (omega arith) (omega arith) (sym (moved_not f n i e) ∙ q ∙ moved_there f n j g) in
            absurd (omega arith)
        pick false e false g = d i j (omega arith) (omega arith) (sym (moved_not f n i e) ∙ q ∙ moved_not f n j g)

    go : (t : Bool) → eqb (f n) p ≡ t → ((p : ℕ) → p < n → (i : ℕ) × (i < n) × (moved f n i ≡ p)) → (i : ℕ) × (i < suc n) × (f i ≡ p)
    go true e rest = (n, omega arith, eqb-true (f n) p e)
    go false e rest = place (ltb p n) refl
      where
        -- a place below n, which is not f n, is where moved f takes some i, and so does f
        lower : (i : ℕ) → i < n → moved f n i ≡ p → (t : Bool) → eqb (f i) n ≡ t → (i : ℕ) × (i < suc n) × (f i ≡ p)
        lower i h q true g = absurd (eqb-false (f n) p e (sym (moved_there f n i g) ∙ q))
        lower i h q false g = (i, omega arith, sym (moved_not f n i g) ∙ q)

        -- n itself is where f takes the i that moved f takes to f n
        upper : (i : ℕ) → i < n → moved f n i ≡ f n → p ≡ n → (t : Bool) → eqb (f i) n ≡ t → (i : ℕ) × (i < suc n) × (f i ≡ p)
        upper i h q same true g = (i, omega arith, eqb-true (f i) n g ∙ sym same)
        upper i h q same false g =
            let twice : i ≡ n = d i n (omega arith) (omega arith) (sym (moved_not f n i g) ∙ q) in
            absurd (omega arith)

        place : (t : Bool) → ltb p n ≡ t → (i : ℕ) × (i < suc n) × (f i ≡ p)
        place true g =
            let r = rest p (ltb-true p n g) in
            lower r.0 r.1 r.2 (eqb (f r.0) n) refl
        place false g =
            let same : p ≡ n = omega (arith, ltb-false p n g) in
            let r = rest (f n) (omega (arith, b n (omega arith), eqb-false (f n) p e)) in
            upper r.0 r.1 r.2 same (eqb (f r.0) n) refl

-- ---- the order of the columns

module _ (s : ℕ → Float) (r : ℕ) (finite : (k : ℕ) → k < r → is_finite (s k) ≡ true) where
  -- which of the two comes first
  ahead_greater : (i j : ℕ) → lt (s j) (s i) ≡ true → ahead s i j ≡ true
  ahead_greater i j e = rw e

  ahead_lower : (i j : ℕ) → lt (s i) (s j) ≡ false → i < j → ahead s i j ≡ true
  ahead_lower i j e l = go (lt (s j) (s i)) refl
    where
      go : (t : Bool) → lt (s j) (s i) ≡ t → ahead s i j ≡ true
      go true g = rw g
      go false g = rw (g, e, lt-ltb i j l)

  ahead_not_less : (i j : ℕ) → ahead s i j ≡ true → lt (s i) (s j) ≡ false
  ahead_not_less i j h = go (lt (s j) (s i)) refl (lt (s i) (s j)) refl
    where
      go : (t : Bool) → lt (s j) (s i) ≡ t → (u : Bool) → lt (s i) (s j) ≡ u → lt (s i) (s j) ≡ false
      go true e u g = lt_turn (s j) (s i) e
      go false e true g = absurd (true≢false (sym (rw (e, g) at h)))
      go false e false g = g

  ahead_index : (i j : ℕ) → ahead s i j ≡ true → lt (s j) (s i) ≡ false → i < j
  ahead_index i j h e = ltb-true i j (rw (e, ahead_not_less i j h) at h)

  ahead_trans : (i j k : ℕ) → i < r → j < r → k < r → ahead s i j ≡ true → ahead s j k ≡ true → ahead s i k ≡ true
  ahead_trans i j k a b c p q = go (lt (s k) (s i)) refl
    where
      -- where k is not below i, neither step went down, so both went up in index
      go : (t : Bool) → lt (s k) (s i) ≡ t → ahead s i k ≡ true
      go true e = ahead_greater i k e
      go false e =
          let f = finite in
          let ij = ahead_index i j p (lt_chain (s j) (s k) (s i) (f j b) (f k c) (f i a) (ahead_not_less j k q) e) in
          let jk = ahead_index j k q (lt_chain (s k) (s i) (s j) (f k c) (f i a) (f j b) e (ahead_not_less i j p)) in
          ahead_lower i k (lt_chain (s i) (s j) (s k) (f i a) (f j b) (f k c) (ahead_not_less i j p) (ahead_not_less j k q)) (omega arith)

  ahead_total : (i j : ℕ) → (i ≡ j → ⊥) → ahead s i j ≡ false → ahead s j i ≡ true
  ahead_total i j d h = go (lt (s j) (s i)) refl (lt (s i) (s j)) refl
    where
      go : (t : Bool) → lt (s j) (s i) ≡ t → (u : Bool) → lt (s i) (s j) ≡ u → ahead s j i ≡ true
      go true e u g = absurd (true≢false (sym (ahead_greater i j e) ∙ h))
      go false e true g = ahead_greater j i g
      go false e false g = ahead_lower j i e (omega (arith, d, ltb-false i j (rw (e, g) at h)))

  -- what comes before has the lower place
  rank_less : (i j : ℕ) → i < r → j < r → ahead s i j ≡ true → rank s r i < rank s r j
  rank_less i j a b p =
      rw (rank_total s r i, rank_total s r j)
      (total_less (λ l. one (ahead s l i)) (λ l. one (ahead s l j)) r i (λ l h. fewer l h (ahead s l i) refl) a
      (rw (ahead_self s i, p) (omega arith)))
    where
      fewer : (l : ℕ) → l < r → (t : Bool) → ahead s l i ≡ t → one (ahead s l i) ≤ one (ahead s l j)
      fewer l h true e = rw (e, ahead_trans l i j h a b e p) (omega arith)
      fewer l h false e = rw e (omega arith)

  rank_apart : (i j : ℕ) → i < r → j < r → rank s r i ≡ rank s r j → i ≡ j
  rank_apart i j a b q = go (eqb i j) refl (ahead s i j) refl
    where
      go : (t : Bool) → eqb i j ≡ t → (u : Bool) → ahead s i j ≡ u → i ≡ j
      go true e u g = eqb-true i j e
      go false e true g = absurd (omega (arith, rank_less i j a b g))
      go false e false g = absurd (omega (arith, rank_less j i b a (ahead_total i j (eqb-false i j e) g)))

  -- the column that comes to the place of k is k
  order_at : (k : ℕ) → k < r → order s r (rank s r k) ≡ k
  unfolding order
  order_at k h = upto_both (λ n c d. k < n → c ≡ k) (place_step s r (rank s r k)) (place_step s r (rank s r k)) 0 r 0 0 (omega arith) (λ j c d a b g. turn j c b g) (λ l. absurd (omega arith)) h
    where
      turn : (j c : ℕ) → j < r → (k < j → c ≡ k) → k < j + 1 → place_step s r (rank s r k) j c ≡ k
      turn j c b g l = go (eqb (rank s r j) (rank s r k)) refl
        where
          go : (t : Bool) → eqb (rank s r j) (rank s r k) ≡ t → cond t j c ≡ k
          go true e = rank_apart j k b h (eqb-true _ _ e)
          go false e =
              let other : k ≡ j → ⊥ = λ q. eqb-false _ _ e (ap (rank s r) (sym q)) in
              g (omega arith)

  -- and the column that comes to a place has that place
  rank_at : (p : ℕ) → p < r → rank s r (order s r p) ≡ p
  rank_at p h =
      let f = full r (rank s r) (rank_lt s r) rank_apart p h in
      ap (λ (q : ℕ). rank s r (order s r q)) (sym f.2) ∙ ap (rank s r) (order_at f.0 f.1) ∙ f.2

  -- of two places the lower has the column that comes first
  order_ahead : (p q : ℕ) → p < q → q < r → ahead s (order s r p) (order s r q) ≡ true
  order_ahead p q h l = go (ahead s (order s r p) (order s r q)) refl
    where
      i : ℕ
      i = order s r p

      j : ℕ
      j = order s r q

      first : rank s r i ≡ p
      first = rank_at p (omega arith)

      second : rank s r j ≡ q
      second = rank_at q l

      go : (t : Bool) → ahead s i j ≡ t → ahead s i j ≡ true
      go true e = e
      go false e =
          absurd
          (omega (
            arith,
            first,
            second,
            rank_less j i (order_below s r q l) (order_below s r p (omega arith))
                (ahead_total i j (λ (same : i ≡ j). omega (arith, first, second, ap (rank s r) same)) e),
          ))

  pub order_sorted : r ≤ 256 → Sorted s r (order s r)
  order_sorted few =
      record {
        within = order_below s r;
        there = λ k h. (rank s r k, rank_lt s r k h, order_at k h);
        once = λ p q h l e. sym (rank_at p h) ∙ ap (rank s r) e ∙ rank_at q l;
        descends =
            λ p q h l. le_of_not (s (order s r p)) (s (order s r q)) (finite _ (order_below s r p (omega arith))) (finite _ (order_below s r q l))
            (ahead_not_less _ _ (order_ahead p q h l));
        stable = λ p q h l e. ahead_index _ _ (order_ahead p q h l) (not_of_eq (s (order s r p)) (s (order s r q)) e);
      }
