-- T32: after any series of tiles each figure of the tally is the one counted from the list of the tiles that were added (`counted`), which those are (`taken_accepted`), and what each tile is answered (`answered`, of the call `replied`, `refused_stays`). Laws only.
use Rattle.std.specs.Prelude.{◌≡◌, refl, Bool, true, false, cond, ◌⊎◌, List, [], ◌∷◌, ◌++◌, ℕ, zero, suc, ◌+◌, ◌*◌, ◌≤◌, ◌<◌, ltb, leb, eqb, length, get_or, set, take}
use Rattle.std.proofs.Common.{sym, ap, ◌∙◌, inl, inr, ⊎_elim, append-nil, append_assoc, not-suc-le-zero, le_antisymm, add-one, arith, ltb-true, ltb-false, leb-true, le-ltb, le-leb, eqb-true, eq-eqb, ne_eqb, length-append, length-set, ext_get_or, get_or-set_same, get_or-set_other}
use Rattle.std.proofs.lemmas.Bool.{eqb-false}
use Rattle.std.proofs.Math.ListN.{get_or-append}
use Rattle.std.proofs.lemmas.List.{get_or_at}
use Rattle.tally_definition.specs.Figures.{Tile, count, table, counts, total, larger, most, place, first, good, goods, accepted}
use Rattle.tally_definition.specs.Tallies.{Reply, small, fit, refusal, next, outcome, none}
use Rattle.tally_definition.specs.Series.{figures, series, taken_of}
use Rattle.tally_definition.specs.TallyLaws.{Taken, takes}
use Rattle.grid.specs.LoopLaws.{below_cases, both, every_all}
use Rattle.tally_definition.specs.declared.Tally.{Tally}

-- ---- one tile more at the end of a list

abbrev more : List Tile → Tile → List Tile
more l x = l ++ (x ∷ [])

more_length : (l : List Tile) (x : Tile) → length (more l x) ≡ length l + 1
more_length l x = length-append l (x ∷ [])

more_count : (a : ℕ) (l : List Tile) (x : Tile) → count a (more l x) ≡ count a l + cond (eqb x.answer a) 1 0
unfolding count
more_count a [] x = omega arith
more_count a (y ∷ l) x = rw (more_count a l x) (omega arith)

more_total : (l : List Tile) (x : Tile) → total (more l x) ≡ total l + x.passes
unfolding total
more_total [] x = omega arith
more_total (y ∷ l) x = rw (more_total l x) (omega arith)

-- the larger of two
larger_right : (m n : ℕ) → m ≤ n → larger m n ≡ n
larger_right m n h = go (ltb m n) refl
  where
    go : (b : Bool) → ltb m n ≡ b → larger m n ≡ n
    go true e = rw e
    go false e = rw e (le_antisymm h (ltb-false m n e))

larger_left : (m n : ℕ) → n ≤ m → larger m n ≡ m
larger_left m n h = rw (le-ltb m n h)

larger_cases : (m n : ℕ) → ((m < n) × (larger m n ≡ n)) ⊎ ((n ≤ m) × (larger m n ≡ m))
larger_cases m n = go (ltb m n) refl
  where
    go : (b : Bool) → ltb m n ≡ b → ((m < n) × (larger m n ≡ n)) ⊎ ((n ≤ m) × (larger m n ≡ m))
    go true e = inl (ltb-true m n e, rw e)
    go false e = inr (ltb-false m n e, rw e)

larger_assoc : (a b c : ℕ) → larger a (larger b c) ≡ larger (larger a b) c
larger_assoc a b c = ⊎_elim
    (λ (u : (b < c) × (larger b c ≡ c)). ⊎_elim
    (λ (v : (a < b) × (larger a b ≡ b)). ap (larger a) u.1 ∙ larger_right a c (omega arith) ∙ sym (ap (λ (k : ℕ). larger k c) v.1 ∙ u.1))
    (λ (v : (b ≤ a) × (larger a b ≡ a)). ap (larger a) u.1 ∙ sym (ap (λ (k : ℕ). larger k c) v.1))
    (larger_cases a b))
    (λ (u : (c ≤ b) × (larger b c ≡ b)). ⊎_elim
    (λ (v : (a < b) × (larger a b ≡ b)). ap (larger a) u.1 ∙ v.1 ∙ sym (ap (λ (k : ℕ). larger k c) v.1 ∙ u.1))
    (λ (v : (b ≤ a) × (larger a b ≡ a)). ap (larger a) u.1 ∙ v.1 ∙ sym (ap (λ (k : ℕ). larger k c) v.1 ∙ larger_left a c (omega arith)))
    (larger_cases a b))
    (larger_cases b c)

more_most : (l : List Tile) (x : Tile) → most (more l x) ≡ larger (most l) x.passes
unfolding most
more_most [] x = larger_left x.passes 0 (omega arith) ∙ sym (larger_right 0 x.passes (omega arith))
more_most (y ∷ l) x = ap (larger y.passes) (more_most l x) ∙ larger_assoc y.passes (most l) x.passes

most_head : (y : Tile) (l : List Tile) → y.passes ≤ most (y ∷ l)
unfolding most
most_head y l = ⊎_elim
    (λ (u : (y.passes < most l) × (larger y.passes (most l) ≡ most l)). rw u.1 (omega (arith, u.0)))
    (λ (u : (most l ≤ y.passes) × (larger y.passes (most l) ≡ y.passes)). rw u.1 (omega arith))
    (larger_cases y.passes (most l))

most_tail : (y : Tile) (l : List Tile) → most l ≤ most (y ∷ l)
unfolding most
most_tail y l = ⊎_elim
    (λ (u : (y.passes < most l) × (larger y.passes (most l) ≡ most l)). rw u.1 (omega arith))
    (λ (u : (most l ≤ y.passes) × (larger y.passes (most l) ≡ y.passes)). rw u.1 u.0)
    (larger_cases y.passes (most l))

-- ---- the first that has the most

place_bound : (m : ℕ) (l : List Tile) → place m l ≤ length l
unfolding place
place_bound m [] = omega arith
place_bound m (y ∷ l) = go (eqb y.passes m) (place_bound m l)
  where
    go : (b : Bool) → place m l ≤ length l → cond b 0 (suc (place m l)) ≤ suc (length l)
    go true h = omega arith
    go false h = omega arith

-- more passes than any: the new tile's place
place_new : (l : List Tile) (x : Tile) → most l < x.passes → place x.passes (more l x) ≡ length l
unfolding place
place_new [] x h = rw (eq-eqb x.passes x.passes refl)
place_new (y ∷ l) x h =
    rw (ne_eqb y.passes x.passes (λ (e : y.passes ≡ x.passes). omega (arith, most_head y l)), place_new l x (omega (arith, most_tail y l)))

-- a place in the list is the same in a longer one
place_old : (m : ℕ) (l : List Tile) (x : Tile) → place m l < length l → place m (more l x) ≡ place m l
unfolding place
place_old m [] x h = absurd (not-suc-le-zero h)
place_old m (y ∷ l) x h = go (eqb y.passes m) h (place_old m l x)
  where
    go : (b : Bool) → cond b 0 (suc (place m l)) < suc (length l) → (place m l < length l → place m (more l x) ≡ place m l)
        → cond b 0 (suc (place m (more l x))) ≡ cond b 0 (suc (place m l))
    go true g f = refl
    go false g f = ap suc (f (omega arith))

place_next : (m : ℕ) (y : Tile) (l : List Tile) → (y.passes ≡ m → ⊥) → place m (y ∷ l) ≡ suc (place m l)
unfolding place
place_next m y l h = rw (ne_eqb y.passes m h)

place_first : (m : ℕ) (y : Tile) (l : List Tile) → y.passes ≡ m → place m (y ∷ l) ≡ 0
unfolding place
place_first m y l h = rw (eq-eqb y.passes m h)

most_next : (y : Tile) (l : List Tile) → most (y ∷ l) ≡ larger y.passes (most l)
unfolding most
most_next y l = refl

most_one : (y : Tile) → y.passes ≡ most (y ∷ [])
unfolding most
most_one y = sym (larger_left y.passes 0 (omega arith))

-- where there is a tile, one has the most
place_most : (y : Tile) (l : List Tile) → place (most (y ∷ l)) (y ∷ l) < length (y ∷ l)
place_most y [] = let e : place (most (y ∷ [])) (y ∷ []) ≡ 0 = place_first (most (y ∷ [])) y [] (most_one y) in omega (arith, e)
place_most y (z ∷ l) = ⊎_elim
    (λ (u : (y.passes < most (z ∷ l)) × (larger y.passes (most (z ∷ l)) ≡ most (z ∷ l))).
    let e : most (y ∷ z ∷ l) ≡ most (z ∷ l) = most_next y (z ∷ l) ∙ u.1 in
    let n : place (most (y ∷ z ∷ l)) (y ∷ z ∷ l) ≡ suc (place (most (z ∷ l)) (z ∷ l)) =
    ap (λ (m : ℕ). place m (y ∷ z ∷ l)) e ∙ place_next (most (z ∷ l)) y (z ∷ l) (λ (q : y.passes ≡ most (z ∷ l)). omega (arith, u.0)) in
    omega (arith, n, place_most z l))
    (λ (u : (most (z ∷ l) ≤ y.passes) × (larger y.passes (most (z ∷ l)) ≡ y.passes)).
    let n : place (most (y ∷ z ∷ l)) (y ∷ z ∷ l) ≡ 0 = place_first (most (y ∷ z ∷ l)) y (z ∷ l) (sym (most_next y (z ∷ l) ∙ u.1)) in
    omega (arith, n))
    (larger_cases y.passes (most (z ∷ l)))

place_kept : (l : List Tile) (x : Tile) → x.passes ≤ most l → place (most l) (more l x) ≡ place (most l) l
unfolding place most
place_kept [] x h = rw (eq-eqb x.passes 0 (omega arith))
place_kept (y ∷ l) x h = place_old (most (y ∷ l)) (y ∷ l) x (place_most y l)

more_first : (l : List Tile) (x : Tile) → first (more l x) ≡ cond (ltb (most l) x.passes) (length l) (first l)
unfolding first
more_first l x = ap (λ (m : ℕ). place m (more l x)) (more_most l x) ∙ go (ltb (most l) x.passes) refl
  where
    go : (b : Bool) → ltb (most l) x.passes ≡ b → place (cond b x.passes (most l)) (more l x) ≡ cond b (length l) (place (most l) l)
    go true e = place_new l x (ltb-true (most l) x.passes e)
    go false e = place_kept l x (ltb-false (most l) x.passes e)

-- ---- the counts

table_length : (f : ℕ → ℕ) (m : ℕ) → length (table f m) ≡ m
unfolding table
table_length f zero = refl
table_length f (suc m) = length-append (table f m) (f m ∷ []) ∙ rw (table_length f m, add-one)

pub table_at : (f : ℕ → ℕ) (m k : ℕ) → k < m → get_or (table f m) k 0 ≡ f k
unfolding table
table_at f zero k l = absurd (not-suc-le-zero l)
table_at f (suc m) k l = ⊎_elim
    (λ (j : k < m). get_or-append (table f m) (f m ∷ []) 0 k (rw (table_length f m) j) ∙ table_at f m k j)
    (λ (j : k ≡ m). rw j (get_or_at (table f m) (f m) [] 0 m (table_length f m)))
    (below_cases k m l)

more_counts : (l : List Tile) (x : Tile) → x.answer < 16 → set (counts l) x.answer (get_or (counts l) x.answer 0 + 1) ≡ counts (more l x)
more_counts l x h = ext_get_or 0 (set (counts l) x.answer c) (counts (more l x)) (size ∙ sym (table_length _ 16)) (λ i b. each i (rw size at b) (eqb x.answer i) refl)
  where
    c : ℕ
    c = get_or (counts l) x.answer 0 + 1

    size : length (set (counts l) x.answer c) ≡ 16
    size = length-set (counts l) x.answer c ∙ table_length (λ a. count a l) 16

    new : (i : ℕ) → i < 16 → (b : Bool) → eqb x.answer i ≡ b → get_or (counts (more l x)) i 0 ≡ count i l + cond b 1 0
    new i g b e = table_at (λ a. count a (more l x)) 16 i g ∙ more_count i l x ∙ ap (λ (t : Bool). count i l + cond t 1 0) e

    each : (i : ℕ) → i < 16 → (b : Bool) → eqb x.answer i ≡ b → get_or (set (counts l) x.answer c) i 0 ≡ get_or (counts (more l x)) i 0
    each i g true e =
        let w : x.answer ≡ i = eqb-true x.answer i e in
        ap (λ (k : ℕ). get_or (set (counts l) x.answer c) k 0) (sym w)
        ∙ get_or-set_same (counts l) x.answer c 0 (rw (table_length (λ a. count a l) 16) h)
        ∙ ap (λ (k : ℕ). k + 1) (table_at (λ a. count a l) 16 x.answer h ∙ ap (λ (k : ℕ). count k l) w)
        ∙ sym (new i g true e)
    each i g false e =
        get_or-set_other (counts l) x.answer i c 0 (λ (w : i ≡ x.answer). eqb-false x.answer i e (sym w))
        ∙ table_at (λ a. count a l) 16 i g ∙ omega arith ∙ sym (new i g false e)

-- the rule's step is the figures' step
pub next_figures : (l : List Tile) (x : Tile) → x.answer < 16 → next (figures l) x.answer x.passes ≡ figures (more l x)
unfolding next
next_figures l x h = rw (more_length l x, more_total l x, more_most l x, more_first l x, ← more_counts l x h)

-- ---- a series

-- no tile of the list has more than 15,360 passes
unfoldable pub Short : List Tile → Type 0
Short [] = Unit {0}
Short (x ∷ l) = (x.passes ≤ 15360) × Short l

more_short : (l : List Tile) (x : Tile) → Short l → x.passes ≤ 15360 → Short (more l x)
unfolding Short
more_short [] x s h = (h, tt)
more_short (y ∷ l) x s h = (s.0, more_short l x s.1 h)

total_bound : (l : List Tile) → Short l → total l ≤ 15360 * length l
unfolding Short total
total_bound [] s = omega arith
total_bound (y ∷ l) s = omega (arith, s.0, total_bound l s.1)

most_bound : (l : List Tile) → Short l → most l ≤ 15360
unfolding Short most
most_bound [] s = omega arith
most_bound (y ∷ l) s = ⊎_elim
    (λ (u : (y.passes < most l) × (larger y.passes (most l) ≡ most l)). rw u.1 (most_bound l s.1))
    (λ (u : (most l ≤ y.passes) × (larger y.passes (most l) ≡ y.passes)). rw u.1 s.0)
    (larger_cases y.passes (most l))

count_bound : (a : ℕ) (l : List Tile) → count a l ≤ length l
unfolding count
count_bound a [] = omega arith
count_bound a (y ∷ l) = go (eqb y.answer a) (count_bound a l)
  where
    go : (b : Bool) → count a l ≤ length l → cond b 1 0 + count a l ≤ suc (length l)
    go true h = omega arith
    go false h = omega arith

-- a tile in range is taken while there are less than 65,536
room : (l : List Tile) (x : Tile) → Short l → length l < 65536 → x.answer ≤ 15 → x.passes ≤ 15360 → Taken (figures l) x.answer x.passes
unfolding small first
room l x s h a p =
    record {
      answers = a;
      short = p;
      room = h;
      sum = omega (arith, total_bound l s);
      top = most_bound l s;
      place = omega (arith, place_bound (most l) l);
      each = every_all (λ a. leb (get_or (counts l) a 0) 65536) 16
          (λ i g. le-leb (get_or (counts l) i 0) 65536 (rw (table_at (λ k. count k l) 16 i g) (omega (arith, count_bound i l))));
    }

-- the answers to a tile that comes after a list of tiles
pub wide : (t : Tally) (x : Tile) → good x ≡ false → refusal t x.answer x.passes ≡ 38
unfolding refusal
wide t x e = rw e

pub in_range_lem : (x : Tile) → good x ≡ true → (x.answer ≤ 15) × (x.passes ≤ 15360)
in_range_lem x e =
    let w = both (leb x.answer 15) (leb x.passes 15360) e in
    (leb-true x.answer 15 w.0, leb-true x.passes 15360 w.1)

pub full : (t : Tally) (x : Tile) → good x ≡ true → 65536 ≤ t.tiles → refusal t x.answer x.passes ≡ 36
unfolding refusal fit
full t x e h = rw (e, le-ltb t.tiles 65536 h)

pub free : (l : List Tile) (x : Tile) → Short l → length l < 65536 → good x ≡ true → refusal (figures l) x.answer x.passes ≡ 0
free l x s h e = takes (figures l) x.answer x.passes (room l x s h (in_range_lem x e).0 (in_range_lem x e).1)

stays : (t : Tally) (x : Tile) (r : ℕ) → refusal t x.answer x.passes ≡ r → 0 < r → (outcome t x.answer x.passes).tally ≡ t
unfolding outcome
stays t x r e h = rw (e, ne_eqb r 0 (λ (z : r ≡ 0). omega arith))

grows : (l : List Tile) (x : Tile) → Short l → length l < 65536 → good x ≡ true → (outcome (figures l) x.answer x.passes).tally ≡ figures (more l x)
unfolding outcome
grows l x s h e = rw (free l x s h e) (next_figures l x (omega (arith, (in_range_lem x e).0)))

-- a series that starts at a list's figures, with room for n more
pub series_is : (s l : List Tile) (n : ℕ) → Short l → length l + n ≡ 65536 → series (figures l) s ≡ figures (l ++ take n (goods s))
unfolding series goods
series_is [] l zero h e = ap figures (sym (append-nil l))
series_is [] l (suc n) h e = ap figures (sym (append-nil l))
series_is (x ∷ s) l n h e = go (good x) refl n e (series_is s l) (series_is s (more l x))
  where
    Goal : Bool → ℕ → Type 0
    Goal b n = series (outcome (figures l) x.answer x.passes).tally s ≡ figures (l ++ take n (cond b (x ∷ goods s) (goods s)))

    go : (b : Bool) → good x ≡ b → (n : ℕ) → length l + n ≡ 65536
        → ((n : ℕ) → Short l → length l + n ≡ 65536 → series (figures l) s ≡ figures (l ++ take n (goods s)))
        → ((n : ℕ) → Short (more l x) → length (more l x) + n ≡ 65536 → series (figures (more l x)) s ≡ figures (more l x ++ take n (goods s)))
        → Goal b n
    go false f n e same then = ap (λ (t : Tally). series t s) (stays (figures l) x 38 (wide (figures l) x f) (omega arith)) ∙ same n h e
    go true f zero e same then =
        ap (λ (t : Tally). series t s) (stays (figures l) x 36 (full (figures l) x f (omega arith)) (omega arith)) ∙ same 0 h e
    go true f (suc n) e same then =
        ap (λ (t : Tally). series t s) (grows l x h (omega arith) f)
        ∙ then n (more_short l x h (in_range_lem x f).1) (omega (arith, more_length l x))
        ∙ ap figures (append_assoc l (x ∷ []) (take n (goods s)))

none_is : none ≡ figures []
unfolding none table count total most first place
none_is = refl

-- THE THEOREM: after any series from the empty tally each figure is the one counted from the list of the tiles that were added
pub counted : (s : List Tile) → series none s ≡ figures (accepted s)
unfolding Short
counted s = ap (λ (t : Tally). series t s) none_is ∙ series_is s [] 65536 tt refl

-- ---- the tiles that were added

-- the tiles that are not refused are those in range, as far as there is room
pub taken_is : (s l : List Tile) (n : ℕ) → Short l → length l + n ≡ 65536 → taken_of (figures l) s ≡ take n (goods s)
unfolding taken_of goods
taken_is [] l zero h e = refl
taken_is [] l (suc n) h e = refl
taken_is (x ∷ s) l n h e = go (good x) refl n e (taken_is s l) (taken_is s (more l x))
  where
    Goal : Bool → ℕ → Type 0
    Goal b n = cond (eqb (refusal (figures l) x.answer x.passes) 0)
        (x ∷ taken_of (outcome (figures l) x.answer x.passes).tally s) (taken_of (outcome (figures l) x.answer x.passes).tally s)
        ≡ take n (cond b (x ∷ goods s) (goods s))

    go : (b : Bool) → good x ≡ b → (n : ℕ) → length l + n ≡ 65536
        → ((n : ℕ) → Short l → length l + n ≡ 65536 → taken_of (figures l) s ≡ take n (goods s))
        → ((n : ℕ) → Short (more l x) → length (more l x) + n ≡ 65536 → taken_of (figures (more l x)) s ≡ take n (goods s))
        → Goal b n
    go false f n e same then =
        rw (stays (figures l) x 38 (wide (figures l) x f) (omega arith), wide (figures l) x f) (same n h e)
    go true f zero e same then =
        rw (stays (figures l) x 36 (full (figures l) x f (omega arith)) (omega arith), full (figures l) x f (omega arith)) (same 0 h e)
    go true f (suc n) e same then =
        rw (grows l x h (omega arith) f, free l x h (omega arith) f)
        (ap (λ (k : List Tile). x ∷ k) (then n (more_short l x h (in_range_lem x f).1) (omega (arith, more_length l x))))

pub taken_accepted : (s : List Tile) → taken_of none s ≡ accepted s
unfolding Short
taken_accepted s = ap (λ (t : Tally). taken_of t s) none_is ∙ taken_is s [] 65536 tt refl

-- the same figures, from the tiles that were not refused
pub counted_taken : (s : List Tile) → series none s ≡ figures (taken_of none s)
counted_taken s = counted s ∙ ap figures (sym (taken_accepted s))

-- what a tile that comes after a series is answered: 38 out of range, 36 after 65,536 that were added, and 0
goods_short : (s : List Tile) (n : ℕ) → Short (take n (goods s))
unfolding Short goods
goods_short [] zero = tt
goods_short [] (suc n) = tt
goods_short (x ∷ s) n = go (good x) refl n (goods_short s)
  where
    go : (b : Bool) → good x ≡ b → (n : ℕ) → ((n : ℕ) → Short (take n (goods s))) → Short (take n (cond b (x ∷ goods s) (goods s)))
    go false f n same = same n
    go true f zero same = tt
    go true f (suc n) same = ((in_range_lem x f).1, same n)

pub answered : (s : List Tile) (x : Tile) → refusal (series none s) x.answer x.passes
    ≡ cond (good x) (cond (ltb (length (accepted s)) 65536) 0 36) 38
answered s x = ap (λ (t : Tally). refusal t x.answer x.passes) (counted s) ∙ go (good x) refl (ltb (length (accepted s)) 65536) refl
  where
    go : (b : Bool) → good x ≡ b → (c : Bool) → ltb (length (accepted s)) 65536 ≡ c → refusal (figures (accepted s)) x.answer x.passes ≡ cond b (cond c 0 36) 38
    go false f c g = wide (figures (accepted s)) x f
    go true f true g = free (accepted s) x (goods_short s 65536) (ltb-true (length (accepted s)) 65536 g) f
    go true f false g = full (figures (accepted s)) x f (ltb-false (length (accepted s)) 65536 g)

-- the same of the call: o is what one that meets its promise came back with
pub replied : (s : List Tile) (x : Tile) (o : Reply) → o ≡ outcome (series none s) x.answer x.passes
    → o.refusal ≡ cond (good x) (cond (ltb (length (accepted s)) 65536) 0 36) 38
unfolding outcome
replied s x o p = ap (λ (r : Reply). r.refusal) p ∙ answered s x

-- a refused tile leaves the tally as it was, whatever it holds
pub refused_stays : (t : Tally) (answer passes : ℕ) (o : Reply) → o ≡ outcome t answer passes → (o.refusal ≡ 0 → ⊥) → o.tally ≡ t
unfolding outcome
refused_stays t answer passes o p h = ap (λ (r : Reply). r.tally) p ∙ kept (λ (z : refusal t answer passes ≡ 0). h (ap (λ (r : Reply). r.refusal) p ∙ z))
  where
    kept : (refusal t answer passes ≡ 0 → ⊥) → cond (eqb (refusal t answer passes) 0) (next t answer passes) t ≡ t
    kept h = rw (ne_eqb (refusal t answer passes) 0 h)
