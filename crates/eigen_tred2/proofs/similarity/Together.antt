-- Two columns walked together are two walked one behind the other: a store in one row of e disturbs no other, and neither reads column i of v. Laws only.
use mathlib.Core.Path.{◌≡◌, refl, sym, ap, ◌∙◌}
use mathlib.Core.Logic.{◌≢◌}
use Prim.Native.Nat.{ℕ, ◌+◌, ◌*◌, ◌<◌, ◌≤◌}
use native.Mathlib.Omega.{arith}
use lib.Ieee.{Float, nan}
use lib.ListN.{length, set, length-set}
use lib.Seq.{get_or-set_same, get_or-set_other, set-set, set_comm}
use Rattle.grid.specs.Loop.{upto}
use Rattle.grid.specs.LoopLaws.{upto_more, upto_both, upto_keeps, upto_same, start, more, joined}
use Rattle.grid.specs.Real.{Vec, at, ◌⊕◌, ◌⊗◌}
use Rattle.grid.specs.Cell.{at2, put2}
use Rattle.grid.specs.CellLaws.{put_elsewhere, upto_long}
use Rattle.eigen_tred2_definition.specs.Tred2.{similar_column}
use Rattle.eigen_tred2_definition.specs.Tred2Steps.{similar_step, similarity_step}
use Rattle.eigen_tred2.specs.ColumnPairs.{sums, two_step, two_columns, pair_step}
use Rattle.eigen_tred2.specs.declared.column_pairs.Pair.{Pair}

-- ---- the first turn of a loop by itself

first_turn : {S : Type 0} (f : ℕ → S → S) (a c : ℕ) (s : S) → a < c → upto f a c s ≡ upto f (a + 1) c (f a s)
first_turn f a c s h = sym (joined f a (a + 1) c s (omega arith) (omega arith) (more f a a s (omega arith) (start f a s)))

-- ---- one column

module _ (n j : ℕ) (f : Float) (v d : Vec) where
  -- column j from row a up to row b
  abbrev walk : ℕ → ℕ → Float → Vec → Float × Vec
  walk a b g e = upto (similar_step n j f v d) a b (g, e)

  -- row k is not walked
  abbrev Apart : ℕ → ℕ → ℕ → Type 0
  Apart a b k = (m : ℕ) → a ≤ m → m < b → m ≢ k

  -- a store there may be made before the walk or behind it
  moved : (a b k : ℕ) (x g : Float) (e : Vec) → Apart a b k → walk a b g (set e k x) ≡ ((walk a b g e).0, set (walk a b g e).1 k x)
  moved a b k x g e h = upto_keeps (λ s t. s ≡ (t.0, set t.1 k x)) (similar_step n j f v d) (similar_step n j f v d) a b (g, set e k x) (g, e)
      (λ m s t p q r. ap (similar_step n j f v d m) r ∙ turn m t.0 t.1 (h m p q)) refl
    where
      turn : (m : ℕ) (g : Float) (e : Vec) → m ≢ k
          → similar_step n j f v d m (g, set e k x) ≡ ((similar_step n j f v d m (g, e)).0, set (similar_step n j f v d m (g, e)).1 k x)
      turn m g e p = rw (get_or-set_other e k m x nan p, set_comm e k m x (at e m ⊕ at2 v n m j ⊗ f) (λ q. p (sym q)))

  -- and what stands there stays
  unmoved : (a b k : ℕ) (g : Float) (e : Vec) → Apart a b k → at (walk a b g e).1 k ≡ at e k
  unmoved a b k g e h = upto_keeps (λ s t. at s.1 k ≡ at e k) (similar_step n j f v d) (similar_step n j f v d) a b (g, e) (g, e)
      (λ m s t p q r. get_or-set_other s.1 m k _ nan (λ z. h m p q (sym z)) ∙ r) refl

  long : (a b : ℕ) (g : Float) (e : Vec) → length (walk a b g e).1 ≡ length e
  long a b g e = upto_long (λ (s : Float × Vec). s.1) (similar_step n j f v d) a b (g, e) (λ k s. simp length-set)

  -- the last row of a walk, where x was stored in it before
  stored : (a k : ℕ) (x g : Float) (e : Vec) → a ≤ k → k < length e
      → walk a (k + 1) g (set e k x) ≡ ((walk a k g e).0 ⊕ at2 v n k j ⊗ at d k, set (walk a k g e).1 k (x ⊕ at2 v n k j ⊗ f))
  stored a k x g e p q =
      let e₁ : Vec = (walk a k g e).1 in
      let l : k < length e₁ = omega (arith, long a k g e) in
      upto_more (similar_step n j f v d) a k (g, set e k x) p
      ∙ ap (similar_step n j f v d k) (moved a k k x g e (λ m b c z. omega arith))
      ∙ rw (get_or-set_same e₁ k x nan l, set-set e₁ k x (x ⊕ at2 v n k j ⊗ f))

-- ---- two columns

module _ (n j : ℕ) (f : Pair) (v d : Vec) where
  -- column j from row a up to row b, and column j + 1 behind it
  abbrev one : ℕ → ℕ → Pair → Vec → Float × Vec
  one a b g e = walk n j f.a v d a b g.a e

  abbrev two : ℕ → ℕ → Pair → Vec → Float × Vec
  two a b g e = walk n (j + 1) f.b v d a b g.b (one a b g e).1

  abbrev both : ℕ → ℕ → Pair → Vec → Pair × Vec
  both a b g e = (record { a = (one a b g e).0; b = (two a b g e).0 }, (two a b g e).1)

  -- that is both walked together
  together : (a b : ℕ) (g : Pair) (e : Vec) → a ≤ b → b ≤ length e → upto (two_step n j f v d) a b (g, e) ≡ both a b g e
  together a b g e h l = upto_both (λ k s t. s ≡ both a k g e) (two_step n j f v d) (two_step n j f v d) a b (g, e) (g, e) h
      (λ k s t p q r. ap (two_step n j f v d k) r ∙ turn k p q) none
    where
      none : (g, e) ≡ both a a g e
      none =
          let e₁ : (g.a, e) ≡ one a a g e = start (similar_step n j f.a v d) a (g.a, e) in
          let e₂ : (g.b, (one a a g e).1) ≡ two a a g e = start (similar_step n (j + 1) f.b v d) a (g.b, (one a a g e).1) in
          rw (← e₂, ← e₁)

      turn : (k : ℕ) → a ≤ k → k < b → two_step n j f v d k (both a k g e) ≡ both a (k + 1) g e
      turn k p q =
          let e' : Vec = (one a k g e).1 in
          let x : Float = at e' k ⊕ at2 v n k j ⊗ f.a in
          let first : one a (k + 1) g e ≡ ((one a k g e).0 ⊕ at2 v n k j ⊗ at d k, set e' k x) = upto_more (similar_step n j f.a v d) a k (g.a, e) p in
          let second = stored n (j + 1) f.b v d a k x g.b e' p (omega (arith, long n j f.a v d a k g.a e)) in
          rw (first, second, unmoved n (j + 1) f.b v d a k k g.b e' (λ m b c z. omega arith))

-- ---- two steps

-- a store in column i changes nothing for a column on its left
aside : (n i j : ℕ) (f : Float) (v d : Vec) (r : ℕ) (x : Float) (s : Float × Vec) → j < i → i < n → r < n
    → similar_column n i j f v d s ≡ similar_column n i j f (put2 v n r i x) d s
unfolding similar_column
aside n i j f v d r x s h l p = upto_same (similar_step n j f v d) (similar_step n j f (put2 v n r i x) d) (j + 1) i s
    (λ k s a b. rw (put_elsewhere v n r i k j x p (omega arith) (λ e. omega arith)))

module _ (n i j : ℕ) (d v e : Vec) (h : j + 1 < i) (l : i < n) (q : length e ≡ n) where
  abbrev f : Pair
  f = record { a = at d j; b = at d (j + 1) }

  -- v with the first store in column i, and with both
  abbrev v₁ : Vec
  v₁ = put2 v n j i f.a

  abbrev v₂ : Vec
  v₂ = put2 v₁ n (j + 1) i f.b

  -- row j + 1 of e with column j's share
  abbrev share : Float
  share = at e (j + 1) ⊕ at2 v₂ n (j + 1) j ⊗ f.a

  abbrev s : Float × Vec
  s = one n j f v₂ d (j + 2) i (sums n j f v₂ e) e

  abbrev t : Float × Vec
  t = two n j f v₂ d (j + 2) i (sums n j f v₂ e) e

  -- column j has one row more than column j + 1, its first, which it walks by itself
  column_j : similar_column n i j f.a v₁ d (at e j ⊕ at2 v₁ n j j ⊗ f.a, e) ≡ (s.0, set s.1 (j + 1) share)
  unfolding sums similar_column
  column_j =
      let step : ℕ → Float × Vec → Float × Vec = similar_step n j f.a v₂ d in
      let g : Float = at e j ⊕ at2 v₂ n j j ⊗ f.a in
      rw (← put_elsewhere v₁ n (j + 1) i j j f.b (omega arith) (omega arith) (λ z. omega arith))
      (aside n i j f.a v₁ d (j + 1) f.b (g, e) (omega arith) l (omega arith)
      ∙ first_turn step (j + 1) i (g, e) h
      ∙ ap (λ (k : ℕ). upto step k i (step (j + 1) (g, e))) (omega arith)
      ∙ moved n j f.a v₂ d (j + 2) i (j + 1) share (sums n j f v₂ e).a e (λ m b c z. omega arith))

  -- e as column j + 1 finds it
  abbrev e₁ : Vec
  e₁ = set (set s.1 (j + 1) share) j s.0

  at_share : at e₁ (j + 1) ≡ share
  at_share =
      get_or-set_other (set s.1 (j + 1) share) j (j + 1) s.0 nan (λ z. omega arith)
      ∙ get_or-set_same s.1 (j + 1) share nan (omega (arith, long n j f.a v₂ d (j + 2) i (sums n j f v₂ e).a e))

  column_j_plus_1 : similar_column n i (j + 1) f.b v₂ d ((sums n j f v₂ e).b, e₁) ≡ (t.0, set (set t.1 (j + 1) share) j s.0)
  unfolding similar_column
  column_j_plus_1 =
      let g : Float = (sums n j f v₂ e).b in
      ap (λ (k : ℕ). walk n (j + 1) f.b v₂ d k i g e₁) (omega arith)
      ∙ moved n (j + 1) f.b v₂ d (j + 2) i j s.0 g (set s.1 (j + 1) share) (λ m b c z. omega arith)
      ∙ ap (λ (r : Float × Vec). (r.0, set r.1 j s.0)) (moved n (j + 1) f.b v₂ d (j + 2) i (j + 1) share g s.1 (λ m b c z. omega arith))

  pair : pair_step n i d j (v, e) ≡ similarity_step n i d (j + 1) (similarity_step n i d j (v, e))
  unfolding pair_step two_columns sums
  pair =
      let apart = set_comm t.1 (j + 1) j share s.0 (λ z. omega arith) in
      let over = set-set (set t.1 j s.0) (j + 1) share t.0 in
      rw (together n j f v₂ d (j + 2) i (sums n j f v₂ e) e (omega arith) (omega arith), column_j, at_share, column_j_plus_1, apart, over)

-- ---- all steps

-- two more
pub pairs : (n i : ℕ) (d v₀ e₀ v e : Vec) (q : ℕ) → q * 2 + 1 < i → i < n → length e ≡ n → (v, e) ≡ upto (similarity_step n i d) 0 (q * 2) (v₀, e₀)
    → pair_step n i d (q * 2) (v, e) ≡ upto (similarity_step n i d) 0 ((q + 1) * 2) (v₀, e₀)
pairs n i d v₀ e₀ v e q h l m r =
    let step : ℕ → Vec × Vec → Vec × Vec = similarity_step n i d in
    pair n i (q * 2) d v e h l m
    ∙ more step 0 (q * 2 + 1) (v₀, e₀) (omega arith) (more step 0 (q * 2) (v₀, e₀) (omega arith) r)
    ∙ ap (λ (k : ℕ). upto step 0 k (v₀, e₀)) (omega arith)
