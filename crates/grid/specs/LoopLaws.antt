-- The laws of loops, of one and of two side by side, and of tests. Laws only.
-- Those of `down`, `fall`, `first` and `rounds` speak of what is left to do: it gives what the whole gives.
use Rattle.std.specs.Prelude.{◌≡◌, Bool, cond, ◌&&◌, ◌⊎◌, ltb}
use Rattle.std.proofs.Math.Path.{refl, ap, subst}
use Rattle.std.proofs.Common.{sym, ◌∙◌, true≢false, inl, inr, ⊎_elim, add-one, le_antisymm, not-suc-le-zero, ltb-true, ltb-false}
use Rattle.std.proofs.Math.Bool.{true, false}
use Prim.Native.Nat.{ℕ, zero, suc, ◌+◌, ◌-◌, ◌≤◌, ◌<◌}
use Rattle.std.proofs.Math.Numerals.{sub-one}
use Rattle.std.proofs.Math.Nat.{sub_self, add-zero}
use native.Mathlib.Omega.{arith}
use Rattle.grid.specs.Loop.{seek, first, every, times, upto, down, rounds, drops, fall}

-- ---- the first that

pub first_here : (p : ℕ → Bool) (a b : ℕ) {r : ℕ} → a < b → p a ≡ true → first p a b ≡ r → a ≡ r
unfolding first seek
first_here p a b h e g =
    let k : b - a ≡ suc (b - a - 1) = omega arith in
    simp (k, e) at g

pub first_next : (p : ℕ → Bool) (a b : ℕ) {r : ℕ} → a < b → p a ≡ false → first p a b ≡ r → first p (a + 1) b ≡ r
unfolding first seek
first_next p a b h e g =
    let k : b - a ≡ suc (b - (a + 1)) = omega arith in
    rw (k, e) at g

pub first_none : (p : ℕ → Bool) (a b : ℕ) {r : ℕ} → b ≤ a → first p a b ≡ r → a ≡ r
unfolding first seek
first_none p a b h g =
    let k : b - a ≡ 0 = omega arith in
    rw k at g

-- ---- tests, of one and of every number below a bound

pub both : (a b : Bool) → (a && b) ≡ true → (a ≡ true) × (b ≡ true)
both true b e = (refl, e)
both false b e = absurd (true≢false (sym e))

pub below_cases : (i m : ℕ) → i < suc m → (i < m) ⊎ (i ≡ m)
below_cases i m h = go (ltb i m) refl
  where
    go : (b : Bool) → ltb i m ≡ b → (i < m) ⊎ (i ≡ m)
    go true e = inl (ltb-true i m e)
    go false e = inr (le_antisymm (omega arith) (ltb-false i m e))

pub every_none : (p : ℕ → Bool) → every p 0 ≡ true
unfolding every
every_none p = refl

pub every_more : (p : ℕ → Bool) (m : ℕ) → every p m ≡ true → p m ≡ true → every p (m + 1) ≡ true
unfolding every
every_more p m e f = rw (add-one, e, f)

pub every_at : (p : ℕ → Bool) (m i : ℕ) → every p m ≡ true → i < m → p i ≡ true
unfolding every
every_at p zero i e h = absurd (not-suc-le-zero h)
every_at p (suc m) i e h =
    let w = both (every p m) (p m) e in
    ⊎_elim (λ g. every_at p m i w.0 g) (λ g. ap p g ∙ w.1) (below_cases i m h)

pub every_fails : (p : ℕ → Bool) (m i : ℕ) → i < m → p i ≡ false → every p m ≡ false
every_fails p m i h f = go (every p m) refl
  where
    go : (b : Bool) → every p m ≡ b → every p m ≡ false
    go true e = absurd (true≢false (sym (every_at p m i e h) ∙ f))
    go false e = e

pub every_all : (p : ℕ → Bool) (m : ℕ) → ((i : ℕ) → i < m → p i ≡ true) → every p m ≡ true
unfolding every
every_all p zero h = refl
every_all p (suc m) h = rw (every_all p m (λ i g. h i (omega arith)), h m (omega arith))

-- ---- counting up and down

module _ {S : Type 0} where
  pub upto_none : (f : ℕ → S → S) (a : ℕ) (s : S) → upto f a a s ≡ s
  unfolding upto times
  upto_none f a s = rw (sub_self a)

  pub upto_more : (f : ℕ → S → S) (a i : ℕ) (s : S) → a ≤ i → upto f a (i + 1) s ≡ f i (upto f a i s)
  unfolding upto times
  upto_more f a i s h =
      let e : (i + 1) - a ≡ suc (i - a) = omega arith in
      let g : a + (i - a) ≡ i = omega arith in
      rw e (ap (λ (j : ℕ). f j (times (λ k. f (a + k)) (i - a) s)) g)

  -- the three steps of a loop's proof: where it begins, after one more turn, and where it ends
  pub start : (f : ℕ → S → S) (a : ℕ) (s : S) → s ≡ upto f a a s
  start f a s = sym (upto_none f a s)

  pub more : (f : ℕ → S → S) (a i : ℕ) (s₀ : S) {s : S} → a ≤ i → s ≡ upto f a i s₀ → f i s ≡ upto f a (i + 1) s₀
  more f a i s₀ h e = ap (f i) e ∙ sym (upto_more f a i s₀ h)

  pub next : (f : ℕ → S → S) (a i : ℕ) (s₀ : S) {s t : S} → a ≤ i → s ≡ upto f a i s₀ → t ≡ f i s → t ≡ upto f a (i + 1) s₀
  next f a i s₀ h e g = g ∙ more f a i s₀ h e

  pub done : (f : ℕ → S → S) (a : ℕ) {i b : ℕ} (s₀ : S) {s : S} → i ≤ b → b ≤ i → s ≡ upto f a i s₀ → s ≡ upto f a b s₀
  done f a {i} {b} s₀ p q e = e ∙ ap (λ (k : ℕ). upto f a k s₀) (le_antisymm p q)

  -- what is left to do, R, stays the same from turn to turn
  pub down_more : (f : ℕ → S → S) (i : ℕ) {s t R : S} → 0 < i → t ≡ f i s → down f i s ≡ R → down f (i - 1) t ≡ R
  unfolding down
  down_more f zero h e r = absurd (not-suc-le-zero h)
  down_more f (suc k) h e r = rw (sub-one, e) r

  pub down_done : (f : ℕ → S → S) {i : ℕ} {s R : S} → i ≤ 0 → down f i s ≡ R → s ≡ R
  unfolding down
  down_done f {i = zero} h r = r
  down_done f {i = suc k} h r = absurd (not-suc-le-zero h)

  -- ---- rounds, and counting down to a bound

  pub rounds_stop : (f : S → S) (p : S → Bool) (k : ℕ) {s t r : S} → 0 < k → t ≡ f s → p t ≡ true → rounds f p k s ≡ r → t ≡ r
  unfolding rounds
  rounds_stop f p zero h e g q = absurd (omega arith)
  rounds_stop f p (suc k) h e g q = rw (← e, g) at q

  pub rounds_more : (f : S → S) (p : S → Bool) (k : ℕ) {s t r : S} → 0 < k → t ≡ f s → p t ≡ false → rounds f p k s ≡ r → rounds f p (k - 1) t ≡ r
  unfolding rounds
  rounds_more f p zero h e g q = absurd (omega arith)
  rounds_more f p (suc k) h e g q = rw sub-one (rw (← e, g) at q)

  pub rounds_done : (f : S → S) (p : S → Bool) (k : ℕ) {s r : S} → k ≤ 0 → rounds f p k s ≡ r → s ≡ r
  unfolding rounds
  rounds_done f p zero h q = q
  rounds_done f p (suc k) h q = absurd (omega arith)

  pub fall_more : (f : ℕ → S → S) (a b : ℕ) {s t r : S} → a < b → t ≡ f (b - 1) s → fall f a b s ≡ r → fall f a (b - 1) t ≡ r
  unfolding fall drops
  fall_more f a b {s} {t} {r} h e q =
      let k : b - a ≡ suc (b - 1 - a) = omega arith in
      let j : a + (b - 1 - a) ≡ b - 1 = omega arith in
      ap (drops f a (b - 1 - a)) e ∙ ap (λ (x : ℕ). drops f a (b - 1 - a) (f x s)) (sym j) ∙ ap (λ (x : ℕ). drops f a x s) (sym k) ∙ q

  pub fall_done : (f : ℕ → S → S) (a b : ℕ) {s r : S} → b ≤ a → fall f a b s ≡ r → s ≡ r
  unfolding fall drops
  fall_done f a b h q =
      let k : b - a ≡ 0 = omega arith in
      rw k at q

  -- ---- a higher limit

  -- what passes the test after at most k rounds, k above 0, is what any higher limit gives
  pub rounds_limit : (f : S → S) (p : S → Bool) (k m : ℕ) (s : S) → 0 < k → k ≤ m → p (rounds f p k s) ≡ true → rounds f p m s ≡ rounds f p k s
  unfolding rounds
  rounds_limit f p zero m s z l h = absurd (omega arith)
  rounds_limit f p (suc k) zero s z l h = absurd (omega arith)
  rounds_limit f p (suc k) (suc m) s z l h = go (p (f s)) refl (later k (λ z. rounds_limit f p k m (f s) z (omega arith)))
    where
      later : (k : ℕ) → (0 < k → p (rounds f p k (f s)) ≡ true → rounds f p m (f s) ≡ rounds f p k (f s))
          → p (f s) ≡ false → p (rounds f p k (f s)) ≡ true → rounds f p m (f s) ≡ rounds f p k (f s)
      later zero ih e h = absurd (true≢false (sym h ∙ e))
      later (suc k) ih e h = ih (omega arith) h

      go : (b : Bool) → p (f s) ≡ b → (p (f s) ≡ false → p (rounds f p k (f s)) ≡ true → rounds f p m (f s) ≡ rounds f p k (f s))
          → cond (p (f s)) (f s) (rounds f p m (f s)) ≡ cond (p (f s)) (f s) (rounds f p k (f s))
      go true e next = rw e
      go false e next = rw e (next e (rw e at h))

  -- ---- two runs of a loop side by side: a relation R that holds before, and that each turn keeps, holds after

  pub times_both : (R : ℕ → S → S → Type 0) (f g : ℕ → S → S) (k : ℕ) (s t : S)
      → ((j : ℕ) (s t : S) → j < k → R j s t → R (suc j) (f j s) (g j t)) → R 0 s t → R k (times f k s) (times g k t)
  unfolding times
  times_both R f g zero s t h r = r
  times_both R f g (suc k) s t h r = h k (times f k s) (times g k t) (omega arith) (times_both R f g k s t (λ j s t l. h j s t (omega arith)) r)

  -- R may speak of the turn's number
  pub upto_both : (R : ℕ → S → S → Type 0) (f g : ℕ → S → S) (a b : ℕ) (s t : S) → a ≤ b
      → ((j : ℕ) (s t : S) → a ≤ j → j < b → R j s t → R (j + 1) (f j s) (g j t)) → R a s t → R b (upto f a b s) (upto g a b t)
  unfolding upto
  upto_both R f g a b s t l h r =
      let e : a + (b - a) ≡ b = omega arith in
      rw e at (times_both (λ k. R (a + k)) (λ k. f (a + k)) (λ k. g (a + k)) (b - a) s t
      (λ j s t m q. subst (λ (k : ℕ). R k (f (a + j) s) (g (a + j) t)) (omega arith) (h (a + j) s t (omega arith) (omega arith) q))
      (rw add-zero r))

  -- or not
  pub upto_keeps : (R : S → S → Type 0) (f g : ℕ → S → S) (a b : ℕ) (s t : S)
      → ((j : ℕ) (s t : S) → a ≤ j → j < b → R s t → R (f j s) (g j t)) → R s t → R (upto f a b s) (upto g a b t)
  unfolding upto
  upto_keeps R f g a b s t h r =
      times_both (λ k. R) (λ k. f (a + k)) (λ k. g (a + k)) (b - a) s t (λ j s t m q. h (a + j) s t (omega arith) (omega arith) q) r

  -- two loops whose turns do the same
  pub upto_same : (f g : ℕ → S → S) (a b : ℕ) (s : S) → ((j : ℕ) (s : S) → a ≤ j → j < b → f j s ≡ g j s) → upto f a b s ≡ upto g a b s
  upto_same f g a b s h = upto_keeps (λ s t. s ≡ t) f g a b s s (λ j s t l m e. h j s l m ∙ ap (g j) e) refl

  -- a loop taken up where it was left
  pub joined : (f : ℕ → S → S) (a b c : ℕ) (s₀ : S) {s : S} → a ≤ b → b ≤ c → s ≡ upto f a b s₀ → upto f b c s ≡ upto f a c s₀
  joined f a b c s₀ {s} h l e = upto_both (λ k u t. u ≡ upto f a k s₀) f f b c s s l (λ k u t p q r. more f a k s₀ (omega arith) r) e

  -- going down, from b to 1
  pub down_both : (R : ℕ → S → S → Type 0) (f g : ℕ → S → S) (b : ℕ) (s t : S)
      → ((i : ℕ) (s t : S) → i < b → R (suc i) s t → R i (f (suc i) s) (g (suc i) t)) → R b s t → R 0 (down f b s) (down g b t)
  unfolding down
  down_both R f g zero s t h r = r
  down_both R f g (suc k) s t h r = down_both R f g k (f (suc k) s) (g (suc k) t) (λ i s t l. h i s t (omega arith)) (h k s t (omega arith) r)
