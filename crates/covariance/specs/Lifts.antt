-- A sum of products in which each is lifted by 2^30 - 2^15, so that none is below 0: shapes that inner contracts cite. Laws only.
-- Two lifted products fit 32 bits, and 128 such pairs do by their upper and lower bits apart; that form is the one that compiles well.
use Rattle.std.specs.Prelude.{◌≡◌, refl, Bool, true, false, not, cond, List, ℕ, zero, suc, ◌+◌, ◌*◌, ◌-◌, ◌/◌, ◌%◌, ◌≤◌, ◌<◌, T, ltb, ℤ, negsuc, nat_abs, ◌+ℤ◌, ◌-ℤ◌, ◌*ℤ◌}
use Rattle.std.proofs.Math.Path.{ap}
use Rattle.std.proofs.Common.{sym, subst, ◌∙◌, div-add-mod', arith, le-ltb, ltb→lt, nltb→le, Fits, SFits}
use Rattle.std.proofs.Math.IntN.{pos, +ℤ_assoc, +ℤ_comm, +ℤ-neg_ℤ_cancel}
use Rattle.grid.specs.Loop.{upto}
use Rattle.grid.specs.LoopLaws.{upto_none, upto_more}
use Rattle.covariance.specs.SampleSums.{sample_at, products}
use Rattle.covariance.specs.WholeNumbers.{In, Range, mul_in, held, held_is, to_i64, product_in, product_is}
use Rattle.std.specs.Int.Signed.{non_neg}
use Rattle.std.specs.Int.{w32, w64}

abbrev pub product_at : List ℤ → List ℤ → ℕ → ℤ
product_at a b k = sample_at a k *ℤ sample_at b k

-- the products of the first i samples
abbrev pub partial : List ℤ → List ℤ → ℕ → ℤ
partial a b i = upto (λ k s. s +ℤ product_at a b k) 0 i (pos 0)

-- q is product k, lifted
pub record Lift (a b : List ℤ) (k q : ℕ) : Type 0 where
  pub is : pos q ≡ product_at a b k +ℤ pos 0x3fff_8000
  pub most : q ≤ 0x7fff_8000

-- s is the sum of the first i, lifted
pub record Lifts (a b : List ℤ) (i s : ℕ) : Type 0 where
  pub is : pos s ≡ partial a b i +ℤ pos (i * 0x3fff_8000)
  pub most : s ≤ i * 0x7fff_8000

-- the product of two samples, lifted, is not below 0
lift : (z : ℤ) → In 0x4000_0000 0x3fff_8000 z → (q : ℕ) × (z +ℤ pos 0x3fff_8000 ≡ pos q) × (q ≤ 0x7fff_8000)
lift (pos m) h = (m + 0x3fff_8000, refl, omega arith)
lift (negsuc m) h = (0x3fff_8000 - suc m, rw (le-ltb 0x3fff_8000 (suc m) h), omega arith)

pub product_lift : (x y : ℤ) → Range 32767 32768 x → Range 32767 32768 y → (q : ℕ) × (x *ℤ y +ℤ pos 0x3fff_8000 ≡ pos q) × (q ≤ 0x7fff_8000)
product_lift x y r s = lift (x *ℤ y) (mul_in 0x4000_0000 0x3fff_8000 x y (omega arith) (omega arith) (omega arith) (omega arith) r s).within

-- a difference
less_in : (p q a b : ℕ) → a ≤ b + p → b ≤ a + q → In p q (pos a -ℤ pos b)
less_in p q a zero h g = omega arith
less_in p q a (suc b) h g = go (ltb a (suc b)) (ltb→lt a (suc b)) (nltb→le a (suc b))
  where
    go : (t : Bool) → (T t → a < suc b) → (T (not t) → suc b ≤ a) → In p q (cond t (negsuc (suc b - suc a)) (pos (a - suc b)))
    go true l n = let l' : a < suc b = l tt in omega arith
    go false l n = omega arith

-- in the machine: p is the product of samples x and y, s is p lifted, and s is cast to 32 bits
module _ (x y : ℤ) (r : Range 32767 32768 x) (t : Range 32767 32768 y) {p : ℤ} (e : p ≡ held x *ℤ held y) where
  product_held : held p ≡ x *ℤ y
  product_held = ap held (product_is x y r t e) ∙ held_is (x *ℤ y) (omega arith) (omega arith) (product_in x y r t refl')
    where
      refl' : x *ℤ y ≡ held x *ℤ held y
      refl' = sym (product_is x y r t e) ∙ e

  lifted_is : (q : ℕ) × (held p +ℤ pos 0x3fff_8000 ≡ pos q) × (q ≤ 0x7fff_8000)
  lifted_is =
      let l = product_lift x y r t in
      (l.0, ap (λ (z : ℤ). z +ℤ pos 0x3fff_8000) product_held ∙ l.1, l.2)

  pub lifted_fits : SFits w64 (held p +ℤ pos 0x3fff_8000)
  lifted_fits = rw lifted_is.1 (to_i64 {p = 0x7fff_8000} {q = 0} (pos lifted_is.0) (omega arith) (omega arith) (record { within = lifted_is.2 }))

  module _ {s : ℤ} (f : s ≡ held p +ℤ pos 0x3fff_8000) where
    back : held s ≡ pos lifted_is.0
    back = ap held (f ∙ lifted_is.1) ∙ held_is {p = 0x7fff_8000} {q = 0} (pos lifted_is.0) (omega arith) (omega arith) (record { within = lifted_is.2 })

    pub cast_fits : T (non_neg (held s)) × Fits w32 (nat_abs (held s))
    cast_fits =
        let l : lifted_is.0 < 0x1_0000_0000 = omega (arith, lifted_is.2) in
        rw back (tt, record { fits = l })

    pub cast_is : (pos (nat_abs (held s)) ≡ x *ℤ y +ℤ pos 0x3fff_8000) × (nat_abs (held s) ≤ 0x7fff_8000)
    cast_is = rw back (sym lifted_is.1 ∙ ap (λ (z : ℤ). z +ℤ pos 0x3fff_8000) product_held, lifted_is.2)

module _ (a b : List ℤ) where
  -- at a place that is written otherwise
  pub lifts_at : {i j s : ℕ} → i ≡ j → Lifts a b i s → Lifts a b j s
  lifts_at {s = s} e l = subst (λ (k : ℕ). Lifts a b k s) e l

  -- with no pair yet
  pub lifts_begin : {i : ℕ} (s : ℕ) → Lifts a b i s → Lifts a b i (s + (0 * 256 + 0))
  lifts_begin {i} s l = let e : s ≡ s + (0 * 256 + 0) = omega arith in subst (Lifts a b i) e l

  pub lifts_none : Lifts a b 0 0
  lifts_none = record { is = sym (ap (λ (z : ℤ). z +ℤ pos 0) (upto_none (λ k s. s +ℤ product_at a b k) 0 (pos 0))); most = omega arith }

  -- one more
  pub lifts_more : {i s q : ℕ} → Lifts a b i s → Lift a b i q → Lifts a b (i + 1) (s + q)
  lifts_more {i} {s} {q} l m = record {
    is =
        ap (λ (z : ℤ). z +ℤ pos q) l.is
        ∙ ap (λ (z : ℤ). partial a b i +ℤ pos (i * 0x3fff_8000) +ℤ z) m.is
        ∙ turned (partial a b i) (pos (i * 0x3fff_8000)) (product_at a b i) (pos 0x3fff_8000)
        ∙ ap (λ (z : ℤ). z +ℤ pos (i * 0x3fff_8000 + 0x3fff_8000)) (sym (upto_more (λ k s. s +ℤ product_at a b k) 0 i (pos 0) (omega arith)))
        ∙ ap (λ (c : ℕ). partial a b (i + 1) +ℤ pos c) (lifted i);
    most = omega (arith, l.most, m.most);
  }
    where
      turned : (p c z d : ℤ) → p +ℤ c +ℤ (z +ℤ d) ≡ p +ℤ z +ℤ (c +ℤ d)
      turned p c z d =
          +ℤ_assoc p c (z +ℤ d)
          ∙ ap (λ (x : ℤ). p +ℤ x) (sym (+ℤ_assoc c z d) ∙ ap (λ (x : ℤ). x +ℤ d) (+ℤ_comm c z) ∙ +ℤ_assoc z c d)
          ∙ sym (+ℤ_assoc p z (c +ℤ d))

      lifted : (i : ℕ) → i * 0x3fff_8000 + 0x3fff_8000 ≡ (i + 1) * 0x3fff_8000
      lifted i = omega arith

  -- two more, by their upper and lower bits
  pub lifts_pair : (k s h l q r : ℕ) → Lifts a b (k * 2) (s + (h * 256 + l)) → Lift a b (k * 2) q → Lift a b (k * 2 + 1) r
      → Lifts a b ((k + 1) * 2) (s + ((h + (q + r) / 256) * 256 + (l + (q + r) % 256)))
  lifts_pair k s h l q r f g m = subst (λ (i : ℕ). Lifts a b i (s + ((h + (q + r) / 256) * 256 + (l + (q + r) % 256)))) (places k)
      (subst (Lifts a b (k * 2 + 1 + 1)) (parts s h l) (lifts_more (lifts_more f g) m))
    where
      places : (k : ℕ) → k * 2 + 1 + 1 ≡ (k + 1) * 2
      places k = omega arith

      parts : (s h l : ℕ) → s + (h * 256 + l) + q + r ≡ s + ((h + (q + r) / 256) * 256 + (l + (q + r) % 256))
      parts s h l = omega (arith, div-add-mod' (q + r) 256)

  -- all of them, and the lift taken off
  pub lifts_off : (N : ℕ) {s : ℕ} → Lifts a b N s → pos s -ℤ pos (N * 0x3fff_8000) ≡ products N a b
  unfolding products
  lifts_off N l = ap (λ (z : ℤ). z -ℤ pos (N * 0x3fff_8000)) l.is ∙ +ℤ-neg_ℤ_cancel (partial a b N) (pos (N * 0x3fff_8000))

  pub products_in : (N : ℕ) {s : ℕ} → Lifts a b N s → Range (N * 0x4000_0000) (N * 0x4000_0000) (products N a b)
  products_in N {s} l = subst (Range (N * 0x4000_0000) (N * 0x4000_0000)) (lifts_off N l) (record {
    within = less_in (N * 0x4000_0000) (N * 0x4000_0000) s (N * 0x3fff_8000) (omega (arith, l.most)) (omega arith);
  })

  -- in the machine: u and v are the sum and what it was lifted by
  module _ (N s : ℕ) {u v : ℤ} (h : N ≤ 65536) (l : Lifts a b N s) (e : u ≡ pos s) (f : v ≡ pos (N * 0x3fff_8000)) where
    unlifted : held u -ℤ held v ≡ products N a b
    unlifted =
        let x : held u ≡ pos s = ap held e ∙ held_is {p = 0x8000_0000_0000} {q = 0} (pos s) (omega arith) (omega arith) (record { within = omega (arith, l.most) }) in
        let y : held v ≡ pos (N * 0x3fff_8000) = ap held f ∙ held_is {p = 0x8000_0000_0000} {q = 0} (pos (N * 0x3fff_8000)) (omega arith) (omega arith) (record { within = omega arith }) in
        rw (x, y) (lifts_off N l)

    pub unlifted_fits : SFits w64 (held u -ℤ held v)
    unlifted_fits = rw unlifted (to_i64 (products N a b) (omega arith) (omega arith) (products_in N l))

    pub unlifted_is : {r : ℤ} → r ≡ held u -ℤ held v → (held r ≡ products N a b) × Range (N * 0x4000_0000) (N * 0x4000_0000) (held r)
    unlifted_is {r} g =
        let k : held r ≡ products N a b = ap held (g ∙ unlifted) ∙ held_is (products N a b) (omega arith) (omega arith) (products_in N l) in
        (k, rw k (products_in N l))
