-- A whole number from -q to p, sums and products of such numbers, and that none leaves 64 bits. Laws only.
use Rattle.std.specs.Prelude.{◌≡◌, Bool, true, false, not, cond, ℕ, zero, suc, ◌+◌, ◌*◌, ◌-◌, ◌≤◌, ◌<◌, T, ltb, ℤ, pos, negsuc, neg_ℤ, ◌+ℤ◌, ◌-ℤ◌, ◌*ℤ◌}
use Rattle.std.proofs.Common.{ap, sym, ◌∙◌, true≢false, ltb-false, mul-le-mul, le_trans, add-mul, arith, ltb→lt, nltb→le, le→leb, lt→ltb, SFits, to_z, of_z, to_z-of_z}
use Rattle.std.specs.Float.{binary64}
use Rattle.std.specs.Float.Ieee.{in_float}
use Rattle.std.specs.Int.Signed.{lt_z}
use Rattle.std.proofs.Math.Dec.{leb-suc-suc}
use Rattle.std.specs.Int.{w16, w64}
use Rattle.std.proofs.Math.IntN.{sub_ℕ}
use Rattle.covariance.specs.Over53.{over}

abbrev pub In : ℕ → ℕ → ℤ → Type 0
In p q (pos m) = m ≤ p
In p q (negsuc m) = suc m ≤ q

-- -q ≤ z ≤ p
pub record Range (p q : ℕ) (z : ℤ) : Type 0 where
  pub within : In p q z

pub zero_in : (p q : ℕ) → Range p q (pos 0)
zero_in p q = record { within = omega arith }

pub wider : {p q p' q' : ℕ} (z : ℤ) → p ≤ p' → q ≤ q' → Range p q z → Range p' q' z
wider (pos m) h g r = record { within = le_trans r.within h }
wider (negsuc m) h g r = record { within = le_trans r.within g }

sub_in : (p q a b : ℕ) → a ≤ p → b ≤ q → In p q (sub_ℕ a b)
sub_in p q a b h g = go (ltb a b) (ltb→lt a b) (nltb→le a b)
  where
    go : (t : Bool) → (T t → a < b) → (T (not t) → b ≤ a) → In p q (cond t (negsuc (b - suc a)) (pos (a - b)))
    go true l n = let l' : a < b = l tt in omega arith
    go false l n = omega arith

pub add_in : {p q p' q' : ℕ} (a b : ℤ) → Range p q a → Range p' q' b → Range (p + p') (q + q') (a +ℤ b)
add_in {p} {q} {p'} {q'} (pos a) (pos b) r s = let h : a ≤ p = r.within in let g : b ≤ p' = s.within in record { within = omega arith }
add_in {p} {q} {p'} {q'} (pos a) (negsuc b) r s = let h : a ≤ p = r.within in let g : suc b ≤ q' = s.within in record { within = sub_in (p + p') (q + q') a (suc b) (omega arith) (omega arith) }
add_in {p} {q} {p'} {q'} (negsuc a) (pos b) r s = let h : suc a ≤ q = r.within in let g : b ≤ p' = s.within in record { within = sub_in (p + p') (q + q') b (suc a) (omega arith) (omega arith) }
add_in {p} {q} {p'} {q'} (negsuc a) (negsuc b) r s = let h : suc a ≤ q = r.within in let g : suc b ≤ q' = s.within in record { within = omega arith }

neg_in : (p q m : ℕ) → m ≤ q → In p q (neg_ℤ (pos m))
neg_in p q zero h = omega arith
neg_in p q (suc m) h = h

pub neg_of : {p q : ℕ} (a : ℤ) → Range p q a → Range q p (neg_ℤ a)
neg_of {p} {q} (pos m) r = record { within = neg_in q p m r.within }
neg_of {p} {q} (negsuc m) r = record { within = r.within }

pub mul_in : {p q p' q' : ℕ} (u v : ℕ) (a b : ℤ) → p * p' ≤ u → q * q' ≤ u → p * q' ≤ v → q * p' ≤ v → Range p q a → Range p' q' b → Range u v (a *ℤ b)
mul_in u v (pos a) (pos b) e f g h r s = record { within = le_trans (mul-le-mul r.within s.within) e }
mul_in u v (pos a) (negsuc b) e f g h r s = record { within = neg_in u v (a * suc b) (le_trans (mul-le-mul r.within s.within) g) }
mul_in u v (negsuc a) (pos b) e f g h r s = record { within = neg_in u v (suc a * b) (le_trans (mul-le-mul r.within s.within) h) }
mul_in u v (negsuc a) (negsuc b) e f g h r s = record { within = le_trans (mul-le-mul r.within s.within) f }

-- ---- a type's range

pub of_i16 : (z : ℤ) → SFits w16 z → Range 32767 32768 z
of_i16 (pos m) f = let h : m < 32768 = f.sfits in record { within = omega arith }
of_i16 (negsuc m) f = let h : m < 32768 = f.sfits in record { within = omega arith }

pub to_i64 : {p q : ℕ} (z : ℤ) → p < 0x8000_0000_0000_0000 → q ≤ 0x8000_0000_0000_0000 → Range p q z → SFits w64 z
to_i64 {p} {q} (pos m) g h r =
    let l : m ≤ p = r.within in
    let k : m < 0x8000_0000_0000_0000 = omega arith in
    record { sfits = k }
to_i64 {p} {q} (negsuc m) g h r =
    let l : suc m ≤ q = r.within in
    let k : m < 0x8000_0000_0000_0000 = omega arith in
    record { sfits = k }

-- ---- what a local of 64 bits holds of a number, read back

abbrev pub held : ℤ → ℤ
held z = to_z w64 (of_z w64 z)

pub held_is : {p q : ℕ} (z : ℤ) → p < 0x8000_0000_0000_0000 → q ≤ 0x8000_0000_0000_0000 → Range p q z → held z ≡ z
held_is z g h r = to_z-of_z {w = w64} (to_i64 z g h r)

-- an i16 that went through a local of its own
pub held_i16 : (e : ℤ) {r : ℤ} → SFits w16 e → r ≡ to_z w16 (of_z w16 e) → (held r ≡ e) × Range 32767 32768 (held r)
held_i16 e {r} f g =
    let k : held r ≡ e = ap held (g ∙ to_z-of_z {w = w16} f) ∙ held_is e (omega arith) (omega arith) (of_i16 e f) in
    (k, rw k (of_i16 e f))

-- ---- a sum of k numbers of one range, and one more, a

module _ (p q k : ℕ) (s a : ℤ) (h : p ≤ 0x4000_0000) (g : q ≤ 0x4000_0000) (l : k < 65536) (x : Range (k * p) (k * q) s) (y : Range p q a) where
  more_in : Range (k * p + p) (k * q + q) (s +ℤ a)
  more_in = add_in s a x y

  more_p : k * p + p ≤ 0x4000_0000_0000
  more_p = let u : (k + 1) * p ≤ 65536 * 0x4000_0000 = mul-le-mul {n₂ = 65536} (omega arith) h in omega (arith, add-mul k 1 p)

  more_q : k * q + q ≤ 0x4000_0000_0000
  more_q = let u : (k + 1) * q ≤ 65536 * 0x4000_0000 = mul-le-mul {n₂ = 65536} (omega arith) g in omega (arith, add-mul k 1 q)

  same_a : held a ≡ a
  same_a = held_is a (omega arith) (omega arith) y

  pub sum_fits : SFits w64 (s +ℤ held a)
  sum_fits = rw same_a (to_i64 (s +ℤ a) (omega (arith, more_p)) (omega (arith, more_q)) more_in)

  pub sum_is : {r : ℤ} → r ≡ s +ℤ held a → held r ≡ s +ℤ a
  sum_is e = ap held (e ∙ ap (λ (z : ℤ). s +ℤ z) same_a) ∙ held_is (s +ℤ a) (omega (arith, more_p)) (omega (arith, more_q)) more_in

  pub sum_in : {r : ℤ} → r ≡ s +ℤ held a → Range ((k + 1) * p) ((k + 1) * q) (held r)
  sum_in e = rw (sum_is e) (wider (s +ℤ a) (omega (arith, add-mul k 1 p)) (omega (arith, add-mul k 1 q)) more_in)

-- ---- the product of two samples

module _ (a b : ℤ) (x : Range 32767 32768 a) (y : Range 32767 32768 b) where
  both_in : Range 0x4000_0000 0x4000_0000 (a *ℤ b)
  both_in = mul_in 0x4000_0000 0x4000_0000 a b (omega arith) (omega arith) (omega arith) (omega arith) x y

  both_held : held a *ℤ held b ≡ a *ℤ b
  both_held = rw (held_is a (omega arith) (omega arith) x, held_is b (omega arith) (omega arith) y)

  pub product_fits : SFits w64 (held a *ℤ held b)
  product_fits = rw both_held (to_i64 (a *ℤ b) (omega arith) (omega arith) both_in)

  pub product_in : {r : ℤ} → r ≡ held a *ℤ held b → Range 0x4000_0000 0x4000_0000 r
  product_in e = rw (e ∙ both_held) both_in

  pub product_is : {r : ℤ} → r ≡ held a *ℤ held b → r ≡ a *ℤ b
  product_is e = e ∙ both_held

-- ---- an entry: N times the sum of products, less the product of two sums. A sum of N samples is at least -2^31 and below 2^31, so the product of two is
-- above -2^62, and the difference below 2^63.

module _ (N : ℕ) (c p a b : ℤ) (h : N ≤ 65536) (n : c ≡ pos N) (x : Range (N * 0x4000_0000) (N * 0x4000_0000) p)
    (y : Range (N * 32767) (N * 32768) a) (z : Range (N * 32767) (N * 32768) b) where
  scaled_in : Range 0x4000_0000_0000_0000 0x4000_0000_0000_0000 (pos N *ℤ p)
  scaled_in =
      let m : Range 65536 0 (pos N) = record { within = h } in
      let q : Range 0x4000_0000_0000 0x4000_0000_0000 p = wider p (omega arith) (omega arith) x in
      mul_in 0x4000_0000_0000_0000 0x4000_0000_0000_0000 (pos N) p (omega arith) (omega arith) (omega arith) (omega arith) m q

  pair_in : Range 0x4000_0000_0000_0000 0x3fff_8000_0000_0000 (a *ℤ b)
  pair_in =
      let u : Range 0x7fff_0000 0x8000_0000 a = wider a (omega arith) (omega arith) y in
      let v : Range 0x7fff_0000 0x8000_0000 b = wider b (omega arith) (omega arith) z in
      mul_in 0x4000_0000_0000_0000 0x3fff_8000_0000_0000 a b (omega arith) (omega arith) (omega arith) (omega arith) u v

  scaled_held : held c *ℤ held p ≡ pos N *ℤ p
  scaled_held =
      let m : Range 65536 0 (pos N) = record { within = h } in
      rw n (rw (held_is (pos N) (omega arith) (omega arith) m, held_is p (omega arith) (omega arith) x))

  pair_held : held a *ℤ held b ≡ a *ℤ b
  pair_held = rw (held_is a (omega arith) (omega arith) y, held_is b (omega arith) (omega arith) z)

  less_in : Range (0x4000_0000_0000_0000 + 0x3fff_8000_0000_0000) (0x4000_0000_0000_0000 + 0x4000_0000_0000_0000) (pos N *ℤ p -ℤ a *ℤ b)
  less_in = add_in (pos N *ℤ p) (neg_ℤ (a *ℤ b)) scaled_in (neg_of (a *ℤ b) pair_in)

  pub scaled_fits : SFits w64 (held c *ℤ held p)
  scaled_fits = rw scaled_held (to_i64 (pos N *ℤ p) (omega arith) (omega arith) scaled_in)

  pub pair_fits : SFits w64 (held a *ℤ held b)
  pair_fits = rw pair_held (to_i64 (a *ℤ b) (omega arith) (omega arith) pair_in)

  module _ {u v : ℤ} (e : u ≡ held c *ℤ held p) (f : v ≡ held a *ℤ held b) where
    less_held : held u -ℤ held v ≡ pos N *ℤ p -ℤ a *ℤ b
    less_held =
        let s : held u ≡ pos N *ℤ p = ap held (e ∙ scaled_held) ∙ held_is (pos N *ℤ p) (omega arith) (omega arith) scaled_in in
        let t : held v ≡ a *ℤ b = ap held (f ∙ pair_held) ∙ held_is (a *ℤ b) (omega arith) (omega arith) pair_in in
        rw (s, t)

    pub entry_fits : SFits w64 (held u -ℤ held v)
    entry_fits = rw less_held (to_i64 (pos N *ℤ p -ℤ a *ℤ b) (omega arith) (omega arith) less_in)

    pub entry_is : {r : ℤ} → r ≡ held u -ℤ held v → held r ≡ pos N *ℤ p -ℤ a *ℤ b
    entry_is g = ap held (g ∙ less_held) ∙ held_is (pos N *ℤ p -ℤ a *ℤ b) (omega arith) (omega arith) less_in

-- ---- the test against 2^53

-- a number above 2^53 is over, another where it is below -2^53
pub above : (z : ℤ) → lt_z (pos 0x20_0000_0000_0000) z ≡ true → true ≡ over z
unfolding over
above (pos m) h = sym h
above (negsuc m) h = absurd (true≢false (sym h))

pub below : (z : ℤ) → lt_z (pos 0x20_0000_0000_0000) z ≡ false → lt_z z (negsuc 0x1f_ffff_ffff_ffff) ≡ over z
unfolding over
below (pos m) h = sym h
below (negsuc m) h = sym (leb-suc-suc 0x20_0000_0000_0000 m)

-- one that is not over may be cast
pub not_over : (z : ℤ) → over z ≡ false → T (in_float binary64 z)
unfolding over in_float
not_over (pos m) h = le→leb m 0x20_0000_0000_0000 (ltb-false 0x20_0000_0000_0000 m h)
not_over (negsuc m) h = lt→ltb m 0x20_0000_0000_0000 (ltb-false 0x20_0000_0000_0000 (suc m) h)
