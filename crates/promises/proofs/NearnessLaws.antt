-- `root x` is strictly nearer to √x than every other finite double, whatever its sign (`root_nearest_of_all`), and only one double is (`nearest_of_all_only`). Laws only.
use Rattle.std.specs.Prelude.{◌≡◌, refl, ◌⊎◌, Bool, true, false, cond, ℕ, zero, suc, ◌+◌, ◌-◌, ◌*◌, ◌^◌, ◌≤◌, ◌<◌, T, ltb, ℤ, pos, negsuc, neg_ℤ, ◌+ℤ◌, Float}
use Rattle.std.proofs.Common.{sym, ap, ◌∙◌, subst, inl, inr, lt_of_le_of_lt, lt_trans, lt_irrefl, arith}
use Rattle.std.proofs.Math.Decide.{dec_lt, ℕ_discrete}
use Rattle.std.proofs.Math.IntN.{+ℤ_comm}
use Rattle.std.specs.Float.{nan, inf, fin, binary64}
use Rattle.std.specs.Float.Ieee.{fits, of_bits, to_bits}
use Rattle.std.specs.Float.Ieee.Bits.{of_bits-to_bits}
use Rattle.std.specs.Float.Ieee.Positive.{positive, positive-finite}
use Rattle.std.specs.Float.Ieee.Scale.{finite}
use Rattle.root.specs.Root.{units, root}
use Rattle.root.specs.Nearest.{counted, Nearest, Between, lesser}
use Rattle.root.proofs.Whole.{sq_mono}
use Rattle.root.proofs.Fields.{val}
use Rattle.root.proofs.Worked.{units_inj, pattern}
use Rattle.root.proofs.Neighbours.{root_between, between_nearest, pattern_units, val_step}
use Rattle.promises.specs.Nearness.{value, Less, Below, Above, Nearer, NearestOfAll}

-- ---- the root is

-- a number u with a minus sign: twice the midpoint is r - u, which is no more than l + r
of_minus : (n r u l : ℕ) → 0 < r → (l + r) * (l + r) < 4 * n → Nearer n (pos r) (neg_ℤ (pos u))
of_minus n r zero l p h = inl (p, lt_of_le_of_lt (sq_mono {a = 0 + r} {b = l + r} (omega arith)) h)
of_minus n r (suc u) l p h = inl (tt, go (ltb r (suc u)))
  where
    go : (t : Bool) → Below (cond t (negsuc (suc u - suc r)) (pos (r - suc u))) (4 * n)
    go true = tt
    go false = lt_of_le_of_lt (sq_mono {a = r - suc u} {b = l + r} (omega arith)) h

tri : (a b : ℕ) → (a < b → ⊥) → (b < a → ⊥) → a ≡ b
tri a b h k = omega arith

module _ (x r : Float) (w : Between x r) where
  near : Nearest x r
  near = between_nearest x r w

  no_sign : value r ≡ pos (units r)
  no_sign = go r near.sign
    where
      go : (y : Float) → T (counted y) → value y ≡ pos (units y)
      go (fin false m e) c = refl
      go nan c = elim c [ ]
      go (inf _) c = elim c [ ]
      go (fin true m e) c = elim c [ ]

  above_zero : 0 < units r
  above_zero =
      let b = to_bits binary64 r in
      let p = pattern r w.held w.sign in
      let e : units r ≡ val b = ap units (sym (of_bits-to_bits binary64 r w.held)) ∙ pattern_units b p.1 in
      let d : b - 1 + 1 ≡ b = omega (arith, p.0) in
      rw e (more (rw d at (val_step (b - 1))))
    where
      more : {a c : ℕ} → a < c → 0 < c
      more h = omega arith

  all : (y : Float) → T (fits binary64 y) → T (finite y) → (y ≡ r → ⊥) → Nearer (units x * 2 ^ 1074) (pos (units r)) (value y)
  all nan f c other = absurd c
  all (inf s) f c other = absurd c
  all (fin true m e) f c other = of_minus (units x * 2 ^ 1074) (units r) (units (fin true m e)) (units (lesser r)) above_zero w.below
  all (fin false m e) f c other = go (dec_lt (units y) (units r)) (dec_lt (units r) (units y))
    where
      y : Float
      y = fin false m e

      go : Dec (units y < units r) → Dec (units r < units y) → Nearer (units x * 2 ^ 1074) (pos (units r)) (pos (units y))
      go (yes l) d = inl (l, near.below y f tt l)
      go (no h) (yes l) = inr (l, near.above y f tt l)
      go (no h) (no k) = absurd (other (units_inj y r f tt near.held near.sign (tri (units y) (units r) h k)))

  pub between_nearest_of_all : NearestOfAll x r
  between_nearest_of_all = record {
    held = w.held;
    real = positive-finite r w.sign;
    nearer = λ y f c other. subst (λ (v : ℤ). Nearer (units x * 2 ^ 1074) v (value y)) (sym no_sign) (all y f c other);
  }

pub root_nearest_of_all : (x : Float) → T (fits binary64 x) → T (positive x) → NearestOfAll x (root x)
root_nearest_of_all x f p = between_nearest_of_all x (root x) (root_between x f p)

-- ---- and only one is

not_less_both : (a b : ℤ) → Less a b → Less b a → ⊥
not_less_both (pos a) (pos b) h k = omega arith
not_less_both (negsuc a) (negsuc b) h k = omega arith
not_less_both (pos a) (negsuc b) h k = h
not_less_both (negsuc a) (pos b) h k = k

not_below_above : (t : ℤ) (n : ℕ) → Below t n → Above t n → ⊥
not_below_above (pos t) n h k = lt_irrefl n (lt_trans k h)
not_below_above (negsuc t) n h k = k

-- of two numbers one at the most is nearer than the other
not_nearer_both : (n : ℕ) (a b : ℤ) → Nearer n a b → Nearer n b a → ⊥
not_nearer_both n a b (inl h) (inl k) = not_less_both a b k.0 h.0
not_nearer_both n a b (inl h) (inr k) = not_below_above (b +ℤ a) (4 * n) h.1 (subst (λ (t : ℤ). Above t (4 * n)) (+ℤ_comm a b) k.1)
not_nearer_both n a b (inr h) (inl k) = not_below_above (b +ℤ a) (4 * n) (subst (λ (t : ℤ). Below t (4 * n)) (+ℤ_comm a b) k.1) h.1
not_nearer_both n a b (inr h) (inr k) = not_less_both a b h.0 k.0

pub nearest_of_all_only : (x r s : Float) → NearestOfAll x r → NearestOfAll x s → r ≡ s
nearest_of_all_only x r s n k = go (ℕ_discrete (to_bits binary64 r) (to_bits binary64 s))
  where
    go : Dec (to_bits binary64 r ≡ to_bits binary64 s) → r ≡ s
    go (yes e) = sym (of_bits-to_bits binary64 r n.held) ∙ ap (of_bits binary64) e ∙ of_bits-to_bits binary64 s k.held
    go (no h) = absurd (not_nearer_both (units x * 2 ^ 1074) (value r) (value s)
        (n.nearer s k.held k.real (λ (e : s ≡ r). h (ap (to_bits binary64) (sym e))))
        (k.nearer r n.held n.real (λ (e : r ≡ s). h (ap (to_bits binary64) e))))
