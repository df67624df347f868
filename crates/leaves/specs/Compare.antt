-- The comparison of finite numbers is that of a line. Laws only.
-- Of two one at most is below the other, and "not below" goes on from one to the next. Signs are free, and -0 stands with +0.
use Rattle.std.specs.Prelude.{◌≡◌, refl, Bool, true, false, ◌||◌, ◌&&◌, ℕ, suc, ◌+◌, ◌*◌, ◌<◌, ltb, eqb, ℤ, pos, negsuc, Float}
use Rattle.std.proofs.Common.{sym, ap, ◌∙◌, true≢false, mul-lt-mul_of_pos_right, mul-le-mul_right, mul_right_comm, zero-mul, add-mul, arith, lt-ltb, le-ltb, ltb-true, ltb-false, eqb-true, eq-eqb, pow_pos}
use Rattle.std.specs.Float.{nan, inf, fin}
use Rattle.std.specs.Float.Ieee.{lt, eq, le, up, down, below, level}
use Rattle.grid.specs.LoopLaws.{both}
use Rattle.leaves.specs.Leaf.{is_finite}

-- a factor above 0 on both sides changes no comparison
ltb_scale : (a b c : ℕ) → 0 < c → ltb (a * c) (b * c) ≡ ltb a b
ltb_scale a b c z = go (ltb a b) refl
  where
    go : (t : Bool) → ltb a b ≡ t → ltb (a * c) (b * c) ≡ t
    go true e = lt-ltb (a * c) (b * c) (mul-lt-mul_of_pos_right (ltb-true a b e) z)
    go false e = le-ltb (a * c) (b * c) (mul-le-mul_right c (ltb-false a b e))

below_scale : (s : Bool) (a : ℕ) (t : Bool) (b c : ℕ) → 0 < c → below s (a * c) t (b * c) ≡ below s a t b
below_scale false a false b c z = ltb_scale a b c z
below_scale false a true b c z = refl
below_scale true a false b c z = ap (ltb 0) (sym (add-mul a b c)) ∙ rw zero-mul at (ltb_scale 0 (a + b) c z)
below_scale true a true b c z = ltb_scale b a c z

below_trans : (s : Bool) (a : ℕ) (t : Bool) (b : ℕ) (u : Bool) (c : ℕ) → below s a t b ≡ false → below t b u c ≡ false → below s a u c ≡ false
below_trans false a false b false c p q = le-ltb a c (omega (arith, ltb-false a b p, ltb-false b c q))
below_trans false a false b true c p q = refl
below_trans false a true b false c p q = le-ltb a c (omega (arith, ltb-false 0 (b + c) q))
below_trans false a true b true c p q = refl
below_trans true a false b false c p q = le-ltb 0 (a + c) (omega (arith, ltb-false 0 (a + b) p, ltb-false b c q))
below_trans true a false b true c p q = le-ltb c a (omega (arith, ltb-false 0 (a + b) p))
below_trans true a true b false c p q = le-ltb 0 (a + c) (omega (arith, ltb-false b a p, ltb-false 0 (b + c) q))
below_trans true a true b true c p q = le-ltb c a (omega (arith, ltb-false b a p, ltb-false c b q))

chain : (s t u : Bool) (x y z a b c : ℕ) → 0 < a → 0 < b → 0 < c
    → below s (x * b) t (y * a) ≡ false → below t (y * c) u (z * b) ≡ false → below s (x * c) u (z * a) ≡ false
chain s t u x y z a b c ha hb hc p q =
    sym (below_scale s (x * c) u (z * a) b hb)
    ∙ below_trans s (x * c * b) t (y * a * c) u (z * a * b)
    (ap (λ (k : ℕ). below s k t (y * a * c)) (mul_right_comm x c b) ∙ below_scale s (x * b) t (y * a) c hc ∙ p)
    (ap (λ (k : ℕ). below t k u (z * a * b)) (mul_right_comm y a c)
    ∙ ap (below t (y * c * a) u) (mul_right_comm z a b)
    ∙ below_scale t (y * c) u (z * b) a ha
    ∙ q)

down_pos : (e : ℤ) → 0 < down e
down_pos (pos k) = omega arith
down_pos (negsuc k) = pow_pos (suc k)

-- not below, and not below again, is not below
pub lt_chain : (x y z : Float) → is_finite x ≡ true → is_finite y ≡ true → is_finite z ≡ true → lt x y ≡ false → lt y z ≡ false → lt x z ≡ false
unfolding lt is_finite
lt_chain nan y z f g h p q = absurd (true≢false (sym f))
lt_chain (inf s) y z f g h p q = absurd (true≢false (sym f))
lt_chain (fin s m e) nan z f g h p q = absurd (true≢false (sym g))
lt_chain (fin s m e) (inf t) z f g h p q = absurd (true≢false (sym g))
lt_chain (fin s m e) (fin t n d) nan f g h p q = absurd (true≢false (sym h))
lt_chain (fin s m e) (fin t n d) (inf u) f g h p q = absurd (true≢false (sym h))
lt_chain (fin s m e) (fin t n d) (fin u k i) f g h p q =
    chain s t u (m * up e) (n * up d) (k * up i) (down e) (down d) (down i) (down_pos e) (down_pos d) (down_pos i) p q

below_turn : (s : Bool) (a : ℕ) (t : Bool) (b : ℕ) → below s a t b ≡ true → below t b s a ≡ false
below_turn false a false b p = le-ltb b a (omega (arith, ltb-true a b p))
below_turn false a true b p = absurd (true≢false (sym p))
below_turn true a false b p = refl
below_turn true a true b p = le-ltb a b (omega (arith, ltb-true b a p))

-- no number is below itself
pub lt_self : (x : Float) → lt x x ≡ false
unfolding lt
lt_self nan = refl
lt_self (inf true) = refl
lt_self (inf false) = refl
lt_self (fin true m e) = le-ltb (m * up e * down e) (m * up e * down e) (omega arith)
lt_self (fin false m e) = le-ltb (m * up e * down e) (m * up e * down e) (omega arith)

-- of two numbers one at most is below the other
pub lt_turn : (x y : Float) → lt x y ≡ true → lt y x ≡ false
unfolding lt
lt_turn nan y p = absurd (true≢false (sym p))
lt_turn (inf s) nan p = refl
lt_turn (inf true) (inf t) p = go t
  where
    go : (t : Bool) → (t && false) ≡ false
    go true = refl
    go false = refl
lt_turn (inf false) (inf t) p = absurd (true≢false (sym p))
lt_turn (inf true) (fin t n d) p = refl
lt_turn (inf false) (fin t n d) p = absurd (true≢false (sym p))
lt_turn (fin s m e) nan p = refl
lt_turn (fin s m e) (inf true) p = absurd (true≢false (sym p))
lt_turn (fin s m e) (inf false) p = refl
lt_turn (fin s m e) (fin t n d) p = below_turn s (m * up e * down d) t (n * up d * down e) p

level_le : (s : Bool) (a : ℕ) (t : Bool) (b : ℕ) → below s a t b ≡ false → (below t b s a || level t b s a) ≡ true
level_le false a false b p = go (ltb b a) refl
  where
    go : (c : Bool) → ltb b a ≡ c → (ltb b a || level false b false a) ≡ true
    go true e = rw e
    go false e = rw (e, eq-eqb b a (omega (arith, ltb-false b a e, ltb-false a b p)))
level_le false a true b p = go (ltb 0 (b + a)) refl
  where
    go : (c : Bool) → ltb 0 (b + a) ≡ c → (ltb 0 (b + a) || level true b false a) ≡ true
    go true e = rw e
    go false e = rw (e, eq-eqb b a (omega (arith, ltb-false 0 (b + a) e)), eq-eqb b 0 (omega (arith, ltb-false 0 (b + a) e)))
level_le true a false b p =
    rw (eq-eqb b a (omega (arith, ltb-false 0 (a + b) p)), eq-eqb b 0 (omega (arith, ltb-false 0 (a + b) p)))
level_le true a true b p = go (ltb a b) refl
  where
    go : (c : Bool) → ltb a b ≡ c → (ltb a b || level true b true a) ≡ true
    go true e = rw e
    go false e = rw (e, eq-eqb b a (omega (arith, ltb-false a b e, ltb-false b a p)))

-- a finite number that is not below another is at least it
pub le_of_not : (x y : Float) → is_finite x ≡ true → is_finite y ≡ true → lt x y ≡ false → le y x ≡ true
unfolding le lt eq is_finite
le_of_not nan y f g p = absurd (true≢false (sym f))
le_of_not (inf s) y f g p = absurd (true≢false (sym f))
le_of_not (fin s m e) nan f g p = absurd (true≢false (sym g))
le_of_not (fin s m e) (inf t) f g p = absurd (true≢false (sym g))
le_of_not (fin s m e) (fin t n d) f g p = level_le s (m * up e * down d) t (n * up d * down e) p

level_not : (s : Bool) (a : ℕ) (t : Bool) (b : ℕ) → level s a t b ≡ true → below t b s a ≡ false
level_not false a false b p = le-ltb b a (omega (arith, eqb-true a b (both (eqb a b) _ p).0))
level_not false a true b p =
    let h = both (eqb a b) (eqb a 0) p in
    le-ltb 0 (b + a) (omega (arith, eqb-true a b h.0, eqb-true a 0 h.1))
level_not true a false b p = refl
level_not true a true b p = le-ltb a b (omega (arith, eqb-true a b (both (eqb a b) _ p).0))

-- equal numbers are not below one another
pub not_of_eq : (x y : Float) → eq x y ≡ true → lt y x ≡ false
unfolding eq lt
not_of_eq nan y p = absurd (true≢false (sym p))
not_of_eq (inf s) nan p = refl
not_of_eq (inf true) (inf true) p = refl
not_of_eq (inf true) (inf false) p = refl
not_of_eq (inf false) (inf true) p = absurd (true≢false (sym p))
not_of_eq (inf false) (inf false) p = refl
not_of_eq (inf s) (fin t n d) p = absurd (true≢false (sym p))
not_of_eq (fin s m e) nan p = refl
not_of_eq (fin s m e) (inf t) p = absurd (true≢false (sym p))
not_of_eq (fin s m e) (fin t n d) p = level_not s (m * up e * down d) t (n * up d * down e) p
