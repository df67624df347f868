-- The last element of e is a zero, and tst1 is neither negative nor nan, at each l that a run comes to. Laws only.
-- So document 000's own test for a split holds at n - 1, and its search for m, which goes on to n, ends where `split` does. Assumes nothing.
use Rattle.std.specs.Prelude.{◌≡◌, Bool, true, false, cond, not, ◌&&◌, ◌||◌, ℕ, zero, suc, ◌+◌, ◌-◌, ◌*◌, ◌≤◌, ◌<◌, ◌^◌, eqb, ltb, pos, negsuc, length, set, Float}
use Rattle.std.proofs.Math.Path.{refl}
use Rattle.std.proofs.Common.{sym, ap, ◌∙◌, subst, true≢false, zero-mul, add-zero, mul-pos, zero-lt-suc, arith, lt-ltb, pow_pos, length-set, get_or-set_same, get_or-set_other}
use Rattle.std.specs.Bool.{beq}
use Rattle.std.proofs.Math.Decide.{dec_lt}
use Rattle.std.specs.Float.{nan, inf, fin, Format, binary64}
use Rattle.std.specs.Float.Ieee.{prec, emax, low, up, down, round, units, odd, of_bits, mul, lt, le, eq}
use Rattle.std.specs.Float.Ieee.Fits.{up_pos, down_pos, round_is}
use Rattle.std.specs.Float.Ieee.Exact.{HasValue, round_exact}
use Rattle.grid.specs.Loop.{seek, first, upto, fall, drops}
use Rattle.grid.specs.LoopLaws.{upto_keeps}
use Rattle.grid.specs.Real.{Vec, zero64, epsilon, at, ◌⊗◌}
use Rattle.leaves.specs.Leaf.{magnitude, larger, is_finite}
use Rattle.hypot.specs.Edition.{pythag}
use Rattle.eigen_tql2_pass.specs.Transform.{spin, spins, still, landed, transformed}
use Rattle.eigen_tql2_pass.specs.Pass.{tiny}
use Rattle.eigen_tql2_pass.specs.declared.ql_transformation.Spin.{Spin}
use Rattle.eigen_tql2.specs.Tql2.{moved_up}
use Rattle.eigen_tql2.specs.Tql2Steps.{up_step}
use Rattle.eigen_tql2.specs.LStartEnd.{split}

-- ---- f64: a number with no minus sign, which nan is not; a zero of either sign

pub plus : Float → Bool
plus nan = false
plus (inf s) = not s
plus (fin s m e) = not s

pub nought : Float → Bool
nought nan = false
nought (inf s) = false
nought (fin s zero e) = true
nought (fin s (suc m) e) = false

zero_is : zero64 ≡ fin false 0 (pos 0)
unfolding of_bits
zero_is = refl

pub plus_zero : plus zero64 ≡ true
unfolding plus of_bits
plus_zero = refl

pub nought_zero : nought zero64 ≡ true
unfolding nought of_bits
nought_zero = refl

-- what is above a number with no minus sign has none
plus_above : (a b : Float) → plus a ≡ true → lt a b ≡ true → plus b ≡ true
unfolding plus lt
plus_above nan b p h = absurd (true≢false (sym p))
plus_above (inf true) b p h = absurd (true≢false (sym p))
plus_above (inf false) nan p h = absurd (true≢false (sym h))
plus_above (inf false) (inf t) p h = absurd (true≢false (sym h))
plus_above (inf false) (fin t n d) p h = absurd (true≢false (sym h))
plus_above (fin true m e) b p h = absurd (true≢false (sym p))
plus_above (fin false m e) nan p h = absurd (true≢false (sym h))
plus_above (fin false m e) (inf t) p h = h
plus_above (fin false m e) (fin true n d) p h = absurd (true≢false (sym h))
plus_above (fin false m e) (fin false n d) p h = refl

pub plus_larger : (a b : Float) → plus a ≡ true → plus (larger a b) ≡ true
unfolding larger
plus_larger a b p = go (lt a b) refl
  where
    go : (t : Bool) → lt a b ≡ t → plus (cond t b a) ≡ true
    go true e = plus_above a b p e
    go false e = p

plus_odd : (d q k l : ℕ) → plus (odd d false q k l) ≡ true
unfolding plus odd
plus_odd d zero k l = refl
plus_odd d (suc q) k l = refl

plus_units : (f : Format) (q k : ℕ) → plus (units f false q k) ≡ true
unfolding units
plus_units f q k = go (ltb (q * 2 ^ k) (2 ^ (low f + suc (emax f))))
  where
    go : (t : Bool) → plus (cond t (odd (suc (prec f)) false q k (low f)) (inf false)) ≡ true
    go true = plus_odd (suc (prec f)) q k (low f)
    go false = unfold plus in refl

plus_round : (f : Format) (a b : ℕ) → plus (round f false a b) ≡ true
plus_round f a b = rw (round_is f false a b) (plus_units f _ _)

-- EPSILON times such a number is such a number
epsilon_is : epsilon ≡ fin false 1 (negsuc 51)
unfolding of_bits
epsilon_is = refl

plus_times : (t : Float) → plus t ≡ true → plus (fin false 1 (negsuc 51) ⊗ t) ≡ true
unfolding plus mul
plus_times nan p = absurd (true≢false (sym p))
plus_times (inf true) p = absurd (true≢false (sym p))
plus_times (inf false) p = refl
plus_times (fin true m e) p = absurd (true≢false (sym p))
plus_times (fin false m e) p = plus_round binary64 (1 * up (negsuc 51) * (m * up e)) (down (negsuc 51) * down e)

plus_epsilon : (t : Float) → plus t ≡ true → plus (epsilon ⊗ t) ≡ true
plus_epsilon t p = rw epsilon_is (plus_times t p)

-- a zero's magnitude is at most any number with no minus sign
level_or_below : (b : ℕ) → (ltb 0 b || (eqb 0 b && true)) ≡ true
level_or_below zero = refl
level_or_below (suc b) = rw (lt-ltb 0 (suc b) (omega arith))

nought_le : (x y : Float) → nought x ≡ true → plus y ≡ true → le (magnitude x) y ≡ true
unfolding nought plus magnitude le
nought_le nan y h p = absurd (true≢false (sym h))
nought_le (inf s) y h p = absurd (true≢false (sym h))
nought_le (fin s m e) nan h p = absurd (true≢false (sym p))
nought_le (fin s m e) (inf true) h p = absurd (true≢false (sym p))
nought_le (fin s m e) (inf false) h p = refl
nought_le (fin s m e) (fin true n d) h p = absurd (true≢false (sym p))
nought_le (fin s zero e) (fin false n d) h p = rw (zero-mul (up e), zero-mul (down d)) (level_or_below (n * up d * down e))
nought_le (fin s (suc m) e) (fin false n d) h p = absurd (true≢false (sym h))

-- such a number is at least +0.0, and a zero of either sign equals +0.0
zero-le : (y : Float) → plus y ≡ true → le (fin false 0 (pos 0)) y ≡ true
unfolding nought magnitude
zero-le y p = nought_le (fin false 0 (pos 0)) y refl p

pub plus_le : (y : Float) → plus y ≡ true → le zero64 y ≡ true
plus_le y p = ap (λ (z : Float). le z y) zero_is ∙ zero-le y p

either_sign : (s : Bool) → (beq s false || true) ≡ true
either_sign true = refl
either_sign false = refl

equals_zero : (x : Float) → nought x ≡ true → eq x (fin false 0 (pos 0)) ≡ true
unfolding nought eq
equals_zero nan h = absurd (true≢false (sym h))
equals_zero (inf s) h = absurd (true≢false (sym h))
equals_zero (fin s (suc m) e) h = absurd (true≢false (sym h))
equals_zero (fin s zero e) h = rw (zero-mul (up e), zero-mul (down e)) (either_sign s)

pub nought_eq : (x : Float) → nought x ≡ true → eq x zero64 ≡ true
nought_eq x h = ap (eq x) zero_is ∙ equals_zero x h

-- a product with +0.0 that is finite is a zero
nought_value : (x : Float) (s : Bool) (den : ℕ) → 0 < den → HasValue x s 0 den → nought x ≡ true
unfolding nought
nought_value nan s den h v = absurd v
nought_value (inf t) s den h v = absurd v
nought_value (fin t zero e) s den h v = refl
nought_value (fin t (suc m) e) s den h v = absurd (omega (arith, v.1, mul-pos (mul-pos (zero-lt-suc m) (up_pos e)) h, zero-mul (down e)))

nought_round : (s : Bool) (den : ℕ) → 0 < den → nought (round binary64 s 0 den) ≡ true
nought_round s den h =
    nought_value (round binary64 s 0 den) s den h (round_exact binary64 s 0 den 0 0 h (pow_pos 53) (pow_pos 2098) (zero-mul (2 ^ low binary64) ∙ sym (zero-mul den)))

times_zero : (y : Float) → is_finite (fin false 0 (pos 0) ⊗ y) ≡ true → nought (fin false 0 (pos 0) ⊗ y) ≡ true
unfolding is_finite mul
times_zero nan h = absurd (true≢false (sym h))
times_zero (inf t) h = absurd (true≢false (sym h))
times_zero (fin t n d) h = rw (zero-mul (n * up d)) (nought_round (not (beq false t)) (1 * down d) (mul-pos (zero-lt-suc 0) (down_pos d)))

pub nought_product : (y : Float) → is_finite (zero64 ⊗ y) ≡ true → nought (zero64 ⊗ y) ≡ true
nought_product y = subst (λ (z : Float). is_finite (z ⊗ y) ≡ true → nought (z ⊗ y) ≡ true) (sym zero_is) (times_zero y)

-- ---- document 000's test at the last element

pub tiny_last : (n : ℕ) (e : Vec) (tst1 : Float) → nought (at e (n - 1)) ≡ true → plus tst1 ≡ true → tiny e tst1 (n - 1) ≡ true
tiny_last n e tst1 h p = nought_le (at e (n - 1)) (epsilon ⊗ tst1) h (plus_epsilon tst1 p)

-- a search that would end at the last place may end one earlier
seek_last : (p : ℕ → Bool) (a k : ℕ) → p (a + k) ≡ true → seek p a (suc k) ≡ seek p a k
unfolding seek
seek_last p a zero h = rw (rw add-zero at h)
seek_last p a (suc k) h = ap (cond (p a) a) (seek_last p (a + 1) k (subst (λ (j : ℕ). p j ≡ true) (omega arith) h))

pub split_is : (n l : ℕ) (e : Vec) (tst1 : Float) → l < n → tiny e tst1 (n - 1) ≡ true → split n l tst1 e ≡ first (tiny e tst1) l n
unfolding split first
split_is n l e tst1 h t =
    let k : n - l ≡ suc (n - 1 - l) = omega arith in
    rw k (sym (seek_last (tiny e tst1) l (n - 1 - l) (subst (λ (j : ℕ). tiny e tst1 j ≡ true) (omega arith) t)))

-- ---- e through a pass: its length, and an element behind m

pub record Kept (k : ℕ) (e f : Vec) : Type 0 where
  pub long : length f ≡ length e
  pub same : at f k ≡ at e k

kept_set : (k j : ℕ) (e f : Vec) (x : Float) → j < k → Kept k e f → Kept k e (set f j x)
kept_set k j e f x h a = record {
  long = length-set f j x ∙ a.long;
  same = get_or-set_other f j k x nan (λ q. omega arith) ∙ a.same;
}

abbrev Turning : Type 0
Turning = Spin × Vec × Vec × Vec

drops_kept : (n edition l b k : ℕ) (e : Vec) (x : Turning) → l + b < k → Kept k e x.3 → Kept k e (drops (spin n edition) l b x).3
unfolding drops
drops_kept n edition l zero k e x h a = a
drops_kept n edition l (suc b) k e x h a =
    drops_kept n edition l b k e (spin n edition (l + b) x) (omega arith) (unfold spin in kept_set k (l + b + 1) e x.3 _ (omega arith) a)

-- an element from m on: behind m it is left alone, and at m it becomes +0.0 times something, the first turn's s being +0.0
pub record Ended (k : ℕ) (e f : Vec) : Type 0 where
  pub long : length f ≡ length e
  pub zero : nought (at e k) ≡ true → is_finite (at f k) ≡ true → nought (at f k) ≡ true

ended_kept : (k : ℕ) (e f : Vec) → Kept k e f → Ended k e f
ended_kept k e f a = record { long = a.long; zero = λ h q. rw a.same h }

ended_product : (k : ℕ) (y : Float) (e f : Vec) → k < length e → Kept k (set e k (zero64 ⊗ y)) f → Ended k e f
ended_product k y e f h a =
    let s : at f k ≡ zero64 ⊗ y = a.same ∙ get_or-set_same e k (zero64 ⊗ y) nan h in
    record {
      long = a.long ∙ length-set e k (zero64 ⊗ y);
      zero = λ z q. rw s (nought_product y (rw s at q));
    }

first_turn : (n edition l b k : ℕ) (p : Float) (v d e : Vec) → l + b + 1 ≡ k → k < length e → Ended k e (drops (spin n edition) l (suc b) (still p, v, d, e)).3
unfolding drops spin
first_turn n edition l b k p v d e i h =
    let x = spin n edition (l + b) (still p, v, d, e) in
    let r = pythag edition p (at e (l + b)) in
    let s : x.3 ≡ set e k (zero64 ⊗ r) = ap (λ (z : ℕ). set e z (zero64 ⊗ r)) i in
    ended_product k r e _ h (drops_kept n edition l b k (set e k (zero64 ⊗ r)) x (omega arith) (record { long = ap length s; same = ap (λ (z : Vec). at z k) s }))

spins_ended : (n edition l m k : ℕ) (p : Float) (v d e : Vec) → l < m → m ≤ k → k < length e → Ended k e (spins n edition l m (still p, v, d, e)).3
unfolding spins fall
spins_ended n edition l m k p v d e h g b = elim (dec_lt m k) [
  | yes q ↦ ended_kept k e _ (drops_kept n edition l (m - l) k e (still p, v, d, e) (omega arith) (record { long = refl; same = refl }))
  | no q ↦
      let j : m - l ≡ suc (m - 1 - l) = omega arith in
      rw j (first_turn n edition l (m - 1 - l) k p v d e (omega arith) b)
]

-- and what the turns leave at l is in front of it
pub transformed_ended : (n edition l m k : ℕ) (v d e : Vec) → l < m → m ≤ k → k < length e → Ended k e (transformed n edition l m (v, d, e)).3
unfolding transformed landed
transformed_ended n edition l m k v d e h g b = behind _ (spins_ended n edition l m k _ v _ e h g b)
  where
    behind : (x : Float) {f : Vec} → Ended k e f → Ended k e (set f l x)
    behind x {f} a =
        let s : at (set f l x) k ≡ at f k = get_or-set_other f l k x nan (λ q. omega arith) in
        record { long = length-set f l x ∙ a.long; zero = λ z q. rw s (a.zero z (rw s at q)) }

-- ---- where a run begins

upto_long : (k a b : ℕ) (e : Vec) → length e ≡ k → length (upto up_step a b e) ≡ k
upto_long k a b e h = upto_keeps (λ s t. length s ≡ k) up_step up_step a b e e (λ j s t l m q. length-set s (j - 1) (at s j) ∙ q) h

pub moved_long : (n : ℕ) (e : Vec) → length e ≡ n → length (moved_up n e) ≡ n
unfolding moved_up
moved_long n e h = length-set (upto up_step 1 n e) (n - 1) zero64 ∙ upto_long n 1 n e h

pub moved_last : (n : ℕ) (e : Vec) → 0 < n → length e ≡ n → nought (at (moved_up n e) (n - 1)) ≡ true
unfolding moved_up
moved_last n e z h = rw (get_or-set_same (upto up_step 1 n e) (n - 1) zero64 nan (omega (arith, upto_long n 1 n e h))) nought_zero
