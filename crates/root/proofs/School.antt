-- The school method: what its digits come to, and that the code's turns are those of the definition.
use Rattle.std.proofs.Common.{◌≡◌, ℕ, zero, suc, ◌+◌, ◌-◌, ◌*◌, ◌/◌, ◌%◌, ◌^◌, ◌<◌, ◌≤◌, Bool, true, false, cond, not, T, ltb, sym, refl, ap, ◌∙◌, le_trans, mod-eq_of_lt, mul_assoc, mul-le-mul_left, pow-suc, add-one, arith, ltb→lt, nltb→le, pow_mono}
use Rattle.root.specs.Root.{whole}
use Rattle.root.specs.School.{turn, digits}
use Rattle.root.specs.declared.Found.{Found}
use Rattle.root.proofs.Whole.{sq_even, sq_suc, halved}
use Rattle.root.proofs.Fields.{whole_of}

twice : (b i : ℕ) → b * 2 ^ suc i ≡ b * 2 ^ i * 2
twice b i = ap (λ (x : ℕ). b * x) (pow-suc 2 i) ∙ sym (mul_assoc b (2 ^ i) 2)

-- ---- what k digits come to

-- After i turns: the digits that came down are s * s and a remainder, and the others are in a. m is the number at first, with 62 digits still to come, and b above the root
-- at first.
pub record Stand (m b i a : ℕ) (w : Found) : Type 0 where
  pub rest : w.r ≤ w.s * 2
  pub word : a < 2 ^ 62
  pub small : w.s + 1 ≤ b * 2 ^ i
  pub sum : (w.s * w.s + w.r) * 2 ^ 62 + a ≡ m * 4 ^ i

stand : (m b i a s r : ℕ) (z : Bool) → Stand m b i a (record { s = s; r = r }) → (T z → r * 4 + a / 2 ^ 60 < s * 4 + 1) → (T (not z) → s * 4 + 1 ≤ r * 4 + a / 2 ^ 60)
    → Stand m b (suc i) (a % 2 ^ 60 * 4) (cond z (record { s = s * 2; r = r * 4 + a / 2 ^ 60 }) (record { s = s * 2 + 1; r = r * 4 + a / 2 ^ 60 - (s * 4 + 1) }))
stand m b i a s r true st less more = record {
  rest = omega (arith, less tt);
  word = omega arith;
  small = omega (arith, st.small, twice b i);
  sum = omega (arith, st.sum, st.word, four, sq_even s);
}
  where
    four : m * 4 ^ suc i ≡ m * 4 ^ i * 4
    four = ap (λ (x : ℕ). m * x) (pow-suc 4 i) ∙ sym (mul_assoc m (4 ^ i) 4)
stand m b i a s r false st less more = record {
  rest = omega (arith, st.rest, st.word, more tt);
  word = omega arith;
  small = omega (arith, st.small, twice b i);
  sum = omega (arith, st.sum, st.word, four, sq_even s, sq_suc (s * 2), more tt);
}
  where
    four : m * 4 ^ suc i ≡ m * 4 ^ i * 4
    four = ap (λ (x : ℕ). m * x) (pow-suc 4 i) ∙ sym (mul_assoc m (4 ^ i) 4)

pub stands : (m b k i a : ℕ) (w : Found) → Stand m b i a w → (c : ℕ) × Stand m b (i + k) c (digits k a w)
unfolding digits turn
stands m b zero i a w st = (a, rw (add_none i) st)
  where
    add_none : (i : ℕ) → i + 0 ≡ i
    add_none i = omega arith
stands m b (suc k) i a w st =
    let d = w.r * 4 + a / 2 ^ 60 in
    let t = w.s * 4 + 1 in
    rw (one i k) (stands m b k (suc i) (a % 2 ^ 60 * 4) _ (stand m b i a w.s w.r (ltb d t) st (ltb→lt d t) (nltb→le d t)))
  where
    one : (i k : ℕ) → i + suc k ≡ suc i + k
    one i k = omega arith

-- ---- fifty-three digits of n * 2 ^ 52, from nothing

abbrev pub none : Found
none = record { s = 0; r = 0 }

-- no digit is left
cut : (x a n : ℕ) → x * 2 ^ 62 + a ≡ n * 2 ^ 8 * 4 ^ 53 → a < 2 ^ 62 → x ≡ n * 2 ^ 52
cut x a n e l = omega arith

-- no digit falls out at the top
pub last : (n : ℕ) (w : Found) → n < 2 ^ 54 → w ≡ digits 53 ((n * 2 ^ 8) % 2 ^ 64) none → (w.s * w.s + w.r ≡ n * 2 ^ 52) × (w.r ≤ w.s * 2) × (w.s < 2 ^ 53)
last n w l e =
    let f : (n * 2 ^ 8) % 2 ^ 64 ≡ n * 2 ^ 8 = mod-eq_of_lt (omega arith) in
    let p = stands (n * 2 ^ 8) 1 53 0 (n * 2 ^ 8) none (record { rest = omega arith; word = omega arith; small = omega arith; sum = omega arith }) in
    rw (e, f) (cut _ p.0 n p.1.sum p.1.word, p.1.rest, omega (arith, p.1.small))

above : (n s r : ℕ) → n < 2 ^ 54 → s * s + r ≡ n * 2 ^ 52 → r ≤ s * 2 → s < r → s + 1 ≡ (whole 54 (n * 2 ^ 54) + 1) / 2
above n s r l e h g = halved n (whole 54 (n * 2 ^ 54)) (s + 1) (whole_of n l) (omega (arith, sq_suc s)) (omega (arith, sq_suc s))

beside : (n s r : ℕ) → 0 < n → n < 2 ^ 54 → s * s + r ≡ n * 2 ^ 52 → r ≤ s → s ≡ (whole 54 (n * 2 ^ 54) + 1) / 2
beside n s r p l e h = halved n (whole 54 (n * 2 ^ 54)) s (whole_of n l) (omega (arith, some s r e)) (omega arith)
  where
    some : (s r : ℕ) → s * s + r ≡ n * 2 ^ 52 → 0 < s + r
    some zero r e = omega arith
    some (suc s) r e = omega arith

-- rounded by the remainder
pub nearest : (n : ℕ) (w : Found) → 0 < n → n < 2 ^ 54 → w ≡ digits 53 ((n * 2 ^ 8) % 2 ^ 64) none → cond (ltb w.s w.r) (w.s + 1) w.s ≡ (whole 54 (n * 2 ^ 54) + 1) / 2
nearest n w p l e = go (ltb w.s w.r) (ltb→lt w.s w.r) (nltb→le w.s w.r)
  where
    go : (z : Bool) → (T z → w.s < w.r) → (T (not z) → w.r ≤ w.s) → cond z (w.s + 1) w.s ≡ (whole 54 (n * 2 ^ 54) + 1) / 2
    go true less more = above n w.s w.r l (last n w l e).0 (last n w l e).1 (less tt)
    go false less more = beside n w.s w.r p l (last n w l e).0 (more tt)

-- ---- k turns, one after the other

-- Of k turns from `from` on i are done: w is the root and what is left, c what is still to come of n, and the turns left give what the whole gives.
pub record Turns (k i n : ℕ) (from : Found) (c : ℕ) (w : Found) : Type 0 where
  pub stand : Stand ((from.s * from.s + from.r) * 2 ^ 62 + n) (from.s + 1) i c w
  pub same : digits (k - i) c w ≡ digits k n from

pub turns_start : (k n : ℕ) (from : Found) → from.r ≤ from.s * 2 → n < 2 ^ 62 → Turns k 0 n from n from
turns_start k n from h l =
    let all : k - 0 ≡ k = omega arith in
    record { stand = record { rest = h; word = l; small = omega arith; sum = omega arith }; same = ap (λ (x : ℕ). digits x n from) all }

pub turns_again : (k i n c : ℕ) (from w : Found) → Turns k i n from c w → i < k → Turns k (i + 1) n from (c % 2 ^ 60 * 4) (turn (c / 2 ^ 60) w)
unfolding digits turn
turns_again k i n c from w h l =
    let d = w.r * 4 + c / 2 ^ 60 in
    let t = w.s * 4 + 1 in
    let j : k - i ≡ suc (k - suc i) = omega arith in
    rw (add-one i) (record { stand = stand _ _ i c w.s w.r (ltb d t) h.stand (ltb→lt d t) (nltb→le d t); same = rw j at h.same })

pub turns_done : (k i n c : ℕ) (from w : Found) → Turns k i n from c w → k ≤ i → w ≡ digits k n from
unfolding digits
turns_done k i n c from w h l =
    let g : k - i ≡ 0 = omega arith in
    rw g at h.same

-- what comes down in the next turn, in the one after it, and then
pub next_down : (c : ℕ) → c / 2 ^ 58 % 4 ≡ c % 2 ^ 60 * 4 / 2 ^ 60
next_down c = omega arith

pub next_two : (c : ℕ) → (c * 2 ^ 6) % 2 ^ 64 / 2 ^ 62 ≡ c % 2 ^ 60 * 4 / 2 ^ 58 % 4
next_two c = omega arith

pub next_pairs : (c : ℕ) → ((c * 2 ^ 6) % 2 ^ 64 * 2 ^ 2) % 2 ^ 64 ≡ (c % 2 ^ 60 * 4 * 2 ^ 6) % 2 ^ 64
next_pairs c = omega arith

-- ---- the code's turns

-- After i turns, where c is still to come: its first two digits stand behind the remainder d, the next two are ready in `down`, the others stand in `pairs`. The root with 01
-- behind it is u, that moved up t, and v what it becomes for a digit 0.
pub record Under (k i n : ℕ) (from : Found) (down pairs d u t v : ℕ) : Type 0 where
  c : ℕ
  w : Found
  turns : Turns k i n from c w
  ahead : down ≡ c / 2 ^ 58 % 4
  shifted : pairs ≡ (c * 2 ^ 6) % 2 ^ 64
  brought : d ≡ w.r * 4 + c / 2 ^ 60
  root : u ≡ w.s * 4 + 1
  moved : t ≡ w.s * 16 + 4
  nil : v ≡ w.s * 8 + 1

pub start : (k n : ℕ) (from : Found) → from.r ≤ from.s * 2 → n < 2 ^ 62
    → Under k 0 n from (n / 2 ^ 58 % 4) ((n * 2 ^ 6) % 2 ^ 64) (from.r * 4 + n / 2 ^ 60) (from.s * 4 + 1) (from.s * 16 + 4) (from.s * 8 + 1)
start k n from h l = record { c = n; w = from; turns = turns_start k n from h l; ahead = refl; shifted = refl; brought = refl; root = refl; moved = refl; nil = refl }

pub again : (k i n down pairs d u t v off u' : ℕ) (from : Found) → Under k i n from down pairs d u t v → i < k → off ≡ cond (not (ltb d u)) t 0 → u' ≡ cond (not (ltb d u)) (u * 2 + 3) v
    → Under k (i + 1) n from (pairs / 2 ^ 62) ((pairs * 2 ^ 2) % 2 ^ 64) (d * 4 + down - off) u' (u' * 4) (u' * 2 - 1)
unfolding turn
again k i n down pairs d u t v off u' from h l e f =
    rw (e, f) (go (ltb d u) (nltb→le d u) (rw (h.brought, h.root) (turns_again k i n h.c from h.w h.turns l)))
  where
    go : (z : Bool) → (T (not z) → u ≤ d) → Turns k (i + 1) n from (h.c % 2 ^ 60 * 4) (cond z (record { s = h.w.s * 2; r = d }) (record { s = h.w.s * 2 + 1; r = d - u }))
        → Under k (i + 1) n from (pairs / 2 ^ 62) ((pairs * 2 ^ 2) % 2 ^ 64) (d * 4 + down - cond (not z) t 0) (cond (not z) (u * 2 + 3) v) (cond (not z) (u * 2 + 3) v * 4) (cond (not z) (u * 2 + 3) v * 2 - 1)
    go true more turns = record {
      c = h.c % 2 ^ 60 * 4;
      w = record { s = h.w.s * 2; r = d };
      turns = turns;
      ahead = rw h.shifted (next_two h.c);
      shifted = rw h.shifted (next_pairs h.c);
      brought = omega (arith, h.ahead, next_down h.c);
      root = omega (arith, h.nil);
      moved = omega (arith, h.nil);
      nil = omega (arith, h.nil);
    }
    go false more turns = record {
      c = h.c % 2 ^ 60 * 4;
      w = record { s = h.w.s * 2 + 1; r = d - u };
      turns = turns;
      ahead = rw h.shifted (next_two h.c);
      shifted = rw h.shifted (next_pairs h.c);
      brought = omega (arith, more tt, h.root, h.moved, h.ahead, next_down h.c);
      root = omega (arith, h.root);
      moved = omega (arith, h.root);
      nil = omega (arith, h.root);
    }

-- without the two digits behind each: the root and what is left
pub shown : (w : Found) (c d u : ℕ) → c < 2 ^ 62 → d ≡ w.r * 4 + c / 2 ^ 60 → u ≡ w.s * 4 + 1 → record { s = u / 4; r = d / 4 } ≡ w
shown w c d u l e f =
    let a : u / 4 ≡ w.s = omega arith in
    let b : d / 4 ≡ w.r = omega arith in
    rw (a, b)

pub done : (k i n down pairs d u t v : ℕ) (from : Found) → Under k i n from down pairs d u t v → k ≤ i → record { s = u / 4; r = d / 4 } ≡ digits k n from
done k i n down pairs d u t v from h l = shown h.w h.c d u h.turns.stand.word h.brought h.root ∙ turns_done k i n h.c from h.w h.turns l

-- before a turn there is room for it
pub record Ready (down d u t v : ℕ) : Type 0 where
  pub root : u < 2 ^ 60
  pub rest : d < 2 ^ 59
  pub ahead : down < 4
  pub off : cond (not (ltb d u)) t 0 ≤ d * 4
  pub some : 1 ≤ cond (not (ltb d u)) (u * 2 + 3) v
  pub new : cond (not (ltb d u)) (u * 2 + 3) v < 2 ^ 61

pub ready : (k i n down pairs d u t v : ℕ) (from : Found) → Under k i n from down pairs d u t v → i < k → (from.s + 1) * 2 ^ k ≤ 2 ^ 57 → Ready down d u t v
ready k i n down pairs d u t v from h l m =
    let b : (from.s + 1) * 2 ^ suc i ≤ 2 ^ 57 = le_trans (mul-le-mul_left (from.s + 1) (pow_mono l)) m in
    let st = h.turns.stand in
    let g : h.w.s < 2 ^ 56 = omega (arith, st.small, twice (from.s + 1) i) in
    let e = either (ltb d u) (nltb→le d u) in
    record {
      root = omega (arith, h.root);
      rest = omega (arith, st.rest, h.brought, st.word);
      ahead = omega (arith, h.ahead);
      off = e.0;
      some = e.1;
      new = omega (arith, h.root, h.nil, e.2);
    }
  where
    either : (z : Bool) → (T (not z) → u ≤ d) → (cond (not z) t 0 ≤ d * 4) × (1 ≤ cond (not z) (u * 2 + 3) v) × (cond (not z) (u * 2 + 3) v ≤ u * 2 + 3 + v)
    either true more = (omega arith, omega (arith, h.nil), omega arith)
    either false more = (omega (arith, more tt, h.root, h.moved), omega arith, omega arith)
