-- `hypot2 x y` is the double nearest to the root of x² + y², a tie going to the even one, for every two finite x and y (`hypot2_nearest`), and no other value is (`nearest_only`). Laws only.
use Rattle.std.specs.Prelude.{◌≡◌, ◌⊎◌, Bool, true, false, not, cond, T, eqb, Float}
use Rattle.std.proofs.Math.Path.{refl}
use Rattle.std.proofs.Common.{sym, ap, ◌∙◌, subst, le_of_eq, le_of_lt, lt_of_le_of_lt, lt_of_not-le, not-le_of_lt, lt_irrefl, le_antisymm, add_comm, mul_comm, mul-le-mul, lt_of_mul-lt-mul_right, div-mul-le_self, le-div_iff_mul-le, div-lt_iff_lt-mul, lt-ltb, le-ltb, lit≤, pow-add, pow_pos, pow_mono}
use Rattle.std.proofs.Math.Logic.{inl, inr}
use Prim.Native.Nat.{ℕ, zero, suc, ◌+◌, ◌-◌, ◌*◌, ◌/◌, ◌%◌, ◌^◌, ◌≤◌, ◌<◌}
use Rattle.std.proofs.Math.Nat.{le_trans, lt_of_lt_of_le, add-mul, lt-div-mul-add}
use native.Mathlib.Omega.{arith}
use Rattle.std.proofs.Math.Decide.{dec_le, dec_lt}
use Rattle.std.specs.Float.{inf, fin, binary64}
use Rattle.std.specs.Float.Ieee.{size, of_bits, to_bits, fits}
use Rattle.std.specs.Float.Ieee.Bits.{of_bits-to_bits, to_bits-of_bits, nan_bits_is, of_bits-fits}
use Rattle.std.specs.Float.Ieee.Scale.{finite}
use Rattle.std.specs.Float.Ieee.Digits.{size-lt, size_reaches}
use Rattle.root.specs.Root.{whole, units}
use Rattle.root.specs.Nearest.{counted}
use Rattle.root.proofs.Whole.{Is, whole_is, sq_mono, sq_lt_back, sq_even}
use Rattle.root.proofs.Fields as fields
use Rattle.root.proofs.Patterns.{no_nan}
use Rattle.root.proofs.Worked.{digits, pattern_counted, units_inj}
use Rattle.root.proofs.Neighbours.{val_step, val_mono, val_back, pattern_units}
use Rattle.hypot.specs.Hypot2.{root_of_sum, hypot2}
use Rattle.hypot.specs.RoundingParts.{low, high, val, digit, bits, packed}
use Rattle.hypot.specs.NearestEven.{squares, edge, Nearest, NearestEven}
use Rattle.hypot.specs.Stretch.{Full, sq_lt}
use Rattle.hypot.specs.Over.{infinity}
use Rattle.hypot.specs.Rounds as rounds
use Rattle.hypot.specs.Working.{parts}
use Rattle.hypot.specs.Patterns.{bits_of, positive_lt, units_of, of_fin, of_two}
use Rattle.hypot.specs.Middle.{beside_above, beside_below}
use Rattle.std.specs.Float.{nan}

-- ---- a stretch for every number: the first 54 digits of the whole root

digits_dropped : ℕ → ℕ
digits_dropped S = size (S / 2) - 53

module _ (n S : ℕ) (is : Is (4 * n) S) where
  k : ℕ
  k = digits_dropped S

  s : ℕ
  s = S / 2 ^ k

  t : ℕ
  t = 4 * n - s * 2 ^ k * (s * 2 ^ k)

  least : s * 2 ^ k * (s * 2 ^ k) ≤ 4 * n
  unfolding s
  least = le_trans (sq_mono (div-mul-le_self S (2 ^ k))) is.0

  most : 4 * n < (s + 1) * 2 ^ k * ((s + 1) * 2 ^ k)
  unfolding s
  most =
      let a : S < S / 2 ^ k * 2 ^ k + 2 ^ k = lt-div-mul-add (pow_pos k) in
      let b : S + 1 ≤ (S / 2 ^ k + 1) * 2 ^ k = omega (arith, a, add-mul (S / 2 ^ k) 1 (2 ^ k)) in
      lt_of_lt_of_le is.1 (sq_mono b)

  few : s < 2 ^ 54
  unfolding s k digits_dropped
  few =
      let j = size (S / 2) - 53 in
      let a : S / 2 < 2 ^ 53 * 2 ^ j = lt_of_lt_of_le (size-lt (S / 2)) (le_trans (pow_mono (room (size (S / 2)))) (le_of_eq (pow-add 2 53 j))) in
      let b : S < 2 ^ 54 * 2 ^ j = omega arith in
      (div-lt_iff_lt-mul (pow_pos j)).1 b
    where
      room : (x : ℕ) → x ≤ 53 + (x - 53)
      room x = omega arith

  all : (k ≡ 0) ⊎ (2 ^ 53 ≤ s)
  unfolding s k digits_dropped
  all = go (size (S / 2) - 53) refl
    where
      go : (j : ℕ) → size (S / 2) - 53 ≡ j → (size (S / 2) - 53 ≡ 0) ⊎ (2 ^ 53 ≤ S / 2 ^ (size (S / 2) - 53))
      go zero e = inl e
      go (suc i) e =
          let j = size (S / 2) - 53 in
          let l : 52 + j < size (S / 2) = omega arith in
          let a : 2 ^ 52 * 2 ^ j ≤ S / 2 = le_trans (le_of_eq (sym (pow-add 2 52 j))) (size_reaches (S / 2) (52 + j) l) in
          let b : 2 ^ 53 * 2 ^ j ≤ S = omega arith in
          inr ((le-div_iff_mul-le (pow_pos j)).1 b)

  full : Full n s k t
  unfolding t
  full = record {
    stretch = record {
      least = least;
      most = most;
      start = λ z. same (s * 2 ^ k * (s * 2 ^ k)) (4 * n) least z;
      inside = λ h. apart (s * 2 ^ k * (s * 2 ^ k)) (4 * n) h;
    };
    few = few;
    all = all;
  }
    where
      same : (a b : ℕ) → a ≤ b → b - a ≡ 0 → a ≡ b
      same a b h e = omega arith

      apart : (a b : ℕ) → 0 < b - a → a < b
      apart a b h = omega arith

-- ---- the edge of overflow: twice it is (2 ^ 54 - 1) * 2 ^ 2045

twice : (e n : ℕ) → (e * e ≤ n → 2 * e * (2 * e) ≤ 4 * n) × (2 * e * (2 * e) ≤ 4 * n → e * e ≤ n)
twice e n =
    let a : 2 * e * (2 * e) ≡ 4 * (e * e) = ap (λ (x : ℕ). x * x) (mul_comm 2 e) ∙ sq_even e in
    (λ h. omega arith, λ h. omega arith)

edge_is : 2 * edge ≡ (2 ^ 54 - 1) * 2 ^ 2045
edge_is = refl

module _ (n s k t : ℕ) (w : Full n s k t) where
  at_edge : edge * edge ≤ n → 0x7ff0_0000_0000_0000 ≤ bits k s t
  at_edge h =
      let a : (2 ^ 54 - 1) * 2 ^ 2045 * ((2 ^ 54 - 1) * 2 ^ 2045) ≤ 4 * n = subst (λ (x : ℕ). x * x ≤ 4 * n) edge_is ((twice edge n).0 h) in
      let b : (2 ^ 54 - 1) * 2 ^ 2045 < (s + 1) * 2 ^ k = sq_lt_back ((2 ^ 54 - 1) * 2 ^ 2045) ((s + 1) * 2 ^ k) (lt_of_le_of_lt a w.stretch.most) in
      go b (dec_le 2046 k) (dec_le 2045 k)
    where
      s_le : s + 1 ≤ 2 ^ 54
      s_le = omega (arith, w.few)

      eq_of : (k : ℕ) → 2045 ≤ k → (2046 ≤ k → ⊥) → k ≡ 2045
      eq_of k h f = omega arith

      le_of : (k : ℕ) → (2045 ≤ k → ⊥) → k ≤ 2044
      le_of k f = omega arith

      high_bits : (k ≡ 0) ⊎ (2 ^ 53 ≤ s) → 2046 ≤ k → 0x7ff0_0000_0000_0000 ≤ bits k s t
      high_bits (inl z) h = omega arith
      high_bits (inr g) h = omega arith

      last : (c : Bool) → k ≡ 2045 → 2 ^ 54 - 1 ≤ s → 0x7ff0_0000_0000_0000 ≤ k * 2 ^ 52 + (s + cond c (s / 2 % 2) 1) / 2
      last true e g =
          let a : s ≡ 2 ^ 54 - 1 = omega (arith, w.few) in
          let b : s / 2 % 2 ≡ 1 = ap (λ (x : ℕ). x / 2 % 2) a in
          omega arith
      last false e g = omega arith

      go : (2 ^ 54 - 1) * 2 ^ 2045 < (s + 1) * 2 ^ k → Dec (2046 ≤ k) → Dec (2045 ≤ k) → 0x7ff0_0000_0000_0000 ≤ bits k s t
      go b (yes g) d = high_bits w.all g
      go b (no f) (yes g) =
          let e = eq_of k g f in
          let c : 2 ^ 54 - 1 < s + 1 = lt_of_mul-lt-mul_right (2 ^ 2045) (subst (λ (x : ℕ). (2 ^ 54 - 1) * 2 ^ 2045 < (s + 1) * 2 ^ x) e b) in
          last (eqb t 0) e (omega arith)
      go b (no f) (no g) = absurd (lt_irrefl ((2 ^ 54 - 1) * 2 ^ 2045) (lt_of_lt_of_le b (le_trans (mul-le-mul s_le (pow_mono (le_of k g))) (lit≤ tt))))

  past_edge : 0x7ff0_0000_0000_0000 ≤ bits k s t → edge * edge ≤ n
  past_edge h = (twice edge n).1 (subst (λ (x : ℕ). x * x ≤ 4 * n) (sym edge_is) (le_trans (sq_mono (go (dec_le 2046 k))) w.stretch.least))
    where
      r : ((k ≡ 0) ⊎ (2 ^ 52 ≤ (s + digit s t) / 2)) × ((s + digit s t) / 2 ≤ 2 ^ 53)
      r = rounds.kept_range k s t w.few w.all

      digit_le : (c : Bool) → cond c (s / 2 % 2) 1 ≤ 1
      digit_le true = omega arith
      digit_le false = omega arith

      many : (k ≡ 0) ⊎ (2 ^ 53 ≤ s) → 2046 ≤ k → 2 ^ 53 ≤ s
      many (inl z) g = omega arith
      many (inr a) g = a

      not_less : (2046 ≤ k → ⊥) → k ≤ 2045
      not_less f = omega arith

      go : Dec (2046 ≤ k) → (2 ^ 54 - 1) * 2 ^ 2045 ≤ s * 2 ^ k
      go (yes g) = le_trans (lit≤ tt) (mul-le-mul (many w.all g) (pow_mono g))
      go (no f) =
          let a : k ≡ 2045 = omega (arith, not_less f, r.1) in
          let b : 2 ^ 54 - 1 ≤ s = omega (arith, digit_le (eqb t 0)) in
          mul-le-mul b (le_of_eq (ap (λ (x : ℕ). 2 ^ x) (sym a)))

  -- ---- below the edge

  module _ (less : bits k s t < 0x7ff0_0000_0000_0000) where
    value : units (of_bits binary64 (bits k s t)) ≡ (s + digit s t) / 2 * 2 ^ k
    value =
        let r = rounds.kept_range k s t w.few w.all in
        pattern_units (bits k s t) less ∙ rounds.val_is k ((s + digit s t) / 2) r.0 r.1

    even : (s + digit s t) / 2 % 2 ≡ 0 → to_bits binary64 (of_bits binary64 (bits k s t)) % 2 ≡ 0
    even e =
        let b = bits k s t in
        let c : k * 2 ^ 52 + (s + digit s t) / 2 ≡ b = refl in
        ap (λ (x : ℕ). x % 2) (to_bits-of_bits binary64 b (omega arith) (subst (λ (u : Bool). T (not u)) (nan_bits_is binary64 b) (no_nan b (le_of_lt less)))) ∙ parity k ((s + digit s t) / 2) e
      where
        parity : (k q : ℕ) → q % 2 ≡ 0 → (k * 2 ^ 52 + q) % 2 ≡ 0
        parity k q e = omega arith

    nearest_bits : Nearest n (of_bits binary64 (bits k s t))
    nearest_bits =
        let r = of_bits binary64 (bits k s t) in
        record {
          held = of_bits-fits binary64 (bits k s t);
          sign = pattern_counted (bits k s t) less;
          below = λ z f c g.
              let d = digits z f c in
              let m : (units z + units r) * (units z + units r) ≤ 4 * n = rw (d.2, value) (beside_below n s k t w d.0 d.1 d.3 (rw (d.2, value) at g)).0 in
              m;
          above = λ z f c g.
              let d = digits z f c in
              let m : 4 * n ≤ (units z + units r) * (units z + units r) = rw (d.2, value) (beside_above n s k t w d.0 d.1 d.3 (rw (value, d.2) at g)).0 in
              m;
          tie = λ z f c d e. tie z f c d e (dec_lt (units z) (units r)) (dec_lt (units r) (units z));
        }
      where
        equal : (a b : ℕ) → (a < b → ⊥) → (b < a → ⊥) → a ≡ b
        equal a b h k = omega arith

        tie : (z : Float) → T (fits binary64 z) → T (counted z) → (units z ≡ units (of_bits binary64 (bits k s t)) → ⊥) → (units z + units (of_bits binary64 (bits k s t))) * (units z + units (of_bits binary64 (bits k s t))) ≡ 4 * n
            → Dec (units z < units (of_bits binary64 (bits k s t))) → Dec (units (of_bits binary64 (bits k s t)) < units z) → to_bits binary64 (of_bits binary64 (bits k s t)) % 2 ≡ 0
        tie z f c d e (yes g) h =
            let v = digits z f c in
            even ((beside_below n s k t w v.0 v.1 v.3 (rw (v.2, value) at g)).1 (rw (v.2, value) at e))
        tie z f c d e (no g) (yes h) =
            let v = digits z f c in
            even ((beside_above n s k t w v.0 v.1 v.3 (rw (value, v.2) at h)).1 (rw (v.2, value) at e))
        tie z f c d e (no g) (no h) = absurd (d (equal (units z) (units (of_bits binary64 (bits k s t))) g h))

-- ---- the theorem

packed_under : (k s t : ℕ) → bits k s t < 0x7ff0_0000_0000_0000 → packed k s t ≡ bits k s t
unfolding packed
packed_under k s t h = ap (λ (c : Bool). cond c (bits k s t) 0x7ff0_0000_0000_0000) (lt-ltb (bits k s t) 0x7ff0_0000_0000_0000 h)

packed_over : (k s t : ℕ) → 0x7ff0_0000_0000_0000 ≤ bits k s t → packed k s t ≡ 0x7ff0_0000_0000_0000
unfolding packed
packed_over k s t h = ap (λ (c : Bool). cond c (bits k s t) 0x7ff0_0000_0000_0000) (le-ltb (bits k s t) 0x7ff0_0000_0000_0000 h)

module _ (n s k t : ℕ) (l : 4 * n < 4 ^ 2100) (w : Full n s k t) where
  root_over : edge * edge ≤ n → root_of_sum n ≡ inf false
  root_over h = sym (rounds.rounds n s k t l w) ∙ ap (of_bits binary64) (packed_over k s t (at_edge n s k t w h)) ∙ infinity

  root_under : n < edge * edge → Nearest n (root_of_sum n)
  root_under h =
      let less : bits k s t < 0x7ff0_0000_0000_0000 = lt_of_not-le (λ (g : 0x7ff0_0000_0000_0000 ≤ bits k s t). not-le_of_lt h (past_edge n s k t w g)) in
      subst (λ (r : Float). Nearest n r) (ap (of_bits binary64) (sym (packed_under k s t less)) ∙ rounds.rounds n s k t l w) (nearest_bits n s k t w less)

val_lt : (b : ℕ) → b < 0x7ff0_0000_0000_0000 → val b < 2 ^ 2098
val_lt b h =
    let w = parts b (low b) h refl in
    rounds.finite (low b) (high b) w.all (le_of_lt w.few) (subst (λ (x : ℕ). x < 0x7ff0_0000_0000_0000) (sym w.sum) h)

units_lt : (x : Float) → T (fits binary64 x) → T (finite x) → units x < 2 ^ 2098
units_lt (fin s m e) f c = subst (λ (u : ℕ). u < 2 ^ 2098) (sym (units_of s m e f)) (val_lt (bits_of (fin s m e)) (of_fin s m e f))
units_lt nan f c = elim c [ ]
units_lt (inf _) f c = elim c [ ]

of_squares : (x y : Float) → T (finite x) → T (finite y) → hypot2 x y ≡ root_of_sum (squares x y)
of_squares (fin s m e) (fin t n d) f g = of_two s m e t n d
of_squares nan y f g = elim f [ ]
of_squares (inf _) y f g = elim f [ ]
of_squares (fin s m e) nan f g = elim g [ ]
of_squares (fin s m e) (inf _) f g = elim g [ ]

pub hypot2_nearest : (x y : Float) → T (fits binary64 x) → T (fits binary64 y) → T (finite x) → T (finite y) → NearestEven x y (hypot2 x y)
hypot2_nearest x y f g c d =
    let n = squares x y in
    let l : 4 * n < 4 ^ 2100 = rounds.in_reach (units x) (units y) (units_lt x f c) (units_lt y g d) in
    let is = whole_is 2100 (4 * n) l in
    let w = full n (whole 2100 (4 * n)) is in
    record {
      over = λ h. of_squares x y c d ∙ root_over n _ _ _ l w h;
      under = λ h. subst (λ (r : Float). Nearest n r) (sym (of_squares x y c d)) (root_under n _ _ _ l w h);
    }

-- ---- only one

pattern_lt : (r : Float) → T (fits binary64 r) → T (counted r) → to_bits binary64 r < 0x7ff0_0000_0000_0000
pattern_lt (fin false m e) f c = positive_lt false m e f
pattern_lt nan f c = elim c [ ]
pattern_lt (inf _) f c = elim c [ ]
pattern_lt (fin true m e) f c = elim c [ ]

value_of : (r : Float) → T (fits binary64 r) → T (counted r) → units r ≡ fields.val (to_bits binary64 r)
value_of r f c = ap units (sym (of_bits-to_bits binary64 r f)) ∙ pattern_units (to_bits binary64 r) (pattern_lt r f c)

-- of two that are as near, both even, the one between them would be nearer
apart : (n : ℕ) (r s : Float) → Nearest n r → Nearest n s → units r < units s → ⊥
apart n r s p q h =
    let u = units r in
    let v = units s in
    let a : (u + v) * (u + v) ≤ 4 * n = q.below r p.held p.sign h in
    let b : 4 * n ≤ (v + u) * (v + u) = p.above s q.held q.sign h in
    let e : (u + v) * (u + v) ≡ 4 * n = le_antisymm a (le_trans b (le_of_eq (ap (λ (x : ℕ). x * x) (add_comm v u)))) in
    let f : (v + u) * (v + u) ≡ 4 * n = ap (λ (x : ℕ). x * x) (add_comm v u) ∙ e in
    let c : to_bits binary64 r % 2 ≡ 0 = p.tie s q.held q.sign (λ (w : v ≡ u). omega arith) f in
    let d : to_bits binary64 s % 2 ≡ 0 = q.tie r p.held p.sign (λ (w : u ≡ v). omega arith) e in
    let i = to_bits binary64 r in
    let j = to_bits binary64 s in
    let o : i < j = val_back i j (rw (value_of r p.held p.sign, value_of s q.held q.sign) at h) in
    let top : j < 0x7ff0_0000_0000_0000 = pattern_lt s q.held q.sign in
    let two : i + 1 + 1 ≤ j = room i j o c d in
    let less : i + 1 < 0x7ff0_0000_0000_0000 = omega arith in
    let z = of_bits binary64 (i + 1) in
    let zu : units z ≡ fields.val (i + 1) = pattern_units (i + 1) less in
    let zr : u < units z = rw (zu, value_of r p.held p.sign) (val_step i) in
    let zs : units z < v = rw (zu, value_of s q.held q.sign) (lt_of_lt_of_le (val_step (i + 1)) (val_mono (i + 1 + 1) j two)) in
    let k : 4 * n ≤ (units z + u) * (units z + u) = p.above z (of_bits-fits binary64 (i + 1)) (pattern_counted (i + 1) less) zr in
    let m : units z + u < v + u = omega arith in
    lt_irrefl (4 * n) (lt_of_le_of_lt k (lt_of_lt_of_le (sq_lt m) (le_of_eq f)))
  where
    room : (i j : ℕ) → i < j → i % 2 ≡ 0 → j % 2 ≡ 0 → i + 1 + 1 ≤ j
    room i j h a b = omega arith

pub nearest_one : (n : ℕ) (r s : Float) → Nearest n r → Nearest n s → r ≡ s
nearest_one n r s p q = go (dec_lt (units r) (units s)) (dec_lt (units s) (units r))
  where
    tri : (a b : ℕ) → (a < b → ⊥) → (b < a → ⊥) → a ≡ b
    tri a b h k = omega arith

    go : Dec (units r < units s) → Dec (units s < units r) → r ≡ s
    go (yes l) d = absurd (apart n r s p q l)
    go (no f) (yes l) = absurd (apart n s r q p l)
    go (no f) (no g) = units_inj r s p.held p.sign q.held q.sign (tri (units r) (units s) f g)

pub nearest_only : (x y r s : Float) → NearestEven x y r → NearestEven x y s → r ≡ s
nearest_only x y r s p q = go (dec_le (edge * edge) (squares x y))
  where
    go : Dec (edge * edge ≤ squares x y) → r ≡ s
    go (yes h) = p.over h ∙ sym (q.over h)
    go (no f) = nearest_one (squares x y) r s (p.under (lt_of_not-le f)) (q.under (lt_of_not-le f))
