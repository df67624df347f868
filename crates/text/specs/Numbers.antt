-- A decimal number of at most three digits is read where it is written, and only there. Laws only.
use Rattle.std.specs.Prelude.{◌≡◌, refl, Option, Some, None, Bool, true, false, cond, List, [], ◌∷◌, ◌++◌, ℕ, zero, suc, ◌+◌, ◌*◌, ◌/◌, ◌%◌, ◌≤◌, ◌<◌, ltb, leb, eqb, length, drop}
use Rattle.std.proofs.Common.{sym, ap, ◌∙◌, ⊎_elim, add-one, arith, ltb-true, ltb-false, leb-false, eqb-true, eq-eqb, ne_eqb, drop-cons, get_or-drop}
use Rattle.std.proofs.lemmas.Bool.{lt-leb, eqb-false}
use Rattle.std.proofs.Math.ListN.{get_or-eq_default}
use Rattle.text.specs.Writing.{digits, places_from, places, number}
use Rattle.text.specs.Reading.{value, ended, number_of, number_at}
use Rattle.octets.specs.Bytes.{byte}
use Rattle.text.specs.declared.Number.{Number}
use Rattle.text.specs.Laws.{digit_cases, value_low, value_high, glyph_low}

-- ---- how they are written

pub number_one : (d end : ℕ) → d < 10 → number d end ≡ (48 + d) ∷ end ∷ []
unfolding number digits places places_from
number_one d end h =
    let a : d / 10 ≡ 0 = omega arith in
    let b : d % 10 ≡ d = omega arith in
    rw (eq-eqb (d / 10) 0 a, b, glyph_low d h)

pub number_two : (d end : ℕ) → 10 ≤ d → d < 100 → number d end ≡ (48 + d / 10) ∷ (48 + d % 10) ∷ end ∷ []
unfolding number digits places places_from
number_two d end g h =
    let a : d / 10 ≡ 0 → ⊥ = λ e. omega arith in
    let b : d / 10 / 10 ≡ 0 = omega arith in
    let c : d / 10 % 10 ≡ d / 10 = omega arith in
    rw (ne_eqb (d / 10) 0 a, eq-eqb (d / 10 / 10) 0 b, c, glyph_low (d / 10) (omega arith), glyph_low (d % 10) (omega arith))

pub number_three : (d end : ℕ) → 100 ≤ d → d < 1000 → number d end ≡ (48 + d / 10 / 10) ∷ (48 + d / 10 % 10) ∷ (48 + d % 10) ∷ end ∷ []
unfolding number digits places places_from
number_three d end g h =
    let a : d / 10 ≡ 0 → ⊥ = λ e. omega arith in
    let b : d / 10 / 10 ≡ 0 → ⊥ = λ e. omega arith in
    let c : d / 10 / 10 / 10 ≡ 0 = omega arith in
    let f : d / 10 / 10 % 10 ≡ d / 10 / 10 = omega arith in
    rw (
      ne_eqb (d / 10) 0 a,
      ne_eqb (d / 10 / 10) 0 b,
      eq-eqb (d / 10 / 10 / 10) 0 c,
      f,
      glyph_low (d / 10 / 10) (omega arith),
      glyph_low (d / 10 % 10) (omega arith),
      glyph_low (d % 10) (omega arith),
    )

pub number_short : (d end : ℕ) → d < 100 → length (number d end) ≤ 3
number_short d end h = go (ltb d 10) refl
  where
    go : (b : Bool) → ltb d 10 ≡ b → length (number d end) ≤ 3
    go true e = rw (number_one d end (ltb-true d 10 e)) (omega arith)
    go false e = rw (number_two d end (ltb-false d 10 e) h) (omega arith)

pub number_long : (d end : ℕ) → d < 1000 → length (number d end) ≤ 4
number_long d end h = go (ltb d 100) refl
  where
    go : (b : Bool) → ltb d 100 ≡ b → length (number d end) ≤ 4
    go true e =
        let g = number_short d end (ltb-true d 100 e) in
        omega arith
    go false e = rw (number_three d end (ltb-false d 100 e) h) (omega arith)

-- ---- bytes of a text

pub within : (t : List ℕ) (i b : ℕ) → 0 < b → byte t i ≡ b → i < length t
within t i b h e = go (ltb i (length t)) refl
  where
    go : (x : Bool) → ltb i (length t) ≡ x → i < length t
    go true f = ltb-true i (length t) f
    go false f =
        let z : byte t i ≡ 0 = get_or-eq_default t 0 (ltb-false i (length t) f) in
        absurd (omega arith)

pub next_byte : (t : List ℕ) (at : ℕ) → at < length t → drop at t ≡ byte t at ∷ drop (at + 1) t
next_byte t at h = drop-cons t at 0 h ∙ rw add-one

pub low_digit : (b : ℕ) → value b < 10 → b ≡ 48 + value b
low_digit b h = ⊎_elim
    (λ w. let v = value_low b w.0 w.1 in omega arith)
    (λ w. let v = value_high b w.0 w.1 in absurd (omega arith))
    (digit_cases b (omega arith))

pub value_digit : (d : ℕ) → d < 10 → value (48 + d) ≡ d
value_digit d h = value_low (48 + d) (omega arith) (omega arith) ∙ omega arith

-- ---- the three ways in which a number is read

data Read (at end a b c d v next : ℕ) : Type 0 where
  one : value a < 10 → b ≡ end → v ≡ value a → next ≡ at + 2 → Read at end a b c d v next
  two : 0 < value a → value a < 10 → value b < 10 → c ≡ end → v ≡ value a * 10 + value b → next ≡ at + 3 → Read at end a b c d v next
  three : 0 < value a → value a < 10 → value b < 10 → value c < 10 → d ≡ end → v ≡ value a * 100 + value b * 10 + value c → next ≡ at + 4
      → Read at end a b c d v next

value_in : Option Number → ℕ
value_in (Some x) = x.value
value_in None = 0

next_in : Option Number → ℕ
next_in (Some x) = x.next
next_in None = 0

ended_value : {v next v' next' : ℕ} → ended v next ≡ ended v' next' → v' ≡ v
unfolding value_in
ended_value e = sym (ap value_in e)

ended_next : {v next v' next' : ℕ} → ended v next ≡ ended v' next' → next' ≡ next
unfolding next_in
ended_next e = sym (ap next_in e)

positive : (x : ℕ) → (x ≡ 0 → ⊥) → 0 < x
positive zero h = absurd (h refl)
positive (suc x) h = omega arith

no_number : {v next : ℕ} → ◌≡◌ {A = Option Number} None (ended v next) → ⊥
no_number e =
    let z : ◌≡◌ {A = ℕ} 0 1 = cc in
    omega arith

ways : (at end a b c d v next : ℕ) → number_of at end a b c d ≡ ended v next → Read at end a b c d v next
unfolding number_of
ways at end a b c d v next =
    go (leb 10 (value a)) (eqb b end) (eqb (value a) 0) (leb 10 (value b)) (eqb c end) (leb 10 (value c)) (eqb d end) refl refl refl refl refl refl refl
  where
    go : (p q r s x y z : Bool) → leb 10 (value a) ≡ p → eqb b end ≡ q → eqb (value a) 0 ≡ r → leb 10 (value b) ≡ s → eqb c end ≡ x → leb 10 (value c) ≡ y
        → eqb d end ≡ z
        → cond p None (cond q (ended (value a) (at + 2)) (cond r None (cond s None (cond x (ended (value a * 10 + value b) (at + 3))
        (cond y None (cond z (ended (value a * 100 + value b * 10 + value c) (at + 4)) None)))))) ≡ ended v next
        → Read at end a b c d v next
    go true q r s x y z ep eq er es ex ey ez h = absurd (no_number h)
    go false true r s x y z ep eq er es ex ey ez h = one (leb-false 10 (value a) ep) (eqb-true b end eq) (ended_value h) (ended_next h)
    go false false true s x y z ep eq er es ex ey ez h = absurd (no_number h)
    go false false false true x y z ep eq er es ex ey ez h = absurd (no_number h)
    go false false false false true y z ep eq er es ex ey ez h =
        two (positive (value a) (eqb-false (value a) 0 er)) (leb-false 10 (value a) ep) (leb-false 10 (value b) es) (eqb-true c end ex) (ended_value h) (ended_next h)
    go false false false false false true z ep eq er es ex ey ez h = absurd (no_number h)
    go false false false false false false true ep eq er es ex ey ez h =
        three (positive (value a) (eqb-false (value a) 0 er)) (leb-false 10 (value a) ep) (leb-false 10 (value b) es) (leb-false 10 (value c) ey) (eqb-true d end ez) (ended_value h) (ended_next h)
    go false false false false false false false ep eq er es ex ey ez h = absurd (no_number h)

-- ---- what is read is what is written

from_two : (t : List ℕ) (at : ℕ) → at + 1 < length t → drop at t ≡ byte t at ∷ byte t (at + 1) ∷ drop (at + 2) t
from_two t at h =
    let e : at + 1 + 1 ≡ at + 2 = omega arith in
    next_byte t at (omega arith)
    ∙ ap (λ (l : List ℕ). byte t at ∷ l) (next_byte t (at + 1) h ∙ ap (λ (i : ℕ). byte t (at + 1) ∷ drop i t) e)

from_three : (t : List ℕ) (at : ℕ) → at + 2 < length t → drop at t ≡ byte t at ∷ byte t (at + 1) ∷ byte t (at + 2) ∷ drop (at + 3) t
from_three t at h =
    let e : at + 2 + 1 ≡ at + 3 = omega arith in
    from_two t at (omega arith)
    ∙ ap (λ (l : List ℕ). byte t at ∷ byte t (at + 1) ∷ l) (next_byte t (at + 2) h ∙ ap (λ (i : ℕ). byte t (at + 2) ∷ drop i t) e)

from_four : (t : List ℕ) (at : ℕ) → at + 3 < length t → drop at t ≡ byte t at ∷ byte t (at + 1) ∷ byte t (at + 2) ∷ byte t (at + 3) ∷ drop (at + 4) t
from_four t at h =
    let e : at + 3 + 1 ≡ at + 4 = omega arith in
    from_three t at (omega arith)
    ∙ ap (λ (l : List ℕ). byte t at ∷ byte t (at + 1) ∷ byte t (at + 2) ∷ l) (next_byte t (at + 3) h ∙ ap (λ (i : ℕ). byte t (at + 3) ∷ drop i t) e)

pub record Known (t : List ℕ) (at end v next : ℕ) : Type 0 where
  pub below : v < 1000
  pub near : next ≤ at + 4
  pub text : drop at t ≡ number v end ++ drop next t

known : (t : List ℕ) (at end v next : ℕ) → 0 < end → Read at end (byte t at) (byte t (at + 1)) (byte t (at + 2)) (byte t (at + 3)) v next → Known t at end v next
known t at end v next z (one p e f g) =
    let a : byte t at ≡ 48 + v = low_digit (byte t at) p ∙ omega arith in
    let l : at + 1 < length t = within t (at + 1) end z e in
    let w : number v end ≡ (48 + v) ∷ end ∷ [] = number_one v end (omega arith) in
    record { below = omega arith; near = omega arith; text = from_two t at l ∙ rw (w, ← a, ← e, g) }
known t at end v next z (two o p q e f g) =
    let h : v / 10 ≡ value (byte t at) = omega arith in
    let i : v % 10 ≡ value (byte t (at + 1)) = omega arith in
    let a : byte t at ≡ 48 + v / 10 = low_digit (byte t at) p ∙ omega arith in
    let b : byte t (at + 1) ≡ 48 + v % 10 = low_digit (byte t (at + 1)) q ∙ omega arith in
    let l : at + 2 < length t = within t (at + 2) end z e in
    let w : number v end ≡ (48 + v / 10) ∷ (48 + v % 10) ∷ end ∷ [] = number_two v end (omega arith) (omega arith) in
    record { below = omega arith; near = omega arith; text = from_three t at l ∙ rw (w, ← a, ← b, ← e, g) }
known t at end v next z (three o p q r e f g) =
    let h : v / 10 / 10 ≡ value (byte t at) = omega arith in
    let i : v / 10 % 10 ≡ value (byte t (at + 1)) = omega arith in
    let j : v % 10 ≡ value (byte t (at + 2)) = omega arith in
    let a : byte t at ≡ 48 + v / 10 / 10 = low_digit (byte t at) p ∙ omega arith in
    let b : byte t (at + 1) ≡ 48 + v / 10 % 10 = low_digit (byte t (at + 1)) q ∙ omega arith in
    let c : byte t (at + 2) ≡ 48 + v % 10 = low_digit (byte t (at + 2)) r ∙ omega arith in
    let l : at + 3 < length t = within t (at + 3) end z e in
    let w : number v end ≡ (48 + v / 10 / 10) ∷ (48 + v / 10 % 10) ∷ (48 + v % 10) ∷ end ∷ [] = number_three v end (omega arith) (omega arith) in
    record { below = omega arith; near = omega arith; text = from_four t at l ∙ rw (w, ← a, ← b, ← c, ← e, g) }

-- a number that was read stands there as it is written
pub number_known : (t : List ℕ) (at end v next : ℕ) → 0 < end → number_at t at end ≡ ended v next → Known t at end v next
unfolding number_at
number_known t at end v next z e = known t at end v next z (ways at end (byte t at) (byte t (at + 1)) (byte t (at + 2)) (byte t (at + 3)) v next e)

pub number_near : (t : List ℕ) (end v next : ℕ) → 0 < end → number_at t 0 end ≡ ended v next → next ≤ 4
number_near t end v next z e = (number_known t 0 end v next z e).near

-- ---- and what is written is read

byte_of : (t : List ℕ) (at i : ℕ) {l : List ℕ} → drop at t ≡ l → byte t (at + i) ≡ byte l i
byte_of t at i e = sym (get_or-drop at t i 0) ∙ ap (λ (l : List ℕ). byte l i) e

first_byte : (t : List ℕ) (at : ℕ) {l : List ℕ} → drop at t ≡ l → byte t at ≡ byte l 0
first_byte t at e = ap (λ (i : ℕ). byte t i) (omega arith) ∙ byte_of t at 0 e

read_one : (at end b c d x : ℕ) → x < 10 → b ≡ end → number_of at end (48 + x) b c d ≡ ended x (at + 2)
unfolding number_of
read_one at end b c d x p e = rw (value_digit x p, lt-leb 10 x p, eq-eqb b end e)

read_two : (at end c d x y : ℕ) → 0 < x → x < 10 → y < 10 → end < 48 → c ≡ end → number_of at end (48 + x) (48 + y) c d ≡ ended (x * 10 + y) (at + 3)
unfolding number_of
read_two at end c d x y o p q l e =
    let f : 48 + y ≡ end → ⊥ = λ h. omega arith in
    let g : x ≡ 0 → ⊥ = λ h. omega arith in
    rw (value_digit x p, value_digit y q, lt-leb 10 x p, ne_eqb (48 + y) end f, ne_eqb x 0 g, lt-leb 10 y q, eq-eqb c end e)

read_three : (at end d x y z : ℕ) → 0 < x → x < 10 → y < 10 → z < 10 → end < 48 → d ≡ end
    → number_of at end (48 + x) (48 + y) (48 + z) d ≡ ended (x * 100 + y * 10 + z) (at + 4)
unfolding number_of
read_three at end d x y z o p q r l e =
    let f : 48 + y ≡ end → ⊥ = λ h. omega arith in
    let i : 48 + z ≡ end → ⊥ = λ h. omega arith in
    let g : x ≡ 0 → ⊥ = λ h. omega arith in
    rw (
      value_digit x p,
      value_digit y q,
      value_digit z r,
      lt-leb 10 x p,
      ne_eqb (48 + y) end f,
      ne_eqb x 0 g,
      lt-leb 10 y q,
      ne_eqb (48 + z) end i,
      lt-leb 10 z r,
      eq-eqb d end e,
    )

pub number_read : (t : List ℕ) (at end v : ℕ) (rest : List ℕ) → v < 1000 → end < 48 → drop at t ≡ number v end ++ rest
    → number_at t at end ≡ ended v (at + length (number v end))
unfolding number_at
number_read t at end v rest h l e = go (ltb v 10) (ltb v 100) refl refl
  where
    go : (p q : Bool) → ltb v 10 ≡ p → ltb v 100 ≡ q
        → number_of at end (byte t at) (byte t (at + 1)) (byte t (at + 2)) (byte t (at + 3)) ≡ ended v (at + length (number v end))
    go true q ep eq =
        let w : number v end ≡ (48 + v) ∷ end ∷ [] = number_one v end (ltb-true v 10 ep) in
        let f = rw w at e in
        rw (w, first_byte t at f) (read_one at end (byte t (at + 1)) (byte t (at + 2)) (byte t (at + 3)) v (ltb-true v 10 ep) (byte_of t at 1 f))
    go false true ep eq =
        let g : 10 ≤ v = ltb-false v 10 ep in
        let j : v < 100 = ltb-true v 100 eq in
        let w : number v end ≡ (48 + v / 10) ∷ (48 + v % 10) ∷ end ∷ [] = number_two v end g j in
        let f = rw w at e in
        let k : v / 10 * 10 + v % 10 ≡ v = omega arith in
        rw (w, first_byte t at f, byte_of t at 1 f)
        (read_two at end (byte t (at + 2)) (byte t (at + 3)) (v / 10) (v % 10) (omega arith) (omega arith) (omega arith) l (byte_of t at 2 f)
        ∙ ap (λ (x : ℕ). ended x (at + 3)) k)
    go false false ep eq =
        let g : 100 ≤ v = ltb-false v 100 eq in
        let w : number v end ≡ (48 + v / 10 / 10) ∷ (48 + v / 10 % 10) ∷ (48 + v % 10) ∷ end ∷ [] = number_three v end g h in
        let f = rw w at e in
        let k : v / 10 / 10 * 100 + v / 10 % 10 * 10 + v % 10 ≡ v = omega arith in
        rw (w, first_byte t at f, byte_of t at 1 f, byte_of t at 2 f)
        (read_three at end (byte t (at + 3)) (v / 10 / 10) (v / 10 % 10) (v % 10) (omega arith) (omega arith) (omega arith) (omega arith) l (byte_of t at 3 f)
        ∙ ap (λ (x : ℕ). ended x (at + 4)) k)
