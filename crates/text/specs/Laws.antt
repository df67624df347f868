-- Digits and their values, words. Laws only.
use Rattle.std.specs.Prelude.{◌≡◌, refl, Option, Some, None, Bool, true, false, cond, ◌⊎◌, List, [], ◌∷◌, ◌++◌, ℕ, zero, suc, ◌+◌, ◌-◌, ◌*◌, ◌/◌, ◌%◌, ◌^◌, ◌≤◌, ◌<◌, ltb, length, take, drop}
use Rattle.std.specs.Option.{is_some}
use Rattle.std.proofs.Common.{sym, ap, ◌∙◌, inl, inr, ⊎_elim, not-suc-le-zero, pow-suc, add-one, arith, ltb-true, ltb-false, lt-ltb, le-ltb, length-append}
use Rattle.std.proofs.Math.Nat.{pow-le-pow_right}
use Rattle.text.specs.Writing.{glyph, digits}
use Rattle.text.specs.Reading.{value, value_at, digit_at, horner}
use Rattle.octets.specs.Bytes.{byte}
use Rattle.octets.proofs.BytesLaws.{parts, one_of, take_more, part_length}
use Rattle.grid.specs.Loop.{every}
use Rattle.grid.specs.LoopLaws.{below_cases, every_at}

-- ---- digits

pub digits_length : (b k n : ℕ) → length (digits b k n) ≡ k
unfolding digits
digits_length b zero n = refl
digits_length b (suc k) n = length-append (digits b k (n / b)) (glyph (n % b) ∷ []) ∙ rw (digits_length b k (n / b), add-one)

pub value_low : (b : ℕ) → 48 ≤ b → b < 58 → value b ≡ b - 48
unfolding value
value_low b h g = rw (le-ltb b 48 h, lt-ltb b 58 g)

pub value_high : (b : ℕ) → 97 ≤ b → b < 103 → value b ≡ b - 87
unfolding value
value_high b h g =
    let p : 48 ≤ b = omega arith in
    let q : 58 ≤ b = omega arith in
    rw (le-ltb b 48 p, le-ltb b 58 q, le-ltb b 97 h, lt-ltb b 103 g)

-- what a test and a value come from
module _ {A : Type 0} where
  some_in : A → Option A → A
  some_in x (Some y) = y
  some_in x None = x

  pub some_is : (b : Bool) (x y : A) → cond b (Some x) None ≡ Some y → (b ≡ true) × (y ≡ x)
  unfolding some_in
  some_is true x y e = (refl, sym (ap (some_in x) e))
  some_is false x y e =
      let z : ◌≡◌ {A = ℕ} 0 1 = cc in
      absurd (omega arith)

  pub none_is : (b : Bool) (x : A) → cond b (Some x) None ≡ None → b ≡ false
  none_is true x e =
      let z : ◌≡◌ {A = ℕ} 0 1 = cc in
      absurd (omega arith)
  none_is false x e = refl

  pub is_some_of : (b : Bool) (x : A) → is_some (cond b (Some x) None) ≡ b
  is_some_of true x = refl
  is_some_of false x = refl

-- which bytes are digits
pub digit_cases : (b : ℕ) → value b < 16 → ((48 ≤ b) × (b < 58)) ⊎ ((97 ≤ b) × (b < 103))
unfolding value
digit_cases b = go (ltb b 48) (ltb b 58) (ltb b 97) (ltb b 103) refl refl refl refl
  where
    go : (p q r s : Bool) → ltb b 48 ≡ p → ltb b 58 ≡ q → ltb b 97 ≡ r → ltb b 103 ≡ s
        → cond p 16 (cond q (b - 48) (cond r 16 (cond s (b - 87) 16))) < 16 → ((48 ≤ b) × (b < 58)) ⊎ ((97 ≤ b) × (b < 103))
    go true q r s ep eq er es h = absurd (omega arith)
    go false true r s ep eq er es h = inl (ltb-false b 48 ep, ltb-true b 58 eq)
    go false false true s ep eq er es h = absurd (omega arith)
    go false false false true ep eq er es h = inr (ltb-false b 97 er, ltb-true b 103 es)
    go false false false false ep eq er es h = absurd (omega arith)

pub glyph_low : (d : ℕ) → d < 10 → glyph d ≡ 48 + d
unfolding glyph
glyph_low d h = rw (lt-ltb d 10 h)

pub glyph_high : (d : ℕ) → 10 ≤ d → glyph d ≡ 87 + d
unfolding glyph
glyph_high d h = rw (le-ltb d 10 h)

pub glyph_value : (b : ℕ) → value b < 16 → glyph (value b) ≡ b
glyph_value b h = ⊎_elim
    (λ w. rw (value_low b w.0 w.1) (glyph_low (b - 48) (omega arith) ∙ omega arith))
    (λ w. rw (value_high b w.0 w.1) (glyph_high (b - 87) (omega arith) ∙ omega arith))
    (digit_cases b h)

pub value_glyph : (d : ℕ) → d < 16 → value (glyph d) ≡ d
value_glyph d h = go (ltb d 10) refl
  where
    go : (b : Bool) → ltb d 10 ≡ b → value (glyph d) ≡ d
    go true e =
        let g : d < 10 = ltb-true d 10 e in
        rw (glyph_low d g) (value_low (48 + d) (omega arith) (omega arith) ∙ omega arith)
    go false e =
        let g : 10 ≤ d = ltb-false d 10 e in
        rw (glyph_high d g) (value_high (87 + d) (omega arith) (omega arith) ∙ omega arith)

-- ---- words

pub horner_bound : (d : ℕ → ℕ) (k : ℕ) → ((i : ℕ) → i < k → d i < 16) → horner d k < 16 ^ k
unfolding horner
horner_bound d zero h = omega arith
horner_bound d (suc k) h =
    let a : horner d k < 16 ^ k = horner_bound d k (λ i g. h i (omega arith)) in
    let b : d k < 16 = h k (omega arith) in
    rw (pow-suc 16 k) (omega arith)

pub horner_more : (d : ℕ → ℕ) (k : ℕ) → horner d k * 16 + d k ≡ horner d (k + 1)
unfolding horner
horner_more d k = rw add-one

-- a word's digits so far, and one more, fit 64 bits
pub horner_fits : (t : List ℕ) (at i : ℕ) → every (digit_at t at) 16 ≡ true → i < 16 → horner (value_at t at) i * 16 + value_at t at i < 2 ^ 64
horner_fits t at i e h =
    let a : horner (value_at t at) (i + 1) < 16 ^ (i + 1) =
    horner_bound (value_at t at) (i + 1) (λ j l. ltb-true (value_at t at j) 16 (every_at (digit_at t at) 16 j e (omega arith))) in
    let b : 16 ^ (i + 1) ≤ 16 ^ 16 = pow-le-pow_right (omega arith) {i = i + 1} {j = 16} (omega arith) in
    rw (horner_more (value_at t at) i) (omega arith)

-- the same where only the digits so far and this one are known
pub horner_room : (t : List ℕ) (at i : ℕ) → every (digit_at t at) i ≡ true → value_at t at i < 16 → i < 16 → horner (value_at t at) i * 16 + value_at t at i < 2 ^ 64
horner_room t at i e d h =
    let a : horner (value_at t at) i < 16 ^ i =
    horner_bound (value_at t at) i (λ j l. ltb-true (value_at t at j) 16 (every_at (digit_at t at) i j e l)) in
    let b : 16 ^ suc i ≤ 16 ^ 16 = pow-le-pow_right (omega arith) {i = suc i} {j = 16} (omega arith) in
    let c : 16 ^ suc i ≡ 16 ^ i * 16 = pow-suc 16 i in
    omega arith

-- digits that stand in a text from `at` on are the digits of their number
pub spelled : (t : List ℕ) (at k : ℕ) → at + k ≤ length t → ((i : ℕ) → i < k → value_at t at i < 16)
    → take k (drop at t) ≡ digits 16 k (horner (value_at t at) k)
unfolding digits horner
spelled t at zero h g = refl
spelled t at (suc k) h g =
    let v : ℕ = value_at t at k in
    let w : ℕ = horner (value_at t at) k in
    let b : v < 16 = g k (omega arith) in
    let q : (w * 16 + v) / 16 ≡ w = omega arith in
    let r : (w * 16 + v) % 16 ≡ v = omega arith in
    take_more t at k (omega arith)
    ∙ ap (λ (l : List ℕ). l ++ (byte t (at + k) ∷ [])) (spelled t at k (omega arith) (λ i l. g i (omega arith)))
    ∙ sym (ap (λ (x : ℕ). digits 16 k x ++ (glyph ((w * 16 + v) % 16) ∷ [])) q ∙ ap (λ (x : ℕ). digits 16 k w ++ (glyph x ∷ [])) r
    ∙ ap (λ (x : ℕ). digits 16 k w ++ (x ∷ [])) (glyph_value (byte t (at + k)) b))

-- and the digits of a number are read as that number
pub taken : (t : List ℕ) (at k n : ℕ) → at + k ≤ length t → n < 16 ^ k → take k (drop at t) ≡ digits 16 k n
    → (horner (value_at t at) k ≡ n) × ((i : ℕ) → i < k → value_at t at i < 16)
unfolding digits horner
taken t at zero n h b e = (omega arith, λ i l. absurd (not-suc-le-zero l))
taken t at (suc k) n h b e =
    let w = parts k (take k (drop at t)) (digits 16 k (n / 16)) (byte t (at + k) ∷ []) (glyph (n % 16) ∷ [])
    (part_length t at k (omega arith)) (digits_length 16 k (n / 16)) (sym (take_more t at k (omega arith)) ∙ e) in
    let v : value_at t at k ≡ n % 16 = ap value (one_of (byte t (at + k)) (glyph (n % 16)) w.1) ∙ value_glyph (n % 16) (omega arith) in
    let c : n < 16 ^ k * 16 = rw (pow-suc 16 k) at b in
    let f = taken t at k (n / 16) (omega arith) (omega arith) w.0 in
    let g : horner (value_at t at) k ≡ n / 16 = f.0 in
    (omega arith, λ i l. ⊎_elim (λ m. f.1 i m) (λ (m : i ≡ k). rw m (rw v (omega arith))) (below_cases i k l))
