-- The decimal writing of a number, a digit more at a time. Laws only.
use Rattle.std.specs.Prelude.{◌≡◌, refl, Bool, true, false, cond, List, [], ◌∷◌, ◌++◌, ℕ, zero, suc, ◌+◌, ◌*◌, ◌/◌, ◌%◌, ◌^◌, ◌<◌, eqb}
use Rattle.std.proofs.Common.{sym, ◌∙◌, pow-suc, arith, eq-eqb, ne_eqb}
use Rattle.std.proofs.Math.Path.{ap}
use Rattle.std.proofs.Math.Numerals.{add-one}
use Rattle.text.specs.Writing.{glyph, digits, places_from, places, number}
use Rattle.text.specs.Laws.{glyph_low}

-- a number's digits, with nothing behind them
abbrev pub dec : ℕ → List ℕ
dec n = digits 10 (places n) n

pub number_is : (n end : ℕ) → number n end ≡ dec n ++ (end ∷ [])
unfolding number
number_is n end = refl

pub dec_low : (d : ℕ) → d < 10 → dec d ≡ (48 + d) ∷ []
unfolding digits places places_from
dec_low d h =
    let a : d / 10 ≡ 0 = omega arith in
    let b : d % 10 ≡ d = omega arith in
    rw (eq-eqb (d / 10) 0 a, b, glyph_low d h)

-- one place more
places_step : (k rest j : ℕ) → (rest ≡ 0 → ⊥) → places_from (suc k) rest j ≡ places_from k (rest / 10) (j + 1)
unfolding places_from
places_step k rest j n = rw (ne_eqb rest 0 n)

-- counted from one further on
shift : (k rest j : ℕ) → places_from k rest (j + 1) ≡ places_from k rest j + 1
unfolding places_from
shift zero rest j = refl
shift (suc k) rest j = go (eqb rest 0) (shift k (rest / 10) (j + 1))
  where
    go : (b : Bool) → places_from k (rest / 10) (j + 1 + 1) ≡ places_from k (rest / 10) (j + 1) + 1
        → cond b (j + 1) (places_from k (rest / 10) (j + 1 + 1)) ≡ cond b j (places_from k (rest / 10) (j + 1)) + 1
    go true e = refl
    go false e = e

-- k places are enough for a number of k digits
enough : (k rest j : ℕ) → rest < 10 ^ k → places_from (suc k) rest j ≡ places_from k rest j
unfolding places_from
enough zero rest j h =
    let z : rest ≡ 0 = omega arith in
    rw (eq-eqb rest 0 z)
enough (suc k) rest j h =
    let a : rest < 10 ^ k * 10 = rw (pow-suc 10 k) at h in
    let b : rest / 10 < 10 ^ k = omega arith in
    ap (λ (n : ℕ). cond (eqb rest 0) j n) (enough k (rest / 10) (j + 1) b)

digits_step : (k n : ℕ) → digits 10 (suc k) n ≡ digits 10 k (n / 10) ++ (glyph (n % 10) ∷ [])
unfolding digits
digits_step k n = refl

-- up to 18 digits, and one more
module _ (v d : ℕ) (h : 0 < v) (b : v < 10 ^ 18) (c : d < 10) where
  tenth : (v * 10 + d) / 10 ≡ v
  tenth = omega arith

  last : (v * 10 + d) % 10 ≡ d
  last = omega arith

  places_more : places (v * 10 + d) ≡ suc (places v)
  unfolding places
  places_more =
      ap (λ (n : ℕ). places_from 19 n 1) tenth
      ∙ places_step 18 v 1 (λ (e : v ≡ 0). omega arith)
      ∙ shift 18 (v / 10) 1
      ∙ ap (λ (n : ℕ). n + 1) (sym (enough 18 (v / 10) 1 (omega arith)))
      ∙ add-one (places v)

  pub dec_more : dec (v * 10 + d) ≡ dec v ++ ((48 + d) ∷ [])
  dec_more =
      ap (λ (k : ℕ). digits 10 k (v * 10 + d)) places_more
      ∙ digits_step (places v) (v * 10 + d)
      ∙ ap (λ (n : ℕ). digits 10 (places v) n ++ (glyph ((v * 10 + d) % 10) ∷ [])) tenth
      ∙ ap (λ (n : ℕ). dec v ++ (glyph n ∷ [])) last
      ∙ ap (λ (n : ℕ). dec v ++ (n ∷ [])) (glyph_low d c)
