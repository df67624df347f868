-- Numbers below 65,536 as bits of 1,024 words: which are set, and what one more sets. Laws only.
use Rattle.std.specs.Prelude.{◌≡◌, refl, Bool, true, false, cond, List, [], ◌∷◌, ℕ, zero, suc, ◌+◌, ◌-◌, ◌*◌, ◌/◌, ◌%◌, ◌^◌, ◌≤◌, ◌<◌, ltb, eqb, length, drop, get_or, set, replicate, reverse}
use Rattle.std.specs.Int.{bit_at}
use Rattle.std.specs.Int.Bits.{bit_and, bit_or}
use Rattle.std.proofs.Math.Path.{sym, ap}
use Rattle.std.proofs.Common.{Fits, w16, w64, ◌∙◌, subst, mod-lt, div-add-mod', add-one, arith, ltb-true, ltb-false, eqb-true, lt-ltb, le-ltb, eq-eqb, length-set, drop-cons, get_or-set_same, get_or-set_other, pow_pos, shl_exact, one-mul, zero-mul}
use Rattle.std.proofs.Math.Nat.{sub-zero}
use Rattle.std.proofs.lemmas.Bool.{eqb-false}
use Rattle.std.proofs.lemmas.List.{length-replicate, get_or-replicate, get_or-reverse, length-reverse}
use Rattle.std.proofs.lemmas.Grind.{get_or_default_zero}
use Rattle.std.proofs.Math.Seq.{drop-length}
use Rattle.std.proofs.lemmas.Nat.Bits.{bit_at-zero, bit_at-lt, bit_at_set_same, bit_at_set_other, and_pow}
use Rattle.store_definition.specs.Store.{place, distinct}

-- a number's bit in its word, as `1 << (t % 64)` computes
abbrev pub bit_of : ℕ → ℕ
bit_of t = 1 * 2 ^ (t % 64) % 2 ^ 64

-- ---- a number is among others

abbrev pub among : ℕ → List ℕ → Bool
among x l = ltb (place x l) (length l)

ltb_suc : (a b : ℕ) → ltb (suc a) (suc b) ≡ ltb a b
ltb_suc a b = go (ltb a b) refl
  where
    go : (c : Bool) → ltb a b ≡ c → ltb (suc a) (suc b) ≡ ltb a b
    go true e = lt-ltb (suc a) (suc b) (omega (arith, ltb-true a b e)) ∙ sym e
    go false e = le-ltb (suc a) (suc b) (omega (arith, ltb-false a b e)) ∙ sym e

among_cons : (x y : ℕ) (l : List ℕ) → among x (y ∷ l) ≡ cond (eqb y x) true (among x l)
unfolding place
among_cons x y l = go (eqb y x)
  where
    go : (b : Bool) → ltb (cond b 0 (suc (place x l))) (suc (length l)) ≡ cond b true (among x l)
    go true = lt-ltb 0 (suc (length l)) (omega arith)
    go false = ltb_suc (place x l) (length l)

abbrev pub marked : List ℕ → ℕ → Bool
marked seen x = eqb (bit_at (get_or seen (x / 64) 0) (x % 64)) 1

bit_product : (b p : ℕ) → b < 2 → 0 < p → (b * p ≡ 0 → eqb b 1 ≡ false) × ((b * p ≡ 0 → ⊥) → eqb b 1 ≡ true)
bit_product zero p h k = (λ e. refl, λ n. absurd (n (zero-mul p)))
bit_product (suc zero) p h k = (λ e. absurd (omega (arith, sym (one-mul p) ∙ e)), λ n. refl)
bit_product (suc (suc b)) p h k = absurd (omega arith)

-- the code's test of it
module _ (w t : ℕ) where
  below_64 : t % 64 < 64
  below_64 = mod-lt t (omega arith)

  tested : bit_and w (bit_of t) ≡ bit_at w (t % 64) * 2 ^ (t % 64)
  tested = ap (bit_and w) (shl_exact 1 (t % 64) 64 (omega arith) (omega (arith, below_64)) ∙ one-mul (2 ^ (t % 64))) ∙ and_pow w (t % 64)

  test_off : bit_and w (bit_of t) ≡ 0 → eqb (bit_at w (t % 64)) 1 ≡ false
  test_off e = (bit_product (bit_at w (t % 64)) (2 ^ (t % 64)) (bit_at-lt w (t % 64)) (pow_pos (t % 64))).0 (sym tested ∙ e)

  test_on : (bit_and w (bit_of t) ≡ 0 → ⊥) → eqb (bit_at w (t % 64)) 1 ≡ true
  test_on e = (bit_product (bit_at w (t % 64)) (2 ^ (t % 64)) (bit_at-lt w (t % 64)) (pow_pos (t % 64))).1 (λ x. e (tested ∙ x))

-- the words have just the bits of the numbers of l
pub record Marks (seen l : List ℕ) : Type 0 where
  pub sized : length seen ≡ 1024
  pub says : (x : ℕ) → x < 65536 → marked seen x ≡ among x l

pub marks_none : Marks (replicate {A = ℕ} 1024 0) []
unfolding place
marks_none = record { sized = length-replicate {A = ℕ} 1024 0; says = none }
  where
    none : (x : ℕ) → x < 65536 → marked (replicate {A = ℕ} 1024 0) x ≡ false
    none x h =
        ap (λ (w : ℕ). eqb (bit_at w (x % 64)) 1) (get_or-replicate {A = ℕ} 1024 (x / 64) 0 0 (omega arith))
        ∙ ap (λ (b : ℕ). eqb b 1) (bit_at-zero (x % 64))

same_number : (x t : ℕ) → x / 64 ≡ t / 64 → x % 64 ≡ t % 64 → x ≡ t
same_number x t e f = sym (div-add-mod' x 64) ∙ ap (λ (q : ℕ). q * 64 + x % 64) e ∙ ap (λ (r : ℕ). t / 64 * 64 + r) f ∙ div-add-mod' t 64

module _ (seen : List ℕ) (t : ℕ) (z : length seen ≡ 1024) (small : t < 65536) where
  abbrev w : ℕ
  w = bit_or (get_or seen (t / 64) 0) (bit_of t)

  abbrev more : List ℕ
  more = set seen (t / 64) w

  more_here : marked more t ≡ true
  more_here =
      eq-eqb (bit_at (get_or more (t / 64) 0) (t % 64)) 1
      (ap (λ (v : ℕ). bit_at v (t % 64)) (get_or-set_same seen (t / 64) w 0 (omega (arith, z))) ∙ bit_at_set_same w64 (get_or seen (t / 64) 0) (t % 64) (mod-lt t (omega arith)))

  more_elsewhere : (x : ℕ) → (x ≡ t → ⊥) → marked more x ≡ marked seen x
  more_elsewhere x ne = go (eqb (x / 64) (t / 64)) refl
    where
      go : (b : Bool) → eqb (x / 64) (t / 64) ≡ b → marked more x ≡ marked seen x
      go true e =
          let s : x / 64 ≡ t / 64 = eqb-true (x / 64) (t / 64) e in
          let d : x % 64 ≡ t % 64 → ⊥ = λ f. ne (same_number x t s f) in
          ap (λ (k : ℕ). eqb (bit_at (get_or more k 0) (x % 64)) 1) s
          ∙ ap (λ (v : ℕ). eqb (bit_at v (x % 64)) 1) (get_or-set_same seen (t / 64) w 0 (omega (arith, z)))
          ∙ ap (λ (v : ℕ). eqb v 1) (bit_at_set_other w64 (get_or seen (t / 64) 0) (t % 64) (mod-lt t (omega arith)) (x % 64) d)
          ∙ ap (λ (k : ℕ). eqb (bit_at (get_or seen k 0) (x % 64)) 1) (sym s)
      go false e = ap (λ (v : ℕ). eqb (bit_at v (x % 64)) 1) (get_or-set_other seen (t / 64) (x / 64) w 0 (eqb-false (x / 64) (t / 64) e))

  marks_cons : (l : List ℕ) → Marks seen l → Marks more (t ∷ l)
  marks_cons l m = record { sized = length-set seen (t / 64) _ ∙ z; says = λ x h. go x h (eqb t x) refl ∙ sym (among_cons x t l) }
    where
      go : (x : ℕ) → x < 65536 → (b : Bool) → eqb t x ≡ b → marked more x ≡ cond (eqb t x) true (among x l)
      go x h true e = rw e (subst (λ (y : ℕ). marked more y ≡ true) (eqb-true t x e) more_here)
      go x h false e = rw e (more_elsewhere x (λ f. eqb-false t x e (sym f)) ∙ m.says x h)

-- ---- the turns of the loop, from the last number to the first

never : (b : Bool) → cond b false false ≡ false
never true = refl
never false = refl

distinct_step : (x : ℕ) (l : List ℕ) → distinct l ≡ false → distinct (x ∷ l) ≡ false
unfolding distinct
distinct_step x l g = rw g (never (among x l))

distinct_fails : (j : ℕ) (l : List ℕ) → distinct (drop j l) ≡ false → distinct l ≡ false
distinct_fails zero l f = f
distinct_fails (suc j) [] f = f
distinct_fails (suc j) (x ∷ l) f = distinct_step x l (distinct_fails j l f)

module _ (s : List ℕ) (i : ℕ) (h : i < length s) where
  abbrev t : ℕ
  t = get_or s i 0

  cut : drop i s ≡ t ∷ drop (i + 1) s
  cut = rw (add-one i) (drop-cons s i 0 h)

  module _ (seen : List ℕ) (small : t < 65536) (m : Marks seen (drop (i + 1) s)) where
    -- the number is marked: it stands twice
    marks_twice : marked seen t ≡ true → false ≡ distinct s
    unfolding distinct
    marks_twice e = sym (distinct_fails i s (ap distinct cut ∙ rw (sym (m.says t small) ∙ e)))

    marks_more : Marks (set seen (t / 64) (bit_or (get_or seen (t / 64) 0) (bit_of t))) (drop i s)
    marks_more = subst (Marks (more seen t m.sized small)) (sym cut) (marks_cons seen t m.sized small (drop (i + 1) s) m)

    distinct_more : marked seen t ≡ false → distinct (drop (i + 1) s) ≡ true → distinct (drop i s) ≡ true
    unfolding distinct
    distinct_more e d = ap distinct cut ∙ rw (sym (m.says t small) ∙ e) d

-- the bits of the numbers from i on are set, and none of those stands twice
pub record Seen (s seen : List ℕ) (i : ℕ) : Type 0 where
  pub marks : Marks seen (drop i s)
  pub apart : distinct (drop i s) ≡ true

pub seen_none : (s : List ℕ) → Seen s (replicate {A = ℕ} 1024 0) (length s - 0)
unfolding distinct
seen_none s = rw sub-zero (record {
  marks = subst (Marks (replicate {A = ℕ} 1024 0)) (sym (drop-length s)) marks_none;
  apart = ap distinct (drop-length s);
})

pub seen_whole : (s seen : List ℕ) (i : ℕ) → i ≤ 0 → Seen s seen i → true ≡ distinct s
seen_whole s seen i h g =
    let e : i ≡ 0 = omega arith in
    sym (subst (λ (j : ℕ). distinct (drop j s) ≡ true) e g.apart)

-- a turn, at the number t, from behind, with n met before; its bit is tested and set in word k
module _ (s seen : List ℕ) (n t k : ℕ) (met : (n < length (reverse s)) × (t ≡ get_or (reverse s) n t)) (g : Seen s seen (length s - n)) (fits : (j : ℕ) → Fits w16 (get_or s j 0)) (e : k ≡ t / 64) where
  abbrev i : ℕ
  i = length s - n - 1

  below : i < length s
  below = omega (arith, met.0, length-reverse s)

  back : length s - n ≡ i + 1
  back = omega (arith, met.0, length-reverse s)

  stands : t ≡ get_or s i 0
  stands =
      met.1 ∙ get_or-reverse s n t (omega (arith, met.0, length-reverse s)) ∙ ap (λ (j : ℕ). get_or s j t) (omega arith)
      ∙ get_or_default_zero s i t below

  marks_back : Marks seen (drop (i + 1) s)
  marks_back = subst (λ (j : ℕ). Marks seen (drop j s)) back g.marks

  small : get_or s i 0 < 65536
  small = omega (arith, fits i)

  at : (b : Bool) → eqb (bit_at (get_or seen k 0) (t % 64)) 1 ≡ b → marked seen (get_or s i 0) ≡ b
  at b x = subst (λ (y : ℕ). marked seen y ≡ b) stands (subst (λ (j : ℕ). eqb (bit_at (get_or seen j 0) (t % 64)) 1 ≡ b) e x)

  pub seen_twice : (bit_and (get_or seen k 0) (bit_of t) ≡ 0 → ⊥) → false ≡ distinct s
  seen_twice x = marks_twice s i below seen small marks_back (at true (test_on (get_or seen k 0) t x))

  pub seen_more : bit_and (get_or seen k 0) (bit_of t) ≡ 0 → (m : ℕ) → m ≡ n + 1 → Seen s (set seen k (bit_or (get_or seen k 0) (bit_of t))) (length s - m)
  seen_more x m p =
      subst (Seen s (set seen k (bit_or (get_or seen k 0) (bit_of t)))) (omega arith) (record {
        marks =
            subst (λ (j : ℕ). Marks (set seen j (bit_or (get_or seen j 0) (bit_of t))) (drop i s)) (sym e)
            (subst (λ (z : ℕ). Marks (set seen (z / 64) (bit_or (get_or seen (z / 64) 0) (bit_of z))) (drop i s)) (sym stands)
            (marks_more s i below seen small marks_back));
        apart =
            distinct_more s i below seen small marks_back (at false (test_off (get_or seen k 0) t x))
            (subst (λ (j : ℕ). distinct (drop j s) ≡ true) back g.apart);
      })
