-- A text put to a buffer piece by piece is the whole put once, and the loops that the code does it by; no promise speaks of these. Laws only.
use Rattle.std.specs.Prelude.{◌≡◌, refl, ◌≢◌, Bool, true, false, cond, List, [], ◌∷◌, ◌++◌, map, ℕ, zero, suc, ◌+◌, ◌-◌, ◌*◌, ◌/◌, ◌%◌, ◌≤◌, ◌<◌, ltb, leb, eqb, length, get_or, set, take, Float}
use Rattle.std.proofs.Common.{sym, ap, ◌∙◌, true≢false, append-nil, not-suc-le-zero, zero-add, suc-add, add-suc, mul-le-mul, sub-one, arith, eq-eqb, ne_eqb, ltb-false, leb-true, length-append, length-take-le}
use Rattle.std.proofs.lemmas.List.{map-append, set_comm}
use Rattle.std.proofs.Math.Numerals.{add-one}
use Rattle.std.proofs.Math.Seq.{take-suc}
use Rattle.std.proofs.lemmas.List.Edits.{sets}
use Rattle.text.specs.Writing.{glyph, digits, places_from, places, number, joined, separator, group, lines, written, bits_at, shown, first_line, answer_text}
use Rattle.octets.specs.Bits.{float}
use Rattle.octets.proofs.StoreLaws.{sets_append}
use Rattle.text.specs.Reading.{word_at, table}
use Rattle.text.specs.Laws.{digits_length}
use Rattle.text.specs.AcceptsLaws.{table_length, lines_length}

module _ {A : Type 0} where
  -- one more
  pub sets_more : (l : List A) (i k : ℕ) (vs : List A) (a : A) → i + length vs ≡ k → set (sets l i vs) k a ≡ sets l i (vs ++ (a ∷ []))
  sets_more l i k vs a e = rw (← e) (sym (sets_append l i vs (a ∷ [])))

  -- a store behind them
  pub set_sets : (l : List A) (i j : ℕ) (a : A) (vs : List A) → i + length vs ≤ j → sets (set l j a) i vs ≡ set (sets l i vs) j a
  set_sets l i j a [] h = refl
  set_sets l i j a (b ∷ vs) h =
      let ne : j ≢ i = λ e. omega (arith, add-suc i (length vs)) in
      ap (λ (m : List A). sets m (suc i) vs) (set_comm l j i a b ne) ∙ set_sets (set l i b) (suc i) j a vs (omega (arith, add-suc i (length vs), suc-add i (length vs)))

  -- a list put element by element
  pub sets_taken : (l : List A) (i k : ℕ) (vs : List A) (d : A) → k < length vs → set (sets l i (take k vs)) (i + k) (get_or vs k d) ≡ sets l i (take (k + 1) vs)
  sets_taken l i k vs d h =
      let e : take (k + 1) vs ≡ take k vs ++ (get_or vs k d ∷ []) = rw (add-one k) (take-suc vs k d h) in
      rw e (sets_more l i (i + k) (take k vs) (get_or vs k d) (omega (arith, length-take-le k vs (omega arith))))

  -- a table put to the front
  pub table_more : (l : List A) (f : ℕ → A) (k : ℕ) → set (sets l 0 (table f k)) k (f k) ≡ sets l 0 (table f (k + 1))
  unfolding table
  table_more l f k = rw add-one (sets_more l 0 k (table f k) (f k) (omega (arith, table_length f k)))

pub table_map : {A B : Type 0} (f : A → B) (g : ℕ → A) (m : ℕ) → map f (table g m) ≡ table (λ k. f (g k)) m
unfolding table
table_map f g zero = refl
table_map f g (suc m) = map-append f (table g m) (g m ∷ []) ∙ rw (table_map f g m)

-- number k of the words that start at `start`
abbrev pub float_at : List ℕ → ℕ → ℕ → Float
float_at t start k = float (word_at t (start + 17 * k))

-- ---- pieces, put to a place of a buffer's bytes

-- bytes put from the place on, what goes past the end being dropped, and the place behind them
abbrev pub append : ℕ × List ℕ → List ℕ → ℕ × List ℕ
append s bytes = (s.0 + length bytes, sets s.1 s.0 bytes)

pub append_both : (s : ℕ × List ℕ) (vs ws : List ℕ) → append (append s vs) ws ≡ append s (vs ++ ws)
append_both s vs ws =
    let n : s.0 + length vs + length ws ≡ s.0 + length (vs ++ ws) = omega (arith, length-append vs ws) in
    ap (λ (k : ℕ). (k, sets (sets s.1 s.0 vs) (s.0 + length vs) ws)) n ∙ ap (λ (l : List ℕ). (s.0 + length (vs ++ ws), l)) (sym (sets_append s.1 s.0 vs ws))

-- ---- digits from the last to the first

unfoldable pub spelling : List ℕ → ℕ → ℕ → ℕ → ℕ → List ℕ
spelling l at b zero n = l
spelling l at b (suc k) n = spelling (set l (at + k) (glyph (n % b))) at b k (n / b)

pub spelling_more : (l : List ℕ) (at b i n : ℕ) {m r : List ℕ} → 0 < i → m ≡ set l (at + (i - 1)) (glyph (n % b)) → spelling l at b i n ≡ r
    → spelling m at b (i - 1) (n / b) ≡ r
unfolding spelling
spelling_more l at b zero n h e g = absurd (not-suc-le-zero h)
spelling_more l at b (suc i) n h e g = rw (e, sub-one) g

pub spelling_done : (l : List ℕ) (at b i n : ℕ) {r : List ℕ} → i ≤ 0 → spelling l at b i n ≡ r → l ≡ r
unfolding spelling
spelling_done l at b zero n h g = g
spelling_done l at b (suc i) n h g = absurd (not-suc-le-zero h)

pub spelling_is : (l : List ℕ) (at b k n : ℕ) → spelling l at b k n ≡ sets l at (digits b k n)
unfolding spelling digits
spelling_is l at b zero n = refl
spelling_is l at b (suc k) n =
    let d : List ℕ = digits b k (n / b) in
    let e : at + length d ≡ at + k = rw (digits_length b k (n / b)) in
    spelling_is (set l (at + k) (glyph (n % b))) at b k (n / b) ∙ set_sets l at (at + k) (glyph (n % b)) d (omega arith) ∙ sets_more l at (at + k) d (glyph (n % b)) e

-- ---- decimal digits counted

pub places_here : (k rest : ℕ) {r : ℕ} → k < 20 → rest ≡ 0 → places_from (20 - k) rest k ≡ r → k ≡ r
unfolding places_from
places_here k rest h e g =
    let s : 20 - k ≡ suc (20 - (k + 1)) = omega arith in
    rw (s, eq-eqb rest 0 e) at g

pub places_next : (k rest : ℕ) {r : ℕ} → k < 20 → (rest ≡ 0 → ⊥) → places_from (20 - k) rest k ≡ r → places_from (20 - (k + 1)) (rest / 10) (k + 1) ≡ r
unfolding places_from
places_next k rest h e g =
    let s : 20 - k ≡ suc (20 - (k + 1)) = omega arith in
    rw (s, ne_eqb rest 0 e) at g

pub places_done : (k rest : ℕ) {r : ℕ} → k ≡ 20 → places_from (20 - k) rest k ≡ r → 20 ≡ r
unfolding places_from
places_done k rest e g = rw e at g

pub places_bound : (left rest k : ℕ) → places_from left rest k ≤ k + left
unfolding places_from
places_bound zero rest k = omega arith
places_bound (suc left) rest k = go (eqb rest 0) (places_bound left (rest / 10) (k + 1))
  where
    go : (b : Bool) → places_from left (rest / 10) (k + 1) ≤ k + 1 + left → cond b k (places_from left (rest / 10) (k + 1)) ≤ k + suc left
    go true h = omega arith
    go false h = omega arith

pub places_most : (n : ℕ) → places n ≤ 20
unfolding places
places_most n = places_bound 19 (n / 10) 1

pub number_length : (n end : ℕ) → length (number n end) ≡ places n + 1
unfolding number
number_length n end = length-append (digits 10 (places n) n) (end ∷ []) ∙ rw (digits_length 10 (places n) n)

pub number_most : (n end : ℕ) → length (number n end) ≤ 21
number_most n end = omega (arith, number_length n end, places_most n)

-- ---- the pieces of an answer, as the code puts them: out before, l after the digits, m after what ends them

pub number_put : (out l m : List ℕ) (at n k end : ℕ) → k ≡ places n → l ≡ sets out at (digits 10 k n) → m ≡ set l (at + k) end
    → ◌≡◌ {A = ℕ × List ℕ} (at + k + 1, m) (append (at, out) (number n end))
unfolding number
number_put out l m at n k end p d e =
    let size : length (digits 10 (places n) n ++ (end ∷ [])) ≡ k + 1 = number_length n end ∙ rw p in
    let bytes : m ≡ sets out at (digits 10 (places n) n ++ (end ∷ [])) =
    e ∙ rw d (sets_more out at (at + k) (digits 10 k n) end (rw (digits_length 10 k n)) ∙ rw p) in
    let place : at + k + 1 ≡ at + length (digits 10 (places n) n ++ (end ∷ [])) = omega arith in
    rw (place, bytes)

pub group_put : (out l m : List ℕ) (at n k x end : ℕ) (w : ℕ → ℕ) → x ≡ w k → end ≡ separator n k → l ≡ sets out at (digits 16 16 x) → m ≡ set l (at + 16) end
    → m ≡ sets out at (group n w k)
unfolding group
group_put out l m at n k x end w p q d e = e ∙ rw d (sets_more out at (at + 16) (digits 16 16 x) end (rw (digits_length 16 16 x)) ∙ rw (p, q))

pub lines_none : (out : List ℕ) (at n : ℕ) (w : ℕ → ℕ) → out ≡ sets out at (lines n w 0)
unfolding lines joined
lines_none out at n w = refl

pub lines_put : (out l m : List ℕ) (at n k : ℕ) (w : ℕ → ℕ) → l ≡ sets out at (lines n w k) → m ≡ sets l (at + 17 * k) (group n w k) → m ≡ sets out at (lines n w (k + 1))
unfolding lines joined
lines_put out l m at n k w e f =
    let size : at + 17 * k ≡ at + length (joined (group n w) k) = rw (lines_length n w k) in
    f ∙ rw (e, size, add-one) (sym (sets_append out at (joined (group n w) k) (group n w k)))

pub lines_end : (out l : List ℕ) (at n m : ℕ) (w : ℕ → ℕ) → l ≡ sets out at (lines n w m) → ◌≡◌ {A = ℕ × List ℕ} (at + 17 * m, l) (append (at, out) (lines n w m))
lines_end out l at n m w e = rw (lines_length n w m, e)

-- ---- the whole answer

pub append_then : (s t u : ℕ × List ℕ) (vs ws : List ℕ) → t ≡ append s vs → u ≡ append t ws → u ≡ append s (vs ++ ws)
append_then s t u vs ws e f = f ∙ ap (λ (x : ℕ × List ℕ). append x ws) e ∙ append_both s vs ws

pub append_front : (out bytes : List ℕ) → append (0, out) bytes ≡ written bytes out
append_front out bytes = ap (λ (k : ℕ). (k, sets out 0 bytes)) (zero-add (length bytes))

pub answer_alone : (a p i c n : ℕ) (result : List Float) → shown a n ≡ false → answer_text a p i c n result ≡ first_line a p i c
unfolding answer_text
answer_alone a p i c n result e = rw e (append-nil (first_line a p i c))

pub answer_shown : (a p i c n : ℕ) (result : List Float) → shown a n ≡ true
    → answer_text a p i c n result ≡ first_line a p i c ++ lines n (bits_at result) (n + n * n)
unfolding answer_text
answer_shown a p i c n result e = rw e

module _ (a p i c n : ℕ) (result : List Float) (out : List ℕ) where
  pub line_put : (s : ℕ × List ℕ) → shown a n ≡ false → s ≡ append (0, out) (first_line a p i c) → s ≡ written (answer_text a p i c n result) out
  line_put s e f =
      f ∙ append_front out (first_line a p i c) ∙ ap (λ (x : List ℕ). written x out) (sym (answer_alone a p i c n result e))

  pub answer_put : (s t : ℕ × List ℕ) → shown a n ≡ true → s ≡ append (0, out) (first_line a p i c)
      → t ≡ append s (lines n (bits_at result) (n + n * n)) → t ≡ written (answer_text a p i c n result) out
  answer_put s t e f g =
      append_then (0, out) s t (first_line a p i c) (lines n (bits_at result) (n + n * n)) f g
      ∙ append_front out (first_line a p i c ++ lines n (bits_at result) (n + n * n))
      ∙ ap (λ (x : List ℕ). written x out) (sym (answer_shown a p i c n result e))

-- ---- sizes

pub shown_size : (a n : ℕ) → shown a n ≡ true → (0 < n) × (n ≤ 32)
unfolding shown
shown_size a n = go (eqb a 0) (ltb n 1) refl
  where
    go : (p q : Bool) → ltb n 1 ≡ q → cond p (cond q false (leb n 32)) false ≡ true → (0 < n) × (n ≤ 32)
    go true true e h = absurd (true≢false (sym h))
    go true false e h = (ltb-false n 1 e, leb-true n 32 h)
    go false q e h = absurd (true≢false (sym h))

pub words_most : (n : ℕ) → n ≤ 32 → n + n * n ≤ 1056
words_most n h = omega (arith, mul-le-mul h h)

pub answer_length : (a p i c : ℕ) → length (first_line a p i c) ≤ 84
answer_length a p i c =
    omega (
      arith,
      length-append (number a 32 ++ number p 32 ++ number i 32) (number c 10),
      length-append (number a 32 ++ number p 32) (number i 32),
      length-append (number a 32) (number p 32),
      number_most a 32,
      number_most p 32,
      number_most i 32,
      number_most c 10,
    )

-- no answer is longer than this
pub answer_most : (a p i c n : ℕ) (result : List Float) → length (answer_text a p i c n result) ≤ 18036
answer_most a p i c n result = go (shown a n) refl
  where
    go : (b : Bool) → shown a n ≡ b → length (answer_text a p i c n result) ≤ 18036
    go true e =
        rw (answer_shown a p i c n result e)
        (omega (
          arith,
          length-append (first_line a p i c) (lines n (bits_at result) (n + n * n)),
          answer_length a p i c,
          lines_length n (bits_at result) (n + n * n),
          words_most n (shown_size a n e).1,
        ))
    go false e = rw (answer_alone a p i c n result e) (omega (arith, answer_length a p i c))
