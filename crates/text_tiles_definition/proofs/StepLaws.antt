-- What one byte does, by what it is, and what a run of bytes does: pieces of a text, and the text that a number is. Laws only.
use Rattle.std.specs.Prelude.{◌≡◌, Bool, cond, ◌&&◌, ℕ, zero, suc, ◌+◌, ◌-◌, ◌*◌, ◌/◌, ◌%◌, ◌^◌, ◌≤◌, ◌<◌, ltb, leb, eqb, length, get_or, drop}
use Rattle.std.proofs.Math.Path.{refl, ap}
use Rattle.std.proofs.Common.{sym, ◌∙◌, pow-suc, add-one, ltb-true, ltb-false, lt-ltb, le-ltb, le-leb, eq-eqb, ne_eqb, drop_of_length-le, drop-cons}
use Rattle.std.proofs.Math.Bool.{true, false}
use mathlib.Core.List.{List, [], ◌∷◌, ◌++◌, append_assoc}
use native.Mathlib.Omega.{arith}
use Rattle.text.specs.Writing.{glyph, digits, places, number}
use Rattle.text.specs.Laws.{glyph_low}
use Rattle.tally_definition.specs.Figures.{Tile}
use Rattle.tally_definition.specs.Tallies.{refusal, next, outcome, none}
use Rattle.tally_definition.specs.TallyLaws.{taken}
use Rattle.tally_definition.specs.declared.Tally.{Tally}
use Rattle.text_tiles_definition.specs.declared.Series.{Series}
use Rattle.text_tiles_definition.specs.Lines.{line, state, fresh, ended, end_of, most_of, grown, digit, tile, closed, step, run, tallied, more, heard, whole, Full}
use Rattle.text_tiles_definition.specs.DecimalLaws.{dec, number_is, dec_low, dec_more}

-- ---- a run of bytes

-- a text may be read in pieces
pub run_append : (s : Series) (t u : List ℕ) → run s (t ++ u) ≡ run (run s t) u
unfolding run
run_append s [] u = refl
run_append s (b ∷ t) u = run_append (step s b) t u

pub ended_stays : (t : Tally) (u : List ℕ) → run (ended t) u ≡ ended t
unfolding run step
ended_stays t [] = refl
ended_stays t (b ∷ u) = ended_stays t u

module _ {A : Type 0} (P : A → Type 0) where
  either : (b : Bool) (x y : A) → P x → P y → P (cond b x y)
  either true x y p q = p
  either false x y p q = q

-- ---- pieces, as the program `tiles` reads them

behind_end : (s : Series) (u : List ℕ) → ltb 1 s.stage ≡ true → run s u ≡ s
unfolding run step
behind_end s [] h = refl
behind_end s (b ∷ u) h = rw h (behind_end s u h)

more_full : (s : Series) (p : List ℕ) → 0 < length p → more s p ≡ run s p
unfolding more
more_full s p h = rw (ne_eqb (length p) 0 (λ (e : length p ≡ 0). omega arith))

heard_run : (ps : List (List ℕ)) (s : Series) → Full ps → (heard s (ps ++ ([] ∷ []))).tally ≡ (run s (whole ps)).tally
unfolding heard more whole Full run
heard_run [] s h = go (ltb 1 s.stage)
  where
    go : (b : Bool) → (cond b s (ended s.tally)).tally ≡ s.tally
    go true = refl
    go false = refl
heard_run (p ∷ ps) s h = go (ltb 1 s.stage) refl (λ x. heard_run ps x h.1)
  where
    go : (b : Bool) → ltb 1 s.stage ≡ b → ((x : Series) → (heard x (ps ++ ([] ∷ []))).tally ≡ (run x (whole ps)).tally)
        → (cond b s (heard (more s p) (ps ++ ([] ∷ [])))).tally ≡ (run s (p ++ whole ps)).tally
    go true e again = ap (λ (x : Series). x.tally) (sym (behind_end s (p ++ whole ps) e))
    go false e again =
        ap (λ (x : Series). (heard x (ps ++ ([] ∷ []))).tally) (more_full s p h.0) ∙ again (run s p) ∙ ap (λ (x : Series). x.tally) (sym (run_append s p (whole ps)))

-- a text that comes in pieces, and then nothing, leaves the tally of the whole text, wherever it is cut and where the reading stops
pub heard_tallied : (ps : List (List ℕ)) → Full ps → (heard (fresh none) (ps ++ ([] ∷ []))).tally ≡ tallied (whole ps)
heard_tallied ps h = heard_run ps (fresh none) h

-- ---- one byte

pub end_low : (stage : ℕ) → end_of stage < 48
unfolding end_of
end_low stage = go (eqb stage 0) refl
  where
    go : (b : Bool) → eqb stage 0 ≡ b → end_of stage < 48
    go true e = rw e (omega arith)
    go false e = rw e (omega arith)

pub most_low : (stage : ℕ) → most_of stage ≤ 15360
unfolding most_of
most_low stage = either (λ (n : ℕ). n ≤ 15360) (eqb stage 0) 15 15360 (omega arith) (omega arith)

module _ (s : Series) (b : ℕ) (low : s.stage < 2) where
  pub step_end : eqb b (end_of s.stage) ≡ true → step s b ≡ closed s
  unfolding step
  step_end e = rw (le-ltb 1 s.stage (omega arith), e)

  pub step_digit : eqb b (end_of s.stage) ≡ false → (leb 48 b && ltb b 58) ≡ true → step s b ≡ digit s (b - 48)
  unfolding step
  step_digit e f = rw (le-ltb 1 s.stage (omega arith), e, f)

  pub step_other : eqb b (end_of s.stage) ≡ false → (leb 48 b && ltb b 58) ≡ false → step s b ≡ ended s.tally
  unfolding step
  step_other e f = rw (le-ltb 1 s.stage (omega arith), e, f)

pub grown_on : (s : Series) (d : ℕ) → s.value * 10 + d ≤ most_of s.stage → grown s d ≡ state s.tally s.stage s.answer true (s.value * 10 + d)
unfolding grown
grown_on s d h = rw (le-ltb (most_of s.stage) (s.value * 10 + d) h)

pub grown_over : (s : Series) (d : ℕ) → most_of s.stage < s.value * 10 + d → grown s d ≡ ended s.tally
unfolding grown
grown_over s d h = rw (lt-ltb (most_of s.stage) (s.value * 10 + d) h)

pub digit_on : (s : Series) (d : ℕ) → (eqb s.value 0 && s.begun) ≡ false → digit s d ≡ grown s d
unfolding digit
digit_on s d e = rw e

pub digit_ends : (s : Series) (d : ℕ) → (eqb s.value 0 && s.begun) ≡ true → digit s d ≡ ended s.tally
unfolding digit
digit_ends s d e = rw e

-- a digit that the number may have
on_digit : (s : Series) (d : ℕ) → s.stage < 2 → d < 10 → (eqb s.value 0 && s.begun) ≡ false → s.value * 10 + d ≤ most_of s.stage
    → step s (48 + d) ≡ state s.tally s.stage s.answer true (s.value * 10 + d)
on_digit s d low h e m =
    let a : eqb (48 + d) (end_of s.stage) ≡ false = ne_eqb (48 + d) (end_of s.stage) (λ (f : 48 + d ≡ end_of s.stage). omega (arith, end_low s.stage)) in
    let b : (leb 48 (48 + d) && ltb (48 + d) 58) ≡ true = rw (le-leb 48 (48 + d) (omega arith), lt-ltb (48 + d) 58 (omega arith)) in
    let c : 48 + d - 48 ≡ d = omega arith in
    step_digit s (48 + d) low a b ∙ ap (digit s) c ∙ digit_on s d e ∙ grown_on s d m

-- ---- a number

module _ (t : Tally) (stage answer : ℕ) (low : stage < 2) where
  digits_low : (n : ℕ) → n < 10 → n ≤ most_of stage → run (state t stage answer false 0) (dec n) ≡ state t stage answer true n
  unfolding run
  digits_low n h m =
      let z : 0 * 10 + n ≡ n = omega arith in
      ap (run (state t stage answer false 0)) (dec_low n h)
      ∙ on_digit (state t stage answer false 0) n low h refl (omega arith)
      ∙ ap (state t stage answer true) z

  digits_high : (n : ℕ) → 10 ≤ n → n ≤ most_of stage → run (state t stage answer false 0) (dec (n / 10)) ≡ state t stage answer true (n / 10)
      → run (state t stage answer false 0) (dec n) ≡ state t stage answer true n
  unfolding run
  digits_high n h m r =
      let q : n / 10 * 10 + n % 10 ≡ n = omega arith in
      let nz : n / 10 ≡ 0 → ⊥ = λ (e : n / 10 ≡ 0). omega arith in
      let f : (eqb (n / 10) 0 && true) ≡ false = rw (ne_eqb (n / 10) 0 nz) in
      let w = most_low stage in
      ap (λ (x : ℕ). run (state t stage answer false 0) (dec x)) (sym q)
      ∙ ap (run (state t stage answer false 0)) (dec_more (n / 10) (n % 10) (omega arith) (omega arith) (omega arith))
      ∙ run_append (state t stage answer false 0) (dec (n / 10)) ((48 + n % 10) ∷ [])
      ∙ ap (λ (s : Series). run s ((48 + n % 10) ∷ [])) r
      ∙ on_digit (state t stage answer true (n / 10)) (n % 10) low (omega arith) f (omega arith)
      ∙ ap (state t stage answer true) q

  digits_run : (k n : ℕ) → n < 10 ^ k → n ≤ most_of stage → run (state t stage answer false 0) (dec n) ≡ state t stage answer true n
  digits_run zero n b m = digits_low n (omega arith) m
  digits_run (suc k) n b m =
      let c : n < 10 ^ k * 10 = rw (pow-suc 10 k) at b in
      go (ltb n 10) refl (digits_run k (n / 10) (omega arith) (omega arith))
    where
      go : (x : Bool) → ltb n 10 ≡ x → run (state t stage answer false 0) (dec (n / 10)) ≡ state t stage answer true (n / 10)
          → run (state t stage answer false 0) (dec n) ≡ state t stage answer true n
      go true e r = digits_low n (ltb-true n 10 e) m
      go false e r = digits_high n (ltb-false n 10 e) m r

  pub number_run : (n : ℕ) (u : List ℕ) → n ≤ most_of stage
      → run (state t stage answer false 0) (number n (end_of stage) ++ u) ≡ run (closed (state t stage answer true n)) u
  unfolding run
  number_run n u m =
      let w = most_low stage in
      ap (λ (l : List ℕ). run (state t stage answer false 0) (l ++ u)) (number_is n (end_of stage))
      ∙ ap (run (state t stage answer false 0)) (append_assoc (dec n) (end_of stage ∷ []) u)
      ∙ run_append (state t stage answer false 0) (dec n) (end_of stage ∷ u)
      ∙ ap (λ (s : Series). run s (end_of stage ∷ u)) (digits_run 5 n (omega arith) m)
      ∙ ap (λ (s : Series). run s u) (step_end (state t stage answer true n) (end_of stage) low (eq-eqb (end_of stage) (end_of stage) refl))

-- ---- a line

pub tile_taken : (t : Tally) (answer passes : ℕ) → refusal t answer passes ≡ 0 → tile t answer passes ≡ fresh (outcome t answer passes).tally
unfolding tile outcome
tile_taken t answer passes e = rw e

pub tile_refused : (t : Tally) (answer passes : ℕ) → (refusal t answer passes ≡ 0 → ⊥) → tile t answer passes ≡ ended t
unfolding tile outcome
tile_refused t answer passes n = rw (ne_eqb (refusal t answer passes) 0 n)

-- a tile that is taken, read from its line
pub line_run : (t : Tally) (x : Tile) (u : List ℕ) → refusal t x.answer x.passes ≡ 0
    → run (fresh t) (line x ++ u) ≡ run (fresh (outcome t x.answer x.passes).tally) u
unfolding closed end_of most_of
line_run t x u e =
    let w = taken t x.answer x.passes e in
    ap (run (fresh t)) (append_assoc (number x.answer 32) (number x.passes 10) u)
    ∙ number_run t 0 0 (omega arith) x.answer (number x.passes 10 ++ u) w.answers
    ∙ number_run t 1 x.answer (omega arith) x.passes u w.short
    ∙ ap (λ (s : Series). run s u) (tile_taken t x.answer x.passes e)

-- ---- a text has one number at its start

-- the digits of a number are those of no other
pub dec_one : (n m : ℕ) → n ≤ 15360 → m ≤ 15360 → dec n ≡ dec m → n ≡ m
unfolding most_of
dec_one n m h k e =
    ap (λ (s : Series). s.value)
    (sym (digits_run none 1 0 (omega arith) 5 n (omega arith) h) ∙ ap (run (state none 1 0 false 0)) e ∙ digits_run none 1 0 (omega arith) 5 m (omega arith) k)

unfoldable Digits : List ℕ → Type 0
Digits [] = Unit {0}
Digits (b ∷ l) = (48 ≤ b) × Digits l

digits_append : (l : List ℕ) (b : ℕ) → Digits l → 48 ≤ b → Digits (l ++ (b ∷ []))
unfolding Digits
digits_append [] b h k = (k, tt)
digits_append (c ∷ l) b h k = (h.0, digits_append l b h.1 k)

digits_all : (k n : ℕ) → Digits (digits 10 k n)
unfolding Digits digits
digits_all zero n = tt
digits_all (suc k) n = digits_append (digits 10 k (n / 10)) (glyph (n % 10)) (digits_all k (n / 10)) (omega (arith, glyph_low (n % 10) (omega arith)))

-- digits up to the first byte that is none
split : (p q u v : List ℕ) (e : ℕ) → e < 48 → Digits p → Digits q → p ++ (e ∷ u) ≡ q ++ (e ∷ v) → (p ≡ q) × (u ≡ v)
unfolding Digits
split [] [] u v e l h k r = (refl, ap (drop 1) r)
split [] (y ∷ q) u v e l h k r =
    let a : e ≡ y = ap (λ (x : List ℕ). get_or x 0 0) r in
    let b : 48 ≤ y = k.0 in
    absurd (omega arith)
split (x ∷ p) [] u v e l h k r =
    let a : x ≡ e = ap (λ (x : List ℕ). get_or x 0 0) r in
    let b : 48 ≤ x = h.0 in
    absurd (omega arith)
split (x ∷ p) (y ∷ q) u v e l h k r =
    let a : x ≡ y = ap (λ (x : List ℕ). get_or x 0 0) r in
    let w = split p q u v e l h.1 k.1 (ap (drop 1) r) in
    (ap (λ (c : ℕ). c ∷ p) a ∙ ap (λ (c : List ℕ). y ∷ c) w.0, w.1)

number_one : (n m e : ℕ) (u v : List ℕ) → e < 48 → n ≤ 15360 → m ≤ 15360 → number n e ++ u ≡ number m e ++ v → (n ≡ m) × (u ≡ v)
number_one n m e u v l h k r =
    let apart : (i : ℕ) (x : List ℕ) → number i e ++ x ≡ dec i ++ (e ∷ x) = λ i x. ap (λ (y : List ℕ). y ++ x) (number_is i e) ∙ append_assoc (dec i) (e ∷ []) x in
    let w = split (dec n) (dec m) u v e l (digits_all (places n) n) (digits_all (places m) m) (sym (apart n u) ∙ r ∙ apart m v) in
    (dec_one n m h k w.0, w.1)

pub line_one : (t : Tally) (x y : Tile) (u v : List ℕ) → refusal t x.answer x.passes ≡ 0 → refusal t y.answer y.passes ≡ 0 → line x ++ u ≡ line y ++ v → (x ≡ y) × (u ≡ v)
line_one t x y u v h k r =
    let a = taken t x.answer x.passes h in
    let b = taken t y.answer y.passes k in
    let i : x.answer ≤ 15 = a.answers in
    let j : y.answer ≤ 15 = b.answers in
    let c = number_one x.answer y.answer 32 (number x.passes 10 ++ u) (number y.passes 10 ++ v) (omega arith) (omega arith) (omega arith)
    (sym (append_assoc (number x.answer 32) (number x.passes 10) u) ∙ r ∙ append_assoc (number y.answer 32) (number y.passes 10) v) in
    let d = number_one x.passes y.passes 10 u v (omega arith) a.short b.short c.1 in
    (ap (λ (n : ℕ). record { answer = n; passes = x.passes }) c.0 ∙ ap (λ (n : ℕ). record { answer = y.answer; passes = n }) d.0, d.1)

-- ---- no tile is taken away

outcome_grows : (t : Tally) (answer passes : ℕ) → t.tiles ≤ (outcome t answer passes).tally.tiles
unfolding outcome next
outcome_grows t answer passes = either (λ (u : Tally). t.tiles ≤ u.tiles) (eqb (refusal t answer passes) 0) (next t answer passes) t (omega arith) (omega arith)

-- as many tiles as in t, or more
abbrev Held : Tally → Series → Type 0
Held t s = t.tiles ≤ s.tally.tiles

tile_grows : (t : Tally) (answer passes : ℕ) → Held t (tile t answer passes)
unfolding tile
tile_grows t answer passes =
    either (Held t) (eqb (outcome t answer passes).refusal 0) (fresh (outcome t answer passes).tally) (ended t) (outcome_grows t answer passes) (omega arith)

closed_grows : (s : Series) → Held s.tally (closed s)
unfolding closed
closed_grows s =
    let x : Series = state s.tally 1 s.value false 0 in
    let y : Series = tile s.tally s.answer s.value in
    either (Held s.tally) s.begun (cond (eqb s.stage 0) x y) (ended s.tally)
    (either (Held s.tally) (eqb s.stage 0) x y (omega arith) (tile_grows s.tally s.answer s.value)) (omega arith)

digit_grows : (s : Series) (d : ℕ) → Held s.tally (digit s d)
unfolding digit grown
digit_grows s d =
    let x : Series = state s.tally s.stage s.answer true (s.value * 10 + d) in
    let over : Bool = ltb (most_of s.stage) (s.value * 10 + d) in
    either (Held s.tally) (eqb s.value 0 && s.begun) (ended s.tally) (cond over (ended s.tally) x) (omega arith)
    (either (Held s.tally) over (ended s.tally) x (omega arith) (omega arith))

step_grows : (s : Series) (b : ℕ) → Held s.tally (step s b)
unfolding step
step_grows s b =
    let z : Series = cond (leb 48 b && ltb b 58) (digit s (b - 48)) (ended s.tally) in
    let y : Series = cond (eqb b (end_of s.stage)) (closed s) z in
    either (Held s.tally) (ltb 1 s.stage) s y (omega arith)
    (either (Held s.tally) (eqb b (end_of s.stage)) (closed s) z (closed_grows s)
    (either (Held s.tally) (leb 48 b && ltb b 58) (digit s (b - 48)) (ended s.tally) (digit_grows s (b - 48)) (omega arith)))

pub run_grows : (u : List ℕ) (s : Series) → s.tally.tiles ≤ (run s u).tally.tiles
unfolding run
run_grows [] s = omega arith
run_grows (b ∷ u) s = omega (arith, step_grows s b, run_grows u (step s b))

-- ---- the code's loop

pub run_more : (x : Series) (t : List ℕ) (i : ℕ) → i < length t → run (step x (get_or t i 0)) (drop (i + 1) t) ≡ run x (drop i t)
unfolding run
run_more x t i h = rw add-one (sym (ap (run x) (drop-cons t i 0 h)))

pub run_done : (x : Series) (t : List ℕ) (i : ℕ) → length t ≤ i → run x (drop i t) ≡ x
unfolding run
run_done x t i h = ap (run x) (drop_of_length-le t h)
