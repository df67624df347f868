-- T32, of the text: every text has its tiles, up to where the series ends (`starts`), those alone (`one_series`), and is read as them: the tally that it leaves holds the figures of those tiles (`tallied_series`, `tallied_figures`). Laws only.
use Rattle.std.specs.Prelude.{◌≡◌, Bool, cond, ◌&&◌, ltb, leb}
use Rattle.std.proofs.Math.Path.{refl, sym, ap}
use Rattle.std.proofs.Common.{◌∙◌, subst, true≢false, arith, ltb-true, ltb-false, leb-true, eqb-true, eq-eqb}
use Rattle.std.proofs.Math.Bool.{true, false}
use mathlib.Core.List.{List, [], ◌∷◌, ◌++◌, append-nil, append_assoc}
use Prim.Native.Nat.{ℕ, zero, suc, ◌+◌, ◌-◌, ◌*◌, ◌≤◌, ◌<◌}
use Rattle.std.proofs.lemmas.Bool.{eqb-false}
use Rattle.std.proofs.Math.Dec.{eqb}
use Rattle.text.specs.Writing.{number}
use Rattle.grid.specs.LoopLaws.{both}
use Rattle.tally_definition.specs.Figures.{Tile}
use Rattle.tally_definition.specs.Tallies.{refusal, next, outcome, none}
use Rattle.tally_definition.specs.Series.{figures, series, taken_of}
use Rattle.tally_definition.proofs.Counted.{counted_taken}
use Rattle.tally_definition.specs.declared.Tally.{Tally}
use Rattle.text_tiles_definition.specs.declared.Series.{Series}
use Rattle.text_tiles_definition.specs.Lines.{line, lines, state, fresh, ended, end_of, most_of, grown, digit, closed, step, run, tallied, Takes, Stops, StartsWith, Reads}
use Rattle.text_tiles_definition.specs.DecimalLaws.{dec, number_is, dec_low, dec_more}
use Rattle.text_tiles_definition.proofs.StepLaws.{ended_stays, run_grows, most_low, step_end, step_digit, step_other, grown_on, grown_over, digit_on, digit_ends, tile_taken, tile_refused, line_run, line_one}

-- ---- lines that are taken are read

pub lines_run : (l : List Tile) (t : Tally) (u : List ℕ) → Takes t l → run (fresh t) (lines l ++ u) ≡ run (fresh (series t l)) u
unfolding lines Takes series
lines_run [] t u h = refl
lines_run (x ∷ l) t u h =
    ap (run (fresh t)) (append_assoc (line x) (lines l) u) ∙ line_run t x (lines l ++ u) h.0 ∙ lines_run l (outcome t x.answer x.passes).tally u h.1

-- ---- what stands in a line so far

abbrev front : ℕ → ℕ → List ℕ
front stage answer = cond (eqb stage 0) [] (number answer 32)

abbrev sofar : ℕ → ℕ → Bool → ℕ → List ℕ
sofar stage answer g v = front stage answer ++ cond g (dec v) []

record Fits (stage answer : ℕ) (g : Bool) (v : ℕ) : Type 0 where
  low : stage < 2
  range : answer ≤ 15
  small : v ≤ most_of stage
  none_yet : g ≡ false → v ≡ 0

-- what a byte more makes of it: the end, a number or its part, or a whole line
data Next (t : Tally) (stage answer : ℕ) (g : Bool) (v b : ℕ) : Type 0 where
  stop : step (state t stage answer g v) b ≡ ended t → Next t stage answer g v b
  on : (k a : ℕ) (h : Bool) (w : ℕ) → Fits k a h w → step (state t stage answer g v) b ≡ state t k a h w → sofar stage answer g v ++ (b ∷ []) ≡ sofar k a h w → Next t stage answer g v b
  whole : (x : Tile) → refusal t x.answer x.passes ≡ 0 → step (state t stage answer g v) b ≡ fresh (outcome t x.answer x.passes).tally
      → sofar stage answer g v ++ (b ∷ []) ≡ line x → Next t stage answer g v b

module _ (t : Tally) where
  -- a digit
  grows : (stage answer : ℕ) (g : Bool) (v d b : ℕ) → Fits stage answer g v → d < 10 → 48 + d ≡ b → step (state t stage answer g v) b ≡ grown (state t stage answer g v) d
      → cond g (dec v) [] ++ ((48 + d) ∷ []) ≡ dec (v * 10 + d) → Next t stage answer g v b
  grows stage answer g v d b f h p e w = go (ltb (most_of stage) (v * 10 + d)) refl
    where
      go : (x : Bool) → ltb (most_of stage) (v * 10 + d) ≡ x → Next t stage answer g v b
      go true q = stop (e ∙ grown_over (state t stage answer g v) d (ltb-true (most_of stage) (v * 10 + d) q))
      go false q = on stage answer true (v * 10 + d)
          (record { low = f.low; range = f.range; small = ltb-false (most_of stage) (v * 10 + d) q; none_yet = λ (z : true ≡ false). absurd (true≢false z) })
          (e ∙ grown_on (state t stage answer g v) d (ltb-false (most_of stage) (v * 10 + d) q))
          (ap (λ (c : ℕ). sofar stage answer g v ++ (c ∷ [])) (sym p) ∙ append_assoc (front stage answer) (cond g (dec v) []) ((48 + d) ∷ [])
          ∙ ap (λ (l : List ℕ). front stage answer ++ l) w)

  digits : (stage answer : ℕ) (g : Bool) (v d b : ℕ) → Fits stage answer g v → d < 10 → 48 + d ≡ b → step (state t stage answer g v) b ≡ digit (state t stage answer g v) d
      → Next t stage answer g v b
  digits stage answer true v d b f h p e = go (eqb v 0) refl
    where
      go : (x : Bool) → eqb v 0 ≡ x → Next t stage answer true v b
      go true q = stop (e ∙ digit_ends (state t stage answer true v) d (rw q))
      go false q =
          let nz : v ≡ 0 → ⊥ = eqb-false v 0 q in
          let m = most_low stage in
          let i : v ≤ most_of stage = f.small in
          grows stage answer true v d b f h p (e ∙ digit_on (state t stage answer true v) d (rw q)) (sym (dec_more v d (omega arith) (omega arith) h))
  digits stage answer false v d b f h p e =
      let z : v ≡ 0 = f.none_yet refl in
      let n : v * 10 + d ≡ d = omega arith in
      grows stage answer false v d b f h p (e ∙ digit_on (state t stage answer false v) d (rw (eq-eqb v 0 z))) (sym (ap dec n ∙ dec_low d h))

  -- the byte that ends a number
  closes : (stage answer : ℕ) (g : Bool) (v b : ℕ) → Fits stage answer g v → b ≡ end_of stage → step (state t stage answer g v) b ≡ closed (state t stage answer g v) → Next t stage answer g v b
  unfolding closed end_of most_of
  closes stage answer false v b f p e = stop e
  closes zero answer true v b f p e =
      on 1 v false 0 (record { low = omega arith; range = f.small; small = omega arith; none_yet = λ (z : false ≡ false). refl }) e
      (ap (λ (c : ℕ). dec v ++ (c ∷ [])) p ∙ sym (number_is v 32) ∙ sym (append-nil (number v 32)))
  closes (suc zero) answer true v b f p e = go (eqb (refusal t answer v) 0) refl
    where
      go : (x : Bool) → eqb (refusal t answer v) 0 ≡ x → Next t 1 answer true v b
      go true q = whole (record { answer = answer; passes = v }) (eqb-true (refusal t answer v) 0 q) (e ∙ tile_taken t answer v (eqb-true (refusal t answer v) 0 q))
          (ap (λ (c : ℕ). (number answer 32 ++ dec v) ++ (c ∷ [])) p ∙ append_assoc (number answer 32) (dec v) (10 ∷ [])
          ∙ ap (λ (l : List ℕ). number answer 32 ++ l) (sym (number_is v 10)))
      go false q = stop (e ∙ tile_refused t answer v (eqb-false (refusal t answer v) 0 q))
  closes (suc (suc k)) answer true v b f p e =
      let l : suc (suc k) < 2 = f.low in
      absurd (omega arith)

  after : (stage answer : ℕ) (g : Bool) (v b : ℕ) → Fits stage answer g v → Next t stage answer g v b
  after stage answer g v b f = go (eqb b (end_of stage)) (leb 48 b && ltb b 58) refl refl
    where
      go : (x y : Bool) → eqb b (end_of stage) ≡ x → (leb 48 b && ltb b 58) ≡ y → Next t stage answer g v b
      go true y p q = closes stage answer g v b f (eqb-true b (end_of stage) p) (step_end (state t stage answer g v) b f.low p)
      go false true p q =
          let w = both (leb 48 b) (ltb b 58) q in
          let lo : 48 ≤ b = leb-true 48 b w.0 in
          let hi : b < 58 = ltb-true b 58 w.1 in
          digits stage answer g v (b - 48) b f (omega arith) (omega arith) (step_digit (state t stage answer g v) b f.low p q)
      go false false p q = stop (step_other (state t stage answer g v) b f.low p q)

-- ---- what is read stands in the text

record Found (t : Tally) (p : List ℕ) (s : Series) (u : List ℕ) : Type 0 where
  tiles : List Tile
  rest : List ℕ
  text : p ++ u ≡ lines tiles ++ rest
  took : Takes t tiles
  left : (run s u).tally ≡ series t tiles

begin : Fits 0 0 false 0
begin = record { low = omega arith; range = omega arith; small = omega arith; none_yet = λ (z : false ≡ false). refl }

find : (u : List ℕ) (t : Tally) (stage answer : ℕ) (g : Bool) (v : ℕ) → Fits stage answer g v → Found t (sofar stage answer g v) (state t stage answer g v) u
unfolding run lines Takes series
find [] t stage answer g v f = record { tiles = []; rest = sofar stage answer g v; text = append-nil (sofar stage answer g v); took = tt; left = refl }
find (b ∷ u) t stage answer g v f = go (after t stage answer g v b f) (find u)
  where
    p : List ℕ
    p = sofar stage answer g v

    go : Next t stage answer g v b → ((t : Tally) (k a : ℕ) (h : Bool) (w : ℕ) → Fits k a h w → Found t (sofar k a h w) (state t k a h w) u)
        → Found t p (state t stage answer g v) (b ∷ u)
    go (stop e) again =
        record {
          tiles = [];
          rest = p ++ (b ∷ u);
          text = refl;
          took = tt;
          left = ap (λ (s : Series). (run s u).tally) e ∙ ap (λ (s : Series). s.tally) (ended_stays t u);
        }
    go (on k a h w i e q) again =
        let r = again t k a h w i in
        record {
          tiles = r.tiles;
          rest = r.rest;
          text = sym (append_assoc p (b ∷ []) u) ∙ ap (λ (l : List ℕ). l ++ u) q ∙ r.text;
          took = r.took;
          left = ap (λ (s : Series). (run s u).tally) e ∙ r.left;
        }
    go (whole x h e q) again =
        let r = again (outcome t x.answer x.passes).tally 0 0 false 0 begin in
        record {
          tiles = x ∷ r.tiles;
          rest = r.rest;
          text = sym (append_assoc p (b ∷ []) u) ∙ ap (λ (l : List ℕ). l ++ u) q ∙ ap (λ (l : List ℕ). line x ++ l) r.text ∙ sym (append_assoc (line x) (lines r.tiles) r.rest);
          took = (h, r.took);
          left = ap (λ (s : Series). (run s u).tally) e ∙ r.left;
        }

-- ---- the theorems

-- behind lines that are taken, a line more would be one tile more
no_more : (t : List ℕ) (l : List Tile) (u : List ℕ) → t ≡ lines l ++ u → Takes none l → tallied t ≡ series none l → Stops (series none l) u
unfolding outcome next
no_more t l u e h r x v z q =
    let s : Tally = series none l in
    let s' : Tally = (outcome s x.answer x.passes).tally in
    let a : tallied t ≡ (run (fresh s') v).tally = ap tallied (e ∙ ap (λ (w : List ℕ). lines l ++ w) q) ∙ ap (λ (y : Series). y.tally) (lines_run l none (line x ++ v) h ∙ line_run s x v z) in
    let b : s'.tiles ≤ (run (fresh s') v).tally.tiles = run_grows v (fresh s') in
    let c : s'.tiles ≡ s.tiles + 1 = rw z in
    let d : (run (fresh s') v).tally.tiles ≡ s.tiles = ap (λ (y : Tally). y.tiles) (sym a ∙ r) in
    omega arith

pub starts : (t : List ℕ) → Reads t
starts t =
    let r = find t none 0 0 false 0 begin in
    record { tiles = r.tiles; starts = record { rest = r.rest; text = r.text; taken = r.took; stops = no_more t r.tiles r.rest r.text r.took r.left } }

-- what stops a series leaves its tally
stopped : (t : Tally) (u : List ℕ) → Stops t u → (run (fresh t) u).tally ≡ t
unfolding lines Takes series
stopped t u h = let r = find u t 0 0 false 0 begin in go r.tiles r.rest r.text r.took r.left
  where
    go : (l : List Tile) (w : List ℕ) → u ≡ lines l ++ w → Takes t l → (run (fresh t) u).tally ≡ series t l → (run (fresh t) u).tally ≡ t
    go [] w e k r = r
    go (x ∷ l) w e k r = absurd (h x (lines l ++ w) k.0 (e ∙ append_assoc (line x) (lines l) w))

pub tallied_series : (t : List ℕ) (l : List Tile) → StartsWith t l → tallied t ≡ series none l
tallied_series t l d =
    ap tallied d.text ∙ ap (λ (s : Series). s.tally) (lines_run l none d.rest d.taken) ∙ stopped (series none l) d.rest d.stops

takes_all : (l : List Tile) (t : Tally) → Takes t l → taken_of t l ≡ l
unfolding Takes taken_of
takes_all [] t h = refl
takes_all (x ∷ l) t h = rw h.0 (ap (λ (m : List Tile). x ∷ m) (takes_all l (outcome t x.answer x.passes).tally h.1))

pub tallied_figures : (t : List ℕ) (l : List Tile) → StartsWith t l → tallied t ≡ figures l
tallied_figures t l d = tallied_series t l d ∙ counted_taken l ∙ ap figures (takes_all l none d.taken)

-- ---- a text has no other tiles

same : (l m : List Tile) (t : Tally) (u v : List ℕ) → Takes t l → Takes t m → Stops (series t l) u → Stops (series t m) v → lines l ++ u ≡ lines m ++ v → l ≡ m
unfolding lines Takes series
same [] [] t u v a b c d e = refl
same [] (y ∷ m) t u v a b c d e = absurd (c y (lines m ++ v) b.0 (e ∙ append_assoc (line y) (lines m) v))
same (x ∷ l) [] t u v a b c d e = absurd (d x (lines l ++ u) a.0 (sym e ∙ append_assoc (line x) (lines l) u))
same (x ∷ l) (y ∷ m) t u v a b c d e =
    let w = line_one t x y (lines l ++ u) (lines m ++ v) a.0 b.0 (sym (append_assoc (line x) (lines l) u) ∙ e ∙ append_assoc (line y) (lines m) v) in
    let i : Takes (outcome t x.answer x.passes).tally m = subst (λ (z : Tile). Takes (outcome t z.answer z.passes).tally m) (sym w.0) b.1 in
    let j : Stops (series (outcome t x.answer x.passes).tally m) v = subst (λ (z : Tile). Stops (series (outcome t z.answer z.passes).tally m) v) (sym w.0) d in
    ap (λ (z : Tile). z ∷ l) w.0 ∙ ap (λ (z : List Tile). y ∷ z) (same l m (outcome t x.answer x.passes).tally u v a.1 i c j w.1)

pub one_series : (t : List ℕ) (l m : List Tile) → StartsWith t l → StartsWith t m → l ≡ m
one_series t l m d e = same l m none d.rest e.rest d.taken e.taken d.stops e.stops (sym d.text ∙ e.text)
