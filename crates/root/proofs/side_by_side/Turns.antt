-- A lane's turns are those on paper.
use Rattle.std.proofs.Common.{◌≡◌, ℕ, ◌+◌, ◌-◌, ◌*◌, ◌/◌, ◌%◌, ◌^◌, ◌<◌, ◌≤◌, Bool, true, false, cond, not, T, ltb, refl, ap, ◌∙◌, arith, ltb→lt, nltb→le, pow_mono, le-ltb, lt-ltb}
use Rattle.root.specs.School.{turn, digits}
use Rattle.root.specs.declared.Found.{Found}
use Rattle.root.specs.declared.side_by_side.Lane.{Lane}
use Rattle.root.proofs.School.{none, Turns, turns_start, turns_again, turns_done, next_down, next_two, next_pairs, shown}

-- ---- where u is taken off d at once

module _ (d u : ℕ) (hd : d < 2 ^ 60) (hu : u < 2 ^ 60) where
  -- what comes out
  abbrev y : ℕ
  y = (d + (2 ^ 64 - u)) % 2 ^ 64

  -- its top bit says which is the greater
  digit_is : ltb y (2 ^ 63) ≡ not (ltb d u)
  digit_is = go (ltb d u) (ltb→lt d u) (nltb→le d u)
    where
      go : (z : Bool) → (T z → d < u) → (T (not z) → u ≤ d) → ltb y (2 ^ 63) ≡ not z
      go true less more = le-ltb y (2 ^ 63) (omega (arith, less tt))
      go false less more = lt-ltb y (2 ^ 63) (omega (arith, more tt))

  -- what the digit asks for
  pub by_digit : (r one nought : ℕ) → r ≡ cond (ltb y (2 ^ 63)) one nought → r ≡ cond (ltb d u) nought one
  by_digit r one nought f = f ∙ ap (λ (z : Bool). cond z one nought) digit_is ∙ go (ltb d u)
    where
      go : (z : Bool) → cond (not z) one nought ≡ cond z nought one
      go true = refl
      go false = refl

  -- what is left
  pub left_is : (r : ℕ) → r ≡ cond (ltb y (2 ^ 63)) y d → (r ≡ cond (ltb d u) d (d - u)) × (r ≤ d)
  left_is r f = go (ltb d u) (nltb→le d u) (by_digit r y d f)
    where
      go : (z : Bool) → (T (not z) → u ≤ d) → r ≡ cond z d y → (r ≡ cond z d (d - u)) × (r ≤ d)
      go true more g = (g, omega arith)
      go false more g = (omega (arith, more tt), omega (arith, more tt))

-- ---- a lane and what stands on paper

-- The lane of a root and what is left, w, where c is still to come.
abbrev lane : ℕ → Found → Lane
lane c w = record { down = c / 2 ^ 58 % 4; pairs = (c * 2 ^ 6) % 2 ^ 64; remainder = w.r * 4 + c / 2 ^ 60; with_01 = w.s * 4 + 1 }

abbrev pub made : ℕ → ℕ → ℕ → ℕ → Lane
made a p d u = record { down = a; pairs = p; remainder = d; with_01 = u }

same_lane : (a p d u b q e v : ℕ) → a ≡ b → p ≡ q → d ≡ e → u ≡ v → made a p d u ≡ made b q e v
same_lane a p d u b q e v f g h k = rw (f, g, h, k)

-- What the code makes of a lane.
abbrev turned : Lane → Lane
turned l =
    made (l.pairs / 2 ^ 62) ((l.pairs * 2 ^ 2) % 2 ^ 64)
    (cond (ltb l.remainder l.with_01) l.remainder (l.remainder - l.with_01) * 4 + l.down)
    (cond (ltb l.remainder l.with_01) (l.with_01 * 2 - 1) (l.with_01 * 2 + 3))

turned_is : (c : ℕ) (w : Found) → c < 2 ^ 62 → turned (lane c w) ≡ lane (c % 2 ^ 60 * 4) (turn (c / 2 ^ 60) w)
unfolding turn
turned_is c w l = go (ltb (w.r * 4 + c / 2 ^ 60) (w.s * 4 + 1)) (w.r * 4 + c / 2 ^ 60) (w.r * 4 + c / 2 ^ 60 - (w.s * 4 + 1))
  where
    go : (z : Bool) (d e : ℕ)
        → made ((c * 2 ^ 6) % 2 ^ 64 / 2 ^ 62) (((c * 2 ^ 6) % 2 ^ 64 * 2 ^ 2) % 2 ^ 64) (cond z d e * 4 + c / 2 ^ 58 % 4) (cond z ((w.s * 4 + 1) * 2 - 1) ((w.s * 4 + 1) * 2 + 3))
        ≡ lane (c % 2 ^ 60 * 4) (cond z (record { s = w.s * 2; r = d }) (record { s = w.s * 2 + 1; r = e }))
    go true d e = same_lane _ _ _ _ _ _ _ _ (next_two c) (next_pairs c) (omega (arith, next_down c)) (omega arith)
    go false d e = same_lane _ _ _ _ _ _ _ _ (next_two c) (next_pairs c) (omega (arith, next_down c)) (omega arith)

-- The lane after i turns for n.
pub record After (i n : ℕ) (l : Lane) : Type 0 where
  pub c : ℕ
  pub w : Found
  pub turns : Turns 53 i n none c w
  pub shown : l ≡ lane c w

pub start : (n : ℕ) → n < 2 ^ 62 → After 0 n (made (n / 2 ^ 58 % 4) ((n * 2 ^ 6) % 2 ^ 64) (n / 2 ^ 60) 1)
start n h = record { c = n; w = none; turns = turns_start 53 n none (omega arith) h; shown = same_lane _ _ _ _ _ _ _ _ refl refl (omega arith) refl }

pub again : (i n : ℕ) (l next : Lane) → After i n l → i < 53
    → (next.down ≡ (turned l).down) × ((next.pairs ≡ (turned l).pairs) × ((next.remainder ≡ (turned l).remainder) × (next.with_01 ≡ (turned l).with_01))) → After (i + 1) n next
again i n l next h g e = record {
  c = h.c % 2 ^ 60 * 4;
  w = turn (h.c / 2 ^ 60) h.w;
  turns = turns_again 53 i n h.c none h.w h.turns g;
  shown = same_lane _ _ _ _ _ _ _ _ e.0 e.1.0 e.1.1.0 e.1.1.1 ∙ ap turned h.shown ∙ turned_is h.c h.w h.turns.stand.word;
}

-- before a turn there is room for it
pub room : (i n : ℕ) (l : Lane) → After i n l → i < 53 → (l.down < 4) × (l.remainder < 2 ^ 60) × (l.with_01 < 2 ^ 60) × (1 ≤ l.with_01)
room i n l h g =
    let f : i ≤ 53 = omega arith in
    let b : 2 ^ i ≤ 2 ^ 53 = pow_mono f in
    let s = h.turns.stand in
    rw h.shown (omega arith, omega (arith, s.small, s.rest, s.word), omega (arith, s.small), omega arith)

pub done : (i n : ℕ) (l : Lane) (w : Found) → After i n l → 53 ≤ i → w ≡ record { s = l.with_01 / 4; r = l.remainder / 4 } → w ≡ digits 53 n none
done i n l w h g e =
    let d : l.remainder ≡ h.w.r * 4 + h.c / 2 ^ 60 = ap (λ (x : Lane). x.remainder) h.shown in
    let u : l.with_01 ≡ h.w.s * 4 + 1 = ap (λ (x : Lane). x.with_01) h.shown in
    e ∙ shown h.w h.c l.remainder l.with_01 h.turns.stand.word d u ∙ turns_done 53 i n h.c none h.w h.turns g
