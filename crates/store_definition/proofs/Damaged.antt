-- A list whose set-up is damaged in one number is refused with 39 by every call, whatever else is in it; one of an owner that is damaged by a reset too.
use Rattle.std.specs.Prelude.{◌≡◌, refl, Bool, true, false, ◌&&◌, List, [], ℕ, zero, suc, ◌≤◌, length, get_or}
use Rattle.std.proofs.Common.{sym, ◌∙◌, arith, le-leb}
use Rattle.answers.specs.Answers.{refused}
use Rattle.store_definition.specs.Calls.{Call, Put, Length, Fetch, Drop, Arrays}
use Rattle.store_definition.specs.Owners.{laid, barred, sound_for, sound_both, reset, put_for, length_for, fetch_for, drop_for}
use Rattle.store_definition.proofs.LaidLaws.{Laid, laid_facts}
use Rattle.store_definition.specs.OwnersEvents.{call_for, reset_both}

-- the four numbers of the set-up, and where they stand
pub data SetUpNumber : Type 0 where
  Room : SetUpNumber
  Quota0 : SetUpNumber
  Quota1 : SetUpNumber
  LeftOver : SetUpNumber

abbrev pub index_of : SetUpNumber → ℕ
index_of Room = 0
index_of Quota0 = 1
index_of Quota1 = 35
index_of LeftOver = 69

-- the destination of a call, which is empty for a call with none
abbrev pub out_of : Call → List ℕ
out_of (Put t b) = []
out_of (Length t) = []
out_of (Fetch t out) = out
out_of (Drop t) = []

-- w is laid; v has a buffer of the same length, and of the four numbers one, k, is another one and the others are the same
module _ (w v : Arrays) (e : laid w.list w.tiles w.bytes ≡ true) (b : length v.bytes ≡ length w.bytes) (k : SetUpNumber)
    (ne : get_or v.list (index_of k) 0 ≡ get_or w.list (index_of k) 0 → ⊥)
    (others : (j : SetUpNumber) → (index_of j ≡ index_of k → ⊥) → get_or v.list (index_of j) 0 ≡ get_or w.list (index_of j) 0) where
  known : Laid w.list w.tiles w.bytes
  known = laid_facts w.list w.tiles w.bytes e

  -- it would have to be the same
  no_other : Laid v.list v.tiles v.bytes → ⊥
  no_other f = go k ne others
    where
      go : (k : SetUpNumber) → (get_or v.list (index_of k) 0 ≡ get_or w.list (index_of k) 0 → ⊥)
          → ((j : SetUpNumber) → (index_of j ≡ index_of k → ⊥) → get_or v.list (index_of j) 0 ≡ get_or w.list (index_of j) 0) → ⊥
      go Room ne others = ne (sym f.whole ∙ b ∙ known.whole)
      go Quota0 ne others =
          ne (omega (arith, f.adding, known.adding, others Room (λ x. omega (arith, x)), others Quota1 (λ x. omega (arith, x)), others LeftOver (λ x. omega (arith, x))))
      go Quota1 ne others =
          ne (omega (arith, f.adding, known.adding, others Room (λ x. omega (arith, x)), others Quota0 (λ x. omega (arith, x)), others LeftOver (λ x. omega (arith, x))))
      go LeftOver ne others =
          ne (omega (arith, f.adding, known.adding, others Room (λ x. omega (arith, x)), others Quota0 (λ x. omega (arith, x)), others Quota1 (λ x. omega (arith, x))))

  not_laid : laid v.list v.tiles v.bytes ≡ false
  not_laid = go (laid v.list v.tiles v.bytes) refl
    where
      go : (x : Bool) → laid v.list v.tiles v.bytes ≡ x → laid v.list v.tiles v.bytes ≡ false
      go true y = absurd (no_other (laid_facts v.list v.tiles v.bytes y))
      go false y = y

  barred_39 : (o : ℕ) → o ≤ 1 → barred o v.list v.tiles v.bytes ≡ 39
  unfolding barred
  barred_39 o h = rw (le-leb o 1 h, not_laid)

  -- ---- the theorem: each call of an owner, and a reset, answers 39, and everything lent is as it was

  pub call_refused : (o : ℕ) → o ≤ 1 → (c : Call) → call_for o c v ≡ ((refused 39 0, out_of c), v)
  unfolding put_for length_for fetch_for drop_for
  call_refused o h (Put t block) = rw (barred_39 o h)
  call_refused o h (Length t) = rw (barred_39 o h)
  call_refused o h (Fetch t out) = rw (barred_39 o h)
  call_refused o h (Drop t) = rw (barred_39 o h)

  pub reset_refused : reset_both v ≡ ((refused 39 0, []), v)
  unfolding reset sound_both
  reset_refused = rw not_laid

-- ---- an owner's list that its own calls refuse is refused by a reset

and_false : (a : Bool) → (a && false) ≡ false
and_false true = refl
and_false false = refl

pub reset_damaged : (o : ℕ) → o ≤ 1 → (v : Arrays) → sound_for o v.list v.tiles v.bytes ≡ false → reset_both v ≡ ((refused 39 0, []), v)
unfolding reset sound_both
reset_damaged zero h v e = rw (e, and_false (laid v.list v.tiles v.bytes))
reset_damaged (suc zero) h v e = rw (e, and_false (laid v.list v.tiles v.bytes && sound_for 0 v.list v.tiles v.bytes))
reset_damaged (suc (suc o)) h v e = absurd (omega arith)
