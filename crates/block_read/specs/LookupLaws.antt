-- The steps of the search for a kind, that a part that is found stands within its block, and what the copy's inner contract cites. Laws only.
use Rattle.std.specs.Prelude.{◌≡◌, refl, Bool, true, false, cond, List, map, Option, Some, None, ℕ, zero, suc, ◌+◌, ◌-◌, ◌*◌, ◌/◌, ◌≤◌, ◌<◌, eqb, length}
use Rattle.std.proofs.Common.{sym, subst, ap, ◌∙◌, arith, eqb-true, eq-eqb, ne_eqb}
use Rattle.std.proofs.lemmas.Bool.{eqb-false}
use Rattle.grid.specs.Real.{Vec}
use Rattle.answers.specs.Answers.{answered, refused}
use Rattle.answers.specs.declared.Answer.{Answer}
use Rattle.octets.specs.Bytes.{num, words_at}
use Rattle.octets.specs.Bits.{float}
use Rattle.block_read.specs.Content.{size}
use Rattle.block_read.specs.Reading.{entry_answer, entries, answer_of}
use Rattle.block_read.specs.CheckLaws.{or_else_lem, entry_good, entries_within, opened}
use Rattle.block_read.specs.Held.{place_in}
use Rattle.block_read.specs.Lookup.{Span, placed, span_of, found_in}
use Rattle.block_read.specs.declared.lookup.Found.{Found}

-- a span that is there stands within a block of that length
abbrev pub Within : ℕ → Span → Type 0
Within len (Some (a, e)) = (a ≤ e) × (e ≤ len)
Within len None = Unit

-- a part as doubles, where out has room for just these, with that place
abbrev pub copied_to : ℕ → List ℕ → Vec → Answer × Vec
copied_to place part out = cond (eqb (length part / 8) (length out)) (answered 0 place 0 0, map float (words_at part 0 (length out))) (refused 6 0, out)

-- the part of one block by its numbers, in `told`, which has both answers
abbrev pub found_here : ℕ → List ℕ → Span → Found → Option Found
found_here block t (Some (a, e)) told = Some (found_in block t (Some (a, e)) told.own_answer told.main_answer)
found_here block t None told = None

-- ---- the search for a kind

pub place_here : (t : List ℕ) (n i kind : ℕ) {k a R : ℕ} → i < n → k ≡ num 4 t (12 + 12 * i) → k ≡ kind → a ≡ num 4 t (12 + 12 * i + 4)
    → place_in t (n - i) (12 + 12 * i) kind ≡ R → a ≡ R
unfolding place_in
place_here t n i kind {k} h e z p g =
    let m : n - i ≡ suc (n - (i + 1)) = omega arith in
    p ∙ (rw (m, ← e, eq-eqb k kind z) at g)

pub place_next : (t : List ℕ) (n i kind : ℕ) {k R : ℕ} → i < n → k ≡ num 4 t (12 + 12 * i) → (k ≡ kind → ⊥)
    → place_in t (n - i) (12 + 12 * i) kind ≡ R → place_in t (n - (i + 1)) (12 + 12 * (i + 1)) kind ≡ R
unfolding place_in
place_next t n i kind {k} h e z g =
    let m : n - i ≡ suc (n - (i + 1)) = omega arith in
    let f : 12 + 12 * (i + 1) ≡ 12 + 12 * i + 12 = omega arith in
    rw f (rw (m, ← e, ne_eqb k kind z) at g)

pub place_none : (t : List ℕ) (n i kind : ℕ) {R : ℕ} → n ≤ i → place_in t (n - i) (12 + 12 * i) kind ≡ R → 0 ≡ R
unfolding place_in
place_none t n i kind h g =
    let k : n - i ≡ 0 = omega arith in
    rw k at g

pub place_within : (t : List ℕ) (r c left at last off kind : ℕ) → entries t r c left at last off ≡ 0 → (place_in t left at kind ≡ 0 → ⊥)
    → place_in t left at kind + 8 * size r c kind ≤ length t
unfolding entries place_in
place_within t r c zero at last off kind h = λ z. absurd (z refl)
place_within t r c (suc left) at last off kind h =
    go (eqb k kind) refl (place_within t r c left (at + 12) k (off + 8 * size r c k) kind w.1)
  where
    k : ℕ
    k = num 4 t at

    w : (entry_answer t r c at last off ≡ 0) × (entries t r c left (at + 12) k (off + 8 * size r c k) ≡ 0)
    w = or_else_lem (entry_answer t r c at last off) (entries t r c left (at + 12) k (off + 8 * size r c k)) h

    go : (x : Bool) → eqb k kind ≡ x → ((place_in t left (at + 12) kind ≡ 0 → ⊥) → place_in t left (at + 12) kind + 8 * size r c kind ≤ length t)
        → (cond x (num 4 t (at + 4)) (place_in t left (at + 12) kind) ≡ 0 → ⊥)
        → cond x (num 4 t (at + 4)) (place_in t left (at + 12) kind) + 8 * size r c kind ≤ length t
    go true e ih z =
        rw (← eqb-true k kind e)
        (omega (arith, (entry_good t r c at last off w.0).offset, entries_within t r c left (at + 12) k (off + 8 * size r c k) w.1))
    go false e ih z = ih z

-- in a block that is taken no numbers start at 0
pub offset_above : (t : List ℕ) (r c left at last off i : ℕ) → entries t r c left at last off ≡ 0 → 0 < off → i < left → 0 < num 4 t (at + 12 * i + 4)
unfolding entries
offset_above t r c zero at last off i h z l = absurd (omega (arith, l))
offset_above t r c (suc left) at last off zero h z l =
    let w = or_else_lem (entry_answer t r c at last off) (entries t r c left (at + 12) (num 4 t at) (off + 8 * size r c (num 4 t at))) h in
    let e : at + 4 ≡ at + 12 * 0 + 4 = omega arith in
    let f : num 4 t (at + 12 * 0 + 4) ≡ off = ap (λ (n : ℕ). num 4 t n) (sym e) ∙ (entry_good t r c at last off w.0).offset in
    omega (arith, f, z)
offset_above t r c (suc left) at last off (suc i) h z l =
    let w = or_else_lem (entry_answer t r c at last off) (entries t r c left (at + 12) (num 4 t at) (off + 8 * size r c (num 4 t at))) h in
    let P : ℕ → Type 0 = λ n. 0 < num 4 t n in
    let e : at + 12 + 12 * i + 4 ≡ at + 12 * suc i + 4 = omega arith in
    subst P e (offset_above t r c left (at + 12) (num 4 t at) (off + 8 * size r c (num 4 t at)) i w.1 (omega arith) (omega arith))

-- a part that is found in a block that is taken stands within it
pub span_room : (t : List ℕ) (r c n kind p s : ℕ) → answer_of t ≡ 0 → (r ≡ num 4 t 0) × (c ≡ num 4 t 4) × (n ≡ num 4 t 8) → s ≡ size r c kind → Some p ≡ placed (place_in t n 12 kind)
    → p + 8 * s ≤ length t
span_room t r c n kind p s h (er, ec, en) es = go (eqb (place_in t n 12 kind) 0) refl
  where
    go : (x : Bool) → eqb (place_in t n 12 kind) 0 ≡ x → Some p ≡ cond x None (Some (place_in t n 12 kind)) → p + 8 * s ≤ length t
    go true e q =
        let z : ◌≡◌ {A = ℕ} 0 1 = cc in
        absurd (omega arith)
    go false e q =
        let f : p ≡ place_in t n 12 kind = cc in
        let g : place_in t n 12 kind ≡ 0 → ⊥ = eqb-false (place_in t n 12 kind) 0 e in
        rw (f, es, er, ec, en) (place_within t (num 4 t 0) (num 4 t 4) (num 4 t 8) 12 0 (12 + 12 * num 4 t 8) kind (opened t h).rest (rw en at g))

-- a part that is there stands within its block
pub span_within : (t : List ℕ) (kind : ℕ) → Within (length t) (span_of t kind)
unfolding span_of
span_within t kind = go (eqb (answer_of t) 0) (eqb p 0) refl refl
  where
    p : ℕ
    p = place_in t (num 4 t 8) 12 kind

    go : (x y : Bool) → eqb (answer_of t) 0 ≡ x → eqb p 0 ≡ y
        → Within (length t) (cond x (cond y None (Some (p, p + 8 * size (num 4 t 0) (num 4 t 4) kind))) None)
    go true true a b = tt
    go true false a b =
        (omega arith, place_within t (num 4 t 0) (num 4 t 4) (num 4 t 8) 12 0 (12 + 12 * num 4 t 8) kind (opened t (eqb-true (answer_of t) 0 a)).rest (eqb-false p 0 b))
    go false y a b = tt

-- a block that has a part is taken
pub span_taken : (t : List ℕ) (kind : ℕ) {s : ℕ × ℕ} → span_of t kind ≡ Some s → answer_of t ≡ 0
unfolding span_of
span_taken t kind {s} = go (eqb (answer_of t) 0) refl
  where
    p : ℕ
    p = place_in t (num 4 t 8) 12 kind

    go : (x : Bool) → eqb (answer_of t) 0 ≡ x → cond x (cond (eqb p 0) None (Some (p, p + 8 * size (num 4 t 0) (num 4 t 4) kind))) None ≡ Some s → answer_of t ≡ 0
    go true b h = eqb-true (answer_of t) 0 b
    go false b h = cc
