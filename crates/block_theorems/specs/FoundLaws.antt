-- What the reader's record and the lookup say of a block's content: a part that is found is the part of that kind, and none is found where there is none. Laws only.
use Rattle.std.specs.Prelude.{◌≡◌, refl, Bool, true, false, cond, Some, None, List, [], map, ℕ, zero, suc, ◌+◌, ◌-◌, ◌*◌, ◌/◌, ◌<◌, eqb, length, take, drop}
use Rattle.std.proofs.Common.{sym, true≢false, not-suc-le-zero, arith, eq-eqb, ne_eqb, eqb-true, take_all}
use Rattle.grid.specs.Real.{Vec}
use Rattle.answers.specs.Answers.{answered, refused}
use Rattle.answers.specs.declared.Answer.{Answer}
use Rattle.octets.specs.Bytes.{words_bytes, num, words_at, Bytes}
use Rattle.octets.specs.Bits.{float}
use Rattle.octets.proofs.BytesLaws.{words_spelled, words_bound, words_taken, words_bytes_length}
use Rattle.block_read.specs.Content.{Part, Words, size}
use Rattle.block_read.specs.Reading.{entry_answer, entries, answer_of, parts_at, good, reading}
use Rattle.block_read.specs.Reading as reads
use Rattle.block_read.specs.CheckLaws.{or_else_lem, entry_good, entries_within, opened}
use Rattle.block_read.specs.Held.{place_in, held, no_block, block_read}
use Rattle.block_read.specs.Lookup.{Span, span_of, part_of, first, lookup, copied}
use Rattle.block_theorems.specs.Sound.{has_part, part_words, has_in, words_in, chosen, Spanned, Recorded}

-- ---- the search

-- p is where n numbers start that are those words, or 0 where there are none
abbrev FoundAt : List ℕ → ℕ → ℕ → Bool → List ℕ → Type 0
FoundAt t n p true ws = (0 < p) × (take (8 * n) (drop p t) ≡ words_bytes ws)
FoundAt t n p false ws = (p ≡ 0) × (ws ≡ [])

place_known : (t : List ℕ) (r c left at last off kind : ℕ) → Bytes t → 0 < off → entries t r c left at last off ≡ 0
    → FoundAt t (size r c kind) (place_in t left at kind) (has_part kind (parts_at t r c left at off)) (part_words kind (parts_at t r c left at off))
unfolding entries parts_at place_in has_part part_words
place_known t r c zero at last off kind g z h = (refl, refl)
place_known t r c (suc left) at last off kind g z h =
    go (eqb k kind) refl (place_known t r c left (at + 12) k (off + 8 * size r c k) kind g (omega arith) w.1)
  where
    k : ℕ
    k = num 4 t at

    ps : List Part
    ps = parts_at t r c left (at + 12) (off + 8 * size r c k)

    w : (entry_answer t r c at last off ≡ 0) × (entries t r c left (at + 12) k (off + 8 * size r c k) ≡ 0)
    w = or_else_lem (entry_answer t r c at last off) (entries t r c left (at + 12) k (off + 8 * size r c k)) h

    go : (x : Bool) → eqb k kind ≡ x → FoundAt t (size r c kind) (place_in t left (at + 12) kind) (has_part kind ps) (part_words kind ps)
        → FoundAt t (size r c kind) (cond x (num 4 t (at + 4)) (place_in t left (at + 12) kind)) (cond x true (has_part kind ps)) (cond x (words_at t off (size r c k)) (part_words kind ps))
    go true e ih =
        rw ((entry_good t r c at last off w.0).offset, ← eqb-true k kind e)
        (z, words_spelled t off (size r c k) (entries_within t r c left (at + 12) k (off + 8 * size r c k) w.1) g)
    go false e ih = ih

abbrev place_of : List ℕ → ℕ → ℕ
place_of t kind = place_in t (num 4 t 8) 12 kind

abbrev size_of : List ℕ → ℕ → ℕ
size_of t kind = size (num 4 t 0) (num 4 t 4) kind

abbrev found : List ℕ → List Part
found t = parts_at t (num 4 t 0) (num 4 t 4) (num 4 t 8) 12 (12 + 12 * num 4 t 8)

known_place : (t : List ℕ) (kind : ℕ) → Bytes t → answer_of t ≡ 0 → FoundAt t (size_of t kind) (place_of t kind) (has_part kind (found t)) (part_words kind (found t))
known_place t kind g e =
    place_known t (num 4 t 0) (num 4 t 4) (num 4 t 8) 12 0 (12 + 12 * num 4 t 8) kind g (omega arith) (opened t e).rest

-- ---- the lookup

-- where a part is found, and what it is
spanned_at : (t : List ℕ) (n p : ℕ) (x : Bool) (ws : List ℕ) → FoundAt t n p x ws
    → (first (cond (eqb p 0) None (Some (p, p + 8 * n))) true false ≡ x) × (part_of t (cond (eqb p 0) None (Some (p, p + 8 * n))) ≡ words_bytes ws)
unfolding words_bytes
spanned_at t n p true ws f =
    let ne : p ≡ 0 → ⊥ = λ e. omega (arith, f.0) in
    let s : p + 8 * n - p ≡ 8 * n = omega arith in
    (rw (ne_eqb p 0 ne), rw (ne_eqb p 0 ne, s) f.1)
spanned_at t n p false ws f = (rw (eq-eqb p 0 f.0), rw (eq-eqb p 0 f.0, f.1))

pub spanned : (t : List ℕ) (kind : ℕ) → Bytes t → Spanned t kind (reading t)
unfolding span_of reading words_bytes
spanned t kind g = go (eqb (answer_of t) 0) refl
  where
    go : (x : Bool) → eqb (answer_of t) 0 ≡ x → Spanned t kind (cond x (good (num 4 t 0) (num 4 t 4) (found t)) (reads.refused (answer_of t)))
    go true e =
        let w = spanned_at t (size_of t kind) (place_of t kind) (has_part kind (found t)) (part_words kind (found t)) (known_place t kind g (eqb-true (answer_of t) 0 e)) in
        record { there = rw e w.0; bytes = rw e w.1 }
    go false e = record { there = rw e; bytes = rw e }

-- the lookup gives the part of the tile's own content where it has one, else the main one's, else nothing
pub lookup_is : (own main : List ℕ) (kind : ℕ) → Bytes own → Bytes main
    → lookup own main kind ≡ words_bytes (chosen own main kind)
unfolding lookup
lookup_is own main kind g h =
    let a = spanned own kind g in
    let b = spanned main kind h in
    go (span_of own kind) (has_in kind (reading own)) a.there a.bytes b.bytes
  where
    go : (s : Span) (x : Bool) → first s true false ≡ x → part_of own s ≡ words_bytes (words_in kind (reading own))
        → part_of main (span_of main kind) ≡ words_bytes (words_in kind (reading main))
        → first s (part_of own s) (part_of main (span_of main kind)) ≡ words_bytes (cond x (words_in kind (reading own)) (words_in kind (reading main)))
    go (Some (a, e)) true h p q = p
    go (Some (a, e)) false h p q = absurd (true≢false h)
    go None true h p q = absurd (true≢false (sym h))
    go None false h p q = q

-- a refused own block leaves the main one's part
pub refused_own : (own main : List ℕ) (kind : ℕ) → (answer_of own ≡ 0 → ⊥) → chosen own main kind ≡ words_in kind (reading main)
unfolding reading
refused_own own main kind h = rw (ne_eqb (answer_of own) 0 h)

-- ---- the reader's record

held_at : (t : List ℕ) (r c kind p : ℕ) (x : Bool) (ws : List ℕ) → FoundAt t (size r c kind) p x ws → take (8 * held r c kind p) (drop p t) ≡ words_bytes ws
unfolding held words_bytes
held_at t r c kind p true ws f =
    let ne : p ≡ 0 → ⊥ = λ e. omega (arith, f.0) in
    rw (ne_eqb p 0 ne) f.1
held_at t r c kind p false ws f = rw (eq-eqb p 0 f.0, f.1)

not_refused : {a r c : ℕ} {ps : List Part} → reads.refused a ≡ good r c ps → ⊥
not_refused e =
    let z : ◌≡◌ {A = ℕ} 0 1 = cc in
    omega arith

-- what is read as a content is taken
pub taken : (t : List ℕ) (r c : ℕ) (ps : List Part) → reading t ≡ good r c ps → answer_of t ≡ 0
unfolding reading
taken t r c ps = go (eqb (answer_of t) 0) refl
  where
    go : (x : Bool) → eqb (answer_of t) 0 ≡ x → cond x (good (num 4 t 0) (num 4 t 4) (found t)) (reads.refused (answer_of t)) ≡ good r c ps → answer_of t ≡ 0
    go true a e = eqb-true (answer_of t) 0 a
    go false a e = absurd (not_refused e)

pub recorded : (t : List ℕ) (r c : ℕ) (ps : List Part) → Bytes t → reading t ≡ good r c ps → Recorded t r c ps
unfolding reading block_read
recorded t r c ps g = go (eqb (answer_of t) 0) refl
  where
    part : (kind : ℕ) → answer_of t ≡ 0 → take (8 * held (num 4 t 0) (num 4 t 4) kind (place_of t kind)) (drop (place_of t kind) t) ≡ words_bytes (part_words kind (found t))
    part kind e = held_at t (num 4 t 0) (num 4 t 4) kind (place_of t kind) (has_part kind (found t)) (part_words kind (found t)) (known_place t kind g e)

    go : (x : Bool) → eqb (answer_of t) 0 ≡ x → cond x (good (num 4 t 0) (num 4 t 4) (found t)) (reads.refused (answer_of t)) ≡ good r c ps → Recorded t r c ps
    go true a e =
        let z : answer_of t ≡ 0 = eqb-true (answer_of t) 0 a in
        let p : num 4 t 0 ≡ r = cc in
        let q : num 4 t 4 ≡ c = cc in
        let s : found t ≡ ps = cc in
        record {
          answer = rw a;
          rows = rw a p;
          columns = rw a q;
          values = rw (a, ← s) (part 1 z);
          matrix = rw (a, ← s) (part 2 z);
          inverse = rw (a, ← s) (part 3 z);
        }
    go false a e = absurd (not_refused e)

pub refused_record : (t : List ℕ) (a : ℕ) → reading t ≡ reads.refused a → block_read t ≡ no_block a
unfolding reading block_read
refused_record t a = go (eqb (answer_of t) 0) refl
  where
    go : (x : Bool) → eqb (answer_of t) 0 ≡ x → cond x (good (num 4 t 0) (num 4 t 4) (found t)) (reads.refused (answer_of t)) ≡ reads.refused a → block_read t ≡ no_block a
    go true b e =
        let z : ◌≡◌ {A = ℕ} 0 1 = cc in
        absurd (omega arith)
    go false b e =
        let z : answer_of t ≡ a = cc in
        rw (b, z)

-- ---- as doubles

some_words : (t : List ℕ) (r c left at off kind : ℕ) → Bytes t → Words (part_words kind (parts_at t r c left at off))
unfolding parts_at part_words
some_words t r c zero at off kind g = λ i h. absurd (not-suc-le-zero h)
some_words t r c (suc left) at off kind g = go (eqb (num 4 t at) kind) (some_words t r c left (at + 12) (off + 8 * size r c (num 4 t at)) kind g)
  where
    rest : List Part
    rest = parts_at t r c left (at + 12) (off + 8 * size r c (num 4 t at))

    go : (x : Bool) → Words (part_words kind rest) → Words (cond x (words_at t off (size r c (num 4 t at))) (part_words kind rest))
    go true h = words_bound t off (size r c (num 4 t at)) g
    go false h = h

in_words : (t : List ℕ) (kind : ℕ) → Bytes t → Words (words_in kind (reading t))
unfolding reading
in_words t kind g = go (eqb (answer_of t) 0)
  where
    go : (x : Bool) → Words (words_in kind (cond x (good (num 4 t 0) (num 4 t 4) (found t)) (reads.refused (answer_of t))))
    go true = some_words t (num 4 t 0) (num 4 t 4) (num 4 t 8) 12 (12 + 12 * num 4 t 8) kind g
    go false = λ i h. absurd (not-suc-le-zero h)

chosen_words : (own main : List ℕ) (kind : ℕ) → Bytes own → Bytes main → Words (chosen own main kind)
chosen_words own main kind g h = go (has_in kind (reading own))
  where
    go : (x : Bool) → Words (cond x (words_in kind (reading own)) (words_in kind (reading main)))
    go true = in_words own kind g
    go false = in_words main kind h

words_of : (ws : List ℕ) → Words ws → words_at (words_bytes ws) 0 (length ws) ≡ ws
words_of ws b =
    words_taken (words_bytes ws) 0 ws (omega (arith, words_bytes_length ws)) b (take_all (8 * length ws) (words_bytes ws) (omega (arith, words_bytes_length ws)))

-- the copy is the chosen part's numbers as doubles where there is room for just these, with the reader's answer for the tile's own block as the place, else
-- 6 and nothing is touched
pub copied_is : (own main : List ℕ) (kind : ℕ) (out : Vec) → Bytes own → Bytes main
    → copied own main kind out ≡ cond (eqb (length (chosen own main kind)) (length out)) (answered 0 (answer_of own) 0 0, map float (chosen own main kind)) (refused 6 0, out)
unfolding copied
copied_is own main kind out g h = go (chosen own main kind) (lookup_is own main kind g h) (chosen_words own main kind g h)
  where
    go : (ws : List ℕ) → lookup own main kind ≡ words_bytes ws → Words ws
        → ◌≡◌ {A = Answer × Vec} (cond (eqb (length (lookup own main kind) / 8) (length out)) (answered 0 (answer_of own) 0 0, map float (words_at (lookup own main kind) 0 (length out))) (refused 6 0, out))
        (cond (eqb (length ws) (length out)) (answered 0 (answer_of own) 0 0, map float ws) (refused 6 0, out))
    go ws e b =
        let n : length (words_bytes ws) / 8 ≡ length ws = omega (arith, words_bytes_length ws) in
        rw (e, n) (same (eqb (length ws) (length out)) refl)
      where
        same : (x : Bool) → eqb (length ws) (length out) ≡ x
            → ◌≡◌ {A = Answer × Vec} (cond x (answered 0 (answer_of own) 0 0, map float (words_at (words_bytes ws) 0 (length out))) (refused 6 0, out)) (cond x (answered 0 (answer_of own) 0 0, map float ws) (refused 6 0, out))
        same true f = rw (← eqb-true (length ws) (length out) f, words_of ws b)
        same false f = refl
