-- A part by its numbers is the part: what it holds, and where it starts. So C's pointer and offset name what `find` returns. And what these numbers say of both
-- blocks. Laws only.
use Rattle.std.specs.Prelude.{◌≡◌, refl, Bool, true, false, cond, Some, None, List, ℕ, ◌+◌, ◌*◌, ◌/◌, ◌-◌, eqb, take, drop}
use Rattle.std.proofs.Common.{sym, ap, true≢false, zero-add, arith}
use Rattle.octets.specs.Bytes.{num, Bytes}
use Rattle.block_read.specs.Content.{Part, size}
use Rattle.block_read.specs.Reading.{answer_of, parts_at, good, refused, reading}
use Rattle.block_read.specs.Held.{place_in}
use Rattle.block_read.specs.Lookup.{Span, span_of, part_of, part_at, first, lookup, lookup_at, found_in, found}
use Rattle.block_read.specs.declared.lookup.Found.{Found}
use Rattle.block_theorems.specs.Sound.{named, has_in, shape_in, chosen_shape}
use Rattle.block_theorems.specs.FoundLaws.{spanned}

-- a part has whole numbers
abbrev Whole : Span → Type 0
Whole (Some (a, e)) = 8 * ((e - a) / 8) ≡ e - a
Whole None = Unit

whole : (t : List ℕ) (kind : ℕ) → Whole (span_of t kind)
unfolding span_of
whole t kind = go (eqb (answer_of t) 0) (eqb (place_in t (num 4 t 8) 12 kind) 0)
  where
    eight : (p n : ℕ) → 8 * ((p + 8 * n - p) / 8) ≡ p + 8 * n - p
    eight p n = omega arith

    go : (x y : Bool)
        → Whole (cond x (cond y None (Some (place_in t (num 4 t 8) 12 kind, place_in t (num 4 t 8) 12 kind + 8 * size (num 4 t 0) (num 4 t 4) kind))) None)
    go true true = tt
    go true false = eight (place_in t (num 4 t 8) 12 kind) (size (num 4 t 0) (num 4 t 4) kind)
    go false y = tt

-- the numbers, by where the part stands in each block
abbrev at : List ℕ → List ℕ → Span → Span → Found
at own main s u = first s (found_in 1 own s (answer_of own) (answer_of main)) (found_in 2 main u (answer_of own) (answer_of main))

pub found_part : (own main : List ℕ) (kind : ℕ)
    → take (8 * (found own main kind).count) (drop (found own main kind).start (named (found own main kind).block own main)) ≡ lookup own main kind
unfolding found lookup
found_part own main kind = go (span_of own kind) (span_of main kind) (whole own kind) (whole main kind)
  where
    go : (s u : Span) → Whole s → Whole u
        → take (8 * (at own main s u).count) (drop (at own main s u).start (named (at own main s u).block own main)) ≡ first s (part_of own s) (part_of main u)
    go (Some (a, e)) u w v = ap (λ (n : ℕ). take n (drop a own)) w
    go None (Some (a, e)) w v = ap (λ (n : ℕ). take n (drop a main)) v
    go None None w v = refl

pub found_at : (p q : ℕ × ℕ) (own main : List ℕ) (kind : ℕ)
    → ((named (found own main kind).block p q).0, (found own main kind).start + (named (found own main kind).block p q).1) ≡ lookup_at p own q main kind
unfolding found lookup_at
found_at p q own main kind = go (span_of own kind) (span_of main kind)
  where
    go : (s u : Span)
        → ((named (at own main s u).block p q).0, (at own main s u).start + (named (at own main s u).block p q).1) ≡ first s (part_at p s) (part_at q u)
    go (Some (a, e)) u = refl
    go None (Some (a, e)) = refl
    go None None = ap (λ (k : ℕ). (q.0, k)) (zero-add q.1)

-- ---- what else is told

-- both answers are the reader's, whatever was found
pub found_answers : (own main : List ℕ) (kind : ℕ)
    → ((found own main kind).own_answer ≡ answer_of own) × ((found own main kind).main_answer ≡ answer_of main)
unfolding found
found_answers own main kind = go (span_of own kind) (span_of main kind)
  where
    go : (s u : Span) → ((at own main s u).own_answer ≡ answer_of own) × ((at own main s u).main_answer ≡ answer_of main)
    go (Some (a, e)) u = (refl, refl)
    go None (Some (a, e)) = (refl, refl)
    go None None = (refl, refl)

-- a block with a part is read with the rows and columns in front of it
shape_read : (block : ℕ) (t : List ℕ) (kind : ℕ) → has_in kind (reading t) ≡ true → shape_in block (reading t) ≡ (block, num 4 t 0, num 4 t 4)
unfolding reading
shape_read block t kind = go (eqb (answer_of t) 0)
  where
    parts : List Part
    parts = parts_at t (num 4 t 0) (num 4 t 4) (num 4 t 8) 12 (12 + 12 * num 4 t 8)

    go : (x : Bool) → has_in kind (cond x (good (num 4 t 0) (num 4 t 4) parts) (refused (answer_of t))) ≡ true
        → shape_in block (cond x (good (num 4 t 0) (num 4 t 4) parts) (refused (answer_of t))) ≡ (block, num 4 t 0, num 4 t 4)
    go true h = refl
    go false h = absurd (true≢false (sym h))

-- the block and its rows and columns are those of the content in which the part was found, all 0 where there is none
pub found_shape : (own main : List ℕ) (kind : ℕ) → Bytes own → Bytes main
    → ((found own main kind).block, (found own main kind).rows, (found own main kind).columns) ≡ chosen_shape own main kind
unfolding found
found_shape own main kind g h =
    go (span_of own kind) (span_of main kind) (has_in kind (reading own)) (has_in kind (reading main)) (spanned own kind g).there (spanned main kind h).there
    (shape_read 1 own kind) (shape_read 2 main kind)
  where
    go : (s u : Span) (x y : Bool) → first s true false ≡ x → first u true false ≡ y → (x ≡ true → shape_in 1 (reading own) ≡ (1, num 4 own 0, num 4 own 4))
        → (y ≡ true → shape_in 2 (reading main) ≡ (2, num 4 main 0, num 4 main 4))
        → ◌≡◌ {A = ℕ × ℕ × ℕ} ((at own main s u).block, (at own main s u).rows, (at own main s u).columns)
        (cond x (shape_in 1 (reading own)) (cond y (shape_in 2 (reading main)) (0, 0, 0)))
    go (Some (a, e)) u true y p q v w = sym (v refl)
    go (Some (a, e)) u false y p q v w = absurd (true≢false p)
    go None u true y p q v w = absurd (true≢false (sym p))
    go None (Some (a, e)) false true p q v w = sym (w refl)
    go None (Some (a, e)) false false p q v w = absurd (true≢false q)
    go None None false true p q v w = absurd (true≢false (sym q))
    go None None false false p q v w = refl
