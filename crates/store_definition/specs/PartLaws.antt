-- Parts of a list: put back, and read beside one that was put back. Laws only.
use Rattle.std.specs.Prelude.{◌≡◌, ◌⊎◌, List, ◌++◌, ℕ, ◌+◌, ◌-◌, ◌≤◌, ◌<◌, length, take, drop, get_or, set}
use Rattle.std.proofs.Common.{sym, ap, ◌∙◌, ⊎_elim, append_assoc, arith, length-append, length-drop, take-append-drop, length-take-le, take_at, drop_at, take-take, drop-drop, get_or-take, get_or-drop, drop-set-lt}
use Rattle.std.proofs.lemmas.List.{drop-take, drop-append-le, take-append-le, take-set-le, drop-set-add}
use Rattle.std.proofs.Math.Seq.{drop-append-add, take-set-lt}
use Rattle.store_definition.specs.Owners.{part, patched}

module _ (l : List ℕ) (a n : ℕ) (h : a + n ≤ length l) where
  pub part_length : length (part l a n) ≡ n
  part_length = length-take-le n (drop a l) (omega (arith, length-drop a l))

  -- a part put back where it was
  pub patched_part : patched l a n (part l a n) ≡ l
  patched_part = ap (λ (x : List ℕ). take a l ++ x) (take-append-drop n (drop a l)) ∙ take-append-drop a l

  front_length : length (take a l) ≡ a
  front_length = length-take-le a l (omega arith)

  module _ (p : List ℕ) (e : length p ≡ n) where
    pub part_patched : part (patched l a n p) a n ≡ p
    part_patched = ap (take n) (drop_at (take a l) (p ++ drop n (drop a l)) a front_length) ∙ take_at p (drop n (drop a l)) n e

    pub patched_length : length (patched l a n p) ≡ length l
    patched_length =
        length-append (take a l) (p ++ drop n (drop a l))
        ∙ omega (arith, front_length, length-append p (drop n (drop a l)), length-drop n (drop a l), length-drop a l)

    -- a part before it, and one behind it
    part_before : (b m : ℕ) → b + m ≤ a → part (patched l a n p) b m ≡ part l b m
    part_before b m k =
        let y : List ℕ = p ++ drop n (drop a l) in
        let c : a ≡ b + (a - b) = omega arith in
        let d : drop b (take a l) ≡ take (a - b) (drop b l) = ap (λ (j : ℕ). drop b (take j l)) c ∙ drop-take b (a - b) l in
        ap (take m) (drop-append-le b (take a l) y (omega (arith, front_length)))
        ∙ take-append-le m (drop b (take a l)) y (omega (arith, front_length, length-drop b (take a l)))
        ∙ ap (take m) d ∙ take-take m (a - b) (drop b l) (omega arith)

    part_behind : (b m : ℕ) → a + n ≤ b → part (patched l a n p) b m ≡ part l b m
    part_behind b m k =
        let x : List ℕ = take a l ++ p in
        let xs : length x ≡ a + n = length-append (take a l) p ∙ omega (arith, front_length) in
        let j : ℕ = b - (a + n) in
        let u : b ≡ length x + j = omega arith in
        let v : a + (n + j) ≡ b = omega arith in
        ap (λ (z : List ℕ). take m (drop b z)) (sym (append_assoc (take a l) p (drop n (drop a l))))
        ∙ ap (λ (i : ℕ). take m (drop i (x ++ drop n (drop a l)))) u
        ∙ ap (take m) (drop-append-add x (drop n (drop a l)) j ∙ drop-drop j n (drop a l) ∙ drop-drop (n + j) a l)
        ∙ ap (λ (i : ℕ). take m (drop i l)) v

    pub part_apart : (b m : ℕ) → (b + m ≤ a) ⊎ (a + n ≤ b) → part (patched l a n p) b m ≡ part l b m
    part_apart b m = ⊎_elim (part_before b m) (part_behind b m)

-- ---- single numbers

-- a number of a list is the first of the part that starts there, and so the same where those parts are
pub first_of : (l : List ℕ) (a n : ℕ) → get_or (part l a (1 + n)) 0 0 ≡ get_or l a 0
first_of l a n = get_or-take (1 + n) (drop a l) 0 0 (omega arith) ∙ get_or-drop a l 0 0 ∙ ap (λ (j : ℕ). get_or l j 0) (omega arith)

-- a number stored in a part, and one stored outside of it
pub part_set : (l : List ℕ) (a n i x : ℕ) → i < n → part (set l (a + i) x) a n ≡ set (part l a n) i x
part_set l a n i x h = ap (take n) (drop-set-add a l i x) ∙ take-set-lt n (drop a l) i x h

pub part_set_before : (l : List ℕ) (a n i x : ℕ) → i < a → part (set l i x) a n ≡ part l a n
part_set_before l a n i x h = ap (take n) (drop-set-lt a l i x h)

pub part_set_behind : (l : List ℕ) (a n i x : ℕ) → n ≤ i → part (set l (a + i) x) a n ≡ part l a n
part_set_behind l a n i x h = ap (take n) (drop-set-add a l i x) ∙ take-set-le n (drop a l) i x h
