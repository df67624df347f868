-- Where blocks start: sums of the lengths before them. Laws only.
use Rattle.std.specs.Prelude.{◌≡◌, refl, List, [], ◌∷◌, ◌++◌, ℕ, zero, suc, ◌+◌, ◌≤◌, ◌<◌, length, take, drop, get_or}
use Rattle.std.proofs.Common.{ap, ◌∙◌, add-zero, add-one, arith, length-drop, take-suc, get_or-drop}
use Rattle.store_definition.specs.Store.{sum, start_of, length_at}

pub sum_append : (l m : List ℕ) → sum (l ++ m) ≡ sum l + sum m
unfolding sum
sum_append [] m = omega arith
sum_append (x ∷ l) m = omega (arith, sum_append l m)

pub start_none : (list : List ℕ) → start_of list 0 ≡ 0
unfolding sum
start_none list = refl

pub start_more : (list : List ℕ) (k : ℕ) → 2 + k < length list → start_of list (k + 1) ≡ start_of list k + length_at list k
unfolding sum
start_more list k h =
    let l : List ℕ = drop 2 list in
    ap (λ (j : ℕ). sum (take j l)) (add-one k) ∙ ap sum (take-suc l k 0 (omega (arith, length-drop 2 list))) ∙ sum_append (take k l) (get_or l k 0 ∷ [])
    ∙ ap (λ (x : ℕ). sum (take k l) + x) (add-zero (get_or l k 0) ∙ get_or-drop 2 list k 0)

sum_take : (k n : ℕ) (l : List ℕ) → k ≤ n → sum (take k l) ≤ sum (take n l)
unfolding sum
sum_take zero n l h = omega arith
sum_take (suc k) zero l h = absurd (omega arith)
sum_take (suc k) (suc n) [] h = omega arith
sum_take (suc k) (suc n) (x ∷ l) h = omega (arith, sum_take k n l (omega arith))

pub start_below : (list : List ℕ) (k n : ℕ) → k ≤ n → start_of list k ≤ start_of list n
start_below list k n h = sum_take k n (drop 2 list) h

-- a block lies before the next ones
pub start_ends : (list : List ℕ) (k n : ℕ) → k < n → 2 + k < length list → start_of list k + length_at list k ≤ start_of list n
start_ends list k n h e = omega (arith, start_more list k e, start_below list (k + 1) n (omega arith))
