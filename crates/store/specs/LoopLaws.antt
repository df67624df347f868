-- The laws that join the store's definitions to the library's words for a search and a sum. Laws only.
use Rattle.std.specs.Prelude.{◌≡◌, refl, cond, List, ℕ, ◌+◌, ◌-◌, ◌≤◌, ◌<◌, eqb, length, take, drop, get_or, position, Some, None}
use Rattle.std.specs.List.{position_or_len, sum as total}
use Rattle.std.proofs.Common.{sym, ap, ◌∙◌, arith, one-add, length-take-le, length-drop, get_or-take, get_or-drop}
use Rattle.std.proofs.lemmas.List.Recursion.{is_position_or_len, is_sum_by}
use Rattle.store_definition.specs.Store.{place, sum, held_of, start_of, length_at, entry_of, holds}

-- the index of the first t, or the length where t is not there
pub place_is : (t : ℕ) (l : List ℕ) → place t l ≡ position_or_len (λ x. eqb x t) l
unfolding place
place_is t = is_position_or_len (place t) (λ x. eqb x t) refl (λ x l. ap (λ (n : ℕ). cond (eqb x t) 0 n) (sym (one-add (place t l))))

-- the entry of a tile that is held
pub entry_is : (list tiles bytes : List ℕ) (t : ℕ) → held_of list ≤ length tiles
    → position (λ x. eqb x t) (take (held_of list) tiles) ≡ cond (holds list tiles bytes t) (Some (entry_of list tiles bytes t)) None
entry_is list tiles bytes t h = rw (place_is t (take (held_of list) tiles), length-take-le (held_of list) tiles h)

pub sum_is : (l : List ℕ) → sum l ≡ total l
unfolding sum
sum_is = is_sum_by sum (λ x. x) refl (λ x l. refl)

-- the lengths of the first k blocks, as the code has them
module _ (list : List ℕ) (k : ℕ) where
  abbrev pub lengths : List ℕ
  lengths = take (2 + k - 2) (drop 2 list)

  same : 2 + k - 2 ≡ k
  same = omega arith

  pub start_is : start_of list k ≡ total lengths
  start_is = sum_is (take k (drop 2 list)) ∙ ap (λ (n : ℕ). total (take n (drop 2 list))) (sym same)

  pub lengths_long : 2 + k ≤ length list → length lengths ≡ k
  lengths_long h = length-take-le (2 + k - 2) (drop 2 list) (omega (arith, length-drop 2 list)) ∙ same

  pub lengths_at : (i : ℕ) → i < k → get_or lengths i 0 ≡ length_at list i
  lengths_at i h = get_or-take (2 + k - 2) (drop 2 list) i 0 (omega arith) ∙ get_or-drop 2 list i 0
