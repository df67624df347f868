-- A cell stands within its matrix, at a place of its own; a list that is stored from its start on. Laws only.
use Rattle.std.specs.Prelude.{◌≡◌, refl, [], ◌∷◌, ◌++◌, ℕ, suc, ◌+◌, ◌*◌, ◌/◌, ◌%◌, ◌<◌, ◌≤◌, Float, length, take, set}
use Rattle.std.proofs.Common.{sym, ap, ◌∙◌, subst, mul-le-mul_right, suc-mul, mod-eq_of_lt, add-one, arith, take-suc, take-suc-set, take_all, get_or-set_same, get_or-set_other}
use Rattle.std.proofs.Math.Nat.{div-eq_of_lt, mul-add-mod_self_right, mul-add-div_right}
use Rattle.std.specs.Float.{nan}
use Rattle.std.proofs.lemmas.List.{replicate-append-replicate}
use Rattle.grid.specs.Loop.{upto}
use Rattle.grid.specs.LoopLaws.{upto_keeps}
use Rattle.grid.specs.Real.{Vec, at, zero64, zeros}
use Rattle.grid.specs.Cell.{at2, put2}

-- v has n rows and n columns, d and e have n elements: what is asked where the three are worked on together
pub record Sized (n : ℕ) (v d e : Vec) : Type 0 where
  pub square : length v ≡ n * n
  pub diagonal : length d ≡ n
  pub beside : length e ≡ n

-- the cell at row i and column j is within a matrix that stands row by row
pub cell : (rows cols i j : ℕ) → i < rows → j < cols → i * cols + j < rows * cols
cell rows cols i j p q =
    let a : suc i * cols ≤ rows * cols = mul-le-mul_right cols p in
    let b : suc i * cols ≡ i * cols + cols = suc-mul i cols in
    omega arith

-- its place tells its row and its column
pub place_row : (cols i j : ℕ) → j < cols → (i * cols + j) / cols ≡ i
place_row cols i j h = mul-add-div_right (omega arith) i j ∙ omega (arith, div-eq_of_lt h)

pub place_column : (cols i j : ℕ) → j < cols → (i * cols + j) % cols ≡ j
place_column cols i j h = mul-add-mod_self_right i cols j ∙ mod-eq_of_lt h

-- so no two cells stand at one place
pub one_place : (n i j r c : ℕ) → i < n → r < n → j * n + i ≡ c * n + r → (i ≡ r) × (j ≡ c)
one_place n i j r c p q e = (
  sym (place_column n j i p) ∙ ap (λ (k : ℕ). k % n) e ∙ place_column n c r q,
  sym (place_row n j i p) ∙ ap (λ (k : ℕ). k / n) e ∙ place_row n c r q,
)

pub put_here : (v : Vec) (n i j : ℕ) (x : Float) → length v ≡ n * n → i < n → j < n → at2 (put2 v n i j x) n i j ≡ x
put_here v n i j x l p q = get_or-set_same v (j * n + i) x nan (subst (λ (k : ℕ). j * n + i < k) (sym l) (cell n n j i q p))

pub put_elsewhere : (v : Vec) (n i j r c : ℕ) (x : Float) → i < n → r < n → ((i ≡ r) × (j ≡ c) → ⊥) → at2 (put2 v n i j x) n r c ≡ at2 v n r c
put_elsewhere v n i j r c x p q d = get_or-set_other v (j * n + i) (c * n + r) x nan (λ e. d (one_place n i j r c p q (sym e)))

-- a loop whose turns keep a list's length keeps it
pub upto_long : {S : Type 0} (list : S → Vec) (f : ℕ → S → S) (a b : ℕ) (s : S) → ((j : ℕ) (s : S) → length (list (f j s)) ≡ length (list s)) → length (list (upto f a b s)) ≡ length (list s)
upto_long list f a b s h = upto_keeps (λ u t. length (list u) ≡ length (list s)) f f a b s s (λ j u t l m q. h j u ∙ q) refl

-- ---- a list that is stored from its start on: what it has so far, one store more, and the whole

pub stored : (d : Vec) (k : ℕ) (x : Float) {t : Vec} → k < length d → take k d ≡ t → take (k + 1) (set d k x) ≡ t ++ (x ∷ [])
stored d k x h e = rw add-one (take-suc-set d k x h ∙ ap (λ (t : Vec). t ++ (x ∷ [])) e)

pub copied : (d from : Vec) (k : ℕ) → k < length d → k < length from → take k d ≡ take k from → take (k + 1) (set d k (at from k)) ≡ take (k + 1) from
copied d from k h g e = stored d k (at from k) h e ∙ sym (rw add-one (take-suc from k nan g))

pub zeroed : (d : Vec) (k : ℕ) → k < length d → take k d ≡ zeros k → take (k + 1) (set d k zero64) ≡ zeros (k + 1)
zeroed d k h e = stored d k zero64 h e ∙ replicate-append-replicate k 1 zero64

-- two lists of k elements whose first k are the same
pub all_of : (d : Vec) {t : Vec} (k : ℕ) → length d ≤ k → take k d ≡ t → d ≡ t
all_of d k h e = sym (take_all k d h) ∙ e
