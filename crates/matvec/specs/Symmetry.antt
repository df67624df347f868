-- A symmetric matrix: its rows are its columns, so that a product is its rows added up, each number of it in the same order. Laws only.
-- What stands here is what the code does on the way; no public promise cites it.
use Rattle.std.specs.Prelude.{◌≡◌, ℕ, ◌+◌, ◌-◌, ◌<◌, ◌≤◌, Float}
use Rattle.std.proofs.Common.{sym, ap, ◌∙◌, subst, arith}
use Rattle.std.proofs.Math.Decide.{ℕ_discrete, dec_lt}
use Rattle.grid.specs.LoopLaws.{upto_same}
use Rattle.grid.specs.Real.{Vec, at, zero64, ◌⊕◌, ◌⊗◌}
use Rattle.grid.specs.Cell.{entry}
use Rattle.grid.specs.TableLaws.{table_same, turns}
use Rattle.matvec.specs.Matvec.{product}
use Rattle.matvec.specs.Rows.{row_step}
use Rattle.matvec.specs.Strips.{column_step}

-- ---- whether a matrix is symmetric

abbrev pub Row : ℕ → Vec → ℕ → Type 0
Row n a i = (j : ℕ) → j < i → entry a n i j ≡ entry a n j i

abbrev pub Symmetric : ℕ → Vec → Type 0
Symmetric n a = (i j : ℕ) → i < n → j < n → entry a n i j ≡ entry a n j i

pub symmetric_of : (n : ℕ) (a : Vec) → ((i : ℕ) → i < n → Row n a i) → Symmetric n a
symmetric_of n a h i j p q = elim (dec_lt j i) [
  | yes l ↦ h i p j l
  | no l ↦ elim (ℕ_discrete i j) [
    | yes e ↦ (λ k. entry a n (e k) (sym e k))
    | no d ↦ sym (h j q i (above l d))
  ]
]
  where
    above : (j < i → ⊥) → (i ≡ j → ⊥) → i < j
    above l d = omega arith

-- ---- four rows at a time

-- number j of rows i to i + 3, and number i to i + 3 of row j
abbrev pub Fours : ℕ → Vec → ℕ → ℕ → Type 0
Fours n a i j = (k : ℕ) → k < 4 → entry a n (i + k) j ≡ entry a n j (i + k)

pub one_further : (P : ℕ → Type 0) (j : ℕ) → ((k : ℕ) → k < j → P k) → P j → (k : ℕ) → k < j + 1 → P k
one_further P j h p k l = elim (ℕ_discrete k j) [
  | yes e ↦ subst P (sym e) p
  | no d ↦ h k (omega arith)
]

-- the rows below c + 4, where those below i, which is no less than c, were looked at before
pub four_rows : (n : ℕ) (a : Vec) (i c : ℕ) → c ≤ i → ((k : ℕ) → k < i → Row n a k) → ((j : ℕ) → j < c + 3 → Fours n a c j) → (k : ℕ) → k < c + 4 → Row n a k
four_rows n a i c p h f k l = elim (dec_lt k c) [
  | yes m ↦ h k (omega (arith, m))
  | no m ↦ (λ j q. subst (λ (r : ℕ). entry a n r j ≡ entry a n j r) (back m) (f j (omega arith) (k - c) (omega (arith, l))))
]
  where
    back : (k < c → ⊥) → c + (k - c) ≡ k
    back m = omega arith

pub symmetric_fours : (n : ℕ) (a : Vec) (i : ℕ) → i + 3 < n → Symmetric n a → (j : ℕ) → j < i + 3 → Fours n a i j
symmetric_fours n a i h m j l k q = m (i + k) j (omega arith) (omega arith)

-- ---- the product

pub rows_are_product : (n : ℕ) (a v : Vec) {w : Vec} → Symmetric n a → w ≡ turns (column_step n a v) n n → w ≡ product n a v
unfolding turns product
rows_are_product n a v m e =
    e ∙ table_same _ _ n (λ i p. upto_same (column_step n a v i) (row_step n a v i) 0 n zero64 (λ j x _ q. ap (λ (y : Float). x ⊕ y ⊗ at v j) (m j i q p)))
