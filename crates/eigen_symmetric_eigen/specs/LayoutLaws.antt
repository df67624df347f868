-- `columns` has each entry of a matrix in its cell (`columns_cell`), and so has a copy row by row (`copied`). Laws only.
use Rattle.std.specs.Prelude.{◌≡◌, ℕ, zero, suc, ◌+◌, ◌*◌, ◌/◌, ◌%◌, ◌<◌, length}
use Rattle.std.proofs.Common.{sym, ap, ◌∙◌, subst, div-add-mod', mod-lt, div-lt_iff_lt-mul, arith, length-set, get_or-set_other, ext_get_or}
use Rattle.std.proofs.Math.Decide.{ℕ_discrete}
use Rattle.std.specs.Float.{nan}
use Rattle.grid.specs.Loop.{upto}
use Rattle.grid.specs.LoopLaws.{upto_both}
use Rattle.grid.specs.Real.{Vec, at}
use Rattle.grid.specs.Cell.{at2, entry}
use Rattle.grid.specs.CellLaws.{cell, place_row, place_column, one_place, put_here}
use Rattle.grid.specs.TableLaws.{length_table, at_table}
use Rattle.eigen_symmetric_eigen.specs.Layout.{columns}
use Rattle.eigen_symmetric_eigen.specs.LayoutSteps.{copy_row_step, copy_row}

-- square matrices are the same where their entries are
pub same_entries : (n : ℕ) (v w : Vec) → length v ≡ n * n → length w ≡ n * n → ((i j : ℕ) → i < n → j < n → entry v n i j ≡ entry w n i j) → v ≡ w
same_entries n v w p q h = ext_get_or nan v w (p ∙ sym q) (λ k l. number k (subst (λ (m : ℕ). k < m) p l))
  where
    some : (k m : ℕ) → k < m * m → 0 < m
    some k zero e = absurd (omega arith)
    some k (suc m) e = omega arith

    number : (k : ℕ) → k < n * n → at v k ≡ at w k
    number k l =
        let z : 0 < n = some k n l in
        subst (λ (m : ℕ). at v m ≡ at w m) (div-add-mod' k n) (h (k / n) (k % n) ((div-lt_iff_lt-mul z).1 l) (mod-lt k z))

pub columns_long : (n : ℕ) (a : Vec) → length (columns n a) ≡ n * n
unfolding columns
columns_long n a = length_table _ (n * n)

pub columns_cell : (n : ℕ) (a : Vec) (i j : ℕ) → i < n → j < n → at2 (columns n a) n i j ≡ entry a n i j
unfolding columns
columns_cell n a i j p q =
    let r = place_column n j i p in
    let s = place_row n j i p in
    at_table (λ k. entry a n (k % n) (k / n)) (n * n) (j * n + i) (cell n n j i q p) ∙ (λ k. entry a n (r k) (s k))

-- ---- the copy

-- the cells that are past once rows 0 .. i - 1 are, and of row i the first j
pub data Past (i j r c : ℕ) : Type 0 where
  above : r < i → Past i j r c
  beside : r ≡ i → c < j → Past i j r c

module _ (n : ℕ) (a : Vec) where
  record Copied (i j : ℕ) (v : Vec) : Type 0 where
    long : length v ≡ n * n
    same : (r c : ℕ) → r < n → c < n → Past i j r c → at2 v n r c ≡ entry a n r c

  copy_one : (i j : ℕ) (v : Vec) → i < n → j < n → Copied i j v → Copied i (j + 1) (copy_row_step n a i j v)
  copy_one i j v p q h = record { long = length-set v (j * n + i) _ ∙ h.long; same = now }
    where
      earlier : (r c : ℕ) → (c * n + r ≡ j * n + i → ⊥) → Past i (j + 1) r c → Past i j r c
      earlier r c d (above g) = above g
      earlier r c d (beside e g) = beside e (elim (ℕ_discrete c j) [
        | yes f ↦ absurd (d (λ k. f k * n + e k))
        | no f ↦ omega arith
      ])

      now : (r c : ℕ) → r < n → c < n → Past i (j + 1) r c → at2 (copy_row_step n a i j v) n r c ≡ entry a n r c
      now r c s t w = elim (ℕ_discrete (c * n + r) (j * n + i)) [
        | yes e ↦
            let o = one_place n r c i j s p e in
            ap (at (copy_row_step n a i j v)) e ∙ put_here v n i j (entry a n i j) h.long p q ∙ (λ k. entry a n (sym o.0 k) (sym o.1 k))
        | no d ↦ get_or-set_other v (j * n + i) (c * n + r) (entry a n i j) nan d ∙ h.same r c s t (earlier r c d w)
      ]

  copy_row_lem : (i : ℕ) (v : Vec) → i < n → Copied i 0 v → Copied (i + 1) 0 (copy_row n a i v)
  unfolding copy_row
  copy_row_lem i v p h =
      let w : Copied i n (copy_row n a i v) =
      upto_both (λ j s t. Copied i j s) (copy_row_step n a i) (copy_row_step n a i) 0 n v v (omega arith) (λ j s t l m q. copy_one i j s p m q) h in
      record { long = w.long; same = λ r c s t g. w.same r c s t (whole r c t g) }
    where
      whole : (r c : ℕ) → c < n → Past (i + 1) 0 r c → Past i n r c
      whole r c t (above g) = elim (ℕ_discrete r i) [
        | yes e ↦ beside e t
        | no d ↦ above (omega arith)
      ]
      whole r c t (beside e g) = absurd (omega arith)

  copy_all : (v : Vec) → length v ≡ n * n → Copied n 0 (upto (copy_row n a) 0 n v)
  copy_all v l = upto_both (λ i s t. Copied i 0 s) (copy_row n a) (copy_row n a) 0 n v v (omega arith) (λ i s t g m q. copy_row_lem i s m q) (record { long = l; same = nothing })
    where
      nothing : (r c : ℕ) → r < n → c < n → Past 0 0 r c → at2 v n r c ≡ entry a n r c
      nothing r c s t (above g) = absurd (omega arith)
      nothing r c s t (beside e g) = absurd (omega arith)

  pub copied : (v : Vec) → length v ≡ n * n → upto (copy_row n a) 0 n v ≡ columns n a
  copied v l =
      let w = copy_all v l in
      same_entries n _ _ w.long (columns_long n a) (λ i j p q. w.same j i q p (above q) ∙ sym (columns_cell n a j i q p))
