-- The scans say that a list is finite, and a list that is not has a number that is not. Laws only.
use Rattle.std.specs.Prelude.{◌≡◌, ◌⊎◌, ◌++◌, Bool, true, false, cond, ◌&&◌, leb, None, is_some}
use Rattle.std.proofs.Math.Path.{refl}
use Rattle.std.proofs.Common.{sym, ap, ◌∙◌, subst, inl, inr, true≢false, div-add-mod', mod-lt, div-lt_iff_lt-mul, div-mul-le_self, mul-div_cancel, mul_comm, zero-mul, arith, le-leb, leb-true, length-append, get_or-append-add}
use Prim.Native.Nat.{ℕ, zero, suc, ◌+◌, ◌*◌, ◌/◌, ◌%◌, ◌≤◌, ◌<◌}
use Rattle.std.proofs.Math.Decide.{ℕ_discrete}
use Rattle.std.specs.Float.{nan}
use Rattle.std.specs.Float.Ieee.{of_bits}
use Rattle.std.proofs.Math.ListN.{length, get_or-append}
use Rattle.grid.specs.Loop.{upto}
use Rattle.grid.specs.Real.{Vec, at, zero64}
use Rattle.grid.specs.Cell.{at2, entry}
use Rattle.grid.specs.CellLaws.{cell, place_row, place_column}
use Rattle.grid.specs.TableLaws.{length_table, at_table}
use Rattle.leaves.specs.Leaf.{is_finite}
use Rattle.leaves.specs.Finite.{Finite, NotFinite}
use Rattle.leaves.specs.Scan.{first_bad, first_bad_lower, by_rows, place_of, lower_of}
use Rattle.leaves.specs.ScanLaws.{scan_none, scan_fine, first_bad_none, first_bad_fine, not_bad, scan_both, cell_at, lower_at}

-- that all are finite, looked at one by one
abbrev pub all_step : Vec → ℕ → Bool → Bool
all_step d k all = all && is_finite (at d k)

unfoldable pub all_finite : Vec → Bool
all_finite d = upto (all_step d) 0 (length d) true

pub scan_finite : (d : Vec) → is_some (first_bad d) ≡ false → Finite d
scan_finite d h = first_bad_none d (not_bad (first_bad d) h)

pub finite_scan : (d : Vec) → Finite d → is_some (first_bad d) ≡ false
finite_scan d h = ap is_some (first_bad_fine d h)

-- ---- a worked-on matrix: its cells, in whatever order they are looked at, are all the numbers of the list

module _ (rows cols : ℕ) (v : Vec) (long : length v ≡ rows * cols) where
  row_count : 0 < cols → length v / cols ≡ rows
  row_count z = ap (λ (k : ℕ). k / cols) long ∙ mul-div_cancel rows z

  -- cell (i, j) is number i * cols + j of the list
  pub by_rows_at : (i j : ℕ) → i < rows → j < cols → at (by_rows cols v) (i * cols + j) ≡ at2 v rows i j
  unfolding by_rows place_of
  by_rows_at i j p q =
      let c : length v / cols ≡ rows = row_count (omega arith) in
      let r = place_row cols i j q in
      let s = place_column cols i j q in
      at_table (cell_at (length v / cols) cols v) (length v / cols * cols) (i * cols + j) (rw c (cell rows cols i j p q))
      ∙ (λ k. at2 v (c k) (r k) (s k))

  pub by_rows_long : length (by_rows cols v) ≡ rows * cols
  unfolding by_rows place_of
  by_rows_long = length_table (cell_at (length v / cols) cols v) (length v / cols * cols) ∙ go cols refl
    where
      go : (c : ℕ) → cols ≡ c → length v / cols * cols ≡ rows * cols
      go zero e = rw e (omega arith)
      go (suc c) e = rw (row_count (omega arith))

  pub cells_finite : Finite (by_rows cols v) → Finite v
  cells_finite h k l =
      let n : k < rows * cols = subst (λ (x : ℕ). k < x) long l in
      let y : 0 < rows = some rows n in
      let p : k % rows < rows = mod-lt k y in
      let q : k / rows < cols = (div-lt_iff_lt-mul y).1 (subst (λ (x : ℕ). k < x) (mul_comm rows cols) n) in
      subst (λ (x : ℕ). is_finite (at v x) ≡ true) (div-add-mod' k rows)
      (ap is_finite (sym (by_rows_at (k % rows) (k / rows) p q)) ∙ h (k % rows * cols + k / rows) (subst (λ (x : ℕ). k % rows * cols + k / rows < x) (sym by_rows_long) (cell rows cols (k % rows) (k / rows) p q)))
    where
      some : (r : ℕ) → k < r * cols → 0 < r
      some zero e = absurd (omega (arith, zero-mul cols))
      some (suc r) e = omega arith

-- the list is no longer than the matrix, and finite where it is, whatever its length
rows_long : (cols : ℕ) (v : Vec) → length (by_rows cols v) ≡ length v / cols * cols
unfolding by_rows place_of
rows_long cols v = length_table (cell_at (length v / cols) cols v) (length v / cols * cols)

pub rows_fit : (cols : ℕ) (v : Vec) → length (by_rows cols v) ≤ length v
rows_fit cols v = omega (arith, rows_long cols v, div-mul-le_self (length v) cols)

pub finite_rows : (cols : ℕ) (v : Vec) → Finite v → Finite (by_rows cols v)
unfolding by_rows place_of
finite_rows cols v h k l =
    let rows : ℕ = length v / cols in
    let n : k < rows * cols = subst (λ (x : ℕ). k < x) (rows_long cols v) l in
    let z : 0 < cols = some cols n in
    let p : k / cols < rows = (div-lt_iff_lt-mul z).1 n in
    let q : k % cols < cols = mod-lt k z in
    let w : k % cols * rows + k / cols < cols * rows = cell cols rows (k % cols) (k / cols) q p in
    ap is_finite (at_table (cell_at rows cols v) (rows * cols) k n) ∙ h (k % cols * rows + k / cols) (omega (arith, div-mul-le_self (length v) cols, mul_comm cols rows))
  where
    some : (c : ℕ) → k < length v / cols * c → 0 < c
    some zero e = absurd (omega arith)
    some (suc c) e = omega arith

-- ---- one list behind another

pub both_finite : (d e : Vec) → Finite d → Finite e → Finite (d ++ e)
both_finite d e f g = first_bad_none (d ++ e) (scan_both d e ∙ rw (first_bad_fine d f, first_bad_fine e g))

pub finite_both : (d e : Vec) → Finite (d ++ e) → Finite d × Finite e
finite_both d e h = (
  λ k l. ap is_finite (sym (get_or-append d e nan k l)) ∙ h k (omega (arith, length-append d e)),
  λ k l. ap is_finite (sym (get_or-append-add d e k nan)) ∙ h (length d + k) (omega (arith, length-append d e)),
)

-- ---- the scan on and below the diagonal finds nothing exactly where all is finite there

zero_finite : is_finite zero64 ≡ true
unfolding of_bits is_finite
zero_finite = refl

pub none_lower : (n : ℕ) (a : Vec) → length a ≡ n * n → ((i j : ℕ) → j ≤ i → i < n → is_finite (entry a n i j) ≡ true) → first_bad_lower n a ≡ None
unfolding first_bad_lower lower_of place_of
none_lower zero a l h = scan_fine (lower_at zero a) (length a) (λ k m. absurd (omega arith))
none_lower (suc n) a l h = scan_fine (lower_at (suc n) a) (length a) (λ k m. one k (subst (λ (x : ℕ). k < x) l m) (leb (k % suc n) (k / suc n)) refl)
  where
    one : (k : ℕ) → k < suc n * suc n → (t : Bool) → leb (k % suc n) (k / suc n) ≡ t → is_finite (cond (leb (k % suc n) (k / suc n)) (at a k) zero64) ≡ true
    one k m true e =
        let r : k / suc n < suc n = (div-lt_iff_lt-mul {k = suc n} (omega arith)).1 m in
        let s : is_finite (entry a (suc n) (k / suc n) (k % suc n)) ≡ true = h (k / suc n) (k % suc n) (leb-true _ _ e) r in
        rw e (subst (λ (x : ℕ). is_finite (at a x) ≡ true) (div-add-mod' k (suc n)) s)
    one k m false e = rw e zero_finite

pub lower_finite : (n : ℕ) (a : Vec) → length a ≡ n * n → first_bad_lower n a ≡ None → (i j : ℕ) → j ≤ i → i < n → is_finite (entry a n i j) ≡ true
unfolding first_bad_lower lower_of place_of
lower_finite n a l e i j p q =
    let r = place_row n i j (omega arith) in
    let c = place_column n i j (omega arith) in
    let s = scan_none (lower_at n a) (length a) e (i * n + j) (subst (λ (k : ℕ). i * n + j < k) (sym l) (cell n n i j q (omega arith))) in
    ap (λ (b : Bool). is_finite (cond b (entry a n i j) zero64)) (sym (le-leb j i p))
    ∙ (λ k. is_finite (cond (leb (sym c k) (sym r k)) (entry a n i j) zero64))
    ∙ s

-- ---- a list that is not all finite has a number that is not

all_or_some : (p : ℕ → Bool) (n : ℕ) → (((k : ℕ) → k < n → p k ≡ true) → ⊥) → (k : ℕ) × (k < n) × (p k ≡ false)
all_or_some p zero h = absurd (h (λ k l. absurd (omega arith)))
all_or_some p (suc n) h = go (p n) refl (λ g. all_or_some p n g)
  where
    go : (b : Bool) → p n ≡ b → ((((k : ℕ) → k < n → p k ≡ true) → ⊥) → (k : ℕ) × (k < n) × (p k ≡ false)) → (k : ℕ) × (k < suc n) × (p k ≡ false)
    go false e rest = (n, omega arith, e)
    go true e rest =
        let s = rest (λ f. h (λ k l. elim (ℕ_discrete k n) [
          | yes q ↦ ap p q ∙ e
          | no d ↦ f k (omega arith)
        ])) in
        (s.0, omega (arith, s.1), s.2)

pub not_finite : (d : Vec) → (Finite d → ⊥) → NotFinite d
not_finite d = all_or_some (λ k. is_finite (at d k)) (length d)

pub one_of_two : (d e : Vec) → (Finite d → Finite e → ⊥) → NotFinite d ⊎ NotFinite e
one_of_two d e h = go (is_some (first_bad d)) refl
  where
    go : (b : Bool) → is_some (first_bad d) ≡ b → NotFinite d ⊎ NotFinite e
    go true q = inl (not_finite d (λ f. true≢false (sym q ∙ finite_scan d f)))
    go false q = inr (not_finite e (λ g. h (scan_finite d q) g))
