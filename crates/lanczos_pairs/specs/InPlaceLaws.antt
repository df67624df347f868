-- The tridiagonal matrix is symmetric, so that it stands the same by rows and by columns, and `symmetric_eigen` can work on it in place (`inward_is`). Laws only.
-- `inner_of` is what the code does on the way; no public promise cites it.
use Rattle.std.specs.Prelude.{◌≡◌, refl, Bool, true, false, cond, ◌&&◌, ◌++◌, ℕ, ◌+◌, ◌*◌, ◌<◌, ◌≤◌, ltb, eqb, Float, length}
use Rattle.std.proofs.Common.{sym, ap, ◌∙◌, arith, length-set}
use borrow.Author.Tests.{ltb-true, ne_eqb, eqb-true, eqb-false}
use Rattle.std.specs.Float.{nan}
use Rattle.std.specs.Float.Ieee.{of_bits}
use Rattle.std.proofs.lemmas.List.{length-replicate, get_or-replicate}
use Rattle.grid.specs.LoopLaws.{upto_keeps}
use Rattle.grid.specs.Real.{Vec, zero64, zeros, at}
use Rattle.grid.specs.Cell.{entry, put_entry}
use Rattle.grid.specs.CellLaws.{cell, put_here, put_elsewhere}
use Rattle.leaves.specs.Leaf.{is_finite}
use Rattle.leaves.specs.Scan.{by_rows}
use Rattle.leaves.specs.FiniteLaws.{none_lower}
use Rattle.answers.specs.Answers.{passed}
use Rattle.answers.specs.declared.Answer.{Answer}
use Rattle.answers.specs.Checks.{edition_good}
use Rattle.eigen_tred2_definition.specs.Tred2.{tred2}
use Rattle.eigen_symmetric_eigen.specs.Layout.{columns}
use Rattle.eigen_symmetric_eigen.specs.AfterTred2.{after_tred}
use Rattle.eigen_symmetric_eigen.specs.SymmetricEigen.{decomposed, cleared, given, eigen_entered}
use Rattle.eigen_symmetric_eigen.specs.PartsLaws.{outward, checks_pass}
use Rattle.eigen_symmetric_eigen.specs.LayoutLaws.{same_entries, columns_cell, columns_long}
use Rattle.lanczos_pairs.specs.TridiagonalMatrix.{tri}
use Rattle.lanczos_pairs.specs.TridiagonalEigen.{inward}

-- of (matrix, d, e): the answer, the vectors row by row, the values, and e
unfoldable pub inner_of : ℕ → ℕ → ℕ → Vec × Vec × Vec → Answer × Vec × Vec × Vec
inner_of m limit edition x = outward m (after_tred m limit edition (tred2 m x))

-- ---- a symmetric matrix, and finite

-- what stands at (r, c) once x is put to (i, j)
got : (t : Vec) (m i j r c : ℕ) (x : Float) → length t ≡ m * m → i < m → j < m → r < m → c < m
    → entry (put_entry t m i j x) m r c ≡ cond (eqb i r && eqb j c) x (entry t m r c)
got t m i j r c x l p q s o = go (eqb i r) (eqb j c) refl refl
  where
    go : (a b : Bool) → eqb i r ≡ a → eqb j c ≡ b → entry (put_entry t m i j x) m r c ≡ cond (a && b) x (entry t m r c)
    go true true e f =
        let g : i ≡ r = eqb-true i r e in
        let h : j ≡ c = eqb-true j c f in
        rw (← g, ← h) (put_here t m j i x l q p)
    go true false e f = put_elsewhere t m j i c r x q o (λ h. eqb-false j c f h.0)
    go false b e f = put_elsewhere t m j i c r x q o (λ h. eqb-false i r e h.1)

pub record Own (m : ℕ) (t : Vec) : Type 0 where
  pub long : length t ≡ m * m
  pub fine : (r c : ℕ) → r < m → c < m → is_finite (entry t m r c) ≡ true
  pub symmetric : (r c : ℕ) → r < m → c < m → entry t m r c ≡ entry t m c r

same_and : (a b : Bool) → a && b ≡ b && a
same_and true true = refl
same_and true false = refl
same_and false true = refl
same_and false false = refl

either_fine : (b : Bool) (x y : Float) → is_finite x ≡ true → is_finite y ≡ true → is_finite (cond b x y) ≡ true
either_fine true x y p q = p
either_fine false x y p q = q

put_fine : (m i j : ℕ) (t : Vec) (x : Float) → length t ≡ m * m → i < m → j < m → is_finite x ≡ true → ((r c : ℕ) → r < m → c < m → is_finite (entry t m r c) ≡ true)
    → (r c : ℕ) → r < m → c < m → is_finite (entry (put_entry t m i j x) m r c) ≡ true
put_fine m i j t x l p q f h r c s o = ap is_finite (got t m i j r c x l p q s o) ∙ either_fine (eqb i r && eqb j c) x (entry t m r c) f (h r c s o)

-- on the diagonal
own_one : (m i : ℕ) (t : Vec) (x : Float) → i < m → is_finite x ≡ true → Own m t → Own m (put_entry t m i i x)
own_one m i t x p f h = record { long = length-set t (i * m + i) x ∙ h.long; fine = put_fine m i i t x h.long p p f h.fine; symmetric = now }
  where
    pick : (b : Bool) (y z : Float) → y ≡ z → cond b x y ≡ cond b x z
    pick true y z e = refl
    pick false y z e = e

    now : (r c : ℕ) → r < m → c < m → entry (put_entry t m i i x) m r c ≡ entry (put_entry t m i i x) m c r
    now r c s o =
        got t m i i r c x h.long p p s o
        ∙ pick (eqb i r && eqb i c) (entry t m r c) (entry t m c r) (h.symmetric r c s o)
        ∙ ap (λ (b : Bool). cond b x (entry t m c r)) (same_and (eqb i r) (eqb i c))
        ∙ sym (got t m i i c r x h.long p p o s)

-- beside it, on both sides
own_two : (m i j : ℕ) (t : Vec) (x : Float) → i < m → j < m → is_finite x ≡ true → Own m t → Own m (put_entry (put_entry t m i j x) m j i x)
own_two m i j t x p q f h = record {
  long = length-set u (j * m + i) x ∙ long;
  fine = put_fine m j i u x long q p f (put_fine m i j t x h.long p q f h.fine);
  symmetric = now;
}
  where
    u : Vec
    u = put_entry t m i j x

    long : length u ≡ m * m
    long = length-set t (i * m + j) x ∙ h.long

    pick : (a b : Bool) (y z : Float) → y ≡ z → cond a x (cond b x y) ≡ cond b x (cond a x z)
    pick true true y z e = refl
    pick true false y z e = refl
    pick false true y z e = refl
    pick false false y z e = e

    both : (r c : ℕ) → r < m → c < m → entry (put_entry u m j i x) m r c ≡ cond (eqb j r && eqb i c) x (cond (eqb i r && eqb j c) x (entry t m r c))
    both r c s o = got u m j i r c x long q p s o ∙ ap (cond (eqb j r && eqb i c) x) (got t m i j r c x h.long p q s o)

    now : (r c : ℕ) → r < m → c < m → entry (put_entry u m j i x) m r c ≡ entry (put_entry u m j i x) m c r
    now r c s o =
        both r c s o
        ∙ pick (eqb j r && eqb i c) (eqb i r && eqb j c) (entry t m r c) (entry t m c r) (h.symmetric r c s o)
        ∙ ap (λ (b : Bool). cond b x (cond (eqb j r && eqb i c) x (entry t m c r))) (same_and (eqb i r) (eqb j c))
        ∙ ap (λ (b : Bool). cond (eqb j c && eqb i r) x (cond b x (entry t m c r))) (same_and (eqb j r) (eqb i c))
        ∙ sym (both c r o s)

-- so many alphas and betas are finite
pub record Fine (m : ℕ) (al be : Vec) : Type 0 where
  pub alphas : (i : ℕ) → i < m → is_finite (at al i) ≡ true
  pub betas : (i : ℕ) → i < m → is_finite (at be i) ≡ true

abbrev pub tri_step : ℕ → Vec → Vec → ℕ → Vec → Vec
tri_step m al be i t =
    let u = put_entry t m i i (at al i) in
    cond (ltb (i + 1) m) (put_entry (put_entry u m i (i + 1) (at be i)) m (i + 1) i (at be i)) u

own_step : (m i : ℕ) (al be t : Vec) → i < m → Fine m al be → Own m t → Own m (tri_step m al be i t)
own_step m i al be t p f h = go (ltb (i + 1) m) refl
  where
    u : Vec
    u = put_entry t m i i (at al i)

    go : (b : Bool) → ltb (i + 1) m ≡ b → Own m (cond b (put_entry (put_entry u m i (i + 1) (at be i)) m (i + 1) i (at be i)) u)
    go true e = own_two m i (i + 1) u (at be i) p (ltb-true (i + 1) m e) (f.betas i p) (own_one m i t (at al i) p (f.alphas i p) h)
    go false e = own_one m i t (at al i) p (f.alphas i p) h

own_zeros : (m : ℕ) → Own m (zeros (m * m))
unfolding is_finite of_bits
own_zeros m = record {
  long = length-replicate (m * m) zero64;
  fine = λ r c s o. ap is_finite (zero r c s o);
  symmetric = λ r c s o. zero r c s o ∙ sym (zero c r o s);
}
  where
    zero : (r c : ℕ) → r < m → c < m → entry (zeros (m * m)) m r c ≡ zero64
    zero r c s o = get_or-replicate (m * m) (r * m + c) zero64 nan (cell m m r c s o)

pub own_tri : (m : ℕ) (al be : Vec) → Fine m al be → Own m (tri m al be (zeros (m * m)))
unfolding tri
own_tri m al be f =
    upto_keeps (λ s t. Own m s) (tri_step m al be) (tri_step m al be) 0 m (zeros (m * m)) (zeros (m * m))
    (λ i s t l p h. own_step m i al be s p f h) (own_zeros m)

-- ---- by rows and by columns

own_columns : (m : ℕ) (t : Vec) → Own m t → columns m t ≡ t
own_columns m t h = same_entries m (columns m t) t (columns_long m t) h.long (λ r c s o. columns_cell m t c r o s ∙ h.symmetric c r o s)

-- ---- the inner call

-- what is handed out, from (answer, vectors row by row, values, e)
abbrev pub out : ℕ → Answer × Vec × Vec × Vec → Answer × Vec × Vec
out m y = cond (passed y.0) (y.0, zeros m, y.2 ++ y.1) (cleared m y.0)

rows_given : (m : ℕ) (y : Answer × Vec × Vec × Vec) → given m y ≡ out m (outward m y)
unfolding outward given
rows_given m y = go (passed y.0) refl
  where
    go : (b : Bool) → passed y.0 ≡ b
        → cond (passed y.0) (y.0, zeros m, y.2 ++ by_rows m y.1) (cleared m y.0) ≡ out m (cond (passed y.0) (y.0, by_rows m y.1, y.2, y.3) y)
    go true t = simp t
    go false t = simp t

module _ (m limit edition : ℕ) (some : 0 < m) (few : m ≤ 256) (lo : 1 ≤ limit) (hi : limit ≤ 60) (good : edition_good edition ≡ true) where
  in_place : (t : Vec) → Own m t → eigen_entered m limit edition t ≡ out m (inner_of m limit edition (t, zeros m, zeros m))
  unfolding eigen_entered inner_of decomposed
  in_place t h =
      rw (none_lower m t h.long (λ i j p q. h.fine i j q (omega arith)), ne_eqb m 0 (λ e. omega arith), own_columns m t h)
      (rows_given m (after_tred m limit edition (tred2 m (t, zeros m, zeros m))))

  pub inward_is : (al be : Vec) → Fine m al be → inward m limit edition al be ≡ out m (inner_of m limit edition (tri m al be (zeros (m * m)), zeros m, zeros m))
  unfolding inward
  inward_is al be fine =
      let h = own_tri m al be fine in
      checks_pass m limit edition (tri m al be (zeros (m * m))) (zeros m) (zeros (m + m * m)) few lo hi good h.long (length-replicate m zero64) (length-replicate (m + m * m) zero64)
      ∙ in_place (tri m al be (zeros (m * m))) h
