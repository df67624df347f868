-- How the code loads the work array, and that this is what is worked on where the array was all +0.0; no promise speaks of it. Laws only.
use Rattle.std.specs.Prelude.{◌≡◌, cond, ◌++◌, ℕ, ◌+◌, ◌-◌, ◌*◌, ◌/◌, ◌%◌, ◌≤◌, ◌<◌, eqb, length, set}
use Rattle.std.proofs.Math.Path.{refl, sym, ap}
use Rattle.std.proofs.Common.{◌∙◌, subst, div-add-mod', mod-lt, div-lt_iff_lt-mul, eq-eqb, ne_eqb}
use Rattle.std.proofs.Math.Nat.{mul_comm}
use Rattle.std.proofs.Math.Decide.{ℕ_discrete, dec_lt}
use native.Mathlib.Omega.{arith}
use Rattle.std.specs.Float.Ieee.{nan}
use Rattle.std.proofs.Math.ListN.{length-set, length-append, length-replicate, get_or-replicate, get_or-append}
use Rattle.std.proofs.Math.Seq.{get_or-set_same, get_or-set_other, get_or-append-add, ext_get_or}
use Rattle.grid.specs.Loop.{upto}
use Rattle.grid.specs.LoopLaws.{upto_keeps, upto_both}
use Rattle.grid.specs.Real.{Vec, at, zeros, zero64, one64}
use Rattle.grid.specs.Table.{table, rows}
use Rattle.grid.specs.TableLaws.{length_table, length_rows, at_table, at_rows}
use Rattle.grid.specs.CellLaws.{cell, one_place, upto_long}
use Rattle.answers.specs.Answers.{passed, least}
use Rattle.answers.specs.declared.Answer.{Answer}
use Rattle.svd_jacobi_svd_tall.specs.JacobiSvdTall.{jacobi}
use Rattle.svd_sort_svd_descending.specs.Result.{longest, work_length, sorted_out}
use Rattle.svd_sort_svd_descending.specs.OutLaws.{stored_at, stored_else, some}
use Rattle.svd.specs.Svd.{source, loaded, ran}

-- column by column
abbrev pub load_step : ℕ → ℕ → ℕ → Vec → ℕ → ℕ → Vec → Vec
load_step m n rows a j i w = set w (j * rows + i) (source m n a i j)

-- column j: i = 0 .. rows - 1
unfoldable pub column_loaded : ℕ → ℕ → ℕ → Vec → ℕ → Vec → Vec
column_loaded m n rows a j w = upto (load_step m n rows a j) 0 rows w

-- all columns: j = 0 .. cols - 1
unfoldable pub matrix_loaded : ℕ → ℕ → ℕ → ℕ → Vec → Vec → Vec
matrix_loaded m n rows cols a w = upto (column_loaded m n rows a) 0 cols w

-- behind it, the rotations: the identity
abbrev pub eye_step : ℕ → ℕ → ℕ → Vec → Vec
eye_step rows cols j w = set w (rows * cols + j * cols + j) one64

-- `eye_step` for j = 0 .. cols - 1
unfoldable pub eyed : ℕ → ℕ → Vec → Vec
eyed rows cols w = upto (eye_step rows cols) 0 cols w

-- what is worked on, and the identity behind it
unfoldable pub loaded_in : ℕ → ℕ → Vec → Vec → Vec
loaded_in m n a w = eyed (longest m n) (least m n) (matrix_loaded m n (longest m n) (least m n) a w)

-- the run, whatever the work array held
unfoldable pub ran_in : ℕ → ℕ → ℕ → ℕ → ℕ → Vec → Vec → Vec → Answer × Vec × Vec
ran_in m n want_u want_vt limit matrix work result =
    let x = jacobi (longest m n) (least m n) limit (loaded_in m n matrix work) in
    (x.0, zeros (length work), cond (passed x.0) (sorted_out m n want_u want_vt x.1) result)

-- ---- the cells that are stored

module _ (m n : ℕ) (a : Vec) where
  abbrev L : ℕ
  L = longest m n

  abbrev r : ℕ
  r = least m n

  abbrev all : ℕ
  all = L * r + r * r + r

  matrix_at : (j i : ℕ) → j < r → i < L → at (matrix_loaded m n L r a (zeros all)) (j * L + i) ≡ source m n a i j
  unfolding matrix_loaded column_loaded
  matrix_at j i p q =
      stored_at r L (λ j i. j * L + i) (λ j i. source m n a i j) all (λ j i p q. omega (arith, cell r L j i p q, mul_comm r L))
      (λ k i l j a b c d e. turned (one_place L i k j l b d e)) (zeros all) (length-replicate all zero64) j i p q
    where
      turned : {a b c d : ℕ} → (a ≡ b) × (c ≡ d) → (c ≡ d) × (a ≡ b)
      turned t = (t.1, t.0)

  matrix_else : (x : ℕ) → L * r ≤ x → x < all → at (matrix_loaded m n L r a (zeros all)) x ≡ zero64
  unfolding matrix_loaded column_loaded
  matrix_else x p q =
      stored_else r L (λ j i. j * L + i) (λ j i. source m n a i j) x (zeros all) (λ j i b c e. omega (arith, e, cell r L j i b c, mul_comm r L, p))
      ∙ get_or-replicate all x zero64 nan q

  matrix_long : length (matrix_loaded m n L r a (zeros all)) ≡ all
  unfolding matrix_loaded column_loaded
  matrix_long = upto_long (λ w. w) (column_loaded m n L a) 0 r (zeros all) (λ j x. upto_long (λ w. w) (load_step m n L a j) 0 L x (λ i x. length-set x _ _)) ∙ length-replicate all zero64

  eye_else : (w : Vec) (x : ℕ) → ((j : ℕ) → j < r → x ≡ L * r + j * r + j → ⊥) → at (eyed L r w) x ≡ at w x
  unfolding eyed
  eye_else w x h = upto_keeps (λ y z. at y x ≡ at w x) (eye_step L r) (eye_step L r) 0 r w w (λ j y z b c e. get_or-set_other y (L * r + j * r + j) x one64 nan (h j c) ∙ e) refl

  eye_at : (w : Vec) → length w ≡ all → (j : ℕ) → j < r → at (eyed L r w) (L * r + j * r + j) ≡ one64
  unfolding eyed
  eye_at w long =
      (upto_both (λ k y z. (length y ≡ all) × ((j : ℕ) → j < k → at y (L * r + j * r + j) ≡ one64)) (eye_step L r) (eye_step L r) 0 r w w (omega arith)
      (λ k y z b c h. (length-set y _ _ ∙ h.0, λ j l. turn k y c h j l)) (long, λ j l. absurd (omega arith))).1
    where
      turn : (k : ℕ) (y : Vec) → k < r → (length y ≡ all) × ((j : ℕ) → j < k → at y (L * r + j * r + j) ≡ one64)
          → (j : ℕ) → j < k + 1 → at (set y (L * r + k * r + k) one64) (L * r + j * r + j) ≡ one64
      turn k y c h j l = elim (ℕ_discrete j k) [
        | yes e ↦
            ap (λ (t : ℕ). at (set y (L * r + k * r + k) one64) (L * r + t * r + t)) e
            ∙ get_or-set_same y (L * r + k * r + k) one64 nan (omega (arith, h.0, cell r r k k c c))
        | no d ↦
            get_or-set_other y (L * r + k * r + k) (L * r + j * r + j) one64 nan (λ e. d (one_place r j j k k (omega arith) c (omega (arith, e))).0)
            ∙ h.1 j (omega arith)
      ]

  -- ---- the cells of the tables

  abbrev first : Vec
  first = rows (λ j. table (λ i. source m n a i j) L) r

  abbrev second : Vec
  second = rows (λ j. table (λ i. cond (eqb i j) one64 zero64) r) r

  first_long : length first ≡ r * L
  first_long = length_rows _ L r (λ j. length_table _ L)

  second_long : length second ≡ r * r
  second_long = length_rows _ r r (λ j. length_table _ r)

  pub loaded_long : length (loaded m n a) ≡ all
  unfolding loaded
  loaded_long =
      length-append first (second ++ zeros r)
      ∙ omega (arith, first_long, second_long, length-append second (zeros r), length-replicate r zero64, mul_comm r L)

  first_at : (j i : ℕ) → j < r → i < L → at (loaded m n a) (j * L + i) ≡ source m n a i j
  unfolding loaded
  first_at j i p q =
      get_or-append first (second ++ zeros r) nan (j * L + i) (omega (arith, first_long, cell r L j i p q))
      ∙ at_rows (λ j. table (λ i. source m n a i j) L) L r j i (λ j. length_table _ L) p q
      ∙ at_table (λ i. source m n a i j) L i q

  behind : (x : ℕ) → at (loaded m n a) (L * r + x) ≡ at (second ++ zeros r) x
  unfolding loaded
  behind x =
      ap (λ (l : ℕ). at (first ++ (second ++ zeros r)) (l + x)) (mul_comm L r ∙ sym first_long) ∙ get_or-append-add first (second ++ zeros r) x nan

  second_at : (j i : ℕ) → j < r → i < r → at (loaded m n a) (L * r + (j * r + i)) ≡ cond (eqb i j) one64 zero64
  second_at j i p q =
      behind (j * r + i)
      ∙ get_or-append second (zeros r) nan (j * r + i) (omega (arith, second_long, cell r r j i p q))
      ∙ at_rows (λ j. table (λ i. cond (eqb i j) one64 zero64) r) r r j i (λ j. length_table _ r) p q
      ∙ at_table (λ i. cond (eqb i j) one64 zero64) r i q

  last_at : (k : ℕ) → k < r → at (loaded m n a) (L * r + (r * r + k)) ≡ zero64
  last_at k p =
      behind (r * r + k)
      ∙ ap (λ (l : ℕ). at (second ++ zeros r) (l + k)) (sym second_long)
      ∙ get_or-append-add second (zeros r) k nan
      ∙ get_or-replicate r k zero64 nan p

  -- ---- they are the same

  abbrev Same : ℕ → Type 0
  Same x = at (loaded_in m n a (zeros all)) x ≡ at (loaded m n a) x

  same_first : (j i : ℕ) → j < r → i < L → Same (j * L + i)
  unfolding loaded_in
  same_first j i p q =
      eye_else (matrix_loaded m n L r a (zeros all)) (j * L + i) (λ k l e. omega (arith, e, cell r L j i p q, mul_comm r L))
      ∙ matrix_at j i p q ∙ sym (first_at j i p q)

  same_second : (j i : ℕ) → j < r → i < r → Same (L * r + (j * r + i))
  unfolding loaded_in
  same_second j i p q = elim (ℕ_discrete i j) [
    | yes e ↦
        let here : L * r + (j * r + i) ≡ L * r + j * r + j = omega arith in
        ap (at (eyed L r (matrix_loaded m n L r a (zeros all)))) here
        ∙ eye_at (matrix_loaded m n L r a (zeros all)) matrix_long j p
        ∙ sym (second_at j i p q ∙ rw (eq-eqb i j e))
    | no d ↦
        eye_else (matrix_loaded m n L r a (zeros all)) (L * r + (j * r + i))
        (λ k l e. (let o = one_place r i j k k q l (omega (arith, e)) in d (o.0 ∙ sym o.1)))
        ∙ matrix_else (L * r + (j * r + i)) (omega arith) (omega (arith, cell r r j i p q))
        ∙ sym (second_at j i p q ∙ rw (ne_eqb i j d))
  ]

  same_last : (k : ℕ) → k < r → Same (L * r + (r * r + k))
  unfolding loaded_in
  same_last k p =
      eye_else (matrix_loaded m n L r a (zeros all)) (L * r + (r * r + k)) (λ j l e. omega (arith, e, cell r r j j l l))
      ∙ matrix_else (L * r + (r * r + k)) (omega arith) (omega (arith, p))
      ∙ sym (last_at k p)

  same_cell : (x : ℕ) → x < all → Same x
  same_cell x l = elim (dec_lt x (L * r)) [
    | yes h ↦
        let b : x < r * L = omega (arith, h, mul_comm r L) in
        let s : 0 < L = some L r x b in
        subst Same (div-add-mod' x L) (same_first (x / L) (x % L) ((div-lt_iff_lt-mul s).1 b) (mod-lt x s))
    | no h ↦ elim (dec_lt x (L * r + r * r)) [
      | yes g ↦
          let y : ℕ = x - L * r in
          let b : y < r * r = omega arith in
          let s : 0 < r = some r r y b in
          let e : L * r + (y / r * r + y % r) ≡ x = omega (arith, div-add-mod' y r) in
          subst Same e (same_second (y / r) (y % r) ((div-lt_iff_lt-mul s).1 b) (mod-lt y s))
      | no g ↦
          let e : L * r + (r * r + (x - (L * r + r * r))) ≡ x = omega arith in
          subst Same e (same_last (x - (L * r + r * r)) (omega (arith, l)))
    ]
  ]

  in_long : length (loaded_in m n a (zeros all)) ≡ all
  unfolding loaded_in eyed
  in_long = upto_long (λ w. w) (eye_step L r) 0 r (matrix_loaded m n L r a (zeros all)) (λ j x. length-set x _ _) ∙ matrix_long

  pub loaded_is : loaded_in m n a (zeros (work_length m n)) ≡ loaded m n a
  unfolding work_length
  loaded_is = ext_get_or nan (loaded_in m n a (zeros all)) (loaded m n a) (in_long ∙ sym loaded_long) (λ x l. same_cell x (subst (λ (t : ℕ). x < t) in_long l))

pub ran_is : (m n want_u want_vt limit : ℕ) (matrix work result : Vec) → work ≡ zeros (work_length m n)
    → ran_in m n want_u want_vt limit matrix work result ≡ ran m n want_u want_vt limit matrix work result
unfolding ran_in ran
ran_is m n want_u want_vt limit matrix work result e =
    ap (λ (w : Vec). (
      (jacobi (longest m n) (least m n) limit w).0,
      zeros (length work),
      cond (passed (jacobi (longest m n) (least m n) limit w).0) (sorted_out m n want_u want_vt (jacobi (longest m n) (least m n) limit w).1) result,
    )) (ap (loaded_in m n matrix) e ∙ loaded_is m n matrix)
