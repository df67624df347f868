-- Where the answer is 0: the cells of U and V^T (`svd_cells_u`, `svd_cells_vt`), so what `vt_row` gives (`vt_row_cells`), and every number of the result is finite (`svd_finite_out`). Laws only.
use Rattle.std.specs.Prelude.{◌≡◌, refl, Bool, true, false, ltb, leb, take, drop, Option, Some}
use Rattle.std.proofs.Math.Path.{ap, subst}
use Rattle.std.proofs.Common.{◌∙◌, mod-lt, div-lt_iff_lt-mul, mul_comm}
use Prim.Native.Nat.{ℕ, ◌+◌, ◌*◌, ◌-◌, ◌/◌, ◌%◌, ◌<◌}
use Rattle.std.proofs.Math.Nat.{div-add-mod'}
use Rattle.std.proofs.Math.Decide.{dec_lt}
use native.Mathlib.Omega.{arith}
use borrow.Author.Tests.{le-leb, lt-ltb, ne_eqb, eq-eqb}
use Rattle.std.specs.Float.Ieee.{nan}
use Rattle.std.proofs.Math.ListN.{length}
use Rattle.std.proofs.Math.Seq.{get_or-take, get_or-drop}
use Rattle.grid.specs.Real.{Vec, at}
use Rattle.grid.specs.CellLaws.{cell}
use Rattle.leaves.specs.Leaf.{is_finite}
use Rattle.answers.specs.Answers.{least, present, decomposition_length}
use Rattle.svd_theorems.specs.SweepsOutcome.{Whole}
use Rattle.svd_sort_svd_descending.specs.Rank.{order_below}
use Rattle.svd_sort_svd_descending.specs.Result.{longest, value_of, u_factor, v_factor, order_of}
use Rattle.svd_sort_svd_descending.specs.OutLaws.{offset, sorted_long, sorted_u, sorted_vt, in_part, some}
use Rattle.svd.specs.Svd.{svd}
use Rattle.svd.specs.VtRow.{row_span, part_of}
use Rattle.svd_sort_svd_descending.specs.ResultSizes.{Side, left_side, right_side}
use Rattle.svd_theorems.specs.Document.{plain_work, plain_svd}
use Rattle.svd_theorems.specs.Outcome.{Taken, u_cell, vt_cell}
use Rattle.svd_theorems.proofs.OutcomeLaws.{taken_of}
use Rattle.svd_theorems.proofs.Promise.{svd_plain, worked_whole, svd_values, svd_finite}

module _ (m n want_u want_vt limit : ℕ) (matrix work result : Vec) (z : (svd m n want_u want_vt limit matrix work result).0.answer ≡ 0) where
  taken : Taken m n want_u want_vt limit matrix work result
  taken = taken_of m n want_u want_vt limit matrix work result z

  -- **svd_cells**: cell (i, k) of U is cell (i, order k) of the factor of m rows, and cell (k, j) of V^T cell (j, order k) of the factor of n rows
  pub svd_cells_u : (want_u ≡ 0 → ⊥) → (i k : ℕ) → i < m → k < least m n
      → at (svd m n want_u want_vt limit matrix work result).2 (u_cell m n i k) ≡ u_factor m n (plain_work m n matrix) i (order_of m n (plain_work m n matrix) k)
  unfolding plain_svd
  svd_cells_u flag i k p q =
      ap (λ (v : Vec). at v (u_cell m n i k)) (svd_plain m n want_u want_vt limit matrix work result z) ∙ sorted_u m n want_u want_vt (plain_work m n matrix) flag i k p q

  pub svd_cells_vt : (want_vt ≡ 0 → ⊥) → (k j : ℕ) → k < least m n → j < n
      → at (svd m n want_u want_vt limit matrix work result).2 (vt_cell m n want_u k j) ≡ v_factor m n (plain_work m n matrix) j (order_of m n (plain_work m n matrix) k)
  unfolding plain_svd
  svd_cells_vt flag k j p q =
      ap (λ (v : Vec). at v (vt_cell m n want_u k j)) (svd_plain m n want_u want_vt limit matrix work result z) ∙ sorted_vt m n want_u want_vt (plain_work m n matrix) flag k j p q

  pub svd_long : length (svd m n want_u want_vt limit matrix work result).2 ≡ decomposition_length m n want_u want_vt
  unfolding plain_svd
  svd_long = ap length (svd_plain m n want_u want_vt limit matrix work result z) ∙ sorted_long m n want_u want_vt (plain_work m n matrix)

  -- **vt_row_cells**: so number j of row k of V^T, the part that `vt_row` gives, is cell (j, order k) of the factor of n rows
  pub vt_row_cells : (want_vt ≡ 0 → ⊥) → (k j : ℕ) → k < least m n → j < n →
      let res = (svd m n want_u want_vt limit matrix work result).2 in
      at (part_of res (row_span (length res) m n want_u want_vt k)) j ≡ v_factor m n (plain_work m n matrix) j (order_of m n (plain_work m n matrix) k)
  unfolding row_span
  vt_row_cells flag k j p q =
      let res : Vec = (svd m n want_u want_vt limit matrix work result).2 in
      let a : ℕ = least m n + present want_u (m * least m n) + k * n in
      let there : row_span (length res) m n want_u want_vt k ≡ Some (a, a + n) =
      rw (le-leb m 256 taken.tall, le-leb n 256 taken.wide, ne_eqb want_vt 0 flag, lt-ltb k (least m n) p, eq-eqb (length res) (decomposition_length m n want_u want_vt) svd_long) in
      let whole : a + n - a ≡ n = omega arith in
      let here : a + j ≡ vt_cell m n want_u k j = omega arith in
      ap (λ (s : Option (ℕ × ℕ)). at (part_of res s) j) there
      ∙ ap (λ (l : ℕ). at (take l (drop a res)) j) whole
      ∙ get_or-take n (drop a res) j nan q
      ∙ get_or-drop a res j nan
      ∙ ap (at res) here
      ∙ svd_cells_vt flag k j p q

  -- ---- every number of a result is finite

  whole : Whole (longest m n) (least m n) (plain_work m n matrix)
  whole = worked_whole m n want_u want_vt limit matrix work result z

  -- the column that comes to place k
  column_at : (k : ℕ) → k < least m n → order_of m n (plain_work m n matrix) k < least m n
  column_at k q = order_below (value_of m n (plain_work m n matrix)) (least m n) k q

  factor_finite : (t : Bool) (rows i p : ℕ) → Side m n t rows → i < rows → p < least m n
      → is_finite (at (plain_work m n matrix) (offset t (longest m n * least m n) + p * rows + i)) ≡ true
  factor_finite true rows i p s a b =
      let r = s.second refl in
      subst (λ (j : ℕ). is_finite (at (plain_work m n matrix) j) ≡ true) (omega arith)
      (whole.factors.second (p * rows + i) (rw r (cell rows rows p i (omega arith) a)))
  factor_finite false rows i p s a b =
      subst (λ (j : ℕ). is_finite (at (plain_work m n matrix) j) ≡ true) (omega arith)
      (whole.factors.first (p * rows + i) (rw (s.first refl, mul_comm rows (least m n)) (cell (least m n) rows p i b a)))

  u_finite : (i p : ℕ) → i < m → p < least m n → is_finite (u_factor m n (plain_work m n matrix) i p) ≡ true
  u_finite i p = factor_finite (ltb m n) m i p (left_side m n)

  v_finite : (j p : ℕ) → j < n → p < least m n → is_finite (v_factor m n (plain_work m n matrix) j p) ≡ true
  v_finite j p = factor_finite (leb n m) n j p (right_side m n)

  -- **svd_finite_out**: the values, U and V^T, so far as they are wanted
  pub svd_finite_out : (x : ℕ) → x < decomposition_length m n want_u want_vt → is_finite (at (svd m n want_u want_vt limit matrix work result).2 x) ≡ true
  unfolding decomposition_length
  svd_finite_out x l = elim (dec_lt x r) [
    | yes h ↦ ap is_finite (svd_values m n want_u want_vt limit matrix work result z x h) ∙ svd_finite m n want_u want_vt limit matrix work result z (order_of m n (plain_work m n matrix) x) (column_at x h)
    | no h ↦ elim (dec_lt x (r + present want_u (m * r))) [
      | yes g ↦
          let q = in_part want_u (m * r) (x - r) (omega arith) in
          let s : 0 < r = some r m (x - r) q.1 in
          let e : r + ((x - r) / r * r + (x - r) % r) ≡ x = omega (arith, div-add-mod' (x - r) r) in
          subst (λ (t : ℕ). is_finite (at out t) ≡ true) e
          (u_at_lem q.0 ((x - r) / r) ((x - r) % r) ((div-lt_iff_lt-mul s).1 q.1) (mod-lt (x - r) s))
      | no g ↦
          let y : ℕ = x - (r + present want_u (m * r)) in
          let q = in_part want_vt (r * n) y (omega arith) in
          let s : 0 < n = some n r y q.1 in
          let e : r + present want_u (m * r) + (y / n * n + y % n) ≡ x = omega (arith, div-add-mod' y n) in
          subst (λ (t : ℕ). is_finite (at out t) ≡ true) e
          (vt_at q.0 (y / n) (y % n) ((div-lt_iff_lt-mul s).1 q.1) (mod-lt y s))
    ]
  ]
    where
      r : ℕ
      r = least m n

      out : Vec
      out = (svd m n want_u want_vt limit matrix work result).2

      u_at_lem : (want_u ≡ 0 → ⊥) → (i k : ℕ) → i < m → k < least m n → is_finite (at out (u_cell m n i k)) ≡ true
      u_at_lem flag i k p q = ap is_finite (svd_cells_u flag i k p q) ∙ u_finite i (order_of m n (plain_work m n matrix) k) p (column_at k q)

      vt_at : (want_vt ≡ 0 → ⊥) → (k j : ℕ) → k < least m n → j < n → is_finite (at out (vt_cell m n want_u k j)) ≡ true
      vt_at flag k j p q = ap is_finite (svd_cells_vt flag k j p q) ∙ v_finite j (order_of m n (plain_work m n matrix) k) q (column_at k p)
