-- Calls of `svd` that meet its promise: x and y are what they came back with. Laws only.
use Rattle.std.specs.Prelude.{◌≡◌, true, ◌↔◌, ◌⊎◌, ℕ, ◌≤◌, ◌<◌, length}
use Rattle.std.proofs.Common.{sym, ap, ◌∙◌, subst}
use Rattle.std.specs.Float.Ieee.{le}
use Rattle.grid.specs.Real.{Vec, at}
use Rattle.leaves.specs.Leaf.{is_finite}
use Rattle.answers.specs.Answers.{done, answered, least, decomposition_length}
use Rattle.answers.specs.Early.{Early}
use Rattle.answers.specs.Index.{AtMark}
use Rattle.svd_theorems.specs.SweepsOutcome.{bad, used}
use Rattle.svd_sort_svd_descending.specs.Result.{u_factor, v_factor, order_of}
use Rattle.svd.specs.Svd.{svd}
use Rattle.svd.specs.VtRow.{row_span, part_of}
use Rattle.svd_theorems.specs.Document.{plain_work}
use Rattle.svd_theorems.specs.Outcome.{Outcome, Promised, Taken, Done, Halted, Broken2, u_cell, vt_cell}
use Rattle.svd_theorems.proofs.OutcomeLaws.{svd_done_exactly, svd_limit_exactly, svd_mark1_exactly, svd_mark2_exactly}
use Rattle.svd_theorems.proofs.Promise.{svd_descends}
use Rattle.svd_theorems.specs.Limit.{svd_limit_raised}
use Rattle.svd_theorems.proofs.Result.{svd_cells_u, svd_cells_vt, vt_row_cells, svd_finite_out}
use Rattle.svd_theorems.proofs.Flags.{svd_flags_numbers, svd_flags_values, svd_flags_u, svd_flags_vt}
use Rattle.svd_theorems.specs.OldContents.{svd_old_contents}
use Rattle.svd_theorems.specs.Index.{Points}
use Rattle.svd_theorems.proofs.IndexLaws.{svd_index_points, svd_index_zero}

-- each number exactly where the scope gives it
module _ (m n u vt limit : ℕ) (matrix work result : Vec) (x : Outcome) (p : Promised m n u vt limit matrix work result x) (f : Taken m n u vt limit matrix work result) where
  pub svd_done_exactly_calls : (c : ℕ) → (x.0 ≡ done c) ↔ Done m n limit matrix c
  svd_done_exactly_calls c = subst (λ (o : Outcome). (o.0 ≡ done c) ↔ Done m n limit matrix c) (sym p) (svd_done_exactly m n u vt limit matrix work result f c)

  pub svd_limit_exactly_calls : (c : ℕ) → (x.0 ≡ answered 9 c 0 c) ↔ Halted m n limit matrix used c
  svd_limit_exactly_calls c = subst (λ (o : Outcome). (o.0 ≡ answered 9 c 0 c) ↔ Halted m n limit matrix used c) (sym p) (svd_limit_exactly m n u vt limit matrix work result f c)

  pub svd_mark1_exactly_calls : (a i c : ℕ) → (a ≡ 8) ⊎ (a ≡ 10) → (x.0 ≡ answered a 1 i c) ↔ Halted m n limit matrix (bad a i) c
  svd_mark1_exactly_calls a i c k =
      subst (λ (o : Outcome). (o.0 ≡ answered a 1 i c) ↔ Halted m n limit matrix (bad a i) c) (sym p) (svd_mark1_exactly m n u vt limit matrix work result f a i c k)

  pub svd_mark2_exactly_calls : (a i c : ℕ) → (a ≡ 8) ⊎ (a ≡ 10) → (x.0 ≡ answered a 2 i c) ↔ Broken2 m n limit matrix c a i
  svd_mark2_exactly_calls a i c k =
      subst (λ (o : Outcome). (o.0 ≡ answered a 2 i c) ↔ Broken2 m n limit matrix c a i) (sym p) (svd_mark2_exactly m n u vt limit matrix work result f a i c k)

-- what the index says
module _ (m n u vt limit : ℕ) (matrix work result : Vec) (x : Outcome) (p : Promised m n u vt limit matrix work result x) where
  pub svd_index_points_calls : AtMark x.0 → Points m n limit matrix x.0
  svd_index_points_calls =
      subst (λ (o : Outcome). AtMark o.0 → Points m n limit matrix o.0) (sym p) (svd_index_points m n u vt limit matrix work result)

  pub svd_index_zero_calls : (AtMark x.0 → ⊥) → x.0.index ≡ 0
  svd_index_zero_calls = subst (λ (o : Outcome). (AtMark o.0 → ⊥) → o.0.index ≡ 0) (sym p) (svd_index_zero m n u vt limit matrix work result)

-- where it is done
module _ (m n u vt limit : ℕ) (matrix work result : Vec) (x : Outcome) (p : Promised m n u vt limit matrix work result x) (z : x.0.answer ≡ 0) where
  done0 : (svd m n u vt limit matrix work result).0.answer ≡ 0
  done0 = ap (λ (o : Outcome). o.0.answer) (sym p) ∙ z

  pub svd_descends_calls : (i j : ℕ) → i < j → j < least m n → le (at x.2 j) (at x.2 i) ≡ true
  svd_descends_calls i j l h = subst (λ (o : Outcome). le (at o.2 j) (at o.2 i) ≡ true) (sym p) (svd_descends m n u vt limit matrix work result done0 i j l h)

  pub svd_cells_u_calls : (u ≡ 0 → ⊥) → (i k : ℕ) → i < m → k < least m n → at x.2 (u_cell m n i k) ≡ u_factor m n (plain_work m n matrix) i (order_of m n (plain_work m n matrix) k)
  svd_cells_u_calls w i k h l = ap (λ (o : Outcome). at o.2 (u_cell m n i k)) p ∙ svd_cells_u m n u vt limit matrix work result done0 w i k h l

  pub svd_cells_vt_calls : (vt ≡ 0 → ⊥) → (k j : ℕ) → k < least m n → j < n → at x.2 (vt_cell m n u k j) ≡ v_factor m n (plain_work m n matrix) j (order_of m n (plain_work m n matrix) k)
  svd_cells_vt_calls w k j h l = ap (λ (o : Outcome). at o.2 (vt_cell m n u k j)) p ∙ svd_cells_vt m n u vt limit matrix work result done0 w k j h l

  -- row k of V^T as `vt_row` gives it of what came back
  pub vt_row_cells_calls : (vt ≡ 0 → ⊥) → (k j : ℕ) → k < least m n → j < n
      → at (part_of x.2 (row_span (length x.2) m n u vt k)) j ≡ v_factor m n (plain_work m n matrix) j (order_of m n (plain_work m n matrix) k)
  vt_row_cells_calls w k j h l =
      ap (λ (o : Outcome). at (part_of o.2 (row_span (length o.2) m n u vt k)) j) p ∙ vt_row_cells m n u vt limit matrix work result done0 w k j h l

  pub svd_finite_out_calls : (k : ℕ) → k < decomposition_length m n u vt → is_finite (at x.2 k) ≡ true
  svd_finite_out_calls k l = subst (λ (o : Outcome). is_finite (at o.2 k) ≡ true) (sym p) (svd_finite_out m n u vt limit matrix work result done0 k l)

-- two calls that differ in the limit alone
pub svd_limit_raised_calls : (m n u vt k l : ℕ) (matrix work result : Vec) (x y : Outcome) → 1 ≤ k → k ≤ l → l ≤ 60
    → Promised m n u vt k matrix work result x → Promised m n u vt l matrix work result y → (x.0.answer ≡ 9 → ⊥) → y ≡ x
svd_limit_raised_calls m n u vt k l matrix work result x y a b c p q h =
    q ∙ svd_limit_raised m n u vt k l matrix work result a b c (λ e. h (ap (λ (o : Outcome). o.0.answer) p ∙ e)) ∙ sym p

-- two calls that differ in what work and result held before
pub svd_old_contents_calls : (m n u vt limit : ℕ) (matrix work result work' result' : Vec) (x y : Outcome) → length work ≡ length work' → length result ≡ length result'
    → Promised m n u vt limit matrix work result x → Promised m n u vt limit matrix work' result' y → (Early x.0 → ⊥) → x ≡ y
svd_old_contents_calls m n u vt limit matrix work result work' result' x y lw lr p q h =
    p ∙ svd_old_contents m n u vt limit matrix work result work' result' lw lr (λ e. h (subst (λ (o : Outcome). Early o.0) (sym p) e)) ∙ sym q

-- two calls that differ in their flags, and in the length that the flags ask of the result
module _ (m n u vt u' vt' limit : ℕ) (matrix work result work' result' : Vec) (x y : Outcome) (lw : length work ≡ length work') (lr : length result ≡ decomposition_length m n u vt) (lr' : length result' ≡ decomposition_length m n u' vt') (p : Promised m n u vt limit matrix work result x) (q : Promised m n u' vt' limit matrix work' result' y) where
  pub svd_flags_numbers_calls : x.0 ≡ y.0
  svd_flags_numbers_calls =
      ap (λ (o : Outcome). o.0) p ∙ svd_flags_numbers m n u vt u' vt' limit matrix work result work' result' lw lr lr' ∙ sym (ap (λ (o : Outcome). o.0) q)

  module _ (z : x.0.answer ≡ 0) where
    done1 : (svd m n u vt limit matrix work result).0.answer ≡ 0
    done1 = ap (λ (o : Outcome). o.0.answer) (sym p) ∙ z

    -- number i of the one is number j of the other
    alike : (i j : ℕ) → at (svd m n u vt limit matrix work result).2 i ≡ at (svd m n u' vt' limit matrix work' result').2 j → at x.2 i ≡ at y.2 j
    alike i j e = ap (λ (o : Outcome). at o.2 i) p ∙ e ∙ sym (ap (λ (o : Outcome). at o.2 j) q)

    pub svd_flags_values_calls : (k : ℕ) → k < least m n → at x.2 k ≡ at y.2 k
    svd_flags_values_calls k h = alike k k (svd_flags_values m n u vt u' vt' limit matrix work result work' result' lw lr lr' done1 k h)

    pub svd_flags_u_calls : (u ≡ 0 → ⊥) → (u' ≡ 0 → ⊥) → (i k : ℕ) → i < m → k < least m n → at x.2 (u_cell m n i k) ≡ at y.2 (u_cell m n i k)
    svd_flags_u_calls f g i k h l = alike _ _ (svd_flags_u m n u vt u' vt' limit matrix work result work' result' lw lr lr' done1 f g i k h l)

    pub svd_flags_vt_calls : (vt ≡ 0 → ⊥) → (vt' ≡ 0 → ⊥) → (k j : ℕ) → k < least m n → j < n → at x.2 (vt_cell m n u k j) ≡ at y.2 (vt_cell m n u' k j)
    svd_flags_vt_calls f g k j h l = alike _ _ (svd_flags_vt m n u vt u' vt' limit matrix work result work' result' lw lr lr' done1 f g k j h l)
