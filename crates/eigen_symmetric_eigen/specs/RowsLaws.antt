-- Exchanges in place turn a square matrix from column by column to row by row (`transposed`). Laws only.
use Rattle.std.specs.Prelude.{◌≡◌, refl, ℕ, ◌+◌, ◌*◌, ◌<◌, Float, length}
use Rattle.std.proofs.Common.{sym, ◌∙◌, subst, arith, length-set}
use Rattle.std.proofs.Math.Decide.{ℕ_discrete, dec_lt}
use Rattle.grid.specs.Loop.{upto}
use Rattle.grid.specs.LoopLaws.{upto_both}
use Rattle.grid.specs.Real.{Vec}
use Rattle.grid.specs.Cell.{at2, put2, entry}
use Rattle.grid.specs.CellLaws.{put_here, put_elsewhere}
use Rattle.leaves.specs.Scan.{by_rows}
use Rattle.leaves.specs.FiniteLaws.{by_rows_at, by_rows_long}
use Rattle.eigen_symmetric_eigen.specs.LayoutSteps.{transpose_step, transpose_row}
use Rattle.eigen_symmetric_eigen.specs.LayoutLaws.{same_entries, Past, above, beside}

module _ (n : ℕ) (v : Vec) where
  -- the cells below the diagonal that are past have changed places with their mirrors, and the others have not
  record Transposed (i j : ℕ) (w : Vec) : Type 0 where
    long : length w ≡ n * n
    past : (r c : ℕ) → r < n → c < r → Past i j r c → (at2 w n r c ≡ at2 v n c r) × (at2 w n c r ≡ at2 v n r c)
    left : (r c : ℕ) → r < n → c < r → (Past i j r c → ⊥) → (at2 w n r c ≡ at2 v n r c) × (at2 w n c r ≡ at2 v n c r)
    diagonal : (r : ℕ) → r < n → at2 w n r r ≡ at2 v n r r

  transpose_one : (i j : ℕ) (w : Vec) → i < n → j < i → Transposed i j w → Transposed i (j + 1) (transpose_step n i j w)
  transpose_one i j w p q h = record { long = length-set one (i * n + j) x ∙ length-set w (j * n + i) y ∙ h.long; past = past_now; left = left_now; diagonal = λ r s. other r r s (λ e. omega arith) (λ e. omega arith) ∙ h.diagonal r s }
    where
      x : Float
      x = at2 w n i j

      y : Float
      y = at2 w n j i

      one : Vec
      one = put2 w n i j y

      -- any other cell stays
      other : (r c : ℕ) → r < n → ((i ≡ r) × (j ≡ c) → ⊥) → ((j ≡ r) × (i ≡ c) → ⊥) → at2 (put2 one n j i x) n r c ≡ at2 w n r c
      other r c s d e = put_elsewhere one n j i r c x (omega arith) s e ∙ put_elsewhere w n i j r c y p s d

      -- the two that change places
      there : at2 (put2 one n j i x) n j i ≡ x
      there = put_here one n j i x (length-set w (j * n + i) y ∙ h.long) (omega arith) p

      here : at2 (put2 one n j i x) n i j ≡ y
      here = put_elsewhere one n j i i j x (omega arith) p (λ e. omega arith) ∙ put_here w n i j y h.long p (omega arith)

      -- what is asked of a cell that has changed places
      Turned : ℕ → ℕ → Type 0
      Turned r c = (at2 (transpose_step n i j w) n r c ≡ at2 v n c r) × (at2 (transpose_step n i j w) n c r ≡ at2 v n r c)

      not_yet : Past i j i j → ⊥
      not_yet (above g) = omega arith
      not_yet (beside e g) = omega arith

      turned : Turned i j
      turned = (here ∙ (h.left i j p q not_yet).1, there ∙ (h.left i j p q not_yet).0)

      moved : (r c : ℕ) → i ≡ r → j ≡ c → Turned r c
      moved r c e f = subst (λ (r : ℕ). Turned r c) e (subst (λ (c : ℕ). Turned i c) f turned)

      earlier : (r c : ℕ) → (j ≡ c → i ≡ r → ⊥) → Past i (j + 1) r c → Past i j r c
      earlier r c d (above g) = above g
      earlier r c d (beside e g) = beside e (elim (ℕ_discrete j c) [
        | yes f ↦ absurd (d f (sym e))
        | no f ↦ omega arith
      ])

      later : (r c : ℕ) → Past i j r c → Past i (j + 1) r c
      later r c (above g) = above g
      later r c (beside e g) = beside e (omega arith)

      both : (r c : ℕ) → r < n → c < r → (j ≡ c → i ≡ r → ⊥) → (at2 (transpose_step n i j w) n r c ≡ at2 w n r c) × (at2 (transpose_step n i j w) n c r ≡ at2 w n c r)
      both r c s t d = (
        other r c s (λ e. d e.1 e.0) (λ e. omega arith),
        other c r (omega arith) (λ e. omega arith) (λ e. d e.0 e.1),
      )

      past_now : (r c : ℕ) → r < n → c < r → Past i (j + 1) r c → Turned r c
      past_now r c s t g = elim (ℕ_discrete j c) [
        | no f ↦ stays (λ k e. f k)
        | yes f ↦ elim (ℕ_discrete i r) [
          | yes e ↦ moved r c e f
          | no e ↦ stays (λ k o. e o)
        ]
      ]
        where
          stays : (j ≡ c → i ≡ r → ⊥) → Turned r c
          stays d =
              let a = both r c s t d in
              let b = h.past r c s t (earlier r c d g) in
              (a.0 ∙ b.0, a.1 ∙ b.1)

      left_now : (r c : ℕ) → r < n → c < r → (Past i (j + 1) r c → ⊥) → (at2 (transpose_step n i j w) n r c ≡ at2 v n r c) × (at2 (transpose_step n i j w) n c r ≡ at2 v n c r)
      left_now r c s t g =
          let a = both r c s t (λ f e. g (beside (sym e) (omega arith))) in
          let b = h.left r c s t (λ k. g (later r c k)) in
          (a.0 ∙ b.0, a.1 ∙ b.1)

  transpose_row_lem : (i : ℕ) (w : Vec) → i < n → Transposed i 0 w → Transposed (i + 1) 0 (transpose_row n i w)
  unfolding transpose_row
  transpose_row_lem i w p h =
      let m : Transposed i i (transpose_row n i w) =
      upto_both (λ j s t. Transposed i j s) (transpose_step n i) (transpose_step n i) 0 i w w (omega arith) (λ j s t a b q. transpose_one i j s p b q) h in
      record {
        long = m.long;
        past = λ r c s t g. m.past r c s t (down r c t g);
        left = λ r c s t g. m.left r c s t (λ k. g (up r c k));
        diagonal = m.diagonal;
      }
    where
      down : (r c : ℕ) → c < r → Past (i + 1) 0 r c → Past i i r c
      down r c t (above g) = elim (ℕ_discrete r i) [
        | yes e ↦ beside e (omega arith)
        | no e ↦ above (omega arith)
      ]
      down r c t (beside e g) = absurd (omega arith)

      up : (r c : ℕ) → Past i i r c → Past (i + 1) 0 r c
      up r c (above g) = above (omega arith)
      up r c (beside e g) = above (omega arith)

  transpose_all : length v ≡ n * n → Transposed n 0 (upto (transpose_row n) 0 n v)
  transpose_all l = upto_both (λ i s t. Transposed i 0 s) (transpose_row n) (transpose_row n) 0 n v v (omega arith) (λ i s t a b q. transpose_row_lem i s b q)
      (record { long = l; past = λ r c s t g. absurd (nothing r c g); left = λ r c s t g. (refl, refl); diagonal = λ r s. refl })
    where
      nothing : (r c : ℕ) → Past 0 0 r c → ⊥
      nothing r c (above g) = omega arith
      nothing r c (beside e g) = omega arith

  all_entries : (i j : ℕ) → length v ≡ n * n → i < n → j < n → entry (upto (transpose_row n) 0 n v) n i j ≡ at2 v n i j
  all_entries i j l p q = elim (dec_lt i j) [
    | yes a ↦ ((transpose_all l).past j i q a (above q)).0
    | no a ↦ elim (dec_lt j i) [
      | yes b ↦ ((transpose_all l).past i j p b (above p)).1
      | no b ↦
          let e : i ≡ j = omega arith in
          subst (λ (k : ℕ). entry (upto (transpose_row n) 0 n v) n i k ≡ at2 v n i k) e ((transpose_all l).diagonal i p)
    ]
  ]

  pub transposed : length v ≡ n * n → upto (transpose_row n) 0 n v ≡ by_rows n v
  transposed l = same_entries n _ _ (transpose_all l).long (by_rows_long n n v l) (λ i j p q. all_entries i j l p q ∙ sym (by_rows_at n n v l i j p q))
