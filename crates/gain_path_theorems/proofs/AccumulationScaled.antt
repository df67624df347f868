-- The accumulation of `tred2` in two runs: it computes nothing that carries the gain, and the diagonal, which does, waits in the last row. Laws only.
use Rattle.std.specs.Prelude.{◌≡◌, Bool, true, false, cond, ℕ, suc, ◌+◌, ◌-◌, ◌≤◌, ◌<◌, T, ltb, Float}
use Rattle.std.proofs.Math.Path.{refl, ap₂}
use Rattle.std.proofs.Common.{ap, le_antisymm, ltb-true, ltb-false}
use native.Mathlib.Omega.{arith}
use Rattle.std.specs.Float.Ieee.{binary64, fits, of_bits, ne}
use Rattle.std.specs.Float.Ieee.Fits.{div-fits, sub-fits}
use Rattle.grid.specs.LoopLaws.{upto_keeps, upto_both}
use Rattle.grid.specs.Real.{Vec, at, zero64, one64, ◌⊕◌, ◌⊖◌, ◌⊗◌, ◌⊘◌}
use Rattle.grid.specs.Cell.{at2, put2}
use Rattle.eigen_tred2_definition.specs.Tred2.{column_over, column_dot, take_off, turn_columns, clear_column, apply, accumulate, accumulation}
use Rattle.eigen_tred2_definition.specs.Tred2Steps.{column_over_step, column_dot_step, take_step, turn_column_step, clear_column_step}
use Rattle.gain_path_theorems.specs.Numbers.{Number, zero_n}
use Rattle.gain_path_theorems.specs.Places.{Places, place_set, place_as, Cells, cell_put, cell_as}
use Rattle.gain_path_theorems.proofs.ReductionScaled.{same_n, as_same, less}

pub one_fits : T (fits binary64 one64)
unfolding fits of_bits
one_fits = tt

-- ---- before step i

pub record Stands (n k i : ℕ) (v v' : Vec) : Type 0 where
  pub dg : Cells n k (λ r c. (r ≡ c) × (i ≤ r)) v v'
  pub last : Cells n k (λ r c. (suc r ≡ n) × (c < i)) v v'
  pub b : Cells n 0 (λ r c. (r < i) × (c ≤ i)) v v'
  pub u : Cells n 0 (λ r c. (i < c) × (c < n) × (r < c)) v v'
  pub l : Cells n 0 (λ r c. (c < r) × (suc r < n)) v v'

-- within it: the block up to row and column i is the same in both, and so is column i + 1 above the diagonal
record Block (n k i : ℕ) (v v' : Vec) : Type 0 where
  dg : Cells n k (λ r c. (r ≡ c) × (suc i ≤ r)) v v'
  last : Cells n k (λ r c. (suc r ≡ n) × (c < suc i)) v v'
  b : Cells n 0 (λ r c. (r ≤ i) × (c ≤ i)) v v'
  u : Cells n 0 (λ r c. (i < c) × (c < n) × (r < c)) v v'
  l : Cells n 0 (λ r c. (c < r) × (suc r < n)) v v'

module _ (n k i : ℕ) (i_lt : suc i < n) where
  n_pos : n - 1 < n
  n_pos = omega arith

  last_row : suc (n - 1) ≡ n
  last_row = omega arith

  -- the diagonal's number goes to the last row, and 1 takes its place
  opened : (v v' : Vec) → Stands n k i v v' → Block n k i (put2 (put2 v n (n - 1) i (at2 v n i i)) n i i one64) (put2 (put2 v' n (n - 1) i (at2 v' n i i)) n i i one64)
  opened v v' h =
      let x = at2 v n i i in
      let x' = at2 v' n i i in
      let X : Number k x x' = h.dg.each i i (omega arith) (refl, omega arith) in
      let w = put2 v n (n - 1) i x in
      let w' = put2 v' n (n - 1) i x' in
      let o : Number 0 one64 one64 = same_n one64 refl one_fits in
      let il : i < n = omega arith in
      let dg = cell_put n k (λ r c. (r ≡ c) × (i ≤ r)) (λ r c. (r ≡ c) × (i ≤ r)) v v' (n - 1) i x n_pos (λ _. X) (λ _ _ _ t. t) h.dg in
      let la =
      cell_put n k (λ r c. (suc r ≡ n) × (c < i)) (λ r c. (suc r ≡ n) × (c < suc i)) v v' (n - 1) i x n_pos (λ _. X)
      (λ r c o t. (t.0, left r c t.0 t.1 o)) h.last in
      let b = cell_put n 0 (λ r c. (r < i) × (c ≤ i)) (λ r c. (r < i) × (c ≤ i)) v v' (n - 1) i x n_pos (λ t. absurd (omega (arith, t.0))) (λ _ _ _ t. t) h.b in
      let u = cell_put n 0 (λ r c. (i < c) × (c < n) × (r < c)) (λ r c. (i < c) × (c < n) × (r < c)) v v' (n - 1) i x n_pos (λ t. absurd (omega (arith, t.0))) (λ _ _ _ t. t) h.u in
      let l = cell_put n 0 (λ r c. (c < r) × (suc r < n)) (λ r c. (c < r) × (suc r < n)) v v' (n - 1) i x n_pos (λ t. absurd (omega (arith, t.1))) (λ _ _ _ t. t) h.l in
      let b2 = cell_put n 0 (λ r c. (r < i) × (c ≤ i)) (λ r c. (r < i) × (c ≤ i)) w w' i i one64 il (λ _. o) (λ _ _ _ t. t) b in
      let l2 = cell_put n 0 (λ r c. (c < r) × (suc r < n)) (λ r c. (c < r) × (suc r < n)) w w' i i one64 il (λ _. o) (λ _ _ _ t. t) l in
      let c2 = cell_put n 0 (λ r c. (r < i) × (c ≤ i)) (λ r c. (r ≡ i) × (c ≡ i)) w w' i i one64 il (λ _. o) (λ r c m t. absurd (m t)) b in
      record {
        dg = cell_put n k (λ r c. (r ≡ c) × (i ≤ r)) (λ r c. (r ≡ c) × (suc i ≤ r)) w w' i i one64 il (λ t. absurd (omega (arith, t.1))) (λ r c _ t. (t.0, omega (arith, t.1))) dg;
        last = cell_put n k (λ r c. (suc r ≡ n) × (c < suc i)) (λ r c. (suc r ≡ n) × (c < suc i)) w w' i i one64 il (λ t. absurd (omega (arith, t.0))) (λ _ _ _ t. t) la;
        b = record { long = b2.long; each = λ r c m t. block (put2 w n i i one64) (put2 w' n i i one64) b2 l2 c2 r c m t (ltb r i) refl (ltb c i) refl };
        u = cell_put n 0 (λ r c. (i < c) × (c < n) × (r < c)) (λ r c. (i < c) × (c < n) × (r < c)) w w' i i one64 il (λ _. o) (λ _ _ _ t. t) u;
        l = l2;
      }
    where
      left : (r c : ℕ) → suc r ≡ n → c < suc i → ((r ≡ n - 1) × (c ≡ i) → ⊥) → c < i
      left r c p q o = less c i (omega arith) (λ e. o (omega arith, e))

      block : (y y' : Vec) → Cells n 0 (λ r c. (r < i) × (c ≤ i)) y y' → Cells n 0 (λ r c. (c < r) × (suc r < n)) y y' → Cells n 0 (λ r c. (r ≡ i) × (c ≡ i)) y y'
          → (r c : ℕ) → r < n → (r ≤ i) × (c ≤ i) → (s : Bool) → ltb r i ≡ s → (t : Bool) → ltb c i ≡ t → Number 0 (at2 y n r c) (at2 y' n r c)
      block y y' b l d r c m q true e t f = b.each r c m (ltb-true r i e, q.1)
      block y y' b l d r c m q false e true f =
          let g : i ≤ r = ltb-false r i e in
          let j : c < i = ltb-true c i f in
          l.each r c m (omega arith, omega (arith, q.0))
      block y y' b l d r c m q false e false f = d.each r c m (le_antisymm q.0 (ltb-false r i e), le_antisymm q.1 (ltb-false c i f))

  -- a number that is the same in both, within the block
  block_put : (v v' : Vec) (r c : ℕ) (x : Float) {x' : Float} → r ≤ i → c ≤ i → Number 0 x x' → Block n k i v v' → Block n k i (put2 v n r c x) (put2 v' n r c x')
  block_put v v' r c x p q m h =
      let l : r < n = omega arith in
      record {
        dg = cell_put n k _ _ v v' r c x l (λ t. absurd (omega (arith, t.1))) (λ _ _ _ t. t) h.dg;
        last = cell_put n k _ _ v v' r c x l (λ t. absurd (omega (arith, t.0))) (λ _ _ _ t. t) h.last;
        b = cell_put n 0 _ _ v v' r c x l (λ _. m) (λ _ _ _ t. t) h.b;
        u = cell_put n 0 _ _ v v' r c x l (λ _. m) (λ _ _ _ t. t) h.u;
        l = cell_put n 0 _ _ v v' r c x l (λ _. m) (λ _ _ _ t. t) h.l;
      }

  -- ---- the columns turned

  module _ (d d' : Vec) (D : Places 0 (λ t. t < i + 1) d d') where
    dot_same : (j : ℕ) (v v' : Vec) → j ≤ i → Block n k i v v' → column_dot n (i + 1) j v' ≡ column_dot n (i + 1) j v
    unfolding column_dot
    dot_same j v v' p h =
        upto_keeps (λ a b. b ≡ a) (column_dot_step n (i + 1) j v) (column_dot_step n (i + 1) j v') 0 (i + 1) zero64 zero64
        (λ t a b _ m e.
        ap₂ ◌⊕◌ e
        (ap₂ ◌⊗◌ (as_same (at2 v n t (i + 1)) (h.u.each t (i + 1) (omega arith) (omega arith, omega arith, m))) (as_same (at2 v n t j) (h.b.each t j (omega arith) (omega arith, p))))) refl

    take_scaled : (j : ℕ) (g g' : Float) (v v' : Vec) → j ≤ i → g' ≡ g → Block n k i v v' → Block n k i (take_off n (i + 1) j g d v) (take_off n (i + 1) j g' d' v')
    unfolding take_off
    take_scaled j g g' v v' p e h =
        upto_keeps (Block n k i) (take_step n j g d) (take_step n j g' d') 0 (i + 1) v v'
        (λ t x y _ m r.
        block_put x y t j (at2 x n t j ⊖ g ⊗ at d t) (omega arith) p
        (same_n (at2 x n t j ⊖ g ⊗ at d t) (ap₂ ◌⊖◌ (as_same (at2 x n t j) (r.b.each t j (omega arith) (omega arith, p))) (ap₂ ◌⊗◌ e (as_same (at d t) (D.each t m)))) (sub-fits binary64 (at2 x n t j) (g ⊗ at d t))) r) h

    turn_scaled : (v v' : Vec) → Block n k i v v' → Block n k i (turn_columns n (i + 1) d v) (turn_columns n (i + 1) d' v')
    unfolding turn_columns
    turn_scaled v v' h =
        upto_keeps (Block n k i) (turn_column_step n (i + 1) d) (turn_column_step n (i + 1) d') 0 (i + 1) v v'
        (λ j x y _ m r. take_scaled j (column_dot n (i + 1) j x) (column_dot n (i + 1) j y) x y (omega arith) (dot_same j x y (omega arith) r) r) h

  -- ---- the transformation applied, where h is not zero

  column_over_lem : (h h' : Float) (v v' d d' : Vec) → h' ≡ h → Block n k i v v' → Places 0 (λ t. 0 < t) d d'
      → Places 0 (λ t. t < i + 1) (column_over n (i + 1) h v d) (column_over n (i + 1) h' v' d') × Places 0 (λ t. 0 < t) (column_over n (i + 1) h v d) (column_over n (i + 1) h' v' d')
  unfolding column_over
  column_over_lem h h' v v' d d' e b D =
      upto_both (λ j x y. Places 0 (λ t. t < j) x y × Places 0 (λ t. 0 < t) x y) (column_over_step n (i + 1) h v) (column_over_step n (i + 1) h' v') 0 (i + 1) d d' (omega arith)
      (λ j x y _ m r.
      let c : Number 0 (at2 v n j (i + 1) ⊘ h) (at2 v' n j (i + 1) ⊘ h') =
      same_n (at2 v n j (i + 1) ⊘ h) (ap₂ ◌⊘◌ (as_same (at2 v n j (i + 1)) (b.u.each j (i + 1) (omega arith) (omega arith, omega arith, m))) e) (div-fits binary64 (at2 v n j (i + 1)) h) in (
        place_set 0 (λ t. t < j) (λ t. t < j + 1) x y j (at2 v n j (i + 1) ⊘ h) (λ _. c) (λ t o q. less t j q o) r.0,
        place_set 0 (λ t. 0 < t) (λ t. 0 < t) x y j (at2 v n j (i + 1) ⊘ h) (λ _. c) (λ t o q. q) r.1,
      )) (place_as 0 (λ t. 0 < t) (λ t. t < 0) d d' (λ t q. absurd (omega arith)) D, D)

  apply_scaled : (h h' : Float) (v v' d d' : Vec) → h' ≡ h → Block n k i v v' → Places 0 (λ t. 0 < t) d d'
      → Block n k i (apply n (i + 1) h (v, d)).0 (apply n (i + 1) h' (v', d')).0 × Places 0 (λ t. 0 < t) (apply n (i + 1) h (v, d)).1 (apply n (i + 1) h' (v', d')).1
  unfolding apply
  apply_scaled h h' v v' d d' e b D = go (ne h zero64) (ne h' zero64) (ap (λ (x : Float). ne x zero64) e)
    where
      y : Places 0 (λ t. t < i + 1) (column_over n (i + 1) h v d) (column_over n (i + 1) h' v' d') × Places 0 (λ t. 0 < t) (column_over n (i + 1) h v d) (column_over n (i + 1) h' v' d')
      y = column_over_lem h h' v v' d d' e b D

      on : Float → Vec → Vec → Vec × Vec
      on h v d = (turn_columns n (i + 1) (column_over n (i + 1) h v d) v, column_over n (i + 1) h v d)

      go : (s t : Bool) → t ≡ s → Block n k i (cond s (on h v d) (v, d)).0 (cond t (on h' v' d') (v', d')).0 × Places 0 (λ t. 0 < t) (cond s (on h v d) (v, d)).1 (cond t (on h' v' d') (v', d')).1
      go true t q = rw q (turn_scaled (column_over n (i + 1) h v d) (column_over n (i + 1) h' v' d') y.0 v v' b, y.1)
      go false t q = rw q (b, D)

  -- ---- column i + 1 cleared

  record Clearing (j : ℕ) (v v' : Vec) : Type 0 where
    block : Block n k i v v'
    z : Cells n 0 (λ r c. (c ≡ i + 1) × (r < j)) v v'

  cleared : (v v' : Vec) → Block n k i v v' → Stands n k (i + 1) (clear_column n (i + 1) v) (clear_column n (i + 1) v')
  unfolding clear_column
  cleared v v' b =
      closed _ _ (upto_both Clearing (clear_column_step n (i + 1)) (clear_column_step n (i + 1)) 0 (i + 1) v v' (omega arith) step
      (record { block = b; z = cell_as n 0 _ _ v v' (λ r c _ q. absurd (omega (arith, q.1))) b.b }))
    where
      step : (j : ℕ) (x y : Vec) → 0 ≤ j → j < i + 1 → Clearing j x y → Clearing (j + 1) (clear_column_step n (i + 1) j x) (clear_column_step n (i + 1) j y)
      step j x y _ m r =
          let l : j < n = omega arith in
          let h = r.block in
          record {
            block = record {
              dg = cell_put n k _ _ x y j (i + 1) zero64 l (λ _. zero_n k) (λ _ _ _ t. t) h.dg;
              last = cell_put n k _ _ x y j (i + 1) zero64 l (λ _. zero_n k) (λ _ _ _ t. t) h.last;
              b = cell_put n 0 _ _ x y j (i + 1) zero64 l (λ _. zero_n 0) (λ _ _ _ t. t) h.b;
              u = cell_put n 0 _ _ x y j (i + 1) zero64 l (λ _. zero_n 0) (λ _ _ _ t. t) h.u;
              l = cell_put n 0 _ _ x y j (i + 1) zero64 l (λ _. zero_n 0) (λ _ _ _ t. t) h.l;
            };
            z = cell_put n 0 (λ r c. (c ≡ i + 1) × (r < j)) (λ r c. (c ≡ i + 1) × (r < j + 1)) x y j (i + 1) zero64 l (λ _. zero_n 0) (λ r c o t. (t.0, less r j t.1 (λ e. o (e, t.0)))) r.z;
          }

      closed : (x y : Vec) → Clearing (i + 1) x y → Stands n k (i + 1) x y
      closed x y r =
          let h = r.block in
          record {
            dg = cell_as n k _ _ x y (λ r c _ t. (t.0, omega (arith, t.1))) h.dg;
            last = cell_as n k _ _ x y (λ r c _ t. (t.0, omega (arith, t.1))) h.last;
            b = record { long = h.b.long; each = λ a c m t. pick a c m t (ltb c (i + 1)) refl };
            u = cell_as n 0 _ _ x y (λ r c _ t. (omega (arith, t.0), t.1, t.2)) h.u;
            l = h.l;
          }
        where
          pick : (a c : ℕ) → a < n → (a < i + 1) × (c ≤ i + 1) → (s : Bool) → ltb c (i + 1) ≡ s → Number 0 (at2 x n a c) (at2 y n a c)
          pick a c m t true e = r.block.b.each a c m (omega (arith, t.0), omega (arith, ltb-true c (i + 1) e))
          pick a c m t false e = r.z.each a c m (le_antisymm t.1 (ltb-false c (i + 1) e), t.0)

  accumulate_scaled : (x x' : Vec × Vec) → Stands n k i x.0 x'.0 → Places 0 (λ t. 0 < t) x.1 x'.1
      → Stands n k (i + 1) (accumulate n i x).0 (accumulate n i x').0 × Places 0 (λ t. 0 < t) (accumulate n i x).1 (accumulate n i x').1
  unfolding accumulate
  accumulate_scaled (v, d) (v', d') h D =
      let b = opened v v' h in
      let w = put2 (put2 v n (n - 1) i (at2 v n i i)) n i i one64 in
      let w' = put2 (put2 v' n (n - 1) i (at2 v' n i i)) n i i one64 in
      let a = apply_scaled (at d (i + 1)) (at d' (i + 1)) w w' d d' (as_same (at d (i + 1)) (D.each (i + 1) (omega arith))) b D in
      (cleared (apply n (i + 1) (at d (i + 1)) (w, d)).0 (apply n (i + 1) (at d' (i + 1)) (w', d')).0 a.0, a.1)

pub accumulation_scaled : (n k : ℕ) → 0 < n → (x x' : Vec × Vec) → Stands n k 0 x.0 x'.0 → Places 0 (λ t. 0 < t) x.1 x'.1
    → Stands n k (n - 1) (accumulation n x).0 (accumulation n x').0 × Places 0 (λ t. 0 < t) (accumulation n x).1 (accumulation n x').1
unfolding accumulation
accumulation_scaled n k p x x' h D =
    upto_both (λ i y y'. Stands n k i y.0 y'.0 × Places 0 (λ t. 0 < t) y.1 y'.1) (accumulate n) (accumulate n) 0 (n - 1) x x' (omega arith)
    (λ i y y' _ m r. accumulate_scaled n k i (omega arith) y y' r.0 r.1) (h, D)
