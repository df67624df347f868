-- How the code lays a result out, factor by factor, and that this is the result; no promise speaks of it. Laws only.
use Rattle.std.specs.Prelude.{◌≡◌, refl, Bool, true, false, cond, ltb, leb, eqb, Float, length, set, get_or, replicate}
use Rattle.std.proofs.Math.Path.{sym, ap, subst}
use Rattle.std.proofs.Common.{◌∙◌, zero-mul, mod-lt, div-lt_iff_lt-mul, arith, length-set, get_or-set_same, get_or-set_other, ext_get_or}
use mathlib.Core.List.{List, ◌++◌}
use Prim.Native.Nat.{ℕ, zero, suc, ◌+◌, ◌-◌, ◌*◌, ◌/◌, ◌%◌, ◌≤◌, ◌<◌}
use Rattle.std.proofs.Math.Nat.{mul-one, div-add-mod'}
use Rattle.std.proofs.Math.Decide.{ℕ_discrete, dec_lt}
use Rattle.std.specs.Float.Ieee.{nan}
use Rattle.std.proofs.Math.ListN.{length-append, get_or-append}
use Rattle.std.proofs.Math.Seq.{get_or-append-add}
use Rattle.grid.specs.Loop.{upto}
use Rattle.grid.specs.LoopLaws.{upto_keeps, upto_both}
use Rattle.grid.specs.Real.{Vec, at}
use Rattle.grid.specs.Table.{table, rows}
use Rattle.grid.specs.TableLaws.{length_table, length_rows, at_table, at_rows}
use Rattle.grid.specs.CellLaws.{cell, one_place, upto_long}
use Rattle.answers.specs.Answers.{least, present, decomposition_length}
use Rattle.answers.proofs.OutcomeLaws.{present_is, present_none}
use Rattle.svd_sort_svd_descending.specs.Rank.{noted, order_noted}
use Rattle.svd_sort_svd_descending.specs.Result.{longest, value_of, u_factor, v_factor, order_of, sorted_out}

-- so many numbers of w go to every down-th number of the result
abbrev pub cell_step : ℕ → ℕ → ℕ → Vec → ℕ → Vec → Vec
cell_step from to down w i res = set res (to + i * down) (at w (from + i))

-- `cell_step` for i = 0 .. rows - 1: a column goes out
unfoldable pub column_out : ℕ → ℕ → ℕ → ℕ → Vec → Vec → Vec
column_out from rows to down w res = upto (cell_step from to down w) 0 rows res

-- A factor of so many rows stands in w column by column. Its cell (i, o k) goes to the result's index to + k·across + i·down.
abbrev pub sort_step : ℕ → ℕ → ℕ → ℕ → ℕ → Vec → List ℕ → ℕ → Vec → Vec
sort_step from rows to down across w o k res = column_out (from + get_or o k 0 * rows) rows (to + k * across) down w res

-- `sort_step` for k = 0 .. cols - 1: a factor goes out, its columns in the order o
unfoldable pub factor_out : ℕ → ℕ → ℕ → ℕ → ℕ → ℕ → Vec → List ℕ → Vec → Vec
factor_out cols from rows to down across w o res = upto (sort_step from rows to down across w o) 0 cols res

-- k where b holds, else 0
abbrev pub offset : Bool → ℕ → ℕ
offset b k = cond b k 0

-- the three factors in turn: the values, a factor of one row; U, if wanted; V^T, if wanted
unfoldable pub out_of : ℕ → ℕ → ℕ → ℕ → Vec → Vec → Vec
out_of m n want_u want_vt w res =
    let r = least m n in
    let o = noted (λ p. at w (longest m n * r + r * r + p)) r (replicate 256 0) in
    factor_out (present want_vt r) (offset (leb n m) (longest m n * r)) n (r + present want_u (m * r)) 1 n w o
    (factor_out (present want_u r) (offset (ltb m n) (longest m n * r)) m r r 1 w o
    (factor_out r (longest m n * r + r * r) 1 0 1 1 w o res))

-- ---- what stands below the place at which a part begins, and the length

column_below : (from rows to down x : ℕ) (w res : Vec) → x < to → at (column_out from rows to down w res) x ≡ at res x
unfolding column_out
column_below from rows to down x w res h =
    upto_keeps (λ y z. at y x ≡ at res x) (cell_step from to down w) (cell_step from to down w) 0 rows res res
    (λ i y z a b e. get_or-set_other y (to + i * down) x (at w (from + i)) nan (λ q. omega arith) ∙ e) refl

factor_below : (cols from rows to down across x : ℕ) (w : Vec) (o : List ℕ) (res : Vec) → x < to → at (factor_out cols from rows to down across w o res) x ≡ at res x
unfolding factor_out
factor_below cols from rows to down across x w o res h =
    upto_keeps (λ y z. at y x ≡ at res x) (sort_step from rows to down across w o) (sort_step from rows to down across w o) 0 cols res res
    (λ k y z a b e. column_below (from + get_or o k 0 * rows) rows (to + k * across) down x w y (omega arith) ∙ e) refl

column_long : (from rows to down : ℕ) (w res : Vec) → length (column_out from rows to down w res) ≡ length res
unfolding column_out
column_long from rows to down w res = upto_long (λ y. y) (cell_step from to down w) 0 rows res (λ i y. length-set y _ _)

factor_long : (cols from rows to down across : ℕ) (w : Vec) (o : List ℕ) (res : Vec) → length (factor_out cols from rows to down across w o res) ≡ length res
unfolding factor_out
factor_long cols from rows to down across w o res = upto_long (λ y. y) (sort_step from rows to down across w o) 0 cols res (λ k y. column_long _ rows _ down w y)

-- ---- two loops that store val k i at idx k i

module _ (cols rows : ℕ) (idx : ℕ → ℕ → ℕ) (val : ℕ → ℕ → Float) where
  abbrev put : ℕ → ℕ → Vec → Vec
  put k i res = set res (idx k i) (val k i)

  abbrev column : ℕ → Vec → Vec
  column k res = upto (put k) 0 rows res

  pub stored_else : (x : ℕ) (res : Vec) → ((k i : ℕ) → k < cols → i < rows → x ≡ idx k i → ⊥) → at (upto column 0 cols res) x ≡ at res x
  stored_else x res h =
      upto_keeps (λ y z. at y x ≡ at res x) column column 0 cols res res
      (λ k y z a b e. upto_keeps (λ u v. at u x ≡ at res x) (put k) (put k) 0 rows y y (λ i u v c d g. get_or-set_other u (idx k i) x (val k i) nan (h k i b d) ∙ g) e) refl

  module _ (n : ℕ) (room : (k i : ℕ) → k < cols → i < rows → idx k i < n) (apart : (k i l j : ℕ) → k < cols → i < rows → l < cols → j < rows → idx k i ≡ idx l j → (k ≡ l) × (i ≡ j)) where
    -- columns before k are there, and of column k the first i
    record There (k i : ℕ) (res : Vec) : Type 0 where
      long : length res ≡ n
      past : (l j : ℕ) → l < k → j < rows → l < cols → at res (idx l j) ≡ val l j
      now : (j : ℕ) → j < i → j < rows → at res (idx k j) ≡ val k j

    one_cell : (k i : ℕ) (res : Vec) → k < cols → i < rows → There k i res → There k (i + 1) (put k i res)
    one_cell k i res p q s =
        record {
          long = length-set res _ _ ∙ s.long;
          past = λ l j a b c. other l j c b (λ e. omega (arith, e.0)) ∙ s.past l j a b c;
          now = now_at;
        }
      where
        other : (l j : ℕ) → l < cols → j < rows → ((l ≡ k) × (j ≡ i) → ⊥) → at (put k i res) (idx l j) ≡ at res (idx l j)
        other l j a b d = get_or-set_other res (idx k i) (idx l j) (val k i) nan (λ e. d (apart l j k i a b p q e))

        now_at : (j : ℕ) → j < i + 1 → j < rows → at (put k i res) (idx k j) ≡ val k j
        now_at j a b = elim (ℕ_discrete j i) [
          | yes e ↦
              subst (λ (t : ℕ). at (put k i res) (idx k t) ≡ val k t) (sym e)
              (get_or-set_same res (idx k i) (val k i) nan (subst (λ (t : ℕ). idx k i < t) (sym s.long) (room k i p q)))
          | no d ↦ other k j p b (λ e. d e.1) ∙ s.now j (omega arith) b
        ]

    one_column : (k : ℕ) (res : Vec) → k < cols → There k 0 res → There (k + 1) 0 (column k res)
    one_column k res p s =
        let t : There k rows (column k res) = upto_both (λ i x y. There k i x) (put k) (put k) 0 rows res res (omega arith) (λ i x y a b h. one_cell k i x p b h) s in
        record { long = t.long; past = whole t; now = λ j a b. absurd (omega arith) }
      where
        whole : {y : Vec} → There k rows y → (l j : ℕ) → l < k + 1 → j < rows → l < cols → at y (idx l j) ≡ val l j
        whole {y} t l j a b c = elim (ℕ_discrete l k) [
          | yes e ↦ subst (λ (u : ℕ). at y (idx u j) ≡ val u j) (sym e) (t.now j b b)
          | no d ↦ t.past l j (omega arith) b c
        ]

    pub stored_at : (res : Vec) → length res ≡ n → (k i : ℕ) → k < cols → i < rows → at (upto column 0 cols res) (idx k i) ≡ val k i
    stored_at res l k i p q =
        let t : There cols 0 (upto column 0 cols res) =
        upto_both (λ k x y. There k 0 x) column column 0 cols res res (omega arith) (λ k x y a b h. one_column k x b h)
        (record { long = l; past = λ l j a b c. absurd (omega arith); now = λ j a b. absurd (omega arith) }) in
        t.past k i p q p

-- so every cell of a factor
factor_at : (cols from rows to down across : ℕ) (w : Vec) (o : List ℕ) (n : ℕ) → ((k i : ℕ) → k < cols → i < rows → to + k * across + i * down < n)
    → ((k i l j : ℕ) → k < cols → i < rows → l < cols → j < rows → to + k * across + i * down ≡ to + l * across + j * down → (k ≡ l) × (i ≡ j))
    → (res : Vec) → length res ≡ n → (k i : ℕ) → k < cols → i < rows
    → at (factor_out cols from rows to down across w o res) (to + k * across + i * down) ≡ at w (from + get_or o k 0 * rows + i)
unfolding factor_out column_out
factor_at cols from rows to down across w o = stored_at cols rows (λ k i. to + k * across + i * down) (λ k i. at w (from + get_or o k 0 * rows + i))

-- the columns as the code notes them
abbrev list_of : ℕ → ℕ → Vec → List ℕ
list_of m n w = noted (value_of m n w) (least m n) (replicate 256 0)

-- ---- in a result as it is laid out

-- the values are a factor of one row, and what comes behind them leaves them alone
out_values : (m n want_u want_vt : ℕ) (w res : Vec) → least m n ≤ length res → (k : ℕ) → k < least m n
    → at (out_of m n want_u want_vt w res) k ≡ at w (longest m n * least m n + least m n * least m n + get_or (list_of m n w) k 0)
unfolding out_of
out_values m n want_u want_vt w res long k h =
    let from : ℕ = longest m n * least m n + least m n * least m n in
    let o : List ℕ = list_of m n w in
    factor_below (present want_vt (least m n)) (offset (leb n m) (longest m n * least m n)) n (least m n + present want_u (m * least m n)) 1 n k w _ _ (omega arith)
    ∙ factor_below (present want_u (least m n)) (offset (ltb m n) (longest m n * least m n)) m (least m n) (least m n) 1 k w _ _ h
    ∙ ap (at (factor_out (least m n) from 1 0 1 1 w o res)) (omega (arith, mul-one k))
    ∙ factor_at (least m n) from 1 0 1 1 w o (length res)
    (λ k i a b. omega (arith, mul-one k, mul-one i))
    (λ k i l j a b c d e. (omega (arith, mul-one k, mul-one i, mul-one l, mul-one j), omega arith))
    res refl k 0 h (omega arith)
    ∙ ap (at w) (omega (arith, mul-one (get_or o k 0)))

module _ (m n want_u want_vt : ℕ) (w res : Vec) (long : length res ≡ decomposition_length m n want_u want_vt) where
  out_u : (want_u ≡ 0 → ⊥) → (i k : ℕ) → i < m → k < least m n
      → at (out_of m n want_u want_vt w res) (least m n + (i * least m n + k)) ≡ u_factor m n w i (get_or (list_of m n w) k 0)
  unfolding out_of decomposition_length
  out_u flag i k p q =
      let r : ℕ = least m n in
      let o : List ℕ = list_of m n w in
      let s : Vec = factor_out r (longest m n * r + r * r) 1 0 1 1 w o res in
      let u : Vec = factor_out (present want_u r) (offset (ltb m n) (longest m n * r)) m r r 1 w o s in
      let all : present want_u (m * r) ≡ m * r = present_is want_u (m * r) flag in
      let cols : present want_u r ≡ r = present_is want_u r flag in
      let below : r + (i * r + k) < r + present want_u (m * r) = omega (arith, all, cell m r i k p q) in
      factor_below (present want_vt r) (offset (leb n m) (longest m n * r)) n (r + present want_u (m * r)) 1 n (r + (i * r + k)) w o u below
      ∙ ap (at u) (sym (index i k))
      ∙ factor_at (present want_u r) (offset (ltb m n) (longest m n * r)) m r r 1 w o (decomposition_length m n want_u want_vt)
      (λ k i a b. subst (λ (t : ℕ). t < decomposition_length m n want_u want_vt) (sym (index i k)) (omega (arith, all, cell m r i k b (subst (λ (t : ℕ). k < t) cols a))))
      (λ k i l j a b c d e. one_place r k i l j (subst (λ (t : ℕ). k < t) cols a) (subst (λ (t : ℕ). l < t) cols c) (omega (arith, e, index i k, index j l)))
      s (factor_long r (longest m n * r + r * r) 1 0 1 1 w o res ∙ long) k i (subst (λ (t : ℕ). k < t) (sym cols) q) p
    where
      index : (i k : ℕ) → least m n + k * 1 + i * least m n ≡ least m n + (i * least m n + k)
      index i k = omega (arith, mul-one k)

  out_vt : (want_vt ≡ 0 → ⊥) → (k j : ℕ) → k < least m n → j < n
      → at (out_of m n want_u want_vt w res) (least m n + present want_u (m * least m n) + (k * n + j)) ≡ v_factor m n w j (get_or (list_of m n w) k 0)
  unfolding out_of decomposition_length
  out_vt flag k j p q =
      let r : ℕ = least m n in
      let o : List ℕ = list_of m n w in
      let s : Vec = factor_out r (longest m n * r + r * r) 1 0 1 1 w o res in
      let u : Vec = factor_out (present want_u r) (offset (ltb m n) (longest m n * r)) m r r 1 w o s in
      let to : ℕ = r + present want_u (m * r) in
      let all : present want_vt (r * n) ≡ r * n = present_is want_vt (r * n) flag in
      let cols : present want_vt r ≡ r = present_is want_vt r flag in
      ap (at (factor_out (present want_vt r) (offset (leb n m) (longest m n * r)) n to 1 n w o u)) (sym (index to k j))
      ∙ factor_at (present want_vt r) (offset (leb n m) (longest m n * r)) n to 1 n w o (decomposition_length m n want_u want_vt)
      (λ k i a b. subst (λ (t : ℕ). t < decomposition_length m n want_u want_vt) (sym (index to k i)) (omega (arith, all, cell r n k i (subst (λ (t : ℕ). k < t) cols a) b)))
      (λ k i l j a b c d e. turned (one_place n i k j l b d (omega (arith, e, index to k i, index to l j))))
      u (factor_long (present want_u r) (offset (ltb m n) (longest m n * r)) m r r 1 w o s ∙ factor_long r (longest m n * r + r * r) 1 0 1 1 w o res ∙ long) k j
      (subst (λ (t : ℕ). k < t) (sym cols) p) q
    where
      index : (to k i : ℕ) → to + k * n + i * 1 ≡ to + (k * n + i)
      index to k i = omega (arith, mul-one i)

      turned : {a b c d : ℕ} → (a ≡ b) × (c ≡ d) → (c ≡ d) × (a ≡ b)
      turned t = (t.1, t.0)

-- ---- in the result

-- none or all of k, times r
present_times : (flag k r : ℕ) → present flag k * r ≡ present flag (k * r)
unfolding present
present_times flag k r = go (eqb flag 0)
  where
    go : (b : Bool) → cond b 0 k * r ≡ cond b 0 (k * r)
    go true = zero-mul r
    go false = refl

module _ (m n want_u want_vt : ℕ) (w : Vec) where
  abbrev values_out : Vec
  values_out = table (λ k. value_of m n w (order_of m n w k)) (least m n)

  abbrev u_out : Vec
  u_out = rows (λ i. table (λ k. u_factor m n w i (order_of m n w k)) (least m n)) (present want_u m)

  abbrev vt_out : Vec
  vt_out = rows (λ k. table (λ j. v_factor m n w j (order_of m n w k)) n) (present want_vt (least m n))

  u_long : length u_out ≡ present want_u (m * least m n)
  u_long = length_rows _ (least m n) (present want_u m) (λ j. length_table _ (least m n)) ∙ present_times want_u m (least m n)

  vt_long : length vt_out ≡ present want_vt (least m n * n)
  vt_long = length_rows _ n (present want_vt (least m n)) (λ j. length_table _ n) ∙ present_times want_vt (least m n) n

  pub sorted_long : length (sorted_out m n want_u want_vt w) ≡ decomposition_length m n want_u want_vt
  unfolding sorted_out decomposition_length
  sorted_long =
      length-append values_out (u_out ++ vt_out)
      ∙ omega (arith, length_table (λ k. value_of m n w (order_of m n w k)) (least m n), length-append u_out vt_out, u_long, vt_long)

  pub sorted_values : (k : ℕ) → k < least m n → at (sorted_out m n want_u want_vt w) k ≡ value_of m n w (order_of m n w k)
  unfolding sorted_out
  sorted_values k h =
      get_or-append values_out (u_out ++ vt_out) nan k (omega (arith, length_table (λ k. value_of m n w (order_of m n w k)) (least m n)))
      ∙ at_table (λ k. value_of m n w (order_of m n w k)) (least m n) k h

  behind : (x : ℕ) → at (sorted_out m n want_u want_vt w) (least m n + x) ≡ at (u_out ++ vt_out) x
  unfolding sorted_out
  behind x =
      ap (λ (l : ℕ). at (values_out ++ (u_out ++ vt_out)) (l + x)) (sym (length_table (λ k. value_of m n w (order_of m n w k)) (least m n)))
      ∙ get_or-append-add values_out (u_out ++ vt_out) x nan

  pub sorted_u : (want_u ≡ 0 → ⊥) → (i k : ℕ) → i < m → k < least m n → at (sorted_out m n want_u want_vt w) (least m n + (i * least m n + k)) ≡ u_factor m n w i (order_of m n w k)
  sorted_u flag i k p q =
      let all : present want_u m ≡ m = present_is want_u m flag in
      behind (i * least m n + k)
      ∙ get_or-append u_out vt_out nan (i * least m n + k) (omega (arith, u_long, present_is want_u (m * least m n) flag, cell m (least m n) i k p q))
      ∙ at_rows (λ i. table (λ k. u_factor m n w i (order_of m n w k)) (least m n)) (least m n) (present want_u m) i k (λ j. length_table _ (least m n)) (omega (arith, all, p)) q
      ∙ at_table (λ k. u_factor m n w i (order_of m n w k)) (least m n) k q

  pub sorted_vt : (want_vt ≡ 0 → ⊥) → (k j : ℕ) → k < least m n → j < n
      → at (sorted_out m n want_u want_vt w) (least m n + present want_u (m * least m n) + (k * n + j)) ≡ v_factor m n w j (order_of m n w k)
  sorted_vt flag k j p q =
      let all : present want_vt (least m n) ≡ least m n = present_is want_vt (least m n) flag in
      let there : least m n + present want_u (m * least m n) + (k * n + j) ≡ least m n + (length u_out + (k * n + j)) = omega (arith, u_long) in
      ap (at (sorted_out m n want_u want_vt w)) there
      ∙ behind (length u_out + (k * n + j))
      ∙ get_or-append-add u_out vt_out (k * n + j) nan
      ∙ at_rows (λ k. table (λ j. v_factor m n w j (order_of m n w k)) n) n (present want_vt (least m n)) k j (λ i. length_table _ n) (omega (arith, all, p)) q
      ∙ at_table (λ j. v_factor m n w j (order_of m n w k)) n j q

-- a part that has a number is wanted
pub in_part : (flag count y : ℕ) → y < present flag count → (flag ≡ 0 → ⊥) × (y < count)
in_part flag count y h = elim (ℕ_discrete flag 0) [
  | yes e ↦ absurd (omega (arith, present_none flag count e))
  | no d ↦ (d, subst (λ (t : ℕ). y < t) (present_is flag count d) h)
]

-- and rows that have one have columns
pub some : (a b y : ℕ) → y < b * a → 0 < a
some zero b y h = absurd (omega arith)
some (suc a) b y h = omega arith

-- what the code lays out is the result, cell by cell
module _ (m n want_u want_vt : ℕ) (w res : Vec) (few : least m n ≤ 256) (long : length res ≡ decomposition_length m n want_u want_vt) where
  abbrev Same : ℕ → Type 0
  Same x = at (out_of m n want_u want_vt w res) x ≡ at (sorted_out m n want_u want_vt w) x

  named : (k : ℕ) → k < least m n → get_or (list_of m n w) k 0 ≡ order_of m n w k
  named k h = order_noted (value_of m n w) (least m n) k (omega arith)

  same_value : (k : ℕ) → k < least m n → Same k
  unfolding decomposition_length
  same_value k h = out_values m n want_u want_vt w res (omega (arith, long)) k h ∙ ap (value_of m n w) (named k h) ∙ sym (sorted_values m n want_u want_vt w k h)

  same_u : (want_u ≡ 0 → ⊥) → (i k : ℕ) → i < m → k < least m n → Same (least m n + (i * least m n + k))
  same_u flag i k p q = out_u m n want_u want_vt w res long flag i k p q ∙ ap (u_factor m n w i) (named k q) ∙ sym (sorted_u m n want_u want_vt w flag i k p q)

  same_vt : (want_vt ≡ 0 → ⊥) → (k j : ℕ) → k < least m n → j < n → Same (least m n + present want_u (m * least m n) + (k * n + j))
  same_vt flag k j p q = out_vt m n want_u want_vt w res long flag k j p q ∙ ap (v_factor m n w j) (named k p) ∙ sym (sorted_vt m n want_u want_vt w flag k j p q)

  same_cell : (x : ℕ) → x < decomposition_length m n want_u want_vt → Same x
  unfolding decomposition_length
  same_cell x l = elim (dec_lt x r) [
    | yes h ↦ same_value x h
    | no h ↦ elim (dec_lt x (r + present want_u (m * r))) [
      | yes g ↦
          let q = in_part want_u (m * r) (x - r) (omega arith) in
          let s : 0 < r = some r m (x - r) q.1 in
          let e : r + ((x - r) / r * r + (x - r) % r) ≡ x = omega (arith, div-add-mod' (x - r) r) in
          subst Same e (same_u q.0 ((x - r) / r) ((x - r) % r) ((div-lt_iff_lt-mul s).1 q.1) (mod-lt (x - r) s))
      | no g ↦
          let y : ℕ = x - (r + present want_u (m * r)) in
          let q = in_part want_vt (r * n) y (omega arith) in
          let s : 0 < n = some n r y q.1 in
          let e : r + present want_u (m * r) + (y / n * n + y % n) ≡ x = omega (arith, div-add-mod' y n) in
          subst Same e (same_vt q.0 (y / n) (y % n) ((div-lt_iff_lt-mul s).1 q.1) (mod-lt y s))
    ]
  ]
    where
      r : ℕ
      r = least m n

  out_long : length (out_of m n want_u want_vt w res) ≡ decomposition_length m n want_u want_vt
  unfolding out_of
  out_long =
      factor_long (present want_vt (least m n)) _ n _ 1 n _ _ _
      ∙ factor_long (present want_u (least m n)) _ m _ (least m n) 1 _ _ _
      ∙ factor_long (least m n) _ 1 0 1 1 _ _ _
      ∙ long

  pub out_sorted : out_of m n want_u want_vt w res ≡ sorted_out m n want_u want_vt w
  out_sorted =
      ext_get_or nan (out_of m n want_u want_vt w res) (sorted_out m n want_u want_vt w) (out_long ∙ sym (sorted_long m n want_u want_vt w))
      (λ x l. same_cell x (subst (λ (t : ℕ). x < t) out_long l))
