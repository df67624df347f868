-- A Ritz vector is the sum of the vectors in q, each by its number of the small problem's column. Laws only.
use Rattle.std.specs.Prelude.{◌≡◌, refl, Bool, true, false, drop}
use Rattle.std.proofs.Math.Path.{sym, ap}
use Rattle.std.proofs.Common.{◌∙◌, mul_comm, arith, get_or-take, get_or-drop}
use Prim.Native.Nat.{ℕ, zero, suc, ◌+◌, ◌-◌, ◌*◌, ◌≤◌, ◌<◌}
use Rattle.std.proofs.Math.Numerals.{add-one}
use Rattle.std.specs.Float.Ieee.{Float, mul, unlike, up, down}
use Rattle.std.specs.Float.{Format, nan, inf, fin}
use Rattle.std.proofs.Math.ListN.{length}
use Rattle.grid.specs.Loop.{upto}
use Rattle.grid.specs.LoopLaws.{upto_none, upto_more, upto_same}
use Rattle.grid.specs.Real.{Vec, at, zeros, ◌⊕◌, ◌⊗◌}
use Rattle.grid.specs.Cell.{entry}
use Rattle.grid.specs.TableLaws.{length_table, at_table, table_same, each, turns, turns_none, turns_more}
use Rattle.gram_schmidt.specs.Gram.{column_of}
use Rattle.matvec.specs.Matvec.{row_of, added}
use Rattle.matvec.specs.Strips.{column_step}
use Rattle.lanczos_pairs.specs.RitzPairs.{ritz, pair, pairs}

-- ---- a product is the same with its factors exchanged

unlike_swap : (s t : Bool) → unlike s t ≡ unlike t s
unlike_swap true true = refl
unlike_swap true false = refl
unlike_swap false true = refl
unlike_swap false false = refl

times_swap : (f : Format) (x y : Float) → mul f x y ≡ mul f y x
unfolding mul
times_swap f nan nan = refl
times_swap f nan (inf t) = refl
times_swap f nan (fin t n d) = refl
times_swap f (inf s) nan = refl
times_swap f (inf s) (inf t) = ap inf (unlike_swap s t)
times_swap f (inf s) (fin t n d) = rw (unlike_swap s t)
times_swap f (fin s m e) nan = refl
times_swap f (fin s m e) (inf t) = rw (unlike_swap s t)
times_swap f (fin s m e) (fin t n d) = rw (unlike_swap s t, mul_comm (m * up e) (n * up d), mul_comm (down e) (down d))

-- ---- the sum

module _ (n m : ℕ) (q vecs : Vec) (c : ℕ) where
  abbrev by : Vec
  by = column_of m m vecs c

  abbrev ritz_step : ℕ → Vec → Vec
  ritz_step j x = added n (entry vecs m j c) (row_of n j q) x

  turned_long : (k : ℕ) → length (turns (column_step n q by) n k) ≡ n
  unfolding turns
  turned_long k = length_table _ n

  -- number i of vector k
  number : (k i : ℕ) → i < n → at (row_of n k q) i ≡ entry q n k i
  number k i p = get_or-take (k * n + n - k * n) (drop (k * n) q) i nan (omega arith) ∙ get_or-drop (k * n) q i nan

  so_far : (k : ℕ) → k ≤ m → upto ritz_step 0 k (zeros n) ≡ turns (column_step n q by) n k
  unfolding added
  so_far zero h = upto_none _ 0 (zeros n) ∙ turns_none (column_step n q by) n
  so_far (suc k) h =
      let d : Vec = upto ritz_step 0 k (zeros n) in
      let f : Float = entry vecs m k c in
      let before : d ≡ turns (column_step n q by) n k = so_far k (omega arith) in
      rw (← add-one k) (upto_more ritz_step 0 k (zeros n) (omega arith)
      ∙ turns_more (column_step n q by) n k before
      (each (λ i x. x ⊕ f ⊗ at (row_of n k q) i) d n (ap length before ∙ turned_long k)
      ∙ table_same _ _ n (λ i p. ap (λ (t : Float). at d i ⊕ t) (times_swap _ f (at (row_of n k q) i) ∙ (λ z. number k i p z ⊗ sym (at_table (λ row. entry vecs m row c) m k (omega arith)) z)))))

  pub sum_is_ritz : {z x : Vec} → z ≡ by → x ≡ turns (column_step n q z) n m → x ≡ ritz n m q vecs c
  unfolding ritz
  sum_is_ritz e g = g ∙ ap (λ (y : Vec). turns (column_step n q y) n m) e ∙ sym (so_far m (omega arith))

-- ---- the pairs, by two orders that agree

pub pairs_same : (n k m found : ℕ) (q vals vecs : Vec) (o p : ℕ → ℕ) (x : Vec) → ((t : ℕ) → t < found → o t ≡ p t) → pairs n k m found q vals vecs o x ≡ pairs n k m found q vals vecs p x
unfolding pairs
pairs_same n k m found q vals vecs o p x h = upto_same _ _ 0 found x (λ t y _ l. ap (λ (c : ℕ). pair n k m q vals vecs c t y) (h t l))
