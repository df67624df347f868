-- The loop over the entries: what stands before entry k, what storing it leaves, where the loop ends.
use mathlib.Core.Path.{◌≡◌, refl, ap, sym, ◌∙◌, subst}
use mathlib.Core.Bool.{Bool, true, false}
use mathlib.Core.List.{List}
use mathlib.Core.Logic.{⊎_elim}
use Prim.Native.Nat.{ℕ, zero, suc, ◌+◌, ◌*◌, ◌/◌, ◌%◌, ◌≤◌, ◌<◌}
use native.Mathlib.Nat.{div-lt_iff_lt-mul, mod-lt, div-add-mod', eq-or-lt_of_le}
use native.Mathlib.Omega.{arith}
use borrow.Author.Tests.{lt-ltb, le-ltb}
use lib.IntN.{ℤ}
use lib.Ieee.{Float, nan, binary64, of_int}
use lib.ListN.{length, take}
use lib.Seq.{get_or-take}
use Rattle.grid.specs.Loop.{first}
use Rattle.grid.specs.LoopLaws.{first_here, first_next, first_none}
use Rattle.grid.specs.Real.{Vec, at}
use Rattle.grid.specs.Cell.{entry}
use Rattle.grid.specs.Table.{table}
use Rattle.grid.specs.TableLaws.{at_table, table_more, table_done, row_end}
use Rattle.answers.specs.Answers.{done}
use Rattle.answers.specs.declared.Answer.{Answer}
use Rattle.covariance.specs.MatrixEntries.{whole, cell_at}
use Rattle.covariance.specs.MatrixEntries.{first_over, matrix_of, computed}
use Rattle.covariance.specs.Over53.{over}
use Rattle.covariance.specs.StoredEntries.{stored, Above}
use Rattle.covariance.specs.SwappedEntries.{cell_is}

abbrev pub is_over : ℕ → ℕ → List ℤ → ℕ → Bool
is_over n N samples k = over (cell_at n N samples k)

abbrev pub float_at : ℕ → ℕ → List ℤ → ℕ → Float
float_at n N samples k = of_int binary64 (cell_at n N samples k)

-- the row and the column of entry k
pub cell_row : (n k : ℕ) → k < n * n → (0 < n) × (k / n < n) × (k % n < n)
cell_row zero k h = absurd (omega arith)
cell_row (suc m) k h = (omega arith, (div-lt_iff_lt-mul {k = suc m} {x = k} {y = suc m} (omega arith)).1 h, mod-lt k (omega arith))

-- before entry k: the entries before it are stored, and none of them was over
pub record SoFar (n N : ℕ) (samples : List ℤ) (k : ℕ) (m : Vec) : Type 0 where
  pub table : take k m ≡ table (float_at n N samples) k
  pub none : (j : ℕ) → j < k → is_over n N samples j ≡ false
  pub rest : first (is_over n N samples) k (n * n) ≡ first_over n N samples

module _ (n N : ℕ) (samples : List ℤ) where
  pub begun : (m : Vec) → SoFar n N samples 0 m
  unfolding first_over table
  begun m = record { table = refl; none = λ j h. absurd (omega arith); rest = refl }

  -- so the mirror image of an entry left of the diagonal is stored
  pub mirrored : (k : ℕ) (m : Vec) → k < n * n → SoFar n N samples k m → Above n N samples (k / n) (k % n) m
  mirrored k m l s = record { there = there; small = small }
    where
      x : ℕ
      x = k / n

      y : ℕ
      y = k % n

      in_row : (x < n) × (y < n)
      in_row = ((cell_row n k l).1, (cell_row n k l).2)

      before : y < x → y * n + x < k
      before h = omega (arith, row_end x n y h, div-add-mod' k n, in_row)

      there : y < x → entry m n y x ≡ of_int binary64 (whole samples N y x)
      there h =
          sym (get_or-take k m (y * n + x) nan (before h))
          ∙ ap (λ (v : Vec). at v (y * n + x)) s.table
          ∙ at_table (float_at n N samples) k (y * n + x) (before h)
          ∙ ap (of_int binary64) (cell_is n N samples y x in_row.0)

      small : y < x → over (whole samples N y x) ≡ false
      small h = ap over (sym (cell_is n N samples y x in_row.0)) ∙ s.none (y * n + x) (before h)

  -- an entry that is stored: one more stands there
  pub goes : (k : ℕ) (m : Vec) {o : Answer × Vec} → k < n * n → length m ≡ n * n → SoFar n N samples k m → o ≡ stored n N samples (k / n) (k % n) m → o.0.answer ≡ 0 → SoFar n N samples (k + 1) o.1
  unfolding stored
  goes k m {o} l h s e z = go (is_over n N samples k) refl
    where
      place : k / n * n + k % n ≡ k
      place = div-add-mod' k n

      refusal : ◌≡◌ {A = ℕ} 26 0 → ⊥
      refusal q = omega arith

      go : (b : Bool) → is_over n N samples k ≡ b → SoFar n N samples (k + 1) o.1
      go true f = absurd (refusal (rw (e, f) at z))
      go false f = rw (e, f, place) (record {
        table = table_more (float_at n N samples) m k (omega arith) s.table refl;
        none = λ j g. ⊎_elim (λ q. subst (λ (i : ℕ). is_over n N samples i ≡ false) (sym q) f) (s.none j) (eq-or-lt_of_le {n = j} {m = k} (omega arith));
        rest = first_next (is_over n N samples) k (n * n) l f s.rest;
      })

  -- an entry that is over: the first
  pub stops : (k : ℕ) (m m₀ : Vec) {o : Answer × Vec} → k < n * n → length m ≡ length m₀ → SoFar n N samples k m → o ≡ stored n N samples (k / n) (k % n) m → (o.0.answer ≡ 0 → ⊥) → o ≡ computed n N samples m₀
  unfolding stored computed
  stops k m m₀ {o} l h s e z = go (is_over n N samples k) refl
    where
      go : (b : Bool) → is_over n N samples k ≡ b → o ≡ computed n N samples m₀
      go false f = absurd (z (rw (e, f)))
      go true f =
          let k-is : k ≡ first_over n N samples = first_here (is_over n N samples) k (n * n) l f s.rest in
          e ∙ rw (f, div-add-mod' k n, ← k-is, lt-ltb k (n * n) l, h)

  pub ends : (k : ℕ) (m m₀ : Vec) → k ≤ n * n → n * n ≤ k → length m ≡ n * n → SoFar n N samples k m → (done 0, m) ≡ computed n N samples m₀
  unfolding computed matrix_of
  ends k m m₀ p q l s =
      rw (← first_none (is_over n N samples) k (n * n) q s.rest, le-ltb k (n * n) q, ← table_done (float_at n N samples) m p q l s.table)
