-- **index_points**: where `qr_q` answers 8 or 10, the index is that of the first column whose norm is not finite. **index_zero**: on every other answer it is 0. Laws only.
use Rattle.std.specs.Prelude.{◌≡◌, Bool, true, false, cond, ◌||◌, length}
use Rattle.std.proofs.Math.Path.{refl, ap, subst}
use Rattle.std.proofs.Common.{sym, ◌∙◌, add-one, arith}
use Prim.Native.Nat.{ℕ, zero, suc, ◌*◌, ◌<◌}
use Rattle.std.proofs.Math.Decide.{ℕ_discrete}
use borrow.Author.Tests.{ne_eqb}
use Rattle.std.proofs.Math.Dec.{ltb}
use Rattle.grid.specs.Loop.{upto}
use Rattle.grid.specs.LoopLaws.{upto_none, upto_more}
use Rattle.grid.specs.Real.{Vec}
use Rattle.leaves.specs.Leaf.{is_finite}
use Rattle.leaves.specs.Scan.{class_of, first_bad}
use Rattle.leaves.specs.ScanLaws.{class_cases}
use Rattle.leaves.specs.Finite.{First}
use Rattle.answers.specs.Answers.{answered, done, emptied}
use Rattle.answers.specs.Index.{AtMark, Indexed}
use Rattle.answers.specs.IndexLaws.{refuse_index, below, pointed, unless_indexed, by_check}
use Rattle.answers.proofs.OutcomeLaws.{refuse_few}
use Rattle.answers.specs.declared.Answer.{Answer}
use Rattle.answers.specs.Checks.{lengths}
use Rattle.answers.specs.ChecksLaws.{lengths_index}
use Rattle.answers.specs.ChecksLaws.{lengths_few}
use Rattle.gram_schmidt.specs.Gram.{column_of, less_columns_twice, norm}
use Rattle.gram_schmidt.specs.Unit.{normalised, put_column, finished}
use Rattle.qr_q.specs.QrQ.{column, columns, checks, qr_q}
use Rattle.qr_q.specs.Result.{column_step, class_some}
use Rattle.qr_q.specs.Index.{norm_at, Points}

-- ---- after j columns: every norm was finite, or the first that was not gave the answer

data Stood (m k : ℕ) (a : Vec) (j : ℕ) (x : Answer) : Type 0 where
  goes : x ≡ done 0 → ((i : ℕ) → i < j → is_finite (norm_at m k a i) ≡ true) → Stood m k a j x
  stops : (i c : ℕ) → x ≡ answered c i i 0 → First (norm_at m k a) j i c → Stood m k a j x

module _ (m k : ℕ) (a : Vec) where
  longer : (j i c : ℕ) → First (norm_at m k a) j i c → First (norm_at m k a) (suc j) i c
  longer j i c f = record { within = omega (arith, f.within); seen = f.seen; class = f.class; before = f.before }

  one_more : (j : ℕ) → Stood m k a j (columns m k a j).0 → Stood m k a (suc j) (column_step m k j (columns m k a j)).0
  unfolding column finished
  one_more j (stops i c e f) = rw (e, ne_eqb c 0 some) (stops i c refl (longer j i c f))
    where
      some : c ≡ 0 → ⊥
      some z = class_some (norm_at m k a i) (sym f.class ∙ z)
  one_more j (goes e f) = rw e (go (is_finite (norm_at m k a j)) refl)
    where
      q : Vec
      q = (columns m k a j).1

      c : Vec
      c = less_columns_twice m k j q (column_of m k q j)

      go : (b : Bool) → is_finite (norm_at m k a j) ≡ b
          → Stood m k a (suc j) (cond b (done 0, put_column m k j (normalised m (norm m c) c) q) (emptied (answered (class_of (norm m c)) j j 0) q)).0
      go true h = goes refl (λ i l. elim (ℕ_discrete i j) [
        | yes s ↦ subst (λ (t : ℕ). is_finite (norm_at m k a t) ≡ true) (sym s) h
        | no d ↦ f i (omega arith)
      ])
      go false h = stops j (class_of (norm m c)) refl (record { within = omega arith; seen = h; class = refl; before = f })

  stood : (j : ℕ) → Stood m k a j (columns m k a j).0
  unfolding columns
  stood zero = goes (ap (λ (s : Answer × Vec). s.0) (upto_none (column_step m k) 0 (done 0, a))) (λ i l. absurd (omega arith))
  stood (suc j) =
      subst (λ (s : Answer × Vec). Stood m k a (suc j) s.0)
      (sym (upto_more (column_step m k) 0 j (done 0, a) (omega arith)) ∙ ap (λ (t : ℕ). upto (column_step m k) 0 t (done 0, a)) (add-one j))
      (one_more j (stood j))

  columns_indexed : Indexed (Points m k a) (columns m k a k).0
  columns_indexed = go (columns m k a k).0 (stood k)
    where
      go : (x : Answer) → Stood m k a k x → Indexed (Points m k a) x
      go x (goes e f) = rw e (below (Points m k a) _ (omega arith) refl)
      go x (stops i c e f) =
          rw e (pointed (Points m k a) _ (subst (λ (t : ℕ). AtMark (answered t i i 0)) (sym f.class) (class_cases (norm_at m k a i))) (record { first = f; column = refl }))

  -- ---- the whole

  indexed : (x : Vec) → Indexed (Points m k a) (qr_q m k a x).0
  unfolding qr_q checks
  indexed x =
      by_check (Points m k a) (λ (s : Answer × Vec). s.0) (checks m k (length a) (length x)) _ _ refl
      (omega (arith, refuse_few (ltb 256 m || ltb 256 k) 1 0 (lengths (length a) (m * k) (length x) (m * k) 0 0) (omega arith) (lengths_few (length a) (m * k) (length x) (m * k) 0 0)))
      (refuse_index (ltb 256 m || ltb 256 k) 1 0 (lengths (length a) (m * k) (length x) (m * k) 0 0) (lengths_index (length a) (m * k) (length x) (m * k) 0 0))
      (unless_indexed (Points m k a) (first_bad a) x (columns m k a k) columns_indexed)

  pub qr_q_index_points : (x : Vec) → AtMark (qr_q m k a x).0 → Points m k a (qr_q m k a x).0
  qr_q_index_points x = (indexed x).points

  pub qr_q_index_zero : (x : Vec) → (AtMark (qr_q m k a x).0 → ⊥) → (qr_q m k a x).0.index ≡ 0
  qr_q_index_zero x = (indexed x).zero
