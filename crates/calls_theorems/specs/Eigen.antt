-- Calls of `symmetric_eigen` that meet its promise: x and y are what they came back with. Laws only.
use Rattle.std.specs.Prelude.{◌≡◌, true, ◌↔◌, ℕ, ◌+◌, ◌*◌, ◌<◌, ◌≤◌, length}
use Rattle.std.proofs.Common.{sym, ap, ◌∙◌, subst}
use Rattle.std.specs.Float.Ieee.{le}
use Rattle.grid.specs.Real.{Vec, at}
use Rattle.leaves.specs.Leaf.{is_finite}
use Rattle.answers.specs.Answers.{done, answered, refused}
use Rattle.answers.specs.Early.{EarlyOr12}
use Rattle.answers.specs.Index.{Class, AtMark}
use Rattle.eigen_theorems.specs.Tql2Outcome.{bad, used}
use Rattle.eigen_symmetric_eigen.specs.SymmetricEigen.{eigen}
use Rattle.eigen_theorems.specs.Outcome.{Outcome, Promised, Taken, Done, Halted, Broken0, Broken2, Columns, Points}
use Rattle.eigen_theorems.proofs.OutcomeLaws.{done_exactly, limit_exactly, mark0_exactly, mark1_exactly, mark2_exactly}
use Rattle.eigen_theorems.proofs.Result.{values_ascend, columns_with_values, finite_out}
use Rattle.eigen_theorems.specs.OldContents.{eigen_old_contents}
use Rattle.eigen_theorems.specs.Edition.{edition_refused}
use Rattle.eigen_theorems.proofs.Index.{index_points, index_zero}

-- each number exactly where the scope gives it
module _ (n limit edition : ℕ) (a work result : Vec) (x : Outcome) (p : Promised n limit edition a work result x) (f : Taken n limit edition a work result) where
  pub done_exactly_calls : (c : ℕ) → (x.0 ≡ done c) ↔ ((values : Vec) × (vectors : Vec) × Done n limit edition a c values vectors)
  done_exactly_calls c = subst (λ (o : Outcome). (o.0 ≡ done c) ↔ ((values : Vec) × (vectors : Vec) × Done n limit edition a c values vectors)) (sym p) (done_exactly n limit edition a work result f c)

  pub limit_exactly_calls : (l c : ℕ) → (x.0 ≡ answered 9 l 0 c) ↔ Halted n limit edition a used l c
  limit_exactly_calls l c = subst (λ (o : Outcome). (o.0 ≡ answered 9 l 0 c) ↔ Halted n limit edition a used l c) (sym p) (limit_exactly n limit edition a work result f l c)

  pub mark0_exactly_calls : (b i : ℕ) → Class b → (x.0 ≡ answered b 0 i 0) ↔ Broken0 n a b i
  mark0_exactly_calls b i k = subst (λ (o : Outcome). (o.0 ≡ answered b 0 i 0) ↔ Broken0 n a b i) (sym p) (mark0_exactly n limit edition a work result f b i k)

  pub mark1_exactly_calls : (b i c : ℕ) → Class b → (x.0 ≡ answered b 1 i c) ↔ ((l : ℕ) × Halted n limit edition a (bad b i) l c)
  mark1_exactly_calls b i c k =
      subst (λ (o : Outcome). (o.0 ≡ answered b 1 i c) ↔ ((l : ℕ) × Halted n limit edition a (bad b i) l c)) (sym p) (mark1_exactly n limit edition a work result f b i c k)

  pub mark2_exactly_calls : (b i c : ℕ) → Class b → (x.0 ≡ answered b 2 i c) ↔ Broken2 n limit edition a b i c
  mark2_exactly_calls b i c k = subst (λ (o : Outcome). (o.0 ≡ answered b 2 i c) ↔ Broken2 n limit edition a b i c) (sym p) (mark2_exactly n limit edition a work result f b i c k)

-- what the index says
module _ (n limit edition : ℕ) (a work result : Vec) (x : Outcome) (p : Promised n limit edition a work result x) where
  pub index_points_calls : AtMark x.0 → Points n limit edition a x.0
  index_points_calls = subst (λ (o : Outcome). AtMark o.0 → Points n limit edition a o.0) (sym p) (index_points n limit edition a work result)

  pub index_zero_calls : (AtMark x.0 → ⊥) → x.0.index ≡ 0
  index_zero_calls = subst (λ (o : Outcome). (AtMark o.0 → ⊥) → o.0.index ≡ 0) (sym p) (index_zero n limit edition a work result)

-- where it is done
module _ (n limit edition : ℕ) (a work result : Vec) (x : Outcome) (p : Promised n limit edition a work result x) (z : x.0.answer ≡ 0) where
  done0 : (eigen n limit edition a work result).0.answer ≡ 0
  done0 = ap (λ (o : Outcome). o.0.answer) (sym p) ∙ z

  pub values_ascend_calls : (i j : ℕ) → i < j → j < n → le (at x.2 i) (at x.2 j) ≡ true
  values_ascend_calls i j l h = subst (λ (o : Outcome). le (at o.2 i) (at o.2 j) ≡ true) (sym p) (values_ascend n limit edition a work result done0 i j l h)

  pub columns_with_values_calls : 0 < n → Columns n limit edition a x.0.count x.2
  columns_with_values_calls s = subst (λ (o : Outcome). Columns n limit edition a o.0.count o.2) (sym p) (columns_with_values n limit edition a work result done0 s)

  pub finite_out_calls : (k : ℕ) → k < n + n * n → is_finite (at x.2 k) ≡ true
  finite_out_calls k l = subst (λ (o : Outcome). is_finite (at o.2 k) ≡ true) (sym p) (finite_out n limit edition a work result done0 k l)

-- two calls that differ in what work and result held before
pub eigen_old_contents_calls : (n limit edition : ℕ) (a work result work' result' : Vec) (x y : Outcome) → length work ≡ length work' → length result ≡ length result'
    → Promised n limit edition a work result x → Promised n limit edition a work' result' y → (EarlyOr12 x.0 → ⊥) → x ≡ y
eigen_old_contents_calls n limit edition a work result work' result' x y lw lr p q h =
    p ∙ eigen_old_contents n limit edition a work result work' result' lw lr (λ e. h (subst (λ (o : Outcome). EarlyOr12 o.0) (sym p) e)) ∙ sym q

-- an edition that is neither 1 nor 2
pub edition_refused_calls : (n limit edition : ℕ) (a work result : Vec) (x : Outcome) → Promised n limit edition a work result x → n ≤ 256 → 1 ≤ limit → limit ≤ 60 → (edition ≡ 1 → ⊥) → (edition ≡ 2 → ⊥)
    → x ≡ (refused 12 0, work, result)
edition_refused_calls n limit edition a work result x p small least most d e = p ∙ edition_refused n limit edition a work result small least most d e
