-- What is so of every call of `symmetric_eigen`, by its promise alone. Laws only.
-- `one_outcome`: the promise leaves room for one outcome. `lower_only`: what stands above the diagonal, and what work and result held before, change nothing.
-- `limit_raised`: an outcome that is not refusal 9 is the outcome at every higher limit. `marks_only_stop`: where it is done, the result is document 000's own.
use Rattle.std.specs.Prelude.{◌≡◌, refl, Bool, true, false, cond, ◌++◌, ℕ, ◌*◌, ◌≤◌, ◌<◌, eqb, length}
use Rattle.std.proofs.Common.{sym, ap, ◌∙◌, arith}
use Rattle.std.proofs.lemmas.Bool.{eqb-false}
use Rattle.std.proofs.lemmas.List.{length-replicate}
use Rattle.grid.specs.Real.{Vec, zero64, zeros}
use Rattle.grid.specs.Cell.{at2, entry}
use Rattle.grid.specs.CellLaws.{Sized}
use Rattle.leaves.specs.Scan.{first_bad_lower}
use Rattle.leaves.specs.ScanLaws.{lower_same}
use Rattle.answers.specs.Answers.{done, passed, refusal7}
use Rattle.eigen_tred2_definition.proofs.Lower.{lower}
use Rattle.eigen_symmetric_eigen.specs.Layout.{columns}
use Rattle.eigen_symmetric_eigen.specs.AfterTred2.{after_tred}
use Rattle.eigen_symmetric_eigen.specs.SymmetricEigen.{decomposed, cleared, given, eigen_entered, eigen}
use Rattle.eigen_symmetric_eigen.specs.LayoutLaws.{columns_cell, columns_long}
use Rattle.eigen_theorems.specs.Document.{SymmetricEigen}
use Rattle.eigen_theorems.specs.DocumentLaws.{symmetric_eigen_once}
use Rattle.eigen_theorems.specs.Outcome.{Outcome, Promised, Fit}
use Rattle.eigen_theorems.proofs.OutcomeLaws.{enters, done_document}
use Rattle.eigen_theorems.proofs.Limit.{eigen_limit}
use Rattle.eigen_theorems.proofs.Result.{gave}

pub one_outcome : (n limit edition : ℕ) (a work result : Vec) (x y : Outcome) → Promised n limit edition a work result x → Promised n limit edition a work result y → x ≡ y
one_outcome n limit edition a work result x y p q = p ∙ sym q

-- ---- what stands above the diagonal

-- two matrices that agree on and below the diagonal
abbrev pub Alike : ℕ → Vec → Vec → Type 0
Alike n a b = (i j : ℕ) → j ≤ i → i < n → entry a n i j ≡ entry b n i j

sized : (n : ℕ) (a : Vec) → Sized n (columns n a) (zeros n) (zeros n)
sized n a = record {
  square = columns_long n a;
  diagonal = length-replicate n zero64;
  beside = length-replicate n zero64;
}

decomposed_alike : (n limit edition : ℕ) (a b : Vec) → 0 < n → Alike n a b
    → decomposed n limit edition a (zeros n, zeros n) ≡ decomposed n limit edition b (zeros n, zeros n)
unfolding decomposed
decomposed_alike n limit edition a b z h =
    ap (after_tred n limit edition) (lower n (columns n a) (columns n b) (zeros n) (zeros n) (zeros n) (zeros n) z (sized n a) (sized n b) cells)
  where
    cells : (i j : ℕ) → j ≤ i → i < n → at2 (columns n a) n i j ≡ at2 (columns n b) n i j
    cells i j p q = columns_cell n a i j q (omega arith) ∙ h i j p q ∙ sym (columns_cell n b i j q (omega arith))

entered_alike : (n limit edition : ℕ) (a b : Vec) → length a ≡ n * n → length b ≡ n * n → Alike n a b → eigen_entered n limit edition a ≡ eigen_entered n limit edition b
unfolding eigen_entered
entered_alike n limit edition a b la lb h = rw (lower_same n a b la lb h) (ap (λ (x : Outcome). cond (passed (refusal7 (first_bad_lower n b))) x (cleared n (refusal7 (first_bad_lower n b)))) (go (eqb n 0) refl))
  where
    work : Vec → Outcome
    work a = given n (decomposed n limit edition a (zeros n, zeros n))

    go : (t : Bool) → eqb n 0 ≡ t → cond (eqb n 0) (cleared n (done 0)) (work a) ≡ cond (eqb n 0) (cleared n (done 0)) (work b)
    go true e = rw e
    go false e = ap (λ (x : Outcome). cond (eqb n 0) (cleared n (done 0)) x) (ap (given n) (decomposed_alike n limit edition a b (above (eqb-false n 0 e)) h))
      where
        above : (n ≡ 0 → ⊥) → 0 < n
        above d = omega arith

pub lower_only : (n limit edition : ℕ) (a b work result work' result' : Vec) → Fit n limit edition a work result → Fit n limit edition b work' result' → Alike n a b
    → eigen n limit edition a work result ≡ eigen n limit edition b work' result'
lower_only n limit edition a b work result work' result' f g h =
    enters n limit edition a work result f ∙ entered_alike n limit edition a b f.square g.square h ∙ sym (enters n limit edition b work' result' g)

-- of two calls
pub lower_only_calls : (n limit edition : ℕ) (a b work result work' result' : Vec) (x y : Outcome) → Fit n limit edition a work result → Fit n limit edition b work' result' → Alike n a b
    → Promised n limit edition a work result x → Promised n limit edition b work' result' y → x ≡ y
lower_only_calls n limit edition a b work result work' result' x y f g h p q = p ∙ lower_only n limit edition a b work result work' result' f g h ∙ sym q

-- ---- a higher limit

pub limit_raised : (n edition k m : ℕ) (a work result : Vec) → 1 ≤ k → k ≤ m → m ≤ 60 → ((eigen n k edition a work result).0.answer ≡ 9 → ⊥)
    → eigen n m edition a work result ≡ eigen n k edition a work result
limit_raised n edition k m a work result z l s = (eigen_limit n edition k m a work result z l s).same

-- ---- marks and the limit

-- a result that is document 000's: its values, and its vectors row by row behind them
pub record Documents (n edition : ℕ) (a result : Vec) : Type 0 where
  pub values : Vec
  pub vectors : Vec
  pub eigens : SymmetricEigen n edition a values vectors
  pub whole : result ≡ values ++ vectors

pub marks_only_stop : (n limit edition : ℕ) (a work result : Vec) → (eigen n limit edition a work result).0.answer ≡ 0 → Documents n edition a (eigen n limit edition a work result).2
marks_only_stop n limit edition a work result z =
    let s = gave n limit edition a work result z in
    record { values = s.values; vectors = s.vectors; eigens = done_document n limit edition a _ _ _ s.exactly; whole = s.whole }

-- so where document 000 has a result, and the call is done, that is the call's
pub marks_only_stop_calls : (n limit edition : ℕ) (a work result values vectors : Vec) (x : Outcome) → Promised n limit edition a work result x → x.0.answer ≡ 0
    → SymmetricEigen n edition a values vectors → x.2 ≡ values ++ vectors
marks_only_stop_calls n limit edition a work result values vectors x p q s =
    let d = marks_only_stop n limit edition a work result (ap (λ (t : Outcome). t.0.answer) (sym p) ∙ q) in
    let o = symmetric_eigen_once n edition a d.values d.vectors values vectors d.eigens s in
    ap (λ (t : Outcome). t.2) p ∙ d.whole ∙ (λ i. o.0 i ++ o.1 i)
