-- Document 000's own `symmetric_eigen` has one result at most (`symmetric_eigen_once`). Laws only.
use Rattle.std.specs.Prelude.{◌≡◌, ℕ}
use Rattle.std.proofs.Common.{sym, ap, ◌∙◌, arith}
use Rattle.grid.specs.Real.{Vec}
use Rattle.grid.specs.Cell.{at2}
use Rattle.eigen_symmetric_eigen.specs.LayoutLaws.{same_entries}
use Rattle.eigen_theorems.specs.Tql2DocumentLaws.{tql2_once}
use Rattle.eigen_theorems.specs.Document.{SymmetricEigen, empty, computed}

pub symmetric_eigen_once : (n edition : ℕ) (a d v e w : Vec) → SymmetricEigen n edition a d v → SymmetricEigen n edition a e w → (d ≡ e) × (v ≡ w)
symmetric_eigen_once n edition a d v e w (empty z p q) (empty y r s) = (p ∙ sym r, q ∙ sym s)
symmetric_eigen_once n edition a d v e w (empty z p q) (computed y) = absurd (omega (arith, y.some))
symmetric_eigen_once n edition a d v e w (computed x) (empty y r s) = absurd (omega (arith, x.some))
symmetric_eigen_once n edition a d v e w (computed x) (computed y) =
    let o = tql2_once n edition _ x.last y.last x.ran y.ran in (
      x.values_are ∙ ap (λ (t : Vec × Vec × Vec). t.1) o ∙ sym y.values_are,
      same_entries n v w x.long y.long
          (λ i j p q. x.vectors_are i j p q ∙ ap (λ (t : Vec × Vec × Vec). at2 t.0 n i j) o ∙ sym (y.vectors_are i j p q)),
    )
