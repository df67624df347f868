-- The sums as the code works them out are those of the definition.
use mathlib.Core.Path.{◌≡◌, ap, ◌∙◌}
use Prim.Native.Nat.{ℕ}
use lib.Ieee.{Float}
use Rattle.grid.specs.Real.{Vec, at}
use Rattle.grid.specs.Table.{table}
use Rattle.grid.specs.TableLaws.{table_same, at_table}
use Rattle.solve.specs.Solution.{column_sum, coefficient}
use Rattle.solve.specs.SolutionLaws.{solution_of}

-- p holds the sums of the right side, c the coefficients made of them, x the sums by c
pub solution_by : (m r n : ℕ) (tol : Float) (s u vt b : Vec) {p c x : Vec} → p ≡ table (column_sum m r u b) r → c ≡ table (λ k. coefficient tol (at s k) (at p k)) r
    → x ≡ table (column_sum r n vt c) n → x ≡ solution_of m r n tol s u vt b
solution_by m r n tol s u vt b {p} {c} f g h =
    h
    ∙ ap (λ (c : Vec). table (column_sum r n vt c) n)
    (g
    ∙ table_same (λ k. coefficient tol (at s k) (at p k)) (λ k. coefficient tol (at s k) (column_sum m r u b k)) r
    (λ k l. ap (coefficient tol (at s k)) (ap (λ (q : Vec). at q k) f ∙ at_table (column_sum m r u b) r k l)))
