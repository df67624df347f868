-- A row as the code works it out is that of the definition.
use mathlib.Core.Path.{◌≡◌, ap}
use Prim.Native.Nat.{ℕ}
use lib.Ieee.{Float}
use Rattle.grid.specs.LoopLaws.{upto_same}
use Rattle.grid.specs.Real.{Vec, zero64, ◌⊕◌, ◌⊗◌}
use Rattle.grid.specs.Cell.{entry}
use Rattle.grid.specs.Table.{table}
use Rattle.grid.specs.TableLaws.{table_same, at_table}
use Rattle.solve.specs.PseudoInverse.{pinv_sum}
use Rattle.solve.specs.PseudoInverseLaws.{product, dot}

-- V^T by the inverse values is worked out once for a row
pub row_same : (m r n : ℕ) (tol : Float) (s u vt : Vec) (j : ℕ) → table (dot r (table (product n tol s vt j) r) u) m ≡ table (pinv_sum r n tol s u vt j) m
unfolding dot pinv_sum
row_same m r n tol s u vt j =
    table_same _ _ m (λ i _. upto_same _ _ 0 r zero64 (λ k acc _ l. ap (λ (x : Float). acc ⊕ x ⊗ entry u r i k) (at_table (product n tol s vt j) r k l)))
