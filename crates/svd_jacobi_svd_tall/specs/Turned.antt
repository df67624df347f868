-- A pair of columns that is rotated, and a pair whose sums are known. Definitions only.
use Rattle.std.specs.Prelude.{Bool, true, cond, ℕ}
use Rattle.grid.specs.Real.{Vec}
use Rattle.svd_jacobi_svd_tall.specs.declared.sweep.Sums.{Sums}
use Rattle.svd_jacobi_svd_tall.specs.declared.sweep.Rotation.{Rotation}
use Rattle.svd_jacobi_svd_tall.specs.Sweep.{u_at, v_at, skipped, rotation_of, rotated}

-- columns p and q of both factors, rotated
unfoldable pub turned : ℕ → ℕ → ℕ → ℕ → Rotation → Vec → Vec
turned rows cols p q rot w = rotated (v_at rows cols p) (v_at rows cols q) cols rot (rotated (u_at rows p) (u_at rows q) rows rot w)

-- `pair_done` of columns whose sums are g
unfoldable pub pair_by : ℕ → ℕ → ℕ → ℕ → Sums → Bool × Vec → Bool × Vec
pair_by rows cols p q g x = cond (skipped g) x (true, turned rows cols p q (rotation_of g) x.1)
