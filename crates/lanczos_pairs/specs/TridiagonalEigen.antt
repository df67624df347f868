-- The inner call of `symmetric_eigen` on the tridiagonal matrix of document 000's Lanczos. Definitions only.
use Rattle.std.specs.Prelude.{ℕ, ◌+◌, ◌*◌}
use Rattle.grid.specs.Real.{Vec, zeros}
use Rattle.answers.specs.declared.Answer.{Answer}
use Rattle.eigen_symmetric_eigen.specs.SymmetricEigen.{eigen}
use Rattle.lanczos_pairs.specs.TridiagonalMatrix.{tri}

-- the inner call, on as many rows as there were steps: its answer, work and result
unfoldable pub inward : ℕ → ℕ → ℕ → Vec → Vec → Answer × Vec × Vec
inward m limit edition al be = eigen m limit edition (tri m al be (zeros (m * m))) (zeros m) (zeros (m + m * m))
