-- Document 000's own `symmetric_eigen`: `tred2` and its `tql2`, with no mark and no limit. Definitions only.
-- `symmetric_eigen_once` in `DocumentLaws` says that it has one result at most.
use Rattle.std.specs.Prelude.{◌≡◌, [], ℕ, ◌*◌, ◌<◌, length}
use Rattle.grid.specs.Real.{Vec, zeros}
use Rattle.grid.specs.Cell.{at2, entry}
use Rattle.eigen_tred2_definition.specs.Tred2.{tred2}
use Rattle.eigen_theorems.specs.Tql2Document.{Tql2}
use Rattle.eigen_symmetric_eigen.specs.Layout.{columns}

-- n above 0. v starts as the whole matrix, d and e as zeros; the values are d in the end, and entry (i, j) of the vectors is cell (i, j) of v
pub record Computed (n edition : ℕ) (a values vectors : Vec) : Type 0 where
  pub some : 0 < n
  pub last : Vec × Vec × Vec
  pub ran : Tql2 n edition (tred2 n (columns n a, zeros n, zeros n)) last
  pub values_are : let (v, d, e) = last in values ≡ d
  pub long : length vectors ≡ n * n
  pub vectors_are : let (v, d, e) = last in (i j : ℕ) → i < n → j < n → entry vectors n i j ≡ at2 v n i j

pub data SymmetricEigen (n edition : ℕ) (a values vectors : Vec) : Type 0 where
  empty : n ≡ 0 → values ≡ [] → vectors ≡ [] → SymmetricEigen n edition a values vectors
  computed : Computed n edition a values vectors → SymmetricEigen n edition a values vectors
