-- What the scope's marks look at in a run of `jacobi_svd_tall`. Definitions only.
use Rattle.leaves.specs.declared.Bad.{Bad}
use Rattle.std.specs.Prelude.{◌++◌, ℕ, ◌*◌, take, drop, Option}
use Rattle.grid.specs.Real.{Vec}
use Rattle.leaves.specs.Scan.{first_bad, by_rows}
use Rattle.svd_jacobi_svd_tall.specs.Sweep.{value_at}

-- both factors row by row, u first
abbrev pub factors : ℕ → ℕ → Vec → Vec
factors rows cols w = by_rows cols (take (rows * cols) w) ++ by_rows cols (take (cols * cols) (drop (rows * cols) w))

-- mark 1 looks at the factors
unfoldable pub factors_bad : ℕ → ℕ → Vec → Option Bad
factors_bad rows cols w = first_bad (factors rows cols w)

-- the values, then the factors as at mark 1
abbrev pub values_factors : ℕ → ℕ → Vec → Vec
values_factors rows cols w = take cols (drop (value_at rows cols 0) w) ++ factors rows cols w

-- mark 2 looks at all of them
unfoldable pub all_bad : ℕ → ℕ → Vec → Option Bad
all_bad rows cols w = first_bad (values_factors rows cols w)
