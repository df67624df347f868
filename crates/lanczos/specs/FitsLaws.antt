-- What is asked of sizes, limit and edition within the run. Laws only.
-- `Called`, `Fit`, `Room` and `Small` are what functions of the code ask; no public promise cites them.
use Rattle.std.specs.Prelude.{◌≡◌, true, ℕ, ◌+◌, ◌*◌, ◌<◌, ◌≤◌}
use Rattle.answers.specs.Checks.{edition_good}

-- what the checks of the limit and the edition leave
pub record Called (limit edition : ℕ) : Type 0 where
  pub least : 1 ≤ limit
  pub most : limit ≤ 60
  pub good : edition_good edition ≡ true

-- those of n and k
pub record Fit (n k : ℕ) : Type 0 where
  pub some : 0 < n
  pub size : n ≤ 256
  pub pairs : k ≤ n

-- for s steps and the small problem behind them, with that many numbers in work
pub record Room (n s len : ℕ) : Type 0 where
  pub steps : s ≤ 256
  pub size : n ≤ 256
  pub room : s * n + s * s ≤ len

-- for the small problem of m rows
pub record Small (n s m len : ℕ) : Type 0 where
  pub some : 0 < m
  pub few : m ≤ s
  pub steps : s ≤ 256
  pub size : n ≤ 256
  pub room : s * n + m * m ≤ len
