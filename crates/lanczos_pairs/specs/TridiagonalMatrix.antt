-- The tridiagonal matrix of document 000's Lanczos. Definitions only.
use Rattle.std.specs.Prelude.{cond, ℕ, ◌+◌, ltb}
use Rattle.grid.specs.Loop.{upto}
use Rattle.grid.specs.Real.{Vec, at}
use Rattle.grid.specs.Cell.{put_entry}

-- the alphas on the diagonal, the betas on both sides of it
unfoldable pub tri : ℕ → Vec → Vec → Vec → Vec
tri m al be t =
    upto (λ i t.
    let u = put_entry t m i i (at al i) in
    cond (ltb (i + 1) m) (put_entry (put_entry u m i (i + 1) (at be i)) m (i + 1) i (at be i)) u) 0 m t
