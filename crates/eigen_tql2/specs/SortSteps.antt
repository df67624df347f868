-- Steps of the loops of `Sort` by name, as laws cite them. Definitions only.
use Rattle.std.specs.Prelude.{cond, ℕ}
use Rattle.std.specs.Float.Ieee.{lt}
use Rattle.grid.specs.Real.{Vec, at}
use Rattle.grid.specs.Cell.{at2, put2}
use Rattle.eigen_tql2.specs.declared.sort.Best.{Best}

-- the least of d from i on, and where it is
abbrev pub better : Vec → ℕ → Best → Best
better d j b = cond (lt (at d j) b.p) (record { k = j; p = at d j }) b

-- columns i and k of v change places
abbrev pub swap_step : ℕ → ℕ → ℕ → ℕ → Vec → Vec
swap_step n i k row v =
    let x = at2 v n row i in
    let y = at2 v n row k in
    put2 (put2 v n row i y) n row k x
