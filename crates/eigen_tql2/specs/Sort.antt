-- The sort of document 000's `tql2`, operation for operation. Definitions only.
-- v is the n by n matrix, column by column, and d the values.
use Rattle.std.specs.Prelude.{cond, ℕ, ◌+◌, ◌-◌, eqb, set}
use Rattle.std.specs.Float.Ieee.{lt}
use Rattle.grid.specs.Loop.{upto}
use Rattle.grid.specs.Real.{Vec, at}
use Rattle.grid.specs.Cell.{at2, put2}
use Rattle.eigen_tql2.specs.declared.sort.Best.{Best}

-- the least of d from i on, and where it is
unfoldable pub least_from : ℕ → ℕ → Vec → Best
least_from n i d = upto (λ j b. cond (lt (at d j) b.p) (record { k = j; p = at d j }) b) (i + 1) n (record { k = i; p = at d i })

-- columns i and k of v change places
unfoldable pub swapped : ℕ → ℕ → ℕ → Vec → Vec
swapped n i k v = upto (λ row v. let x = at2 v n row i in let y = at2 v n row k in put2 (put2 v n row i y) n row k x) 0 n v

-- the least value from i on comes to i, and its column with it
unfoldable pub sort_step : ℕ → ℕ → Vec × Vec → Vec × Vec
sort_step n i (v, d) =
    let b = least_from n i d in
    cond (eqb b.k i) (v, d) (swapped n i b.k v, set (set d b.k (at d i)) i b.p)

-- the selection sort: `sort_step` for i = 0 .. n - 2
unfoldable pub sorted : ℕ → Vec × Vec → Vec × Vec
sorted n x = upto (sort_step n) 0 (n - 1) x
