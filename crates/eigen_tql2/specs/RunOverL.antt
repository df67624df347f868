-- The run over l of document 000's `tql2`, operation for operation, with mark 1 and the limit of the scope. Definitions only.
-- v is the n by n matrix, column by column. What a step changes comes last, in the order v, d, e, and the run's record r in front of them.
use Rattle.std.specs.Prelude.{cond, ℕ}
use Rattle.grid.specs.Loop.{upto, rounds}
use Rattle.eigen_tql2_pass.specs.Pass.{pass}
use Rattle.eigen_tql2.specs.LStartEnd.{State, opened, ended, closed}

-- at most so many passes at one l, until mark 1 or the convergence test ends them
unfoldable pub iterated : ℕ → ℕ → ℕ → State → State
iterated n limit edition x = cond (ended x) x (rounds (pass n edition) ended limit x)

-- one l: the run comes to it, its passes, and what they came to
unfoldable pub stage : ℕ → ℕ → ℕ → ℕ → State → State
stage n limit edition l (r, v, d, e) = closed (iterated n limit edition (opened n l r d e, v, d, e))

-- a run that has stopped stays as it is
unfoldable pub turn : ℕ → ℕ → ℕ → ℕ → State → State
turn n limit edition l x = cond (ended x) x (stage n limit edition l x)

-- l = 0 .. n - 1 in turn
unfoldable pub run : ℕ → ℕ → ℕ → State → State
run n limit edition x = upto (turn n limit edition) 0 n x
