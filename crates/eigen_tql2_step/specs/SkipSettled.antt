-- The run over l of `tql2` comes to the next l that has not settled, by the steps of `run`'s own definition. Definitions only.
-- Of (run, v, d, e): between steps the run's l is the one that is worked on, n where the last is done, and its passes are 0 where the search for m is still to come.
use Rattle.std.specs.Prelude.{cond, not, ℕ, zero, suc, ◌+◌, ◌-◌, eqb}
use Rattle.eigen_tql2_pass.specs.Pass.{going}
use Rattle.eigen_tql2_pass.specs.declared.Run.{Run}
use Rattle.eigen_tql2.specs.LStartEnd.{State, opened, ended, closed}

-- to the next l
abbrev pub next_l : Run → Run
next_l r = record { l = r.l + 1; m = r.m; f = r.f; tst1 = r.tst1; passes = 0; count = r.count; stop = r.stop; index = r.index }

-- the run onward; one that has ended stays as it is
abbrev pub gone_on : State → State
gone_on (r, v, d, e) = (cond (not (eqb r.stop going)) r (next_l r), v, d, e)

-- the run comes to its l
abbrev pub come : ℕ → State → State
come n (r, v, d, e) = (opened n r.l r d e, v, d, e)

-- settled l are skipped, k at most: it has come to one that has not settled, or all k are done
unfoldable pub skipped : ℕ → ℕ → State → State
skipped n zero x = x
skipped n (suc k) x = cond (ended (come n x)) (skipped n k (gone_on (closed (come n x)))) (come n x)

-- the l whose passes are to be run: the one that is worked on, or the next that has not settled
unfoldable pub found_l : ℕ → State → State
found_l n x = cond (eqb x.0.passes 0) (skipped n (n - x.0.l) x) x
