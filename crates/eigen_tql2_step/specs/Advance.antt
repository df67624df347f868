-- The run over l of `tql2` as a machine that goes pass by pass, by the steps of `tql2`'s own definition. Definitions only.
-- Of (run, v, d, e): between steps the run's l is the one that is worked on, n where the last is done, and its passes are 0 where the search for m is still to come.
use Rattle.std.specs.Prelude.{cond, ◌&&◌, ℕ, ltb, eqb}
use Rattle.eigen_tql2_pass.specs.Pass.{going, pass}
use Rattle.eigen_tql2.specs.LStartEnd.{State, closed}
use Rattle.eigen_tql2_step.specs.SkipSettled.{gone_on, found_l}

-- one step: settled l are skipped, and one pass is run, none after the last l; then the run goes onward, unless more passes are to be run at this l
unfoldable pub step : ℕ → ℕ → ℕ → State → State
step n limit edition x =
    let y = found_l n x in
    let z = pass n edition y in
    cond (ltb y.0.l n) (cond (eqb z.0.stop going && ltb z.0.passes limit) z (gone_on (closed z))) y
