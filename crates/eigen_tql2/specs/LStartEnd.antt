-- How a run of document 000's `tql2` comes to an l and how it leaves it, operation for operation, with mark 1 and the limit of the scope. Definitions only.
-- What a step changes comes last, in the order v, d, e, and the run's record r in front of them.
use Rattle.std.specs.Prelude.{Bool, cond, not, ℕ, ◌-◌, ltb, eqb, Float, set}
use Rattle.grid.specs.Loop.{first}
use Rattle.grid.specs.Real.{Vec, zero64, at, ◌⊕◌}
use Rattle.leaves.specs.Leaf.{magnitude, larger}
use Rattle.eigen_tql2_pass.specs.Pass.{tiny, going, converged, limit_used}
use Rattle.eigen_tql2_pass.specs.declared.Run.{Run}

-- the run, v, d and e
abbrev pub State : Type 0
State = Run × Vec × Vec × Vec

-- a run before its first l
abbrev pub fresh : Run
fresh = record { l = 0; m = 0; f = zero64; tst1 = zero64; passes = 0; count = 0; stop = going; index = 0 }

-- a run with another reason to stop, which is no mark
abbrev pub stopping : Run → ℕ → Run
stopping r stop = record { l = r.l; m = r.m; f = r.f; tst1 = r.tst1; passes = r.passes; count = r.count; stop = stop; index = 0 }

-- the m to split on: the first from l at which e counts as zero, and n - 1 at the latest. The Rust looks on up to n and never comes there: at n - 1 its test
-- holds (`test_at_last`, eigen_theorems/proofs/Tql2Marks.antt), since e[n - 1] is 0 and tst1 is no NaN; so it finds the same m (`split_is`, eigen_theorems/specs/Tql2Invariant.antt)
unfoldable pub split : ℕ → ℕ → Float → Vec → ℕ
split n l tst1 e = first (tiny e tst1) l (n - 1)

-- a run comes to l: where m is l it has settled there
unfoldable pub opened : ℕ → ℕ → Run → Vec → Vec → Run
opened n l r d e =
    let tst1 = larger r.tst1 (magnitude (at d l) ⊕ magnitude (at e l)) in
    let m = split n l tst1 e in
    record { l = l; m = m; f = r.f; tst1 = tst1; passes = 0; count = r.count; stop = cond (ltb l m) going converged; index = 0 }

-- the run has a reason to stop, or has settled at its l
abbrev pub ended : State → Bool
ended (r, v, d, e) = not (eqb r.stop going)

-- the l that has settled: its value is d[l] + f
abbrev pub released : State → State
released (r, v, d, e) = (stopping r going, v, set d r.l (at d r.l ⊕ r.f), set e r.l zero64)

-- what the passes at l came to: settled, or the limit used up, or mark 1
unfoldable pub closed : State → State
closed (r, v, d, e) =
    cond (eqb r.stop converged)
    (released (r, v, d, e))
    (cond (eqb r.stop going) (stopping r limit_used, v, d, e) (r, v, d, e))
