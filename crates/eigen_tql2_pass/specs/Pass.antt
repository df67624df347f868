-- One QL pass of document 000's `tql2`: the QL transformation, and what is looked at after it. Definitions only.
-- What a step changes comes last, in the order v, d, e, and in front of them the run's record.
use Rattle.leaves.specs.declared.Bad.{Bad}
use Rattle.std.specs.Prelude.{Bool, cond, ◌++◌, ℕ, ◌+◌, Float, Option, Some, None}
use Rattle.std.specs.Float.Ieee.{le}
use Rattle.grid.specs.Real.{Vec, epsilon, at, ◌⊕◌, ◌⊗◌}
use Rattle.leaves.specs.Leaf.{magnitude}
use Rattle.leaves.specs.Scan.{first_bad}
use Rattle.eigen_tql2_pass.specs.Transform.{transformed}
use Rattle.eigen_tql2_pass.specs.declared.Run.{Run}

-- why the passes at an l stop, `stop` in the run's record: passes are to be run; l has settled; the limit is used up; or the class of the number that mark 1 saw
abbrev pub going : ℕ
going = 0

-- l has settled
abbrev pub converged : ℕ
converged = 1

-- the limit is used up: refusal 9
abbrev pub limit_used : ℕ
limit_used = 9

-- element k of e counts as zero
abbrev pub tiny : Vec → Float → ℕ → Bool
tiny e tst1 k = le (magnitude (at e k)) (epsilon ⊗ tst1)

-- mark 1 looks at d, then at e: the first number that is not finite
unfoldable pub mark1 : Vec → Vec → Option Bad
mark1 d e = first_bad (d ++ e)

-- document 000's convergence test
unfoldable pub settled : ℕ → Float → Vec → ℕ
settled l tst1 e = cond (tiny e tst1 l) converged going

-- a reason to stop: a run's stop and index
pub record Reason : Type 0 where
  pub stop : ℕ
  pub index : ℕ

-- the class and the index of what a mark saw, or else another reason to stop
abbrev pub judged : Option Bad → ℕ → Reason
judged (Some bad) stop = record { stop = bad.class; index = bad.index }
judged None stop = record { stop = stop; index = 0 }

-- after a pass at l: mark 1, then the convergence test
unfoldable pub verdict : ℕ → Float → Vec → Vec → Reason
verdict l tst1 d e = judged (mark1 d e) (settled l tst1 e)

-- a run with that reason to stop
abbrev pub for_reason : Run → Reason → Run
for_reason r t = record { l = r.l; m = r.m; f = r.f; tst1 = r.tst1; passes = r.passes; count = r.count; stop = t.stop; index = t.index }

-- a run after one pass more
abbrev pub after_pass : Run → Float → Reason → Run
after_pass r h t =
    record { l = r.l; m = r.m; f = r.f ⊕ h; tst1 = r.tst1; passes = r.passes + 1; count = r.count + 1; stop = t.stop; index = t.index }

-- one pass at the run's l and m: the transformation, then mark 1 and the convergence test
unfoldable pub pass : ℕ → ℕ → Run × Vec × Vec × Vec → Run × Vec × Vec × Vec
pass n edition (r, v, d, e) =
    let (h, v, d, e) = transformed n edition r.l r.m (v, d, e) in
    (after_pass r h (verdict r.l r.tst1 d e), v, d, e)
