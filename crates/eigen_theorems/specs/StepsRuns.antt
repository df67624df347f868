-- A start and steps, the arrays untouched between. Definitions only.
use Rattle.std.specs.Prelude.{◌≡◌, Bool, true, not, ◌&&◌, ℕ, zero, suc, ◌≤◌, ltb}
use Rattle.grid.specs.Real.{Vec}
use Rattle.answers.specs.declared.Answer.{Answer}
use Rattle.eigen_steps.specs.Steps.{Outcome, running, started, stepped}
use Rattle.eigen_steps.specs.declared.EigenRun.{EigenRun}

-- so many steps
unfoldable pub walked : ℕ → Outcome → Outcome
walked zero t = t
walked (suc k) t = walked k (stepped t.0 t.1 t.2)

-- a start, and so many steps
unfoldable pub after : ℕ → ℕ → ℕ → ℕ → Vec → Vec → Vec → Outcome
after k n limit edition a work result = walked k (started n limit edition a work result)

-- steps are left: it goes on, and its last l is not done
abbrev pub unfinished : EigenRun → Bool
unfinished q = running q && ltb q.run.l q.n

-- it has ended, or its last l is done
abbrev pub arrived : EigenRun → Bool
arrived q = not (unfinished q)

-- what a caller has of it: the answer, work and result
abbrev pub reply : Outcome → Answer × Vec × Vec
reply t = (t.0.answer, t.1, t.2)

-- some number of steps, j at most, arrives
pub record Reached (j : ℕ) (t : Outcome) : Type 0 where
  pub steps : ℕ
  pub few : steps ≤ j
  pub there : arrived (walked steps t).0 ≡ true
