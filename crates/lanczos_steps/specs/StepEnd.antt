-- How a Lanczos step ends. Definitions only.
use Rattle.std.specs.Prelude.{ℕ, ◌+◌, Bool, true, false, cond, from_bits, slice_set, Float, Result, Ok, Err}
use Rattle.std.specs.Float.Ieee.{lt}
use Rattle.std.specs.Float.{binary64}
use Rattle.grid.specs.Real.{Vec}
use Rattle.leaves.specs.Leaf.{is_finite}
use Rattle.leaves.specs.Scan.{class_of}
use Rattle.answers.specs.Answers.{answered, done, passed}
use Rattle.answers.specs.declared.Answer.{Answer}
use Rattle.gram_schmidt.specs.Unit.{over}
use Rattle.lanczos_steps.specs.declared.step_end.Next.{Next}
use Rattle.lanczos_steps.specs.declared.step_end.Next.TheVariants.{Step, End}

-- 1e-12: the double nearest to it
abbrev pub least_beta : Float
least_beta = from_bits binary64 0x3d71_9799_812d_ea11

-- how the steps stand: whether they go on, what they answer (0, or the refusal with its place and the step), and how many were begun
pub record Went : Type 0 where
  pub on : Bool
  pub said : Answer
  pub dim : ℕ

-- the same from its three parts
abbrev pub went : Bool → Answer → ℕ → Went
went on said dim = record { on = on; said = said; dim = dim }

-- step j ends with what is left of w, whose norm is beta: a beta that is not finite is refused, one not above 1e-12 leaves no direction
unfoldable pub step_ended : ℕ → ℕ → Float → Vec → Vec → Vec → Went × Vec × Vec
step_ended n j beta w be v =
    cond (is_finite beta)
    (cond (lt least_beta beta) (went true (done 0) (j + 1), slice_set be j beta, over n beta w) (went false (done 0) (j + 1), be, v))
    (went false (answered (class_of beta) 5 j 0) (j + 1), be, v)

-- what comes back of it: what follows, or the refusal
abbrev pub following : Went → Result Next Answer
following r = cond r.on (Ok Step) (cond (passed r.said) (Ok End) (Err r.said))

abbrev pub followed : Went × Vec × Vec → Result Next Answer × Vec × Vec
followed (r, be, v) = (following r, be, v)
