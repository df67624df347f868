-- The sweeps, in two runs whose first factors differ by 2 ^ k: they give the same answers, and their factors differ as before. Laws only.
use Rattle.leaves.specs.declared.Bad.{Bad}
use Rattle.std.specs.Prelude.{◌≡◌, refl, Bool, false, not, ℕ, ◌+◌, ◌*◌, ◌<◌, eqb, take, drop, Option}
use Rattle.std.proofs.Common.{ap, ap₂, ◌∙◌, arith}
use Rattle.grid.specs.Real.{Vec}
use Rattle.answers.specs.declared.Answer.{Answer}
use Rattle.svd_jacobi_svd_tall.specs.Sweep.{pair_done, pairs_of, sweep}
use Rattle.svd_jacobi_svd_tall.specs.Marks.{factors_bad}
use Rattle.svd_jacobi_svd_tall.specs.JacobiSvdTall.{going_after, verdict, swept, ended, sweeps}
use Rattle.svd_gain_theorems.specs.Alike.{Alike, under}
use Rattle.svd_gain_theorems.specs.AlongLaws.{along_both, rounds_both}
use Rattle.svd_gain_theorems.specs.Found.{Match, match, match_take, match_drop, pair_same}
use Rattle.svd_gain_theorems.specs.Fine.{PairFine, PairsFine, SweepFine, SweepsFine}
use Rattle.svd_gain_theorems.proofs.Turn.{Level, pair_level}

-- ---- one sweep

pairs_level : (k rows cols p : ℕ) (x y : Bool × Vec) → p < cols → PairsFine rows cols p x → PairsFine rows cols p y → Level k (rows * cols) x y
    → Level k (rows * cols) (pairs_of rows cols p x) (pairs_of rows cols p y)
unfolding pairs_of
pairs_level k rows cols p x y P f g =
    along_both (λ q x y. Level k (rows * cols) x y) (pair_done rows cols p) (pair_done rows cols p) (PairFine rows cols p) (PairFine rows cols p) (p + 1) cols x y (omega arith) f g
    (λ q x y _ Q c d h. pair_level k rows cols p q x y P Q c d h)

pub sweep_level : (k rows cols : ℕ) (w v : Vec) → SweepFine rows cols w → SweepFine rows cols v → Alike (under k (rows * cols)) w v
    → Level k (rows * cols) (sweep rows cols w) (sweep rows cols v)
unfolding sweep
sweep_level k rows cols w v f g h =
    along_both (λ p x y. Level k (rows * cols) x y) (pairs_of rows cols) (pairs_of rows cols) (PairsFine rows cols) (PairsFine rows cols) 0 cols (false, w) (false, v) (omega arith) f g
    (λ p x y _ P c d h. pairs_level k rows cols p x y P c d h) (record { flag = refl; both = h })

-- ---- the marks see the same

pub factors_same : (rows cols : ℕ) (w v : Vec) → Match w v → factors_bad rows cols v ≡ factors_bad rows cols w
unfolding factors_bad
factors_same rows cols w v h =
    pair_same cols (take (rows * cols) w) (take (cols * cols) (drop (rows * cols) w)) (take (rows * cols) v) (take (cols * cols) (drop (rows * cols) v))
    (match_take (rows * cols) w v h) (match_take (cols * cols) (drop (rows * cols) w) (drop (rows * cols) v) (match_drop (rows * cols) w v h))

-- ---- the sweeps

-- the four numbers agree, and the first factors differ by 2 ^ k
pub record Runs (k n : ℕ) (x y : Answer × Vec) : Type 0 where
  pub answers : y.0 ≡ x.0
  pub both : Alike (under k n) x.1 y.1

swept_runs : (k rows cols : ℕ) (x y : Answer × Vec) → SweepFine rows cols x.1 → SweepFine rows cols y.1 → Runs k (rows * cols) x y
    → Runs k (rows * cols) (swept rows cols x) (swept rows cols y)
unfolding swept
swept_runs k rows cols x y f g h =
    let l = sweep_level k rows cols x.1 y.1 f g h.both in
    record {
      answers =
          ap (λ (b : Option Bad). verdict b (sweep rows cols y.1).0 (y.0.count + 1)) (factors_same rows cols _ _ (match (under k (rows * cols)) _ _ l.both))
          ∙ ap₂ (λ b (a : Answer). verdict (factors_bad rows cols (sweep rows cols x.1).1) b (a.count + 1)) l.flag h.answers;
      both = l.both;
    }

pub sweeps_runs : (k rows cols limit : ℕ) (w v : Vec) → SweepsFine rows cols limit w → SweepsFine rows cols limit v → Alike (under k (rows * cols)) w v
    → Runs k (rows * cols) (sweeps rows cols limit w) (sweeps rows cols limit v)
unfolding sweeps
sweeps_runs k rows cols limit w v f g h =
    rounds_both (Runs k (rows * cols)) (swept rows cols) ended (λ x. SweepFine rows cols x.1) limit (going_after 0, w) (going_after 0, v) f g
    (swept_runs k rows cols) (λ x y r. ap (λ (a : Answer). not (eqb a.answer 9)) r.answers) (record { answers = refl; both = h })
