-- What stays in bounds: what a run must be to have passes run, how far its count can go. Laws only.
use Rattle.std.specs.Prelude.{◌≡◌, refl, Bool, true, false, cond, ℕ, zero, suc, ◌+◌, ◌≤◌, ◌<◌, ◌^◌, ltb, eqb}
use Rattle.std.proofs.Common.{ap, ◌∙◌, arith, ltb-true}
use Rattle.grid.specs.Loop.{rounds}
use Rattle.grid.specs.Real.{Vec}
use Rattle.eigen_tql2_pass.specs.Pass.{pass}
use Rattle.eigen_tql2_pass.specs.declared.Run.{Run}
use Rattle.eigen_tql2.specs.LStartEnd.{State, opened, ended, released, stopping, closed}
use Rattle.eigen_tql2.specs.LStartEndBounds.{split_below, Passed, one_pass}
use Rattle.eigen_tql2.specs.RunOverL.{iterated, stage, turn}

-- ---- before the passes

unsettled : (b : Bool) (l m : ℕ) → ltb l m ≡ b → ◌≡◌ {A = ℕ} (cond b 0 1) 0 → l < m
unsettled true l m t s = ltb-true l m t
unsettled false l m t s = absurd (omega arith)

-- what a run must be to have passes run: l below m where it has not settled, no pass run here, and room for the count
pub record Ready (n : ℕ) (r : Run) : Type 0 where
  pub below : r.stop ≡ 0 → r.l < r.m
  pub within : r.m < n
  pub none : r.passes ≡ 0
  pub room : r.count + 60 < 2 ^ 64

pub opened_ready : (n l : ℕ) (r : Run) (d e : Vec) → l < n → r.count + 60 < 2 ^ 64 → Ready n (opened n l r d e)
unfolding opened
opened_ready n l r d e h g =
    record { below = unsettled _ l _ refl; within = split_below n l _ e h; none = refl; room = g }

-- ---- the passes at one l

pub record Within (limit : ℕ) (x y : State) : Type 0 where
  pub l : y.0.l ≡ x.0.l
  pub count : y.0.count ≤ x.0.count + limit

passes_within : (n limit edition : ℕ) (x : State) → Within limit x (rounds (pass n edition) ended limit x)
unfolding rounds
passes_within n zero edition x = record { l = refl; count = omega arith }
passes_within n (suc k) edition x = go (ended (pass n edition x)) (one_pass n edition x (pass n edition x) refl) (passes_within n k edition (pass n edition x))
  where
    go : (b : Bool) → Passed x (pass n edition x) → Within k (pass n edition x) (rounds (pass n edition) ended k (pass n edition x))
        → Within (suc k) x (cond b (pass n edition x) (rounds (pass n edition) ended k (pass n edition x)))
    go true p w = record { l = p.l; count = omega arith }
    go false p w = record { l = cc; count = omega arith }

pub iterated_within : (n limit edition : ℕ) (x : State) → Within limit x (iterated n limit edition x)
unfolding iterated
iterated_within n limit edition x = go (ended x)
  where
    go : (b : Bool) → Within limit x (cond b x (rounds (pass n edition) ended limit x))
    go true = record { l = refl; count = omega arith }
    go false = passes_within n limit edition x

pub iterated_l : (n limit edition : ℕ) (x y : State) → y ≡ iterated n limit edition x → y.0.l ≡ x.0.l
iterated_l n limit edition x y e = ap (λ (s : State). s.0.l) e ∙ (iterated_within n limit edition x).l

-- ---- one l

closed_count : (x : State) → (closed x).0.count ≡ x.0.count
unfolding closed
closed_count x = go (eqb x.0.stop 1) (eqb x.0.stop 0)
  where
    go : (a b : Bool) → (cond a (released x) (cond b (stopping x.0 9, x.1, x.2, x.3) x)).0.count ≡ x.0.count
    go true b = refl
    go false true = refl
    go false false = refl

-- a run that has come to l
abbrev pub come : ℕ → ℕ → State → State
come n l x = (opened n l x.0 x.2 x.3, x.1, x.2, x.3)

pub turn_count : (n limit edition l : ℕ) (x : State) → (turn n limit edition l x).0.count ≤ x.0.count + limit
unfolding turn stage opened
turn_count n limit edition l x = go (ended x)
  where
    go : (b : Bool) → (cond b x (closed (iterated n limit edition (come n l x)))).0.count ≤ x.0.count + limit
    go true = omega arith
    go false = omega (arith, closed_count (iterated n limit edition (come n l x)), (iterated_within n limit edition (come n l x)).count)
