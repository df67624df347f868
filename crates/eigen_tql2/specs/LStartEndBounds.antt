-- What stays in bounds: a run's l and m, and what a pass keeps. Laws only.
use Rattle.std.specs.Prelude.{◌≡◌, Bool, true, false, cond, ℕ, zero, suc, ◌+◌, ◌-◌, ◌≤◌, ◌<◌, Float}
use Rattle.std.proofs.Common.{ap, arith}
use Rattle.grid.specs.Loop.{seek, first}
use Rattle.grid.specs.Real.{Vec}
use Rattle.eigen_tql2_pass.specs.Pass.{tiny, pass}
use Rattle.eigen_tql2_pass.specs.declared.Run.{Run}
use Rattle.eigen_tql2.specs.LStartEnd.{State, split, opened}

-- ---- m is below n

seek_le : (p : ℕ → Bool) (a k : ℕ) → seek p a k ≤ a + k
unfolding seek
seek_le p a zero = omega arith
seek_le p a (suc k) = go (p a) (seek_le p (a + 1) k)
  where
    go : (b : Bool) → seek p (a + 1) k ≤ a + 1 + k → cond b a (seek p (a + 1) k) ≤ a + suc k
    go true h = omega arith
    go false h = omega arith

pub split_below : (n l : ℕ) (tst1 : Float) (e : Vec) → l < n → split n l tst1 e < n
unfolding split first
split_below n l tst1 e h = omega (arith, seek_le (tiny e tst1) l (n - 1 - l))

pub opened_l : (n l : ℕ) (r : Run) (d e : Vec) (q : Run) → q ≡ opened n l r d e → q.l ≡ l
unfolding opened
opened_l n l r d e q g = ap (λ (s : Run). s.l) g

-- ---- a pass

pub record Passed (x y : State) : Type 0 where
  pub l : y.0.l ≡ x.0.l
  pub m : y.0.m ≡ x.0.m
  pub passes : y.0.passes ≡ x.0.passes + 1
  pub count : y.0.count ≡ x.0.count + 1

pub one_pass : (n edition : ℕ) (x y : State) → y ≡ pass n edition x → Passed x y
unfolding pass
one_pass n edition x y e =
    record {
      l = ap (λ (s : State). s.0.l) e;
      m = ap (λ (s : State). s.0.m) e;
      passes = ap (λ (s : State). s.0.passes) e;
      count = ap (λ (s : State). s.0.count) e;
    }
