-- The run keeps the length of the work array, which its functions ask for. Laws only.
use Rattle.std.specs.Prelude.{◌≡◌, Bool, cond, set}
use Rattle.std.proofs.Math.Bool.{true, false}
use Prim.Native.Nat.{ℕ, zero, suc}
use Rattle.std.specs.Float.Ieee.{Float, lt}
use Rattle.std.proofs.Math.ListN.{length, length-set}
use Rattle.grid.specs.Loop.{rounds}
use Rattle.grid.specs.Real.{Vec, zero64}
use Rattle.root.specs.Root.{root}
use Rattle.answers.specs.declared.Answer.{Answer}
use Rattle.svd_jacobi_svd_tall.specs.Sweep.{u_at, value_at}
use Rattle.svd_jacobi_svd_tall.specs.SweepLengths.{keeps, sweep_length}
use Rattle.svd_jacobi_svd_tall.specs.JacobiSvdTall.{swept, ended}
use Rattle.svd_jacobi_svd_tall.specs.SingularValues.{norm_sq, divided, normal_step, normalised}
use Rattle.svd_jacobi_svd_tall.specs.SingularValuesSteps.{divide_step}

module _ (n : ℕ) where
  pub rounds_length : (rows cols k : ℕ) (x : Answer × Vec) → length x.1 ≡ n → length (rounds (swept rows cols) ended k x).1 ≡ n
  unfolding rounds swept
  rounds_length rows cols zero x e = e
  rounds_length rows cols (suc k) x e = go (ended (swept rows cols x)) (rounds_length rows cols k (swept rows cols x) (sweep_length n rows cols x.1 e))
    where
      go : (b : Bool) → length (rounds (swept rows cols) ended k (swept rows cols x)).1 ≡ n
          → length (cond b (swept rows cols x) (rounds (swept rows cols) ended k (swept rows cols x))).1 ≡ n
      go true later = sweep_length n rows cols x.1 e
      go false later = later

  divided_length : (a rows : ℕ) (norm : Float) (w : Vec) → length w ≡ n → length (divided a rows norm w) ≡ n
  unfolding divided
  divided_length a rows norm w = keeps n (divide_step a norm) 0 rows w (λ i x e. simp length-set e)

  pub normalised_length : (rows cols : ℕ) (w : Vec) → length w ≡ n → length (normalised rows cols w) ≡ n
  unfolding normalised normal_step
  normalised_length rows cols w = keeps n (normal_step rows cols) 0 cols w turn
    where
      turn : (j : ℕ) (x : Vec) → length x ≡ n → length (normal_step rows cols j x) ≡ n
      turn j x e = go (lt zero64 norm)
        where
          norm : Float
          norm = root (norm_sq (u_at rows j) rows x)

          stored : length (set x (value_at rows cols j) norm) ≡ n
          stored = simp length-set e

          go : (b : Bool) → length (cond b (divided (u_at rows j) rows norm (set x (value_at rows cols j) norm)) (set x (value_at rows cols j) norm)) ≡ n
          go true = divided_length (u_at rows j) rows norm _ stored
          go false = stored
