-- What is asked of a run of `tql2`, from v, d and e. Definitions only.
-- It follows the definitions of the run (`LStartEnd` and `RunOverL` of eigen_tql2); what it comes to is asked, and nothing behind it. The sort computes nothing.
use Rattle.std.specs.Prelude.{◌≡◌, false, map, ℕ, ◌-◌, ◌<◌, T, pos}
use Rattle.grid.specs.Real.{Vec, at, epsilon, ◌⊕◌}
use Rattle.leaves.specs.Leaf.{magnitude}
use Rattle.answers.specs.declared.Answer.{Answer}
use Rattle.eigen_tql2_pass.specs.Pass.{pass, converged}
use Rattle.eigen_tql2_pass.specs.declared.Run.{Run}
use Rattle.eigen_tql2.specs.LStartEnd.{State, fresh, opened, ended}
use Rattle.eigen_tql2.specs.RunOverL.{iterated, turn}
use Rattle.eigen_tql2.specs.Tql2.{moved_up}
use Rattle.svd_gain_theorems.specs.Scale.{scale, fine, Product}
use Rattle.svd_gain_theorems.specs.Along.{Along, Rounds}
use Rattle.gain_path_theorems.specs.PassFine.{PassFine}

-- the run comes to l, `opened`: the size there, and the bound that the search for m tests against, where it tests
pub record OpenFine (n l : ℕ) (r : Run) (d e : Vec) : Type 0 where
  pub size : T (fine (magnitude (at d l) ⊕ magnitude (at e l)))
  pub bound : l < n - 1 → Product epsilon (opened n l r d e).tst1

-- before the passes at l, and after them
abbrev pub at_l : ℕ → ℕ → State → State
at_l n l x = (opened n l x.0 x.2 x.3, x.1, x.2, x.3)

abbrev pub passed : ℕ → ℕ → ℕ → ℕ → State → State
passed n limit edition l x = iterated n limit edition (at_l n l x)

-- one l, `stage`: how it begins, each pass that is run, and its value where it has settled
pub record StageFine (n limit edition l : ℕ) (x : State) : Type 0 where
  pub begin : OpenFine n l x.0 x.2 x.3
  pub passes : ended (at_l n l x) ≡ false → Rounds (pass n edition) ended (PassFine n edition) limit (at_l n l x)
  pub value : (passed n limit edition l x).0.stop ≡ converged → T (fine (at (passed n limit edition l x).2 (passed n limit edition l x).0.l ⊕ (passed n limit edition l x).0.f))

-- each l, until the run stops
abbrev pub TurnFine : ℕ → ℕ → ℕ → ℕ → State → Type 0
TurnFine n limit edition l x = ended x ≡ false → StageFine n limit edition l x

abbrev pub Tql2Fine : ℕ → ℕ → ℕ → Vec × Vec × Vec → Type 0
Tql2Fine n limit edition x = Along (turn n limit edition) (TurnFine n limit edition) 0 n (fresh, x.0, x.1, moved_up n x.2)

-- what is said of two runs: answer, place, index and count agree, v is the same, and d and e are multiplied by 2 ^ k
pub record Tql2Gained (k : ℕ) (x y : Answer × Vec × Vec × Vec) : Type 0 where
  pub numbers : y.0 ≡ x.0
  pub vectors : y.1 ≡ x.1
  pub values : y.2 ≡ map (scale (pos k)) x.2
  pub rest : y.3 ≡ map (scale (pos k)) x.3
