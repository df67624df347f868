-- What the theorem asks of a call of `svd`. Definitions only.
-- It follows the definitions of the run, and names each operation where the run does it: each number computed is zero, or finite and above 2 ^ -1022 in magnitude (`fine`), and a
-- product is zero only where a factor is (`Product` says both). Not asked, since the theorem has no need of it: the numbers given; of a rotation, all past the two halves of zeta,
-- so every quotient, t, c and s; the turning of the second factor; what a run would compute past its end.
use Rattle.std.specs.Prelude.{◌≡◌, Bool, true, false, ℕ, ◌+◌, T, Float}
use Rattle.std.specs.Float.Ieee.{eq}
use Rattle.grid.specs.Real.{Vec, at, zero64, two64, epsilon, ◌⊕◌, ◌⊖◌, ◌⊗◌}
use Rattle.root.specs.Root.{root}
use Rattle.answers.specs.Answers.{passed, least}
use Rattle.svd_jacobi_svd_tall.specs.declared.sweep.Sums.{Sums}
use Rattle.svd_jacobi_svd_tall.specs.declared.sweep.Rotation.{Rotation}
use Rattle.svd_jacobi_svd_tall.specs.Sweep.{u_at, gram, skipped, rotation_of, pair_done, pairs_of}
use Rattle.svd_jacobi_svd_tall.specs.SweepSteps.{gram_step, rotate_step}
use Rattle.svd_jacobi_svd_tall.specs.SingularValues.{norm_sq, normal_step}
use Rattle.svd_jacobi_svd_tall.specs.SingularValuesSteps.{norm_step}
use Rattle.svd_jacobi_svd_tall.specs.JacobiSvdTall.{going_after, swept, ended, sweeps}
use Rattle.svd_sort_svd_descending.specs.Result.{longest}
use Rattle.svd_theorems.specs.Outcome.{Taken, begun}
use Rattle.svd_gain_theorems.specs.Scale.{fine, Product}
use Rattle.svd_gain_theorems.specs.Along.{Along, Rounds}

-- ---- one pair of columns

-- turn i of the sums over the columns at a and b, `gram_step`: the three products, and the three sums that they are added to
pub record GramFine (a b : ℕ) (w : Vec) (i : ℕ) (x : Sums) : Type 0 where
  pub pp : Product (at w (a + i)) (at w (a + i))
  pub qq : Product (at w (b + i)) (at w (b + i))
  pub pq : Product (at w (a + i)) (at w (b + i))
  pub first : T (fine (x.alpha ⊕ at w (a + i) ⊗ at w (a + i)))
  pub second : T (fine (x.beta ⊕ at w (b + i) ⊗ at w (b + i)))
  pub third : T (fine (x.gamma ⊕ at w (a + i) ⊗ at w (b + i)))

abbrev pub nothing : Sums
nothing = record { alpha = zero64; beta = zero64; gamma = zero64 }

-- the test whether the columns are orthogonal, `skipped`: where gamma is zero it computes nothing
pub record SkipFine (x : Sums) : Type 0 where
  pub product : eq x.gamma zero64 ≡ false → Product x.alpha x.beta
  pub rooted : eq x.gamma zero64 ≡ false → T (fine (root (x.alpha ⊗ x.beta)))
  pub bound : eq x.gamma zero64 ≡ false → Product epsilon (root (x.alpha ⊗ x.beta))

-- the two halves of zeta, in `rotation_of`
pub record RotationFine (x : Sums) : Type 0 where
  pub difference : T (fine (x.beta ⊖ x.alpha))
  pub twice : Product two64 x.gamma

-- turn i of the rotation of the columns at a and b, `rotate_step`: for each of the two numbers both products, and their difference or sum
pub record TurnFine (a b : ℕ) (r : Rotation) (i : ℕ) (w : Vec) : Type 0 where
  pub cp : Product r.c (at w (a + i))
  pub sq : Product r.s (at w (b + i))
  pub first : T (fine (r.c ⊗ at w (a + i) ⊖ r.s ⊗ at w (b + i)))
  pub sp : Product r.s (at w (a + i))
  pub cq : Product r.c (at w (b + i))
  pub second : T (fine (r.s ⊗ at w (a + i) ⊕ r.c ⊗ at w (b + i)))

abbrev pub gram_of : ℕ → ℕ → ℕ → Vec → Sums
gram_of rows p q w = gram (u_at rows p) (u_at rows q) rows w

-- columns p and q: `pair_done`. Those of the second factor are rotated too, but by the same numbers in both runs
pub record PairFine (rows cols p q : ℕ) (x : Bool × Vec) : Type 0 where
  pub sums : Along (gram_step (u_at rows p) (u_at rows q) x.1) (GramFine (u_at rows p) (u_at rows q) x.1) 0 rows nothing
  pub skip : SkipFine (gram_of rows p q x.1)
  pub rotation : skipped (gram_of rows p q x.1) ≡ false → RotationFine (gram_of rows p q x.1)
  pub turn : skipped (gram_of rows p q x.1) ≡ false
      → Along (rotate_step (u_at rows p) (u_at rows q) (rotation_of (gram_of rows p q x.1))) (TurnFine (u_at rows p) (u_at rows q) (rotation_of (gram_of rows p q x.1))) 0 rows x.1

-- ---- the sweeps: `pairs_of`, `sweep`, `sweeps`

abbrev pub PairsFine : ℕ → ℕ → ℕ → Bool × Vec → Type 0
PairsFine rows cols p x = Along (pair_done rows cols p) (PairFine rows cols p) (p + 1) cols x

abbrev pub SweepFine : ℕ → ℕ → Vec → Type 0
SweepFine rows cols w = Along (pairs_of rows cols) (PairsFine rows cols) 0 cols (false, w)

-- each sweep that is run
abbrev pub SweepsFine : ℕ → ℕ → ℕ → Vec → Type 0
SweepsFine rows cols limit w = Rounds (swept rows cols) ended (λ x. SweepFine rows cols x.1) limit (going_after 0, w)

-- ---- the values

-- turn i of the squared norm of the column at a, `norm_step`: the square, and the sum that it is added to
pub record NormFine (a : ℕ) (w : Vec) (i : ℕ) (x : Float) : Type 0 where
  pub square : Product (at w (a + i)) (at w (a + i))
  pub total : T (fine (x ⊕ at w (a + i) ⊗ at w (a + i)))

-- column j: `normal_step`
pub record ColumnFine (rows j : ℕ) (w : Vec) : Type 0 where
  pub squares : Along (norm_step (u_at rows j) w) (NormFine (u_at rows j) w) 0 rows zero64
  pub norm : T (fine (root (norm_sq (u_at rows j) rows w)))

abbrev pub ValuesFine : ℕ → ℕ → Vec → Type 0
ValuesFine rows cols w = Along (normal_step rows cols) (ColumnFine rows) 0 cols w

-- ---- the run, `jacobi`: the values are worked out where the sweeps settled

pub record RunFine (rows cols limit : ℕ) (w : Vec) : Type 0 where
  pub swept : SweepsFine rows cols limit w
  pub valued : passed (sweeps rows cols limit w).0 ≡ true → ValuesFine rows cols (sweeps rows cols limit w).1

-- ---- the call: where it passes checks 1, 2, 6 and 7, its run

abbrev pub SvdFine : (m n want_u want_vt limit : ℕ) (matrix work result : Vec) → Type 0
SvdFine m n want_u want_vt limit matrix work result =
    Taken m n want_u want_vt limit matrix work result → RunFine (longest m n) (least m n) limit (begun m n matrix)
