-- The scope's sweeps by document 000's own: each sweep leaves both factors finite, at most `limit` sweeps run, and so many run; or where and why it stops. Definitions only.
use Rattle.std.specs.Prelude.{◌≡◌, true, false, ℕ, zero, suc, ◌+◌, ◌*◌, ◌<◌, length}
use Rattle.grid.specs.Real.{Vec, at}
use Rattle.leaves.specs.Leaf.{is_finite}
use Rattle.leaves.specs.Finite.{First}
use Rattle.answers.specs.Answers.{answered, done}
use Rattle.answers.specs.declared.Answer.{Answer}
use Rattle.svd_jacobi_svd_tall.specs.Marks.{factors, values_factors}
use Rattle.svd_jacobi_svd_tall.specs.SingularValues.{normalised}
use Rattle.svd_jacobi_svd_tall.specs.Sweep.{sweep}

-- both factors are finite: what mark 1 looks at. They stand one behind the other in w, rows by cols and cols by cols
pub record Sound (rows cols : ℕ) (w : Vec) : Type 0 where
  pub first : (k : ℕ) → k < rows * cols → is_finite (at w k) ≡ true
  pub second : (k : ℕ) → k < cols * cols → is_finite (at w (rows * cols + k)) ≡ true

-- and the values: what mark 2 looks at
pub record Whole (rows cols : ℕ) (w : Vec) : Type 0 where
  pub factors : Sound rows cols w
  pub values : (k : ℕ) → k < cols → is_finite (at w (rows * cols + cols * cols + k)) ≡ true

-- number i of what mark 1 looks at is the first that is not finite, and of class a; and of what mark 2 looks at
abbrev pub Seen1 : ℕ → ℕ → Vec → ℕ → ℕ → Type 0
Seen1 rows cols w i a = First (at (factors rows cols w)) (length (factors rows cols w)) i a

abbrev pub Seen2 : ℕ → ℕ → Vec → ℕ → ℕ → Type 0
Seen2 rows cols w i a = First (at (values_factors rows cols w)) (length (values_factors rows cols w)) i a

-- how the sweeps end: no pair turned, or stopped by mark 1, which saw that class at that index, or the limit used up
pub data End : Type 0 where
  here : End
  bad : ℕ → ℕ → End
  used : End

-- with so many sweeps left: begun at w, ended at the last after so many
pub data Swept (rows cols : ℕ) : ℕ → ℕ → Vec → End → Vec → Type 0 where
  no_more : {w : Vec} → Swept rows cols zero zero w used w
  stop : {k a i : ℕ} {w : Vec} → Seen1 rows cols (sweep rows cols w).1 i a → Swept rows cols (suc k) 1 w (bad a i) (sweep rows cols w).1
  once : {k : ℕ} {w : Vec} → Sound rows cols (sweep rows cols w).1 → (sweep rows cols w).0 ≡ false → Swept rows cols (suc k) 1 w here (sweep rows cols w).1
  again : {k c : ℕ} {e : End} {w y : Vec} → Sound rows cols (sweep rows cols w).1 → (sweep rows cols w).0 ≡ true
      → Swept rows cols k c (sweep rows cols w).1 e y → Swept rows cols (suc k) (suc c) w e y

-- the four numbers and the work array after a run on w
pub data RunGives (rows cols limit : ℕ) (w : Vec) : Answer × Vec → Type 0 where
  well : {c : ℕ} {y : Vec} → Swept rows cols limit c w here y → Whole rows cols (normalised rows cols y) → RunGives rows cols limit w (done c, normalised rows cols y)
  at_mark2 : {c a i : ℕ} {y : Vec} → Swept rows cols limit c w here y → Seen2 rows cols (normalised rows cols y) i a
      → RunGives rows cols limit w (answered a 2 i c, normalised rows cols y)
  at_mark1 : {c a i : ℕ} {y : Vec} → Swept rows cols limit c w (bad a i) y → RunGives rows cols limit w (answered a 1 i c, y)
  at_limit : {c : ℕ} {y : Vec} → Swept rows cols limit c w used y → RunGives rows cols limit w (answered 9 c 0 c, y)
