-- A run of `lanczos` from its steps, and where each of its numbers is given. Definitions only.
-- The steps are the definition's own, one after the other; the inner call is `symmetric_eigen` on the tridiagonal matrix that they leave.
use Rattle.std.specs.Prelude.{◌≡◌, ◌⊎◌, true, false, ◌++◌, ℕ, ◌+◌, ◌*◌, ◌<◌, ◌≤◌, Float, length, take, drop}
use Rattle.std.specs.Float.Ieee.{lt}
use Rattle.grid.specs.Real.{Vec, zeros, at}
use Rattle.leaves.specs.Leaf.{is_finite}
use Rattle.leaves.specs.Scan.{class_of}
use Rattle.leaves.specs.Finite.{Finite, First}
use Rattle.answers.specs.Answers.{answered, refused, least}
use Rattle.answers.specs.declared.Answer.{Answer}
use Rattle.gram_schmidt.specs.Gram.{dot, norm}
use Rattle.matvec.specs.Matvec.{product}
use Rattle.lanczos_steps.specs.Reorthogonalise.{twice}
use Rattle.lanczos_steps.specs.StepEnd.{least_beta}
use Rattle.lanczos_steps.specs.StartVector.{started}
use Rattle.lanczos_steps.specs.Krylov.{LanczosState, recurred, steps}
use Rattle.svd_sort_svd_descending.specs.Order.{order}
use Rattle.lanczos_pairs.specs.RitzPairs.{pairs}
use Rattle.lanczos_pairs.specs.TridiagonalMatrix.{tri}
use Rattle.lanczos_pairs.specs.TridiagonalEigen.{inward}
use Rattle.eigen_theorems.specs.Outcome as Outcome
use Rattle.lanczos.specs.Checks.{size}

-- ---- the steps

-- how they stand before step j
abbrev pub state_at : ℕ → ℕ → Vec → Vec → ℕ → LanczosState
state_at n k a b j = steps n j a (zeros (size n k * n)) (zeros 256) (zeros 256) (started n (norm n b) b)

-- alpha of step j, and its beta
abbrev pub alpha_at : ℕ → ℕ → Vec → Vec → ℕ → Float
alpha_at n k a b j =
    let x = state_at n k a b j in
    dot n x.4 (product n a x.4)

abbrev pub beta_at : ℕ → ℕ → Vec → Vec → ℕ → Float
beta_at n k a b j =
    let x = state_at n k a b j in
    norm n (twice n j x.1 x.4 (recurred n j (alpha_at n k a b j) x.1 x.3 x.4 (product n a x.4)))

-- every step before j goes on: alpha and beta are finite, and beta is above 1e-12
pub record Goes (n k : ℕ) (a b : Vec) (i : ℕ) : Type 0 where
  pub alpha : is_finite (alpha_at n k a b i) ≡ true
  pub beta : is_finite (beta_at n k a b i) ≡ true
  pub wide : lt least_beta (beta_at n k a b i) ≡ true

abbrev pub Clean : ℕ → ℕ → Vec → Vec → ℕ → Type 0
Clean n k a b j = (i : ℕ) → i < j → Goes n k a b i

-- m steps are run: all of them, or the last is the first whose beta is not above 1e-12
pub data Stepped (n k : ℕ) (a b : Vec) : ℕ → Type 0 where
  all : Clean n k a b (size n k) → Stepped n k a b (size n k)
  early : (j : ℕ) → j < size n k → Clean n k a b j → is_finite (alpha_at n k a b j) ≡ true → is_finite (beta_at n k a b j) ≡ true → lt least_beta (beta_at n k a b j) ≡ false → Stepped n k a b (j + 1)

-- ---- the inner call, on m rows

abbrev pub matrix_of : ℕ → ℕ → Vec → Vec → ℕ → Vec
matrix_of n k a b m =
    let x = state_at n k a b (size n k) in
    tri m x.2 x.3 (zeros (m * m))

abbrev pub inner_of : ℕ → ℕ → ℕ → ℕ → Vec → Vec → ℕ → Answer × Vec × Vec
inner_of n k limit edition a b m =
    let x = state_at n k a b (size n k) in
    inward m limit edition x.2 x.3

-- its values, and the whole answer: values and rows of the pairs found, in descending order
abbrev pub values_of : ℕ → ℕ → ℕ → ℕ → Vec → Vec → ℕ → Vec
values_of n k limit edition a b m = take m (inner_of n k limit edition a b m).2

abbrev pub found_of : ℕ → ℕ → ℕ → ℕ → Vec → Vec → ℕ → Vec
found_of n k limit edition a b m =
    pairs n k m (least k m) (state_at n k a b (size n k)).1 (values_of n k limit edition a b m) (drop m (inner_of n k limit edition a b m).2)
    (order (at (values_of n k limit edition a b m)) m) (zeros (k + k * n))

-- ---- what a call that passes the checks on sizes, limit, edition and lengths gives: the four numbers and the answer array

pub data Says (n k limit edition : ℕ) (a b : Vec) : Answer × Vec → Type 0 where
  at_number : {i c : ℕ} → First (at (a ++ b)) (length (a ++ b)) i c → Says n k limit edition a b (refused 7 i, zeros (k + k * n))
  at_norm : Finite (a ++ b) → is_finite (norm n b) ≡ false → Says n k limit edition a b (answered (class_of (norm n b)) 3 0 0, zeros (k + k * n))
  at_alpha : Finite (a ++ b) → is_finite (norm n b) ≡ true → (j : ℕ) → j < size n k → Clean n k a b j → is_finite (alpha_at n k a b j) ≡ false
      → Says n k limit edition a b (answered (class_of (alpha_at n k a b j)) 4 j 0, zeros (k + k * n))
  at_beta : Finite (a ++ b) → is_finite (norm n b) ≡ true → (j : ℕ) → j < size n k → Clean n k a b j → is_finite (alpha_at n k a b j) ≡ true → is_finite (beta_at n k a b j) ≡ false
      → Says n k limit edition a b (answered (class_of (beta_at n k a b j)) 5 j 0, zeros (k + k * n))
  inner : Finite (a ++ b) → is_finite (norm n b) ≡ true → (m : ℕ) → m ≤ n → Stepped n k a b m → ((inner_of n k limit edition a b m).0.answer ≡ 0 → ⊥)
      → Says n k limit edition a b ((inner_of n k limit edition a b m).0, zeros (k + k * n))
  at_answer : Finite (a ++ b) → is_finite (norm n b) ≡ true → (m : ℕ) → m ≤ n → Stepped n k a b m → (inner_of n k limit edition a b m).0.answer ≡ 0
      → {i c : ℕ} → First (at (found_of n k limit edition a b m)) (length (found_of n k limit edition a b m)) i c
      → Says n k limit edition a b (answered c 6 i (inner_of n k limit edition a b m).0.count, zeros (length (found_of n k limit edition a b m)))
  found : Finite (a ++ b) → is_finite (norm n b) ≡ true → (m : ℕ) → m ≤ n → Stepped n k a b m → (inner_of n k limit edition a b m).0.answer ≡ 0 → Finite (found_of n k limit edition a b m)
      → Says n k limit edition a b (answered 0 (least k m) 0 (inner_of n k limit edition a b m).0.count, found_of n k limit edition a b m)

-- ---- what the index of 8 and 10 says, by the place: the norm of the start vector; alpha or beta of the step that the index names, every one before it finite;
-- what the inner call's mark looks at; the answer, every number before it finite

pub data Points (n k limit edition : ℕ) (a b : Vec) : Answer → Type 0 where
  the_norm : {c : ℕ} → is_finite (norm n b) ≡ false → c ≡ class_of (norm n b) → Points n k limit edition a b (answered c 3 0 0)
  the_alpha : {c j : ℕ} → j < size n k → Clean n k a b j → is_finite (alpha_at n k a b j) ≡ false → c ≡ class_of (alpha_at n k a b j) → Points n k limit edition a b (answered c 4 j 0)
  the_beta : {c j : ℕ} → j < size n k → Clean n k a b j → is_finite (alpha_at n k a b j) ≡ true → is_finite (beta_at n k a b j) ≡ false → c ≡ class_of (beta_at n k a b j)
      → Points n k limit edition a b (answered c 5 j 0)
  the_inner : {x : Answer} (m : ℕ) → Stepped n k a b m → Outcome.Points m limit edition (matrix_of n k a b m) x → Points n k limit edition a b x
  the_answer : {c i : ℕ} (m : ℕ) → Stepped n k a b m → First (at (found_of n k limit edition a b m)) (length (found_of n k limit edition a b m)) i c
      → Points n k limit edition a b (answered c 6 i (inner_of n k limit edition a b m).0.count)

-- ---- every answer there is

abbrev pub LanczosAnswer : ℕ → Type 0
LanczosAnswer x =
    (x ≡ 0) ⊎ ((x ≡ 1) ⊎ ((x ≡ 2) ⊎ ((x ≡ 6) ⊎ ((x ≡ 7) ⊎ ((x ≡ 8) ⊎ ((x ≡ 9) ⊎ ((x ≡ 10) ⊎ ((x ≡ 12) ⊎ ((x ≡ 14) ⊎ (x ≡ 15))))))))))

-- a call whose sizes, limit and edition are right: checks 1, 2, 12, 14 and 15 pass
pub record Fit (n k limit edition : ℕ) : Type 0 where
  pub small : n ≤ 256
  pub some : 0 < n
  pub few : k ≤ n
  pub lower : 1 ≤ limit
  pub upper : limit ≤ 60
  pub choice : (edition ≡ 1) ⊎ (edition ≡ 2)
