-- What is said of a call of `svd`: that it is taken, its outcome by document 000's own sweeps, the marks and the limit, and where the cells of both factors stand. Definitions only.
use Rattle.std.specs.Prelude.{◌≡◌, cond, ℕ, ◌+◌, ◌*◌, ◌≤◌, length}
use Rattle.grid.specs.Real.{Vec, zeros}
use Rattle.leaves.specs.Finite.{Finite}
use Rattle.answers.specs.Answers.{passed, least, present, decomposition_length}
use Rattle.answers.specs.declared.Answer.{Answer}
use Rattle.svd_jacobi_svd_tall.specs.SingularValues.{normalised}
use Rattle.svd_theorems.specs.SweepsOutcome.{Whole, Seen2, End, here, Swept}
use Rattle.svd_sort_svd_descending.specs.Result.{longest, work_length, sorted_out}
use Rattle.svd.specs.Svd.{loaded, svd}

-- what a call gives: its answer, work and result afterwards
abbrev pub Outcome : Type 0
Outcome = Answer × Vec × Vec

-- what the contract says of the answer and of the two arrays at exit
abbrev pub Promised : (m n want_u want_vt limit : ℕ) (matrix work result : Vec) → Outcome → Type 0
Promised m n want_u want_vt limit matrix work result outcome = outcome ≡ svd m n want_u want_vt limit matrix work result

-- a call that passes checks 1, 2, 6 and 7
pub record Taken (m n want_u want_vt limit : ℕ) (matrix work result : Vec) : Type 0 where
  pub tall : m ≤ 256
  pub wide : n ≤ 256
  pub least_limit : 1 ≤ limit
  pub most : limit ≤ 60
  pub whole : length matrix ≡ m * n
  pub works : length work ≡ work_length m n
  pub room : length result ≡ decomposition_length m n want_u want_vt
  pub finite : Finite matrix

-- what the run begins with
abbrev pub begun : ℕ → ℕ → Vec → Vec
begun m n matrix = loaded m n matrix

-- the outcome, of what the run gave
unfoldable pub given : ℕ → ℕ → ℕ → ℕ → Answer × Vec → Outcome
given m n want_u want_vt x =
    (x.0, zeros (work_length m n), cond (passed x.0) (sorted_out m n want_u want_vt x.1) (zeros (decomposition_length m n want_u want_vt)))

-- done after c sweeps; stopped by mark 2, where number i of what it looks at is the first that is not finite, and of class a
pub record Done (m n limit : ℕ) (matrix : Vec) (c : ℕ) : Type 0 where
  pub last : Vec
  pub sweeps_to : Swept (longest m n) (least m n) limit c (begun m n matrix) here last
  pub whole : Whole (longest m n) (least m n) (normalised (longest m n) (least m n) last)

pub record Broken2 (m n limit : ℕ) (matrix : Vec) (c a i : ℕ) : Type 0 where
  pub last : Vec
  pub sweeps_to : Swept (longest m n) (least m n) limit c (begun m n matrix) here last
  pub seen : Seen2 (longest m n) (least m n) (normalised (longest m n) (least m n) last) i a

-- stopped by mark 1, or by the limit
pub record Halted (m n limit : ℕ) (matrix : Vec) (e : End) (c : ℕ) : Type 0 where
  pub last : Vec
  pub sweeps_to : Swept (longest m n) (least m n) limit c (begun m n matrix) e last

-- ---- the cells of a result

-- U begins behind the r values, V^T behind U
abbrev pub u_cell : ℕ → ℕ → ℕ → ℕ → ℕ
u_cell m n i k = least m n + (i * least m n + k)

abbrev pub vt_cell : ℕ → ℕ → ℕ → ℕ → ℕ → ℕ
vt_cell m n want_u k j = least m n + present want_u (m * least m n) + (k * n + j)
