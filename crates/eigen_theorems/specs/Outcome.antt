-- What is said of a call of `symmetric_eigen`: that it fits, and its outcome in document 000's own loops, the marks and the limit (`Done`, `Halted`, `Broken0`, `Broken2`). Definitions only.
use Rattle.std.specs.Prelude.{◌≡◌, ◌⊎◌, Bool, true, [], ◌++◌, ℕ, ◌+◌, ◌*◌, ◌≤◌, ◌<◌, Float, length}
use Rattle.std.specs.Float.{nan, inf}
use Rattle.grid.specs.Real.{Vec, at, zeros}
use Rattle.grid.specs.Cell.{at2, entry}
use Rattle.leaves.specs.Leaf.{is_finite}
use Rattle.leaves.specs.Scan.{by_rows}
use Rattle.leaves.specs.Finite.{Finite}
use Rattle.answers.specs.Answers.{answered, done}
use Rattle.answers.specs.Index.{Class}
use Rattle.answers.specs.declared.Answer.{Answer}
use Rattle.eigen_tred2_definition.specs.Tred2.{tred2}
use Rattle.eigen_tql2.specs.Sort.{sorted}
use Rattle.eigen_theorems.specs.Tql2Document.{Carried, begun}
use Rattle.eigen_theorems.specs.Tql2Outcome.{FirstIn, list1, list2, End, bad, Turned, Ran, Whole, RunGives}
use Rattle.eigen_theorems.specs.Permutation.{Permutation}
use Rattle.eigen_symmetric_eigen.specs.Layout.{columns}
use Rattle.eigen_symmetric_eigen.specs.SymmetricEigen.{cleared, given, eigen}

-- what a call gives: its answer, work and result afterwards
abbrev pub Outcome : Type 0
Outcome = Answer × Vec × Vec

-- and what is promised of it
abbrev pub Promised : ℕ → ℕ → ℕ → Vec → Vec → Vec → Outcome → Type 0
Promised n limit edition a work result x = x ≡ eigen n limit edition a work result

-- done, stopped by a mark or by the limit: no refusal over sizes, lengths or what is read
abbrev pub RunAnswer : Answer → Type 0
RunAnswer x = (x.answer ≡ 0) ⊎ (x.answer ≡ 9) ⊎ Class x.answer

-- a call that passes checks 1, 2, 12 and 6
pub record Fit (n limit edition : ℕ) (a work result : Vec) : Type 0 where
  pub small : n ≤ 256
  pub least : 1 ≤ limit
  pub most : limit ≤ 60
  pub choice : (edition ≡ 1) ⊎ (edition ≡ 2)
  pub square : length a ≡ n * n
  pub works : length work ≡ n
  pub room : length result ≡ n + n * n

-- and check 7
pub record Taken (n limit edition : ℕ) (a work result : Vec) : Type 0 where
  pub fit : Fit n limit edition a work result
  pub finite : (i j : ℕ) → j ≤ i → i < n → is_finite (entry a n i j) ≡ true

-- v, d and e after tred2
abbrev pub reduced : ℕ → Vec → Vec × Vec × Vec
reduced n a = tred2 n (columns n a, zeros n, zeros n)

-- the list that mark 0 looks at: d, then e, then v row by row
abbrev pub list0 : ℕ → Vec × Vec × Vec → Vec
list0 n (v, d, e) = d ++ e ++ by_rows n v

-- they are finite: what mark 0 looks at
pub record Reduced (x : Vec × Vec × Vec) : Type 0 where
  pub vectors : Finite x.0
  pub values : Finite x.1
  pub beside : Finite x.2

-- n above 0, done after c passes: the values are d in the end, and entry (i, j) of the vectors is cell (i, j) of v
pub record Reached (n limit edition : ℕ) (a : Vec) (c : ℕ) (values vectors : Vec) : Type 0 where
  pub some : 0 < n
  pub sound : Reduced (reduced n a)
  pub last : Carried
  pub ran : Ran n limit edition (begun n (reduced n a)) n c last
  pub whole : Whole last
  pub values_are : values ≡ (sorted n (last.v, last.d)).1
  pub long : length vectors ≡ n * n
  pub vectors_are : (i j : ℕ) → i < n → j < n → entry vectors n i j ≡ at2 (sorted n (last.v, last.d)).0 n i j

pub data Done (n limit edition : ℕ) (a : Vec) (c : ℕ) (values vectors : Vec) : Type 0 where
  empty : n ≡ 0 → c ≡ 0 → values ≡ [] → vectors ≡ [] → Done n limit edition a c values vectors
  worked : Reached n limit edition a c values vectors → Done n limit edition a c values vectors

-- n above 0, stopped at l after c passes, by the limit or by mark 1
pub record Halted (n limit edition : ℕ) (a : Vec) (e : End) (l c : ℕ) : Type 0 where
  pub some : 0 < n
  pub sound : Reduced (reduced n a)
  pub below : l < n
  pub count : ℕ
  pub before : Carried
  pub ran : Ran n limit edition (begun n (reduced n a)) l count before
  pub passes : ℕ
  pub after : Carried
  pub turned : Turned n limit edition l before passes e after
  pub in_all : count + passes ≡ c

-- n above 0, and number i of what mark 0 looks at is the first that is not finite, and of class b; of what mark 2 looks at after c passes
pub record Broken0 (n : ℕ) (a : Vec) (b i : ℕ) : Type 0 where
  pub some : 0 < n
  pub seen : FirstIn (list0 n (reduced n a)) b i

pub record Broken2 (n limit edition : ℕ) (a : Vec) (b i c : ℕ) : Type 0 where
  pub some : 0 < n
  pub sound : Reduced (reduced n a)
  pub last : Carried
  pub ran : Ran n limit edition (begun n (reduced n a)) n c last
  pub seen : FirstIn (list2 n last) b i

-- the outcome of a call that is taken
pub data Says (n limit edition : ℕ) (a : Vec) : Outcome → Type 0 where
  nothing : n ≡ 0 → Says n limit edition a (cleared n (done 0))
  at_mark0 : {b i : ℕ} → Broken0 n a b i → Says n limit edition a (cleared n (answered b 0 i 0))
  runs : {o : Answer × Vec × Vec × Vec} → 0 < n → Reduced (reduced n a) → RunGives n limit edition (reduced n a) o → Says n limit edition a (given n o)

-- a done outcome, with its values and its vectors row by row behind them
abbrev pub finished_with : ℕ → ℕ → Vec → Vec → Outcome
finished_with n c values vectors = (done c, zeros n, values ++ vectors)

-- what is done, of some values and vectors
pub record Some (n limit edition : ℕ) (a : Vec) (c : ℕ) (result : Vec) : Type 0 where
  pub values : Vec
  pub vectors : Vec
  pub exactly : Done n limit edition a c values vectors
  pub whole : result ≡ values ++ vectors

-- the run's d and v, and the order in which they come out: π k is the run's index of what comes to place k
pub record Columns (n limit edition : ℕ) (a : Vec) (c : ℕ) (result : Vec) : Type 0 where
  pub last : Carried
  pub ran : Ran n limit edition (begun n (reduced n a)) n c last
  pub π : ℕ → ℕ
  pub σ : ℕ → ℕ
  pub permutes : Permutation n π σ
  pub values : (k : ℕ) → k < n → at result k ≡ at last.d (π k)
  pub vectors : (i k : ℕ) → i < n → k < n → at result (n + (i * n + k)) ≡ at2 last.v n i (π k)

-- the list that the mark of a place looks at, where it stops a call after c passes
pub data Looked (n limit edition : ℕ) (a : Vec) : ℕ → ℕ → Vec → Type 0 where
  after_tred_lem : Looked n limit edition a 0 0 (list0 n (reduced n a))
  after_pass_lem : {l c k b i : ℕ} {y z : Carried} → l < n → Ran n limit edition (begun n (reduced n a)) l c y → Turned n limit edition l y k (bad b i) z → Looked n limit edition a 1 (c + k) (list1 z)
  after_last : {c : ℕ} {y : Carried} → Ran n limit edition (begun n (reduced n a)) n c y → Looked n limit edition a 2 c (list2 n y)

abbrev pub Infinite : Float → Type 0
Infinite x = (s : Bool) × (x ≡ inf s)

-- what the index of an answer 8 or 10 says: of the list that the place's mark looks at, the number there is infinite (8) or NaN (10), and every number before it is finite
pub record Points (n limit edition : ℕ) (a : Vec) (x : Answer) : Type 0 where
  pub list : Vec
  pub looked : Looked n limit edition a x.place x.count list
  pub within : x.index < length list
  pub infinite : x.answer ≡ 8 → Infinite (at list x.index)
  pub not_number : x.answer ≡ 10 → at list x.index ≡ nan
  pub before : (k : ℕ) → k < x.index → is_finite (at list k) ≡ true
