-- What a call that takes a decomposition may still say. Definitions only.
use Rattle.std.specs.Prelude.{◌≡◌, ◌⊎◌, true, false, ℕ, ◌+◌, Float, length}
use Rattle.grid.specs.Real.{Vec}
use Rattle.leaves.specs.Scan.{first_bad, bad_at}
use Rattle.leaves.specs.Finite.{Finite}
use Rattle.answers.specs.Answers.{answered, done, refused}
use Rattle.answers.specs.declared.Answer.{Answer}
use Rattle.answers.specs.Checks.{tolerance_good}

-- done, or refused by mark 2 with the index i and the class c: a value is too small to divide by
abbrev pub Ends : Answer → Type 0
Ends x = (x ≡ done 0) ⊎ ((i : ℕ) × (c : ℕ) × ((c ≡ 8) ⊎ (c ≡ 10)) × (x ≡ answered c 2 i 0))

-- what `pseudo_inverse` says of a tolerance: that it is refused, or nothing
pub data Weighs (tol : Float) (x : Answer) : Type 0 where
  refuses : tolerance_good tol ≡ false → x ≡ refused 11 0 → Weighs tol x
  takes : tolerance_good tol ≡ true → Ends x → Weighs tol x

-- what `solve` says of a right side and a tolerance: the right side's length, the tolerance, the right side's first number that is not finite behind the l numbers of the decomposition, or nothing
pub data Says (m l : ℕ) (tol : Float) (b : Vec) (x : Answer) : Type 0 where
  length_wrong : (length b ≡ m → ⊥) → x ≡ refused 5 0 → Says m l tol b x
  tolerance_bad : length b ≡ m → tolerance_good tol ≡ false → x ≡ refused 11 0 → Says m l tol b x
  not_finite : length b ≡ m → tolerance_good tol ≡ true → (i c : ℕ) → first_bad b ≡ bad_at i c → x ≡ refused 7 (l + i) → Says m l tol b x
  ends : length b ≡ m → tolerance_good tol ≡ true → Finite b → Ends x → Says m l tol b x
