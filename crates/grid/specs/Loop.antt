-- A loop as a definition: `upto`, `down` and `fall` by turns that are counted, `first` a search, `rounds` until a test holds; `every` a test of each number below a bound. Definitions only.
use Rattle.std.specs.Prelude.{Bool, true, cond, ◌&&◌, ℕ, zero, suc, ◌+◌, ◌-◌}

-- the first of a, a + 1, .., a + k - 1 at which p holds, or a + k
unfoldable pub seek : (ℕ → Bool) → ℕ → ℕ → ℕ
seek p a zero = a
seek p a (suc k) = cond (p a) a (seek p (a + 1) k)

-- the first index from a on and below b at which p holds, or b
unfoldable pub first : (ℕ → Bool) → ℕ → ℕ → ℕ
first p a b = seek p a (b - a)

-- p holds of every number below m
unfoldable pub every : (ℕ → Bool) → ℕ → Bool
every p zero = true
every p (suc m) = every p m && p m

module _ {S : Type 0} where
  -- f at 0, 1, .., k - 1 in turn
  unfoldable pub times : (ℕ → S → S) → ℕ → S → S
  times f zero s = s
  times f (suc k) s = f k (times f k s)

  -- f at a, a + 1, .., b - 1 in turn
  unfoldable pub upto : (ℕ → S → S) → ℕ → ℕ → S → S
  upto f a b s = times (λ k. f (a + k)) (b - a) s

  -- f at b, then at b - 1, .., and last at 1
  unfoldable pub down : (ℕ → S → S) → ℕ → S → S
  down f zero s = s
  down f (suc k) s = down f k (f (suc k) s)

  -- f, again and again, until p holds of what it gives, and at most k times
  unfoldable pub rounds : (S → S) → (S → Bool) → ℕ → S → S
  rounds f p zero s = s
  rounds f p (suc k) s = cond (p (f s)) (f s) (rounds f p k (f s))

  -- f at a + k - 1, a + k - 2, .., a
  unfoldable pub drops : (ℕ → S → S) → ℕ → ℕ → S → S
  drops f a zero s = s
  drops f a (suc k) s = drops f a k (f (a + k) s)

  -- f at b - 1, b - 2, .., a
  unfoldable pub fall : (ℕ → S → S) → ℕ → ℕ → S → S
  fall f a b s = drops f a (b - a) s
