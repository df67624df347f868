-- A predicate along a loop: it holds of the state before each turn that is done. Definitions only.
use Rattle.std.specs.Prelude.{◌≡◌, Bool, false, ℕ, zero, suc, ◌≤◌, ◌<◌}
use Rattle.grid.specs.Loop.{upto}

module _ {S : Type 0} where
  -- P holds of every turn's number and of the state before that turn
  abbrev pub Along : (ℕ → S → S) → (ℕ → S → Type 0) → ℕ → ℕ → S → Type 0
  Along f P a b s = (j : ℕ) → a ≤ j → j < b → P j (upto f a j s)

  -- P holds of the state before each round that is done
  unfoldable pub Rounds : (S → S) → (S → Bool) → (S → Type 0) → ℕ → S → Type 0
  Rounds f p P zero s = Unit
  Rounds f p P (suc k) s = P s × (p (f s) ≡ false → Rounds f p P k (f s))
