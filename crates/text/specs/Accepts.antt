-- What it is that a text is the writing of n, limit and words: n at most 32, the limit at most 999, n·n words below 2 ^ 64. Definitions only.
use Rattle.std.specs.Prelude.{◌≡◌, List, ℕ, ◌*◌, ◌^◌, ◌≤◌, ◌<◌, length}
use Rattle.text.specs.Writing.{word_of, writing}

-- words of 64 bits
abbrev pub Words : List ℕ → Type 0
Words ws = (k : ℕ) → k < length ws → word_of ws k < 2 ^ 64

-- the text, and what bounds it
pub record Written (t : List ℕ) (n limit : ℕ) (ws : List ℕ) : Type 0 where
  pub size : n ≤ 32
  pub below : limit < 1000
  pub count : length ws ≡ n * n
  pub words : Words ws
  pub text : t ≡ writing n limit ws
