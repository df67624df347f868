-- Whole numbers as big-endian bytes, and bytes as numbers. Definitions only.
use Rattle.std.specs.Prelude.{List, [], ◌∷◌, ◌++◌, ℕ, zero, suc, ◌+◌, ◌*◌, ◌/◌, ◌%◌, ◌<◌, get_or}

-- n in k bytes, the highest first
unfoldable pub be : ℕ → ℕ → List ℕ
be zero n = []
be (suc k) n = be k (n / 256) ++ (n % 256 ∷ [])

-- three u32, one behind the other
unfoldable pub three : ℕ → ℕ → ℕ → List ℕ
three a b c = be 4 a ++ be 4 b ++ be 4 c

-- u64, one behind the other
unfoldable pub words_bytes : List ℕ → List ℕ
words_bytes [] = []
words_bytes (w ∷ ws) = be 8 w ++ words_bytes ws

-- the byte at i, and 0 behind the end, which is in no text
abbrev pub byte : List ℕ → ℕ → ℕ
byte t i = get_or t i 0

-- the number that k bytes from `at` on are
unfoldable pub num : ℕ → List ℕ → ℕ → ℕ
num zero t at = 0
num (suc k) t at = num k t at * 256 + byte t (at + k)

-- n numbers of eight bytes from `at` on
unfoldable pub words_at : List ℕ → ℕ → ℕ → List ℕ
words_at t at zero = []
words_at t at (suc n) = num 8 t at ∷ words_at t (at + 8) n

-- a list of bytes
abbrev pub Bytes : List ℕ → Type 0
Bytes t = (i : ℕ) → byte t i < 256
