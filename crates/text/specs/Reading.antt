-- How a text is read: each place of it is known once its first line is. Definitions only.
use Rattle.std.specs.Prelude.{Option, Some, None, Bool, cond, ◌&&◌, List, [], ◌∷◌, ◌++◌, map, ℕ, zero, suc, ◌+◌, ◌-◌, ◌*◌, ltb, leb, eqb, length, Float}
use Rattle.std.proofs.lemmas.List.Edits.{sets}
use Rattle.grid.specs.Loop.{every}
use Rattle.octets.specs.Bytes.{byte}
use Rattle.octets.specs.Bits.{float}
use Rattle.text.specs.Writing.{separator}
use Rattle.text.specs.declared.Reading.{Reading}
use Rattle.text.specs.declared.Number.{Number}
use Rattle.text.specs.declared.Head.{Head}

-- what a text is: a size, a limit and words, or none
pub data Text : Type 0 where
  good : ℕ → ℕ → List ℕ → Text
  bad : Text

-- the value of a lower-case hex digit, and 16 of any other byte
unfoldable pub value : ℕ → ℕ
value b = cond (ltb b 48) 16 (cond (ltb b 58) (b - 48) (cond (ltb b 97) 16 (cond (ltb b 103) (b - 87) 16)))

-- the value of a hex digit, if the byte is one
abbrev pub digit_of : ℕ → Option ℕ
digit_of b = cond (ltb (value b) 16) (Some (value b)) None

-- a number that was read, and the place behind what ended it
abbrev pub ended : ℕ → ℕ → Option Number
ended v next = Some (record { value = v; next = next })

-- a first line that was read, and the place behind it
abbrev pub line : ℕ → ℕ → ℕ → Option Head
line n limit next = Some (record { n = n; limit = limit; next = next })

-- a decimal number of one to three digits that starts at `at` and that the byte end ends, and the place behind it; no 0 in front but in 0 itself.
-- Its first bytes are a, b, c and d.
unfoldable pub number_of : ℕ → ℕ → ℕ → ℕ → ℕ → ℕ → Option Number
number_of at end a b c d =
    cond (leb 10 (value a)) None
    (cond (eqb b end) (ended (value a) (at + 2))
    (cond (eqb (value a) 0) None
    (cond (leb 10 (value b)) None
    (cond (eqb c end) (ended (value a * 10 + value b) (at + 3))
    (cond (leb 10 (value c)) None
    (cond (eqb d end) (ended (value a * 100 + value b * 10 + value c) (at + 4))
    None))))))

unfoldable pub number_at : List ℕ → ℕ → ℕ → Option Number
number_at t at end = number_of at end (byte t at) (byte t (at + 1)) (byte t (at + 2)) (byte t (at + 3))

-- the first line: n, at most 32, and a space, then the limit and a line feed
abbrev pub limit_in : ℕ → Option Number → Option Head
limit_in n (Some x) = line n x.value x.next
limit_in n None = None

abbrev pub limit_of : ℕ → Option Number → Option Head
limit_of n x = cond (ltb 32 n) None (limit_in n x)

abbrev pub head_of : List ℕ → Option Number → Option Head
head_of t (Some x) = limit_of x.value (number_at t x.next 10)
head_of t None = None

unfoldable pub head : List ℕ → Option Head
head t = head_of t (number_at t 0 32)

-- digit i of the word that starts at `at`
abbrev pub digit_at : List ℕ → ℕ → ℕ → Bool
digit_at t at i = ltb (value (byte t (at + i))) 16

-- word k, and what ends it, where the words start at `start`: seventeen bytes a word
unfoldable pub group_at : List ℕ → ℕ → ℕ → ℕ → Bool
group_at t n start k = every (digit_at t (start + 17 * k)) 16 && eqb (byte t (start + 17 * k + 16)) (separator n k)

-- the number of the first k digits d
unfoldable pub horner : (ℕ → ℕ) → ℕ → ℕ
horner d zero = 0
horner d (suc k) = horner d k * 16 + d k

abbrev pub value_at : List ℕ → ℕ → ℕ → ℕ
value_at t at i = value (byte t (at + i))

unfoldable pub word_at : List ℕ → ℕ → ℕ
word_at t at = horner (value_at t at) 16

-- f 0, f 1, .., f (m - 1)
module _ {A : Type 0} where
  unfoldable pub table : (ℕ → A) → ℕ → List A
  table f zero = []
  table f (suc m) = table f m ++ (f m ∷ [])

-- the text with that first line: its length is known, and every word is good
unfoldable pub words_read : List ℕ → ℕ → ℕ → ℕ → Text
words_read t n limit start =
    cond (eqb (length t) (start + 17 * (n * n)) && every (group_at t n start) (n * n))
    (good n limit (table (λ k. word_at t (start + 17 * k)) (n * n)))
    bad

abbrev pub reading_of : List ℕ → Option Head → Text
reading_of t (Some h) = words_read t h.n h.limit h.next
reading_of t None = bad

unfoldable pub reading : List ℕ → Text
reading t = reading_of t (head t)

-- ---- the numbers

-- what reading answers and leaves in the matrix: the words at its front, what goes past the end being dropped
abbrev pub outcome : Text → List Float → Option Reading × List Float
outcome (good n limit ws) matrix = (Some (record { n = n; limit = limit }), sets matrix 0 (map float ws))
outcome bad matrix = (None, matrix)
