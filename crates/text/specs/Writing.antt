-- How a text is written: numbers as lists of bytes, of which 10 is the line feed, 32 the space, 48 the digit 0 and 97 the letter a. Definitions only.
use Rattle.std.specs.Prelude.{Bool, false, cond, List, [], ◌∷◌, ◌++◌, ℕ, zero, suc, ◌+◌, ◌*◌, ◌/◌, ◌%◌, ltb, leb, eqb, length, get_or, Float}
use Rattle.std.proofs.lemmas.List.Edits.{sets}
use Rattle.std.specs.Float.{nan}
use Rattle.octets.specs.Bits.{bits}

-- a digit below 16: 0 to 9, then a to f
unfoldable pub glyph : ℕ → ℕ
glyph d = cond (ltb d 10) (48 + d) (87 + d)

-- the last k digits of n in base b, the highest first
unfoldable pub digits : ℕ → ℕ → ℕ → List ℕ
digits b zero n = []
digits b (suc k) n = digits b k (n / b) ++ (glyph (n % b) ∷ [])

-- k, and one more for each tenth of rest that is not 0 yet, so many at the most
unfoldable pub places_from : ℕ → ℕ → ℕ → ℕ
places_from zero rest k = k
places_from (suc left) rest k = cond (eqb rest 0) k (places_from left (rest / 10) (k + 1))

-- how many decimal digits n has, with no 0 in front but in 0 itself; 2 ^ 64 has 20
unfoldable pub places : ℕ → ℕ
places n = places_from 19 (n / 10) 1

-- n in decimal, and the byte that ends it
unfoldable pub number : ℕ → ℕ → List ℕ
number n end = digits 10 (places n) n ++ (end ∷ [])

-- f 0, f 1, .., f (m - 1), one behind the other
unfoldable pub joined : (ℕ → List ℕ) → ℕ → List ℕ
joined f zero = []
joined f (suc m) = joined f m ++ f m

-- behind word k: a line feed where it is the last of its line of n words, else a space
unfoldable pub separator : ℕ → ℕ → ℕ
separator n k = cond (eqb ((k + 1) % n) 0) 10 32

-- word k, of the words w, in sixteen hex digits, and what ends it
unfoldable pub group : ℕ → (ℕ → ℕ) → ℕ → List ℕ
group n w k = digits 16 16 (w k) ++ (separator n k ∷ [])

-- the first m of the words w, n a line
unfoldable pub lines : ℕ → (ℕ → ℕ) → ℕ → List ℕ
lines n w m = joined (group n w) m

abbrev pub word_of : List ℕ → ℕ → ℕ
word_of ws k = get_or ws k 0

-- the text of a matrix: the line "n limit", then its words, n a line
unfoldable pub writing : ℕ → ℕ → List ℕ → List ℕ
writing n limit ws = number n 32 ++ number limit 10 ++ lines n (word_of ws) (n * n)

-- ---- the answer

unfoldable pub bits_at : List Float → ℕ → ℕ
bits_at result k = bits (get_or result k nan)

-- values and vectors are shown on 0 where there are any; a text has no n above 32
unfoldable pub shown : ℕ → ℕ → Bool
shown answer n = cond (eqb answer 0) (cond (ltb n 1) false (leb n 32)) false

-- the line "answer place index count"
abbrev pub first_line : ℕ → ℕ → ℕ → ℕ → List ℕ
first_line answer place index count = number answer 32 ++ number place 32 ++ number index 32 ++ number count 10

-- that line, and where they are shown the n values on a line and the vectors row by row
unfoldable pub answer_text : ℕ → ℕ → ℕ → ℕ → ℕ → List Float → List ℕ
answer_text answer place index count n result = first_line answer place index count ++ cond (shown answer n) (lines n (bits_at result) (n + n * n)) []

-- "bad text" and a line feed
unfoldable pub bad_text : List ℕ
bad_text = 98 ∷ 97 ∷ 100 ∷ 32 ∷ 116 ∷ 101 ∷ 120 ∷ 116 ∷ 10 ∷ []

-- ---- what a buffer holds

-- a text put to the buffer's front, what goes past the end being dropped: its length, and the buffer
abbrev pub written : List ℕ → List ℕ → ℕ × List ℕ
written text out = (length text, sets out 0 text)
