-- The answer to a text: what `symmetric_eigen` gives for its matrix, written out, or "bad text". Definitions only.
use Rattle.std.specs.Prelude.{List, map, ℕ, ◌+◌, ◌*◌}
use Rattle.grid.specs.Real.{Vec, zeros}
use Rattle.answers.specs.declared.Answer.{Answer}
use Rattle.eigen_symmetric_eigen.specs.SymmetricEigen.{eigen}
use Rattle.text.specs.Reading.{Text, good, bad, reading}
use Rattle.octets.specs.Bits.{float}
use Rattle.text.specs.Writing.{answer_text, bad_text}

-- an outcome's text: its four numbers, and of its result the values and the vectors
abbrev pub shown_of : ℕ → Answer × Vec × Vec → List ℕ
shown_of n x = answer_text x.0.answer x.0.place x.0.index x.0.count n x.2

-- the call, in edition 1, with work and result at +0.0
unfoldable pub solved : ℕ → ℕ → Vec → List ℕ
solved n limit a = shown_of n (eigen n limit 1 a (zeros n) (zeros (n + n * n)))

abbrev pub reply_of : Text → List ℕ
reply_of (good n limit ws) = solved n limit (map float ws)
reply_of bad = bad_text

unfoldable pub reply : List ℕ → List ℕ
reply t = reply_of (reading t)
