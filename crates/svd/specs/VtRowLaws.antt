-- A row of V^T that is there stands within the result. Laws only.
use Rattle.std.specs.Prelude.{◌≡◌, ℕ, ◌+◌, ◌*◌, ◌≤◌, ◌<◌, Option, Some, None}
use Rattle.std.proofs.Common.{arith}
use Rattle.grid.specs.TableLaws.{row_end}
use Rattle.answers.specs.Answers.{least, present, decomposition_length}
use Rattle.answers.specs.AnswersLaws.{least_le, product_le}
use Rattle.answers.proofs.OutcomeLaws.{present_is}

-- a span that is there stands within a list of that length
abbrev pub Within : ℕ → Option (ℕ × ℕ) → Type 0
Within len (Some s) = (s.0 ≤ s.1) × (s.1 ≤ len)
Within len None = Unit

pub row_fits : (len m n has_u has_vt j r u : ℕ) → r ≡ least m n → u ≡ present has_u (m * r) → (has_vt ≡ 0 → ⊥) → j < r → len ≡ decomposition_length m n has_u has_vt
    → r + u + j * n + n ≤ len
unfolding decomposition_length
row_fits len m n has_u has_vt j r u e g p h q =
    rw (g, e) (omega (arith, q, row_end (least m n) n j (rw e at h), present_is has_vt (least m n * n) p))

-- U is small where both dimensions are
pub u_small : (m n r : ℕ) → m ≤ 256 → n ≤ 256 → r ≡ least m n → m * r ≤ 65536
u_small m n r p q e = product_le m r p (rw e (least_le m n 256 p q))
