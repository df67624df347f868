-- From a bit pattern b to that of its root: what each value of the code is by what the step before it promises. a is what the root is taken of, w the root's digits and what is
-- left, r the root's pattern.
use Rattle.std.proofs.Common.{◌≡◌, ℕ, ◌+◌, ◌*◌, ◌/◌, ◌%◌, ◌^◌, ◌<◌, ◌≤◌, cond, not, T, ltb, sym, ◌∙◌, arith}
use lib.Ieee.{binary64, nan_bits}
use Rattle.root.specs.Parts.{sig, exp, even, root_bits}
use Rattle.root.specs.School.{digits}
use Rattle.root.specs.declared.Found.{Found}
use Rattle.root.specs.declared.Radicand.{Radicand}
use Rattle.root.proofs.Fields.{split, root_bits_is, root_bits_le}
use Rattle.root.proofs.Fields as fields
use Rattle.root.proofs.Patterns.{no_nan}
use Rattle.root.proofs.School.{none, last, nearest}

module _ (b : ℕ) (p : 0 < b) (l : b < 0x7ff0_0000_0000_0000) where
  pub m_lt : (m : ℕ) → m ≡ sig b → m < 2 ^ 53
  m_lt m e = rw e (split b p l).most

  abbrev pub Taken : Radicand → Type 0
  Taken a = a ≡ record { n = even (sig b) (exp b); x = exp b }

  pub n_in : (a : Radicand) → Taken a → (0 < a.n) × (a.n < 2 ^ 54)
  n_in a e =
      let g = fields.paired (sig b) (exp b) (split b p l).least (split b p l).most in
      rw e (omega (arith, g.least), g.most)

  pub room : (a : Radicand) (w : Found) → Taken a → w ≡ digits 53 ((a.n * 2 ^ 8) % 2 ^ 64) none → (a.x ≤ 2098) × (w.s < 2 ^ 53)
  room a w e h = (rw e (split b p l).few, (last a.n w (n_in a e).1 h).2)

  pub bits_are : (a : Radicand) (w : Found) (r : ℕ) → Taken a → w ≡ digits 53 ((a.n * 2 ^ 8) % 2 ^ 64) none
      → r ≡ (a.x + 969) / 2 * 2 ^ 52 + cond (ltb w.s w.r) (w.s + 1) w.s → r ≡ root_bits b
  bits_are a w r e h k = k ∙ rw (nearest a.n w (n_in a e).0 (n_in a e).1 h, e) (sym (root_bits_is b))

  pub finite : (r : ℕ) → r ≡ root_bits b → T (not (nan_bits binary64 r))
  finite r e = no_nan r (rw e (root_bits_le b p l))
