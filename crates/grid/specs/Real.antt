-- f64 and its operations by short names: each rounds once. Definitions only.
use Rattle.std.specs.Float.Ieee as Ieee
use Rattle.std.specs.Prelude.{Float, List, ℕ, get_or, replicate}
use Rattle.std.specs.Float.{binary64, nan}

-- numbers one behind the other: an array of f64
abbrev pub Vec : Type 0
Vec = List Float

infixl 65 ◌⊕◌
infixl 65 ◌⊖◌
infixl 70 ◌⊗◌
infixl 70 ◌⊘◌
-- x + y, rounded once
abbrev pub ◌⊕◌ : Float → Float → Float
◌⊕◌ x y = Ieee.add binary64 x y

-- x - y, rounded once
abbrev pub ◌⊖◌ : Float → Float → Float
◌⊖◌ x y = Ieee.sub binary64 x y

-- x * y, rounded once
abbrev pub ◌⊗◌ : Float → Float → Float
◌⊗◌ x y = Ieee.mul binary64 x y

-- x / y, rounded once
abbrev pub ◌⊘◌ : Float → Float → Float
◌⊘◌ x y = Ieee.div binary64 x y

-- +0.0
abbrev pub zero64 : Float
zero64 = Ieee.of_bits binary64 0

-- 1.0
abbrev pub one64 : Float
one64 = Ieee.of_bits binary64 0x3ff0_0000_0000_0000

-- 2.0
abbrev pub two64 : Float
two64 = Ieee.of_bits binary64 0x4000_0000_0000_0000

-- EPSILON, 2 ^ -52
abbrev pub epsilon : Float
epsilon = Ieee.of_bits binary64 0x3cb0_0000_0000_0000

-- element j
abbrev pub at : Vec → ℕ → Float
at d j = get_or d j nan

-- n times +0.0
abbrev pub zeros : ℕ → Vec
zeros n = replicate n zero64
