-- The definitions at the scope's example and at some texts that are none, computed.
use mathlib.Core.Path.{◌≡◌, refl}
use mathlib.Core.Bool.{Bool, true, false, ◌&&◌}
use mathlib.Core.List.{List, [] as []ᴸ, ◌∷◌ as ◌∷ᴸ◌}
use Prim.Native.Nat.{ℕ}
use Prim.Native.Char.{code}
use Prim.Native.String.{String, [], ◌∷◌}
use lib.Ieee.{Float, binary64, is_nan, of_bits, to_bits}
use Rattle.text.specs.Writing.{glyph, digits, places_from, places, number, joined, separator, group, lines, writing, bits_at, shown, answer_text, bad_text}
use Rattle.grid.specs.Loop.{every}
use Rattle.octets.specs.Bits.{bits}
use Rattle.text.specs.Reading.{Text, good, bad, value, number_of, number_at, head, group_at, horner, word_at, table, words_read, reading}

abbrev pub bytes : String → List ℕ
bytes [] = []ᴸ
bytes (c ∷ s) = code c ∷ᴸ bytes s

-- The scope's example and its answer
abbrev pub input : String
input = "2 60\n4000000000000000 0000000000000000\n0000000000000000 3ff0000000000000\n"

pub input_written : writing 2 60 (0x4000_0000_0000_0000 ∷ᴸ 0 ∷ᴸ 0 ∷ᴸ 0x3ff0_0000_0000_0000 ∷ᴸ []ᴸ) ≡ bytes input
unfolding writing lines joined group separator number places places_from digits glyph
input_written = refl

pub input_read : reading (bytes input) ≡ good 2 60 (0x4000_0000_0000_0000 ∷ᴸ 0 ∷ᴸ 0 ∷ᴸ 0x3ff0_0000_0000_0000 ∷ᴸ []ᴸ)
unfolding reading words_read head number_at number_of value every group_at separator word_at horner table
input_read = refl

abbrev pub one : Float
one = of_bits binary64 0x3ff0_0000_0000_0000

abbrev pub two : Float
two = of_bits binary64 0x4000_0000_0000_0000

abbrev pub zero : Float
zero = of_bits binary64 0

pub answer_written :
    answer_text 0 0 0 0 2 (one ∷ᴸ two ∷ᴸ zero ∷ᴸ one ∷ᴸ one ∷ᴸ zero ∷ᴸ []ᴸ)
    ≡ bytes "0 0 0 0\n3ff0000000000000 4000000000000000\n0000000000000000 3ff0000000000000\n3ff0000000000000 0000000000000000\n"
unfolding answer_text shown bits_at bits is_nan to_bits of_bits lines joined group separator number places places_from digits glyph
answer_written = refl

pub bad_written : bad_text ≡ bytes "bad text\n"
unfolding bad_text
bad_written = refl

-- texts that are none
abbrev pub none : Text → Bool
none (good n limit ws) = false
none bad = true

abbrev pub all_none : List String → Bool
all_none []ᴸ = true
all_none (t ∷ᴸ ts) = none (reading (bytes t)) && all_none ts

pub refused :
    all_none
    (""
    ∷ᴸ "0 60"
    ∷ᴸ "0 60\n\n"
    ∷ᴸ "00 60\n"
    ∷ᴸ "0 060\n"
    ∷ᴸ "0 1000\n"
    ∷ᴸ "0  60\n"
    ∷ᴸ "0 60\r\n"
    ∷ᴸ " 0 60\n"
    ∷ᴸ "33 60\n"
    ∷ᴸ "1 60\n"
    ∷ᴸ "1 60\n3FF0000000000000\n"
    ∷ᴸ "1 60\n3ff000000000000\n"
    ∷ᴸ "1 60\n3ff0000000000000"
    ∷ᴸ "1 60\n3ff0000000000000 \n"
    ∷ᴸ "1 60\n\n3ff0000000000000\n"
    ∷ᴸ "1 60\n3ff0000000000000\n\n"
    ∷ᴸ []ᴸ)
    ≡ true
unfolding reading words_read head number_at number_of value every group_at separator
refused = refl
