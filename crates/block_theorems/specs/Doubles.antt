-- Doubles in a block: what is written is read back as it was, and every pattern of a NaN as the NaN. Laws only.
use Rattle.std.specs.Prelude.{◌≡◌, Bool, true, cond, not, List, [], ◌∷◌, map, ℕ, zero, suc, ◌%◌, ◌^◌, ◌<◌, ltb, length, Float}
use Rattle.std.proofs.Math.Path.{refl}
use Rattle.std.proofs.Common.{sym, ap, ◌∙◌, subst, true≢false, not-suc-le-zero, arith, eq-eqb}
use Rattle.std.proofs.Math.Bool.{false}
use Rattle.std.proofs.Math.Dec.{T}
use Rattle.std.proofs.lemmas.List.{length-map}
use Rattle.std.specs.Float.{nan, inf, fin}
use Rattle.std.specs.Float.Ieee.{binary64, is_nan, fits, to_bits, of_bits}
use Rattle.std.specs.Float.Ieee.Bits.{of_bits-to_bits, to_bits-lt, to_bits-of_bits, nan_bits_is, nan_bits_above}
use Rattle.octets.specs.Bytes.{Bytes}
use Rattle.grid.specs.Real.{Vec}
use Rattle.answers.specs.Answers.{done}
use Rattle.octets.specs.Bits.{float, bits}
use Rattle.block_read.specs.Content.{Part, Words}
use Rattle.block_read.specs.Reading.{good, reading}
use Rattle.block_read.specs.Lookup.{copied}
use Rattle.block_theorems.specs.Sound.{Doubles, has_part, part_words}
use Rattle.block_theorems.specs.FoundLaws.{copied_is, taken}

-- ---- one double

nan_test : (w : ℕ) → ltb 0x7ff0_0000_0000_0000 (w % 2 ^ 63) ≡ is_nan (of_bits binary64 w)
nan_test w = sym (nan_bits_above binary64 w) ∙ nan_bits_is binary64 w

is_nan_lem : (x : Float) → is_nan x ≡ true → x ≡ nan
unfolding is_nan
is_nan_lem nan e = refl
is_nan_lem (inf s) e = absurd (true≢false (sym e))
is_nan_lem (fin s m x) e = absurd (true≢false (sym e))

pub float_bits : (x : Float) → T (fits binary64 x) → float (bits x) ≡ x
unfolding float bits
float_bits x h = go (is_nan x) refl
  where
    go : (b : Bool) → is_nan x ≡ b
        → cond (ltb 0x7ff0_0000_0000_0000 (cond b 0x7ff8_0000_0000_0000 (to_bits binary64 x) % 2 ^ 63)) nan (of_bits binary64 (cond b 0x7ff8_0000_0000_0000 (to_bits binary64 x))) ≡ x
    go true e = sym (is_nan_lem x e)
    go false e =
        let back : of_bits binary64 (to_bits binary64 x) ≡ x = of_bits-to_bits binary64 x h in
        let test : ltb 0x7ff0_0000_0000_0000 (to_bits binary64 x % 2 ^ 63) ≡ false = nan_test (to_bits binary64 x) ∙ ap is_nan back ∙ e in
        rw test back

-- a word that is no NaN's comes back as it was; a NaN's is read as the NaN
pub bits_float : (w : ℕ) → w < 2 ^ 64 → is_nan (float w) ≡ false → bits (float w) ≡ w
unfolding float bits
bits_float w h = go (ltb 0x7ff0_0000_0000_0000 (w % 2 ^ 63)) refl
  where
    go : (b : Bool) → ltb 0x7ff0_0000_0000_0000 (w % 2 ^ 63) ≡ b → is_nan (cond b nan (of_bits binary64 w)) ≡ false
        → cond (is_nan (cond b nan (of_bits binary64 w))) 0x7ff8_0000_0000_0000 (to_bits binary64 (cond b nan (of_bits binary64 w))) ≡ w
    go true e n = absurd (true≢false (sym nan_nan ∙ n))
      where
        nan_nan : is_nan nan ≡ true
        nan_nan = unfold is_nan in refl
    go false e n = rw n (to_bits-of_bits binary64 w h (subst (λ (t : Bool). T (not t)) (sym n) tt))

pub nan_read : (w : ℕ) → ltb 0x7ff0_0000_0000_0000 (w % 2 ^ 63) ≡ true → float w ≡ nan
unfolding float
nan_read w e = rw e

pub nan_written : bits nan ≡ 0x7ff8_0000_0000_0000
unfolding bits is_nan
nan_written = refl

bits_bound : (x : Float) → T (fits binary64 x) → bits x < 2 ^ 64
unfolding bits
bits_bound x h = go (is_nan x)
  where
    go : (b : Bool) → cond b 0x7ff8_0000_0000_0000 (to_bits binary64 x) < 2 ^ 64
    go true = omega arith
    go false = to_bits-lt binary64 x h

-- ---- the doubles of a part

tail : (x : Float) (xs : Vec) → Doubles (x ∷ xs) → Doubles xs
tail x xs h i l = h (suc i) (omega arith)

pub doubles_back : (xs : Vec) → Doubles xs → map float (map bits xs) ≡ xs
doubles_back [] h = refl
doubles_back (x ∷ xs) h = rw (float_bits x (h 0 (omega arith)), doubles_back xs (tail x xs h))

-- they are content: words of 64 bits
pub doubles_words : (xs : Vec) → Doubles xs → Words (map bits xs)
doubles_words [] h i l = absurd (not-suc-le-zero l)
doubles_words (x ∷ xs) h zero l = bits_bound x (h 0 (omega arith))
doubles_words (x ∷ xs) h (suc i) l = doubles_words xs (tail x xs h) i (omega arith)

-- a part that was written from doubles is copied out as they were; its block is taken, so the place is 0
pub doubles_copied : (t main : List ℕ) (r c : ℕ) (ps : List Part) (kind : ℕ) (xs out : Vec) → Bytes t → Bytes main → reading t ≡ good r c ps
    → has_part kind ps ≡ true → part_words kind ps ≡ map bits xs → Doubles xs → length out ≡ length xs → copied t main kind out ≡ (done 0, xs)
doubles_copied t main r c ps kind xs out g h e there are fit l =
    let k : length (map bits xs) ≡ length out = length-map xs bits ∙ sym l in
    copied_is t main kind out g h ∙ rw (taken t r c ps e, e, there, are, eq-eqb (length (map bits xs)) (length out) k, doubles_back xs fit)
