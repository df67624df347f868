-- An entry left of the diagonal is that of its mirror image, and what an entry that went through a local is.
use mathlib.Core.Path.{◌≡◌, ap, sym, ◌∙◌}
use mathlib.Core.Bool.{Bool}
use mathlib.Core.List.{List}
use Prim.Native.Nat.{ℕ, ◌<◌}
use mir.Syntax.{w64}
use mir.Val.{SFits}
use mir.Facts.{to_z-of_z}
use lib.IntN.{ℤ}
use lib.Ieee.{Float, binary64, of_int}
use Rattle.grid.specs.Real.{Vec}
use Rattle.grid.specs.Cell.{entry, put_entry}
use Rattle.answers.specs.Answers.{done}
use Rattle.covariance.specs.WholeNumbers.{held}
use Rattle.covariance.specs.Over53.{over}
use Rattle.covariance.specs.StoredEntries.{stored, Above}
use Rattle.covariance.specs.SwappedEntries.{whole_swap}

module _ (n N : ℕ) (samples : List ℤ) where
  -- the mirror image is the entry
  pub mirror : (x y : ℕ) (m : Vec) → y < x → Above n N samples x y m → (done 0, put_entry m n x y (entry m n y x)) ≡ stored n N samples x y m
  unfolding stored
  mirror x y m h a = rw (whole_swap samples N x y, a.small h, a.there h)

-- ---- an entry that went through a local

pub held_over : {z cell : ℤ} {b c : Bool} → SFits w64 z → z ≡ cell → b ≡ over (held z) → b ≡ c → over cell ≡ c
held_over s e g h = sym (g ∙ ap over (to_z-of_z {w = w64} s ∙ e)) ∙ h

pub held_float : {z cell : ℤ} {x : Float} → SFits w64 z → z ≡ cell → x ≡ of_int binary64 (held z) → x ≡ of_int binary64 cell
held_float s e g = g ∙ ap (of_int binary64) (to_z-of_z {w = w64} s ∙ e)
