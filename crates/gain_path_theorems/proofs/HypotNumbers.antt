-- `hypot` of two numbers in two runs, as `Numbers` has them. It rests on what is asked of a `hypot`, `HypotFine`. Laws only.
use Rattle.std.specs.Prelude.{ℕ, Float}
use Rattle.hypot.specs.Edition.{pythag}
use Rattle.gain_path_theorems.specs.HypotFine.{HypotFine}
use Rattle.gain_path_theorems.specs.HypotScaled.{pythag_scaled, pythag_fits}
use Rattle.gain_path_theorems.specs.Numbers.{Number}

module _ (k : ℕ) (x y : Float) {x' y' : Float} where
  pub hypot_n : (edition : ℕ) → Number k x x' → Number k y y' → HypotFine edition x y → HypotFine edition x' y' → Number k (pythag edition x y) (pythag edition x' y')
  hypot_n edition p q H H' = record {
    is = pythag_scaled k edition x y p.is q.is p.first q.first p.second q.second H H';
    first = pythag_fits edition x y;
    second = pythag_fits edition x' y';
  }
