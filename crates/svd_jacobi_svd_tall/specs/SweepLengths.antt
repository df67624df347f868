-- A sweep keeps the length of the work array, which its functions ask for. Laws only.
use Rattle.std.specs.Prelude.{◌≡◌, Bool, true, false, cond, ℕ, ◌+◌, ◌*◌, ◌≤◌, ◌<◌, length}
use Rattle.std.proofs.Common.{mul_comm, arith}
use Rattle.std.proofs.Math.ListN.{length-set}
use Rattle.grid.specs.Loop.{upto}
use Rattle.grid.specs.LoopLaws.{upto_keeps}
use Rattle.grid.specs.Real.{Vec}
use Rattle.grid.specs.TableLaws.{row_end}
use Rattle.svd_jacobi_svd_tall.specs.declared.sweep.Rotation.{Rotation}
use Rattle.svd_jacobi_svd_tall.specs.Sweep.{u_at, v_at, gram, skipped, rotation_of, rotated, pair_done, pairs_of, sweep}
use Rattle.svd_jacobi_svd_tall.specs.SweepSteps.{rotate_step}

-- what every function on w asks
pub record Sized (rows cols : ℕ) (w : Vec) : Type 0 where
  pub tall : rows ≤ 256
  pub wide : cols ≤ 256
  pub whole : length w ≡ rows * cols + cols * cols + cols

-- column c of u stands within it, and column c of v
pub u_inside : (rows cols c : ℕ) (w : Vec) → c < cols → Sized rows cols w → u_at rows c + rows ≤ length w
u_inside rows cols c w h s = omega (arith, s.whole, row_end cols rows c h, mul_comm cols rows)

pub v_inside : (rows cols c : ℕ) (w : Vec) → c < cols → Sized rows cols w → v_at rows cols c + cols ≤ length w
v_inside rows cols c w h s = omega (arith, s.whole, row_end cols cols c h)

module _ (n : ℕ) where
  pub keeps : (f : ℕ → Vec → Vec) (a b : ℕ) (w : Vec) → ((i : ℕ) (x : Vec) → length x ≡ n → length (f i x) ≡ n) → length w ≡ n → length (upto f a b w) ≡ n
  keeps f a b w h = upto_keeps (λ x y. length x ≡ n) f f a b w w (λ i x y p q. h i x)

  keeps_flag : (f : ℕ → Bool × Vec → Bool × Vec) (a b : ℕ) (x : Bool × Vec)
      → ((i : ℕ) (x : Bool × Vec) → length x.1 ≡ n → length (f i x).1 ≡ n) → length x.1 ≡ n → length (upto f a b x).1 ≡ n
  keeps_flag f a b x h = upto_keeps (λ x y. length x.1 ≡ n) f f a b x x (λ i x y p q. h i x)

  rotated_length : (a b rows : ℕ) (rot : Rotation) (w : Vec) → length w ≡ n → length (rotated a b rows rot w) ≡ n
  unfolding rotated
  rotated_length a b rows rot w = keeps (rotate_step a b rot) 0 rows w (λ i x e. simp length-set e)

  pair_length : (rows cols p q : ℕ) (x : Bool × Vec) → length x.1 ≡ n → length (pair_done rows cols p q x).1 ≡ n
  unfolding pair_done
  pair_length rows cols p q x e = go (skipped (gram (u_at rows p) (u_at rows q) rows x.1))
    where
      rot : Rotation
      rot = rotation_of (gram (u_at rows p) (u_at rows q) rows x.1)

      go : (b : Bool)
          → length (cond b x (true, rotated (v_at rows cols p) (v_at rows cols q) cols rot (rotated (u_at rows p) (u_at rows q) rows rot x.1))).1 ≡ n
      go true = e
      go false = rotated_length (v_at rows cols p) (v_at rows cols q) cols rot _ (rotated_length (u_at rows p) (u_at rows q) rows rot x.1 e)

  pub sweep_length : (rows cols : ℕ) (w : Vec) → length w ≡ n → length (sweep rows cols w).1 ≡ n
  unfolding sweep pairs_of
  sweep_length rows cols w =
      keeps_flag (pairs_of rows cols) 0 cols (false, w) (λ p x. keeps_flag (pair_done rows cols p) (p + 1) cols x (λ q x. pair_length rows cols p q x))
