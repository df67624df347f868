-- How many steps there are, and what that leaves of lengths. Laws only.
use Rattle.std.specs.Prelude.{◌≡◌, refl, Bool, true, false, cond, ℕ, ◌+◌, ◌*◌, ◌<◌, ◌≤◌, ltb}
use Rattle.std.proofs.Common.{mul-le-mul, arith, ltb-true}
use Rattle.answers.specs.Answers.{least}
use Rattle.lanczos.specs.FitsLaws.{Fit, Room}
use Rattle.lanczos.specs.Checks.{size}

pub record Sized (n s : ℕ) : Type 0 where
  pub most : s ≤ 256
  pub within : s ≤ n
  pub rows : s * n ≤ 65536
  pub two : 2 * s * s ≤ 131072
  pub one : s * s ≤ 2 * s * s

size-le : (n k : ℕ) → size n k ≤ n
unfolding size least
size-le n k = go (ltb (2 * k + 20) n) refl
  where
    go : (b : Bool) → ltb (2 * k + 20) n ≡ b → cond b (2 * k + 20) n ≤ n
    go true e = omega (arith, ltb-true (2 * k + 20) n e)
    go false e = omega arith

size_some : (n k : ℕ) → 0 < n → 0 < size n k
unfolding size least
size_some n k h = go (ltb (2 * k + 20) n)
  where
    go : (b : Bool) → 0 < cond b (2 * k + 20) n
    go true = omega arith
    go false = h

pub sized : (n k s : ℕ) → n ≤ 256 → s ≡ size n k → Sized n s
sized n k s h e =
    let w : s ≤ n = rw e (size-le n k) in
    let m : s ≤ 256 = omega arith in
    let d : 2 * s ≤ 512 = omega arith in
    let o : s ≤ 2 * s = omega arith in
    let u : s ≤ s = omega arith in
    record { most = m; within = w; rows = mul-le-mul m h; two = mul-le-mul d m; one = mul-le-mul o u }

pub some_steps : (n k s : ℕ) → 0 < n → s ≡ size n k → 0 < s
some_steps n k s h e = rw e (size_some n k h)

pub room_of_lem : (n k s len : ℕ) → Fit n k → s ≡ size n k → size n k * n + size n k * size n k ≤ len → Room n s len
room_of_lem n k s len f e l = record { steps = (sized n k s f.size e).most; size = f.size; room = rw e l }
