-- The value of a number times a power of two. Laws only.
use Rattle.std.specs.Prelude.{◌≡◌, refl, Bool, true, false, not, cond, ℕ, zero, suc, ◌+◌, ◌-◌, ◌*◌, ◌^◌, ◌≤◌, ◌<◌, T, ltb, leb, ℤ, pos, negsuc, ◌+ℤ◌, Float}
use Rattle.std.proofs.Common.{sym, ap, ◌∙◌, mul-one, one-mul, mul_assoc, zero-mul, arith, ltb→lt, nltb→le, leb→le, pow-add}
use Rattle.std.proofs.Math.Dec.{nleb→lt}
use Rattle.std.proofs.Math.IntN.{+ℤ_idr}
use Rattle.std.specs.Float.{nan, inf, fin}
use Rattle.std.specs.Float.Ieee.{up, down, minus}
use Rattle.svd_gain_theorems.specs.Scale.{moved, scale}

-- ---- 2 ^ (e + k) is 2 ^ e times 2 ^ k

pow_at : (a b c : ℕ) → a + b ≡ c → 2 ^ a * 2 ^ b ≡ 2 ^ c
pow_at a b c h = sym (pow-add 2 a b) ∙ ap (λ (x : ℕ). 2 ^ x) h

pub shift : (e : ℤ) (k : ℕ) → up (e +ℤ pos k) * down e ≡ up e * 2 ^ k * down (e +ℤ pos k)
shift (pos j) k = ap (λ (x : ℕ). x * 1) (pow-add 2 j k)
shift (negsuc j) k = go (ltb k (suc j)) (ltb→lt k (suc j)) (nltb→le k (suc j))
  where
    go : (b : Bool) → (T b → k < suc j) → (T (not b) → suc j ≤ k)
        → up (cond b (negsuc (suc j - suc k)) (pos (k - suc j))) * 2 ^ suc j ≡ 1 * 2 ^ k * down (cond b (negsuc (suc j - suc k)) (pos (k - suc j)))
    go true l g =
        let h : k < suc j = l tt in
        one-mul (2 ^ suc j) ∙ sym (ap (λ (x : ℕ). x * 2 ^ suc (suc j - suc k)) (one-mul (2 ^ k)) ∙ pow_at k (suc (suc j - suc k)) (suc j) (omega arith))
    go false l g =
        let h : suc j ≤ k = g tt in
        pow_at (k - suc j) (suc j) k (omega arith) ∙ sym (mul-one (1 * 2 ^ k) ∙ one-mul (2 ^ k))

pub moved_val : (k m : ℕ) (e : ℤ) → m * up (moved (pos k) m e) * down e ≡ m * up e * 2 ^ k * down (moved (pos k) m e)
moved_val k zero e = simp zero-mul
moved_val k (suc m) e =
    mul_assoc (suc m) (up (e +ℤ pos k)) (down e)
    ∙ ap (λ (x : ℕ). suc m * x) (shift e k)
    ∙ sym (mul_assoc (suc m) (up e * 2 ^ k) (down (e +ℤ pos k)))
    ∙ ap (λ (x : ℕ). x * down (e +ℤ pos k)) (sym (mul_assoc (suc m) (up e) (2 ^ k)))

pub moved_pos : (k : ℤ) (m : ℕ) (e : ℤ) → 0 < m → moved k m e ≡ e +ℤ k
moved_pos k zero e h = absurd (omega arith)
moved_pos k (suc m) e h = refl

pub moved_none : (m : ℕ) (e : ℤ) → moved (pos 0) m e ≡ e
moved_none zero e = refl
moved_none (suc m) e = +ℤ_idr e

pub scale_none : (x : Float) → scale (pos 0) x ≡ x
unfolding scale
scale_none nan = refl
scale_none (inf s) = refl
scale_none (fin s m e) = ap (fin s m) (moved_none m e)

-- ---- the exponent that `odd` writes

pub minus_shift : (a l t : ℕ) → minus (a + t) l ≡ minus a l +ℤ pos t
minus_shift a l t = go (leb l a) (leb→le l a) (nleb→lt l a) (leb l (a + t)) (leb→le l (a + t)) (nleb→lt l (a + t))
  where
    go : (b : Bool) → (T b → l ≤ a) → (T (not b) → a < l) → (c : Bool) → (T c → l ≤ a + t) → (T (not c) → a + t < l)
        → cond c (pos (a + t - l)) (negsuc (l - suc (a + t))) ≡ cond b (pos (a - l)) (negsuc (l - suc a)) +ℤ pos t
    go true p q true r s =
        let h : l ≤ a = p tt in
        ap pos (omega arith)
    go true p q false r s =
        let h : l ≤ a = p tt in
        let g : a + t < l = s tt in
        absurd (omega arith)
    go false p q c r s = below (ltb t (suc (l - suc a))) (ltb→lt t (suc (l - suc a))) (nltb→le t (suc (l - suc a))) c r s
      where
        below : (b : Bool) → (T b → t < suc (l - suc a)) → (T (not b) → suc (l - suc a) ≤ t) → (c : Bool) → (T c → l ≤ a + t) → (T (not c) → a + t < l)
            → cond c (pos (a + t - l)) (negsuc (l - suc (a + t))) ≡ cond b (negsuc (suc (l - suc a) - suc t)) (pos (t - suc (l - suc a)))
        below true x y true r s =
            let f : a < l = q tt in
            let g : l ≤ a + t = r tt in
            let h : t < suc (l - suc a) = x tt in
            absurd (omega arith)
        below true x y false r s =
            let f : a < l = q tt in
            ap negsuc (omega arith)
        below false x y true r s =
            let f : a < l = q tt in
            ap pos (omega arith)
        below false x y false r s =
            let f : a < l = q tt in
            let g : a + t < l = s tt in
            let h : suc (l - suc a) ≤ t = y tt in
            absurd (omega arith)
