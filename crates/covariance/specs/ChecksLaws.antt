-- What the checks leave where they pass, and which numbers they refuse with. Laws only.
use Rattle.std.specs.Prelude.{◌≡◌, refl, Bool, true, false, cond, ◌||◌, ◌⊎◌, ℕ, ◌*◌, ◌≤◌, ltb}
use Rattle.std.proofs.Common.{ap, sym, ◌∙◌, inl, inr, arith, ltb-false, le-ltb}
use Rattle.answers.specs.Answers.{refused, done}
use Rattle.answers.specs.declared.Answer.{Answer}
use Rattle.answers.specs.Checks.{lengths}
use Rattle.answers.specs.ChecksLaws.{lengths_right, lengths_few}
use Rattle.covariance.specs.Covariance.{band_checks, cov_checks}

-- n bands of N samples may be
pub record Bands (n N : ℕ) : Type 0 where
  pub bands : n ≤ 256
  pub least : 1 ≤ N
  pub most : N ≤ 65536

module _ (n N : ℕ) where
  pub bands_pass : (x : Answer) → (band_checks n N x).answer ≡ 0 → Bands n N × (x.answer ≡ 0)
  bands_pass x = go (ltb 256 n) refl (ltb N 1) refl (ltb 65536 N) refl
    where
      go : (a : Bool) → ltb 256 n ≡ a → (b : Bool) → ltb N 1 ≡ b → (c : Bool) → ltb 65536 N ≡ c
          → (cond a (refused 1 0) (cond (b || c) (refused 25 0) x)).answer ≡ 0 → Bands n N × (x.answer ≡ 0)
      go true e b f c g h = absurd (omega arith)
      go false e true f c g h = absurd (omega arith)
      go false e false f true g h = absurd (omega arith)
      go false e false f false g h = (record { bands = ltb-false 256 n e; least = ltb-false N 1 f; most = ltb-false 65536 N g }, h)

  pub bands_numbers : (x : Answer) → x.answer ≤ 6 → ((band_checks n N x).answer ≤ 6) ⊎ ((band_checks n N x).answer ≡ 25)
  bands_numbers x l = go (ltb 256 n) (ltb N 1 || ltb 65536 N)
    where
      go : (a b : Bool) → ((cond a (refused 1 0) (cond b (refused 25 0) x)).answer ≤ 6) ⊎ ((cond a (refused 1 0) (cond b (refused 25 0) x)).answer ≡ 25)
      go true b = inl (omega arith)
      go false true = inr refl
      go false false = inl l

  -- r, what came of the sizes alone: a refusal whatever the rest is, or the rest decides
  module _ {r : Answer} (e : r ≡ band_checks n N (done 0)) where
    pub bands_refused : (x : Answer) → (r.answer ≡ 0 → ⊥) → r ≡ band_checks n N x
    bands_refused x h = e ∙ go (ltb 256 n) (ltb N 1 || ltb 65536 N) (λ z. h (ap (λ (a : Answer). a.answer) e ∙ z))
      where
        go : (a b : Bool) → ((cond a (refused 1 0) (cond b (refused 25 0) (done 0))).answer ≡ 0 → ⊥)
            → cond a (refused 1 0) (cond b (refused 25 0) (done 0)) ≡ cond a (refused 1 0) (cond b (refused 25 0) x)
        go true b z = refl
        go false true z = refl
        go false false z = absurd (z refl)

    pub bands_good : r.answer ≡ 0 → Bands n N
    bands_good h = (bands_pass (done 0) (ap (λ (a : Answer). a.answer) (sym e) ∙ h)).0

    pub bands_rest : (x : Answer) → r.answer ≡ 0 → x ≡ band_checks n N x
    bands_rest x h = let b = bands_good h in rw (le-ltb 256 n b.bands, le-ltb N 1 b.least, le-ltb 65536 N b.most)

-- the sizes are right
pub record Sizes (n N s m : ℕ) : Type 0 where
  pub bands : n ≤ 256
  pub least : 1 ≤ N
  pub most : N ≤ 65536
  pub planes : s ≡ n * N
  pub square : m ≡ n * n

module _ (n N s m : ℕ) where
  pub checked : (cov_checks n N s m).answer ≡ 0 → Sizes n N s m
  unfolding cov_checks
  checked h =
      let b = bands_pass n N (lengths s (n * N) m (n * n) 0 0) h in
      let w = lengths_right s (n * N) m (n * n) 0 0 b.1 in
      record { bands = b.0.bands; least = b.0.least; most = b.0.most; planes = w.0; square = w.1 }

  -- a check answers 0 to 6, or 25
  pub numbers : ((cov_checks n N s m).answer ≤ 6) ⊎ ((cov_checks n N s m).answer ≡ 25)
  unfolding cov_checks
  numbers = bands_numbers n N (lengths s (n * N) m (n * n) 0 0) (lengths_few s (n * N) m (n * n) 0 0)

  pub few : (cov_checks n N s m).answer ≡ 26 → ⊥
  few h = elim numbers [ inl l ↦ omega arith | inr e ↦ omega arith ]
