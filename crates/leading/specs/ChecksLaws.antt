-- What the checks of `leading` leave where they refuse nothing, and that they then pass. Laws only.
use Rattle.std.specs.Prelude.{◌≡◌, refl, Bool, true, false, cond, ℕ, ◌+◌, ◌*◌, ◌≤◌, ltb}
use Rattle.std.proofs.Common.{sym, ap, ◌∙◌, arith, le-ltb, ltb-false, eq-eqb}
use Rattle.answers.specs.Answers.{refused, done}
use Rattle.answers.specs.declared.Answer.{Answer}
use Rattle.answers.specs.Checks.{lengths}
use Rattle.answers.specs.ChecksLaws.{lengths_right}
use Rattle.leading.specs.Leading.{checks}

pub record Checked (n k v x : ℕ) : Type 0 where
  pub small : n ≤ 256
  pub fits : k ≤ n
  pub result : v ≡ n + n * n
  pub room : x ≡ k + k * n

pub checked : (n k v x : ℕ) {r : Answer} → r ≡ checks n k v x → r.answer ≡ 0 → Checked n k v x
unfolding checks
checked n k v x e h = go (ltb 256 n) refl (ltb n k) refl (ap (λ (a : Answer). a.answer) (sym e) ∙ h)
  where
    go : (p : Bool) → ltb 256 n ≡ p → (q : Bool) → ltb n k ≡ q
        → (cond p (refused 1 0) (cond q (refused 15 0) (lengths v (n + n * n) x (k + k * n) 0 0))).answer ≡ 0 → Checked n k v x
    go true e q f h = absurd (omega arith)
    go false e true f h = absurd (omega arith)
    go false e false f h =
        let l = lengths_right v (n + n * n) x (k + k * n) 0 0 h in
        record { small = ltb-false 256 n e; fits = ltb-false n k f; result = l.0; room = l.1 }

pub checks_pass : (n k v x : ℕ) → Checked n k v x → checks n k v x ≡ done 0
unfolding checks lengths
checks_pass n k v x c = rw (le-ltb 256 n c.small, le-ltb n k c.fits, eq-eqb v (n + n * n) c.result, eq-eqb x (k + k * n) c.room)
