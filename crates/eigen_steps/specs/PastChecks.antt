-- What the checks of a step and a finish leave. Laws only.
use Rattle.std.specs.Prelude.{◌≡◌, refl, Bool, true, false, cond, ◌&&◌, ℕ, ◌+◌, ◌*◌, length}
use Rattle.std.proofs.Common.{sym, ap, ◌∙◌, arith, eqb-true}
use Rattle.std.proofs.lemmas.Bool.{eqb-false}
use Rattle.grid.specs.Real.{Vec}
use Rattle.answers.specs.Answers.{done, refused, passed}
use Rattle.answers.specs.Checks.{lengths}
use Rattle.answers.specs.ChecksLaws.{lengths_right}
use Rattle.answers.specs.declared.Answer.{Answer}
use Rattle.eigen_tql2_pass.specs.declared.Run.{Run}
use Rattle.eigen_tql2_step.specs.Checks.{in_range, sound, checked}
use Rattle.eigen_tql2_step.specs.CheckLaws.{Past, range_past}

pub record Checked (n limit : ℕ) (r : Run) (work result : Vec) : Type 0 where
  pub works : length work ≡ n
  pub room : length result ≡ n + n * n
  pub past : Past n limit r

pub checked_past : (n limit edition : ℕ) (r : Run) (work result : Vec) (x : Answer) → x ≡ checked n limit edition r work result → x.answer ≡ 0 → Checked n limit r work result
unfolding checked
checked_past n limit edition r work result x e z = go (passed l) refl (in_range n limit edition r) refl (sym (ap (λ (y : Answer). y.answer) e) ∙ z)
  where
    l : Answer
    l = lengths (length work) n (length result) (n + n * n) 0 0

    go : (b : Bool) → passed l ≡ b → (c : Bool) → in_range n limit edition r ≡ c → (cond b (cond (c && sound n r work result) (done 0) (refused 13 0)) l).answer ≡ 0 → Checked n limit r work result
    go true p true t w =
        let q = lengths_right (length work) n (length result) (n + n * n) 0 0 (eqb-true l.answer 0 p) in
        record { works = q.0; room = q.1; past = range_past n limit edition r t }
    go true p false t w = absurd (omega arith)
    go false p c t w = absurd (eqb-false l.answer 0 p w)
